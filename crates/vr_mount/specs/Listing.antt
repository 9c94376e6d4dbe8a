-- The records of a part, read one after the other. The rules are this project's own.
use Rattle.std.specs.Prelude.{◌≡◌, ◌≢◌, ◌<◌, ◌≤◌, ℕ, Bool, true, false, List, [], ◌∷◌, ◌++◌}
use Rattle.std.specs.Prelude.{Option, Some, None, Result, OnOk, IsErrOf, length}
use Rattle.std.specs.declared.cmp.Ordering.TheVariants.{Less}
use Rattle.vr_types.specs.Content.{Content, place_cmp}
use Rattle.vr_types.specs.Faults.{Faults}
use Rattle.vr_types.specs.Image.{Image}
use Rattle.vr_types.specs.declared.fault.DeviceFault.TheVariants as faults
use Rattle.vr_space.specs.Known.{Known}
use Rattle.vr_space.specs.Part.{AreMet, IsPlaceOf, Shape, StandsFor, record_read}
use Rattle.vr_space.specs.Room.{is_above}
use Rattle.vr_mount.specs.Records.{bytes_of}
use Rattle.vr_mount.specs.declared.no.ListNo.{ListNo}
use Rattle.vr_mount.specs.declared.no.ListNo.TheVariants.{Fault, Memory}

-- These are the bytes of the records of whatever the blocks of a part stand for.
abbrev pub AreRecords : Shape → Image → List (List ℕ) → Type 0
AreRecords shape image read = (content : Content) → StandsFor shape image content
    → bytes_of content ≡ read

-- every place of this length is one that a record of the part may have
abbrev pub AreAllPlaces : Shape → ℕ → Type 0
AreAllPlaces shape n = (place : List ℕ) → length place ≡ n → IsPlaceOf shape place

-- No split is under way, and the blocks of the image are as the part met them.
pub record KnowsImage (shape : Shape) (known : Known) (image : Image) : Type 0 where
  pub no_split : known.split ≡ None
  pub no_move : known.move ≡ None
  pub met : AreMet shape known image

-- ---- one after the other

-- The place is the least with a record past the last one, or the least of all.
pub record IsNextAfter (shape : Shape) (image : Image) (last : Option (List ℕ)) (place : List ℕ)
    : Type 0 where
  pub above : is_above last place ≡ true
  pub some : record_read shape image place ≢ None
  pub least : (other : List ℕ) → is_above last other ≡ true → place_cmp other place ≡ Less
      → record_read shape image other ≡ None

-- no place past the last one has a record
abbrev pub HasNoneAfter : Shape → Image → Option (List ℕ) → Type 0
HasNoneAfter shape image last = (place : List ℕ) → is_above last place ≡ true
    → record_read shape image place ≡ None

-- which place comes after the last one, if one does
abbrev pub FollowsLast : Shape → Image → Option (List ℕ) → Bool → List ℕ → Type 0
FollowsLast shape image last true place = IsNextAfter shape image last place
FollowsLast shape image last false place = HasNoneAfter shape image last

-- The record at the next place was read, and that place is now the last one.
pub record IsReadNext (shape : Shape) (image : Image) (old new : Option (List ℕ)) (bytes : List ℕ)
    : Type 0 where
  pub place : List ℕ
  pub next : IsNextAfter shape image old place
  pub last : new ≡ Some place
  pub item : record_read shape image place ≡ Some bytes

-- the next record, if there is one
abbrev pub ReadsNext : Shape → Image → Option (List ℕ) → Option (List ℕ) → Option (List ℕ)
    → Type 0
ReadsNext shape image old new None = HasNoneAfter shape image old
ReadsNext shape image old new (Some bytes) = IsReadNext shape image old new bytes

-- The next record was added to those that were read.
pub record IsAddedNext (shape : Shape) (image : Image) (old new : Option (List ℕ))
    (before after : List (List ℕ)) : Type 0 where
  pub bytes : List ℕ
  pub next : IsReadNext shape image old new bytes
  pub added : after ≡ before ++ bytes ∷ []

-- the same where there may be none
abbrev pub AddsNext : Shape → Image → Option (List ℕ) → Option (List ℕ) → List (List ℕ)
    → List (List ℕ) → Bool → Type 0
AddsNext shape image old new before after true = IsAddedNext shape image old new before after
AddsNext shape image old new before after false =
    HasNoneAfter shape image old × (after ≡ before)

-- ---- the answers

-- Neither count falls, each fault is one that its count rose for, and neither rose where there is
-- none.
pub record HasListCause {T : Type 0} (before now : Faults) (result : Result T ListNo) : Type 0
  where
    pub reads : before.reads ≤ now.reads
    pub writes : before.writes ≤ now.writes
    pub ok : OnOk result (now ≡ before)
    pub memory : IsErrOf result Memory → now ≡ before
    pub read : IsErrOf result (Fault faults.Read) → before.reads < now.reads
    pub write : IsErrOf result (Fault faults.Write) → before.writes < now.writes
