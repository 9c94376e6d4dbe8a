-- The order of what is kept, by part and place: what a search by halves goes by. Where no record
-- stood comes before where one did. This is this project's own.
use Rattle.std.specs.Prelude.{◌≡◌, ◌<◌, ◌≤◌, ltb, ℕ, Bool, true, cond, List, [], ◌∷◌, length, All}
use Rattle.std.specs.Prelude.{Option, Some, None, is_some, slice_index_or}
use Rattle.std.specs.Ordering.{is_le, is_lt}
use Rattle.std.specs.Option.{option_or}
use Rattle.std.specs.List.{Contains}
use Rattle.std.specs.List.Sorted.{IsSortedBy}
use Rattle.vr_types.specs.Content.{place_cmp}
use Rattle.vr_undo.specs.declared.before.Before.{Before}
use Rattle.vr_undo.specs.declared.order.Bound.{Bound}
use Rattle.vr_undo.specs.declared.order.Key.{Key}
use Rattle.vr_undo.specs.declared.record.KeptRecord.{KeptRecord}
use Rattle.vr_undo.specs.Found.{no_record}
use Rattle.vr_undo.specs.Lengths.{AreShort}

-- ---- by what records are in order

-- whether a record stood
abbrev pub shelf_of : Option (List ℕ) → ℕ
shelf_of None = 0
shelf_of (Some bytes) = 1

abbrev pub key_of : Before → List ℕ
key_of before = before.part.0 ∷ shelf_of before.old ∷ before.place

abbrev pub key_by : Option Before → List ℕ
key_by None = 0 ∷ 0 ∷ []
key_by (Some before) = key_of before

abbrev pub key_in : KeptRecord → List ℕ
key_in kept = key_by (option_or kept.logged kept.kept)

abbrev pub key_at : List KeptRecord → ℕ → List ℕ
key_at records number = key_in (slice_index_or records number no_record)

abbrev pub listed : Key → List ℕ
listed key = key.part.0 ∷ key.shelf ∷ key.place.now

-- both before-images of a record are of one place
abbrev pub IsAlikeBy : Option Before → Option Before → Type 0
IsAlikeBy None kept = Unit {0}
IsAlikeBy (Some logged) None = Unit {0}
IsAlikeBy (Some logged) (Some kept) = key_of logged ≡ key_of kept

abbrev pub IsAlike : KeptRecord → Type 0
IsAlike kept = IsAlikeBy kept.logged kept.kept

abbrev pub AreAlike : List KeptRecord → Type 0
AreAlike records = All IsAlike records

-- it has a before-image
abbrev pub has_key : KeptRecord → Bool
has_key kept = is_some (option_or kept.logged kept.kept)

-- ---- the lists of their numbers

abbrev pub AreNumbers : List KeptRecord → List ℕ → Type 0
AreNumbers records numbers = All (λ number. number < length records) numbers

abbrev pub IsInOrder : List KeptRecord → List ℕ → Type 0
IsInOrder records order =
    IsSortedBy (λ one other. is_lt (place_cmp (key_at records one) (key_at records other))) order

-- the numbers of all that have a before-image, in order
pub record IsOrder (records : List KeptRecord) (order : List ℕ) : Type 0 where
  pub numbers : AreNumbers records order
  pub all : (number : ℕ) → number < length records
      → has_key (slice_index_or records number no_record) ≡ true → Contains order number
  pub sorted : IsInOrder records order

-- the numbers of all that units may put back, in the order in which they were kept
pub record IsLive (records : List KeptRecord) (live : List ℕ) : Type 0 where
  pub numbers : AreNumbers records live
  pub all : (number : ℕ) → number < length records
      → is_some (slice_index_or records number no_record).kept ≡ true → Contains live number
  pub sorted : IsSortedBy (λ one other. ltb one other) live

-- all that is known of what is kept, and of both lists, with room for the numbers of all records
pub record IsKept (records : List KeptRecord) (order live : List ℕ)
    (most most_live : ℕ) : Type 0 where
  pub short : AreShort records
  pub alike : AreAlike records
  pub ordered : IsOrder records order
  pub living : IsLive records live
  pub room : length records ≤ most
  pub live_room : length records ≤ most_live

-- there is room for the number of one more record
pub record HasRoom (records : List KeptRecord) (numbers : List ℕ) (room : ℕ) : Type 0 where
  pub more : length numbers < room
  pub all : length records < room

-- ---- a search

-- what the order has before a bound
abbrev pub comes_before : Bound → List ℕ → Bool
comes_before bound key = cond bound.past (is_le (place_cmp key (listed bound.key)))
    (is_lt (place_cmp key (listed bound.key)))
