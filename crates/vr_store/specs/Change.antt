-- What a change of a place makes of the state of the record file, and what is kept of the place
-- before it is made. The rules are this project's own.
use Rattle.std.specs.Prelude.{◌≡◌, ◌+◌, ◌&&◌, ◌∷◌, ◌++◌, ℕ, Bool, true, false, cond, not, List, []}
use Rattle.std.specs.Prelude.{All, IfSome, Option, option_map, ◌⊎◌, ◌≢◌}
use Rattle.vr_types.specs.Content.{Item, Standing, item_at}
use Rattle.std.specs.List.{Contains}
use Rattle.vr_types.specs.Blocks.{Forced}
use Rattle.vr_types.specs.Image.{Block, Image}
use Rattle.vr_types.specs.Seen.{Seen}
use Rattle.vr_types.specs.declared.geometry.Geometry.{Geometry}
use Rattle.vr_types.specs.declared.unit.PartNo.{PartNo}
use Rattle.vr_types.specs.declared.unit.Unit.{Unit as UnitOfRecovery}
use Rattle.vr_space.specs.Known.{Known}
use Rattle.vr_space.specs.Owners.{Owners}
use Rattle.vr_space.specs.Part.{CanSet, DueMore, DueMoreAt, Shape, part_no}
use Rattle.vr_log.specs.Live.{live_in, need_of}
use Rattle.vr_log.specs.LogNow.{LogNow, with_record as with_logged}
use Rattle.vr_log.specs.declared.record.LogRecord.{LogRecord}
use Rattle.vr_log.specs.declared.record.LogRecord.TheVariants as records
use Rattle.vr_history.specs.Effects.{image_kept, with_change}
use Rattle.vr_history.specs.State.{BeforeImage, Logged, State, is_kept, is_logged}
use Rattle.vr_undo.specs.Records.{before_of, befores_of, has_at, images_in, with_record}
use Rattle.vr_undo.specs.declared.before.Before.{Before}
use Rattle.vr_undo.specs.declared.record.KeptRecord.{KeptRecord}
use Rattle.vr_volume.specs.Committed.{IsCurrent}
use Rattle.vr_volume.specs.PutBack.{lengths_kept}
use Rattle.vr_volume.specs.Rests.{IsGivenFor, IsPartAtRest, IsVolumeAtRest}
use Rattle.vr_volume.specs.Steps.{Changing, IsChangeOf, IsFirstChange, IsKeptAgain, IsNextChange}
use Rattle.vr_volume.specs.Steps.{image_by}
use Rattle.vr_store.specs.Store.{IsStored, PartNow, StoreNow, part_among}
use Rattle.vr_store.specs.declared.prepared.Prepared.{Prepared}

-- The unit makes this the item of a place. It keeps what stood there where it keeps nothing yet,
-- and logs it where it has logged nothing yet.
pub record IsMadeOf (unit : UnitOfRecovery) (part : PartNo) (place : List ℕ) (new : Option Item)
    (need : ℕ) (old after : State) : Type 0 where
  pub contents : after.contents
      ≡ with_change (record { part = part.0; place = place; new = new }) old.contents
  pub befores : after.befores
      ≡ cond (is_kept old unit part.0 place) old.befores (old.befores
      ++ image_kept old unit (record { part = part.0; place = place; new = new }) ∷ [])
  pub logged : after.logged
      ≡ old.logged ++ cond (is_logged old unit part.0 place) []
      (record { unit = unit; part = part.0; place = place } ∷ [])
  pub used : after.used ≡ old.used + need
  pub numbers : after.numbers ≡ old.numbers

-- no other unit has logged the place
abbrev pub NoOtherLogged : UnitOfRecovery → PartNo → List ℕ → State → Type 0
NoOtherLogged unit part place state = All (λ (logged : Logged). logged.part ≡ part.0
    → logged.place ≡ place → logged.unit ≡ unit) state.logged

-- ---- what is kept

-- of the place of a before-image the unit has logged, or keeps, one
abbrev pub has_logged : UnitOfRecovery → Before → List KeptRecord → Bool
has_logged unit before old = has_at unit before.part.0 before.place (images_in old)

abbrev pub has_kept : UnitOfRecovery → Before → List KeptRecord → Bool
has_kept unit before old = has_at unit before.part.0 before.place (befores_of old)

-- what is kept with it
abbrev pub with_kept : UnitOfRecovery → Before → List KeptRecord → List KeptRecord
with_kept unit before old =
    with_record unit before (has_logged unit before old) (has_kept unit before old) old

-- what was prepared for a change: its record of the log, whether anything is new of what is kept,
-- and whether the log has the place
pub record IsPrepared (prepared : Prepared) (unit : UnitOfRecovery) (before : Before)
    (old : List KeptRecord) : Type 0 where
  pub rec : prepared.rec ≡ records.Before unit before.part before.place before.old
  pub first : prepared.first ≡ not (has_logged unit before old && has_kept unit before old)
  pub logged : prepared.logged ≡ has_logged unit before old

-- The store is the state's but for a before-image that is kept already of a change that isn't made.
pub record IsKeptFor (number : ℕ) (store : StoreNow) (unit : UnitOfRecovery) (before : Before)
    (state : State) (now : Seen) : Type 0 where
  pub old : List KeptRecord
  pub stored : IsStored number (record store { undo = old }) state now
  pub kept : store.undo ≡ with_kept unit before old

-- ---- how it is made

-- a record of the log that is a before-image
abbrev pub IsBefore : LogRecord → Type 0
IsBefore (records.Before unit part place old) = Unit {0}
IsBefore (records.End unit kind) = ⊥

-- The first change of a place is logged; any other is a further one, or one that is kept again.
abbrev pub IsStep : Bool → LogNow → Changing → State → State → Type 0
IsStep false log change old new = IsFirstChange log change old new
IsStep true log change old new = IsNextChange change old new ⊎ IsKeptAgain log change old new

-- the log with its record, where it is logged
abbrev pub log_with : Bool → LogNow → LogRecord → LogNow
log_with false log rec = with_logged log rec
log_with true log rec = log

-- what it takes of the log
abbrev pub need_with : Bool → LogNow → LogRecord → ℕ
need_with false log rec = need_of (live_in log.records) rec
need_with true log rec = 0

-- What has to hold before a change is made, by a state: the record that stands at the place is kept
-- already and was prepared, no other unit has logged the place, and the unit is its deck's current
-- one.
pub record IsReadyBy (number : ℕ) (store : StoreNow) (unit : UnitOfRecovery) (part : PartNo)
    (place : List ℕ) (prepared : Prepared) (was : Option (List ℕ)) (state : State)
    (now : Seen) : Type 0 where
  pub kept : IsKeptFor number store unit (before_of part place was) state now
  pub prepared_is : IsPrepared prepared unit (before_of part place was) kept.old
  pub stands : option_map Standing was ≡ item_at (state.contents part.0) place
  pub alone : NoOtherLogged unit part place state
  pub current : IsCurrent state.numbers unit
  pub not_catalog : part.0 ≢ 0

-- it is so by some state
pub record IsReady (store : StoreNow) (unit : UnitOfRecovery) (part : PartNo) (place : List ℕ)
    (prepared : Prepared) (now : Seen) : Type 0 where
  pub number : ℕ
  pub was : Option (List ℕ)
  pub state : State
  pub ready : IsReadyBy number store unit part place prepared was state now

-- the record may be set in the part of this number
abbrev pub IsSettable : StoreNow → Image → ℕ → List ℕ → Option (List ℕ) → Type 0
IsSettable store image number place item =
    IfSome (part_among store.parts number) (λ (part : PartNow). CanSet part.shape part.known image
    (lengths_kept (images_in store.undo) number) place item)

-- What a call that sets a record has to know: the volume and the part are at rest by the state, and
-- the change of the state is the one that was prepared, whose before-image is kept.
pub record IsToSet (geometry : Geometry) (number : ℕ) (owners : Owners) (log : LogNow)
    (images after : List BeforeImage) (old new : State) (change : Changing) (prepared : Prepared)
    (shape : Shape) (known : Known) (place : List ℕ) (found : Option (List ℕ))
    (now : Seen) : Type 0 where
  pub volume : IsVolumeAtRest geometry number owners log images old now
  pub part : IsPartAtRest geometry owners images old shape known now
  pub of : IsChangeOf geometry old change
  pub step : IsStep prepared.logged log change old new
  pub rec : prepared.rec ≡ records.Before change.unit change.part change.place change.old
  pub given : IsGivenFor old change shape place found
  pub kept : after ≡ cond prepared.logged images (images ++ image_by change ∷ [])

-- The blocks that a call put are in the list of changed blocks, or forced.
abbrev pub IsNoted : List ℕ → List ℕ → Image → (ℕ → Block → Type 0) → Type 0
IsNoted put listed blocks may =
    ((n : ℕ) → Contains put n → Contains listed n) ⊎ Forced put blocks may

-- A call that set a record in a part, and logged it or not, made `b` of `a`: the volume, the part
-- and each other part are at rest by the new state, and of what was due only the place is due to
-- what the call put, too.
pub record IsSetIn (geometry : Geometry) (number : ℕ) (owners : Owners) (log : LogNow)
    (images after : List BeforeImage) (old new : State) (shape : Shape) (known : Known)
    (place put : List ℕ) (a b : Seen) : Type 0 where
  pub volume : IsVolumeAtRest geometry number owners log after new b
  pub part : IsPartAtRest geometry owners after new shape known b
  pub others : (other : Shape) (known : Known) → (part_no other).0 ≢ (part_no shape).0
      → IsPartAtRest geometry owners images old other known a
      → IsPartAtRest geometry owners after new other known b
  pub others_due : (other : Shape) (known : Known) → (part_no other).0 ≢ (part_no shape).0
      → IsPartAtRest geometry owners images old other known a → DueMore other [] a b
  pub due : DueMoreAt shape place put a b
