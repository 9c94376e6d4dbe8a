-- What an event leaves of the steps that its request still waits for, and how the splits that it
-- enters follow the blocks. The rules are this project's own.
use Rattle.std.specs.Prelude.{◌≡◌, ◌<◌, ◌+◌, ◌==◌, ℕ, Bool, false, List, Some, None}
use Rattle.std.specs.Prelude.{IsSomeAnd, Option, filter, length}
use Rattle.vr_types.specs.declared.unit.Unit.{Unit as UnitOfRecovery}
use Rattle.vr_space.specs.Part.{Shape}
use Rattle.vr_space.specs.Part.Shape.{KeyedShape}
use Rattle.vr_space.specs.Part.Shape.{NumberedShape}
use Rattle.vr_history.specs.declared.entry.Entry.{Entry}
use Rattle.vr_history.specs.declared.entry.What.{What}
use Rattle.vr_history.specs.declared.entry.What.TheVariants.{Split}
use Rattle.vr_store.specs.Left.{left_for}
use Rattle.vr_store.specs.Parts.{OnlyMet}
use Rattle.vr_store.specs.Store.{PartNow, StoreNow, part_among, shape_among}
use Rattle.vr_event.specs.Volume.{VolumeNow}
use Rattle.vr_event.specs.declared.act.Act.{Act}
use Rattle.vr_event.specs.declared.act.Act.TheVariants.{Again, Done}

-- A request that is handed back waits for fewer steps than before. Of what other events do in
-- between this says nothing: a DEFINE, which lays a part, may add to them.
abbrev pub IsNearer : {B : Type 0} → Act → UnitOfRecovery → VolumeNow B → VolumeNow B → Type 0
IsNearer Done unit old new = Unit {0}
IsNearer (Again given) unit old new = left_for unit new.store < left_for unit old.store

-- how many of these entries say that an interval of the part was split
abbrev pub splits_it : ℕ → What → Bool
splits_it number (Split part) = part.0 == number
splits_it number other = false

abbrev pub splits_of : ℕ → List Entry → ℕ
splits_of number entries = length (filter (λ (entry : Entry). splits_it number entry.what) entries)

-- the intervals that the heads of a keyed part lead to, where there is such a part
abbrev pub intervals_by : Shape → ℕ → Option ℕ
intervals_by (KeyedShape part) used = Some used
intervals_by (NumberedShape part) used = None

-- a part is keyed
abbrev pub IsKeyed : Shape → Type 0
IsKeyed (KeyedShape part) = Unit {0}
IsKeyed (NumberedShape part) = ⊥

-- a keyed part of this number is laid
abbrev pub HasKeyed : List PartNow → ℕ → Type 0
HasKeyed parts number = IsSomeAnd (shape_among parts number) IsKeyed

-- Each keyed part that is laid before and after has as many intervals more as splits of it were
-- entered; and those that were entered are of such parts.
pub record CountsSplits (old new : StoreNow) (entries later : List Entry) : Type 0 where
  pub counts : (number : ℕ) (before after : PartNow)
      → part_among old.parts number ≡ Some before → part_among new.parts number ≡ Some after
      → (used : ℕ) → intervals_by before.shape before.known.used ≡ Some used
      → after.known.used + splits_of number entries ≡ used + splits_of number later
  pub keyed : (number : ℕ) → splits_of number entries < splits_of number later
      → HasKeyed old.parts number × HasKeyed new.parts number

-- Nothing is new but what a part met: each waits for as much as before, and uses as many intervals.
pub record MeetsOnly (old new : StoreNow) : Type 0 where
  pub number : ℕ
  pub parts : OnlyMet number old.parts new.parts
  pub rest : new ≡ record old { parts = new.parts }

-- So it is of an event in which the volume didn't stop.
abbrev pub EntersSplits : {B : Type 0} → VolumeNow B → VolumeNow B → Type 0
EntersSplits old new = new.file.stopped ≡ None
    → CountsSplits old.store new.store old.file.entries new.file.entries

-- An event of the utilities, or a step of one, that is to be asked again leaves each unit fewer
-- steps to wait for; and it enters its splits. One that is done may leave more: a part that is laid
-- then, and the areas of one that went, have stages of their own.
pub record LeavesLess {B : Type 0} (again : Type 0) (old new : VolumeNow B) : Type 0 where
  pub nearer : again → (unit : UnitOfRecovery) → left_for unit new.store < left_for unit old.store
  pub splits : EntersSplits old new
