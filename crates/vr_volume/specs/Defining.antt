-- A part that is made anew, and its record in the catalog: what has to hold before the record is
-- added, by a unit of recovery that has logged nothing and ends with it, and what the state is then
-- (Access Method Services Commands, DEFINE CLUSTER, for what is there once the command is done; how
-- it gets there is this project's own).
use Rattle.std.specs.Prelude.{◌≡◌, ◌⊎◌, ◌+◌, ℕ, List, [], Option, Some, None}
use Rattle.std.specs.Prelude.{if◌then◌else◌, ◌==◌}
use Rattle.vr_types.specs.Content.{Content, Item, Standing, item_at}
use Rattle.vr_types.specs.Seen.{Seen}
use Rattle.vr_types.specs.declared.geometry.Geometry.{Geometry}
use Rattle.vr_types.specs.declared.unit.Unit.{Unit as UnitOfRecovery}
use Rattle.vr_space.specs.Known.{Known}
use Rattle.vr_space.specs.Owners.{Owners}
use Rattle.vr_space.specs.Part.{HasKeptRoom, IsAtRest, IsOn, IsPlaceOf, Knows, MayHold, OwnsClaimed}
use Rattle.vr_space.specs.Part.{Shape, item_of, part_no}
use Rattle.vr_log.specs.LogNow.{LogNow}
use Rattle.vr_history.specs.Effects.{used_after, with_change}
use Rattle.vr_history.specs.State.{State}
use Rattle.vr_volume.specs.CatalogRules.{IsCatalog}
use Rattle.vr_volume.specs.Committed.{IsCurrent}
use Rattle.vr_volume.specs.Crashes.{IsUnlogged}
use Rattle.vr_volume.specs.Laid.{catalog_shape, shape_by}
use Rattle.vr_volume.specs.Logged.{HasNoneOf}
use Rattle.vr_volume.specs.Volume.{IsInside}

-- ---- the blocks

-- The part is new: it is in order in blocks of its own, and no place of it has an item, whatever a
-- crash leaves.
pub record IsStarted (shape : Shape) (owners : Owners) (known : Known) (now : Seen) : Type 0 where
  pub on : IsOn shape now
  pub rests : IsAtRest shape owners now
  pub claimed : OwnsClaimed shape owners known
  pub room : HasKeptRoom shape [] now
  pub knows : Knows shape known now
  pub reads : (place : List ℕ) → item_of shape now.cur place ≡ None
  pub firm : (place : List ℕ) (found : Option Item) → MayHold shape now.may place found
      → found ≡ None

-- Blocks that were nobody's are this part's too.
pub record IsGivenTo (part : ℕ) (owners grown : Owners) : Type 0 where
  pub kept : (n p : ℕ) → owners n ≡ Some p → grown n ≡ Some p
  pub more : (n p : ℕ) → grown n ≡ Some p
      → (owners n ≡ Some p) ⊎ ((p ≡ part) × (owners n ≡ None))

-- ---- the state

-- the contents with this record in the catalog
abbrev pub with_entry : List ℕ → List ℕ → (ℕ → Content) → ℕ → Content
with_entry place bytes contents =
    with_change (record { part = 0; place = place; new = Some (Standing bytes) }) contents

-- The record may be added to the catalog by a unit that has logged nothing: no unit that is live
-- has logged its place, nothing is there, and the catalog lays one part more by it.
pub record CanDefine (geometry : Geometry) (log : LogNow) (unit : UnitOfRecovery) (shape : Shape)
    (place bytes : List ℕ) (old : State) : Type 0 where
  pub current : IsCurrent old.numbers unit
  pub idle : HasNoneOf unit log.records
  pub place_is : IsPlaceOf (catalog_shape geometry) place
  pub unlogged : IsUnlogged old 0 place
  pub absent : item_at (old.contents 0) place ≡ None
  pub catalog : IsCatalog geometry (with_entry place bytes old.contents 0)
  pub lays : (part : ℕ) → shape_by geometry (with_entry place bytes old.contents 0) part
      ≡ (if part == (part_no shape).0 then Some shape
      else shape_by geometry (old.contents 0) part)
  pub fresh : shape_by geometry (old.contents 0) (part_no shape).0 ≡ None
  pub inside : IsInside geometry shape

-- The record is there, and its unit has ended: nothing is kept of it, and where no unit is live the
-- log begins again.
pub record IsDefinedIn (unit : UnitOfRecovery) (place bytes : List ℕ) (need : ℕ) (old new : State)
    : Type 0 where
  pub contents : (part : ℕ) → new.contents part ≡ with_entry place bytes old.contents part
  pub befores : new.befores ≡ old.befores
  pub logged : new.logged ≡ old.logged
  pub used : new.used ≡ used_after new.logged (old.used + need)
  pub numbers : (deck : ℕ) → new.numbers deck
      ≡ (if deck == unit.deck then old.numbers deck + 1 else old.numbers deck)
