-- What goes from a store with a change of the catalog (DFSMS Access Method Services Commands, DELETE):
-- a part that is no longer laid, whose areas are free. That it goes with the event that changes the
-- catalog, and only while no unit is live, is this project's own rule.
use Rattle.std.specs.Prelude.{◌≡◌, ℕ, filter, if◌then◌else◌, not, List, [], None, Option, Some}
use Rattle.std.specs.Option.{option_map}
use Rattle.vr_types.specs.Space.{released}
use Rattle.vr_types.specs.declared.unit.PartNo.{PartNo}
use Rattle.vr_volume.specs.EntryChange.{is_gone}
use Rattle.vr_store.specs.Parts.{OnlyMet}
use Rattle.vr_store.specs.Store.{PartNow, StoreNow, has_number, shape_among}

-- ---- what goes

-- the number of the part that goes, where one does
abbrev pub number_gone : Option PartNo → Option ℕ
number_gone gone = option_map (λ (part : PartNo). part.0) gone

-- the parts without the one that goes
abbrev pub parts_left : Option PartNo → List PartNow → List PartNow
parts_left None parts = parts
parts_left (Some part) parts = filter (λ (one : PartNow). not (has_number part.0 one)) parts

-- the areas of the part that goes become free
abbrev pub areas_left : Option PartNo → List (Option PartNo) → List (Option PartNo)
areas_left None areas = areas
areas_left (Some part) areas = released part areas

-- ---- the parts

-- The part that goes is out. Of the others the catalog alone has something new: what it met.
pub record HasPartsLeft (gone : Option PartNo) (old new : List PartNow) : Type 0 where
  pub before : List PartNow
  pub met : OnlyMet 0 old before
  pub is : new ≡ parts_left gone before

-- the shapes of the parts: the one that goes has none
abbrev pub HasShapesLeft : Option PartNo → List PartNow → List PartNow → Type 0
HasShapesLeft gone old new = (number : ℕ) → shape_among new number
    ≡ (if is_gone (number_gone gone) number then None else shape_among old number)

-- ---- the store

-- The store without the part that goes, whose areas are free; nothing is kept of any unit.
abbrev pub store_left : Option PartNo → StoreNow → StoreNow
store_left gone store = record store {
  undo = [];
  parts = parts_left gone store.parts;
  space = areas_left gone store.space;
}
