-- A volume as it is opened: its log has no record, no unit of recovery keeps anything, and whatever a
-- crash leaves of its parts has their items. The rules are this project's own.
use Rattle.std.specs.Prelude.{◌≡◌, ℕ, ◌+◌, List, [], ◌∷◌, All, Option, Some, None}
use Rattle.vr_types.specs.Content.{Ascends, Content, Item, item_at}
use Rattle.vr_types.specs.Seen.{Seen}
use Rattle.vr_types.specs.declared.geometry.Geometry.{Geometry}
use Rattle.vr_types.specs.declared.unit.PartNo.{PartNo}
use Rattle.vr_space.specs.Owners.{Owners}
use Rattle.vr_space.specs.Part.{HasKeptRoom, IsAtRest, IsOn, Knows, MayHold, OwnsClaimed, Shape}
use Rattle.vr_space.specs.Part.{part_no}
use Rattle.vr_log.specs.LogNow.{IsForced, LogNow}
use Rattle.vr_log.specs.Standing.{LogStands}
use Rattle.vr_history.specs.State.{Owned}
use Rattle.vr_volume.specs.CatalogRules.{IsCatalog}
use Rattle.vr_volume.specs.Laid.{shape_by}
use Rattle.vr_volume.specs.Safe.{IsSafe}
use Rattle.vr_store.specs.Store.{PartNow, StoreNow, shape_among}

-- the areas that parts have, the first of which has this number
abbrev pub owned_from : ℕ → List (Option PartNo) → List Owned
owned_from area [] = []
owned_from area (None ∷ owners) = owned_from (area + 1) owners
owned_from area (Some part ∷ owners) =
    record { area = area; part = part.0 } ∷ owned_from (area + 1) owners

abbrev pub owned_in : List (Option PartNo) → List Owned
owned_in owners = owned_from 0 owners

-- what a volume has in memory that was just opened
abbrev pub opened_store : LogNow → List PartNow → List (Option PartNo) → StoreNow
opened_store log parts space =
    record { log = log; undo = []; parts = parts; changed = []; space = space }

-- A part as it is opened: it is laid by the contents and at rest in blocks of its own, among them
-- those of the area that a split under way claimed, if one is; and whatever a crash leaves of it,
-- each place has the item of its content.
pub record IsPartOpened (geometry : Geometry) (owners : Owners) (contents : ℕ → Content)
    (now : Seen) (part : PartNow) : Type 0 where
  pub laid : shape_by geometry (contents 0) (part_no part.shape).0 ≡ Some part.shape
  pub on : IsOn part.shape now
  pub rests : IsAtRest part.shape owners now
  pub claimed : OwnsClaimed part.shape owners part.known
  pub room : HasKeptRoom part.shape [] now
  pub knows : Knows part.shape part.known now
  pub holds : (place : List ℕ) (found : Option Item) → MayHold part.shape now.may place found
      → found ≡ item_at (contents (part_no part.shape).0) place

-- The volume is safe with these contents committed, what was withdrawn too, and each part that they
-- lay is one of these, in the blocks that these owners give it.
pub record IsOpened (number : ℕ) (owners : Owners) (log : LogNow) (parts : List PartNow)
    (contents : ℕ → Content) (now : Seen) : Type 0 where
  pub safe : IsSafe log.geometry number owners log (λ records part. contents part) now
  pub stands : LogStands log now
  pub forced : IsForced log
  pub each : (part : ℕ) → Ascends (contents part)
  pub catalog : IsCatalog log.geometry (contents 0)
  pub others : (part : ℕ) → shape_by log.geometry (contents 0) part ≡ None
      → contents part ≡ []
  pub opened : All (IsPartOpened log.geometry owners contents now) parts
  pub whole : (part : ℕ) (shape : Shape)
      → shape_by log.geometry (contents 0) part ≡ Some shape
      → shape_among parts part ≡ Some shape
