-- What an image recovers to that a crash leaves while units of recovery are under way: the records
-- of a state of the record file, with the before-images put back of the units that don't count yet.
-- A unit counts once its commit is in the log. What was withdrawn is no record; but at each place
-- that no unit has logged it stays withdrawn, since an address that was given is not to be given
-- again (DFSMS Using Data Sets, entry-sequenced data sets). The rules are this project's own.
use Rattle.std.specs.Prelude.{◌≡◌, ◌≢◌, ℕ, Bool, not, List, All, Some, None, filter}
use Rattle.std.specs.List.{list_any}
use Rattle.vr_types.specs.Content.{Content, Withdrawn, item_at}
use Rattle.vr_types.specs.Image.{Image}
use Rattle.vr_types.specs.Locks.{same_unit}
use Rattle.vr_types.specs.declared.geometry.Geometry.{Geometry}
use Rattle.vr_types.specs.declared.unit.Unit.{Unit as UnitOfRecovery}
use Rattle.vr_history.specs.State.{BeforeImage, Logged, State}
use Rattle.vr_log.specs.Content.{Content as LogContent}
use Rattle.vr_volume.specs.PutBack.{images_of, oldest, put_back, standing}
use Rattle.vr_volume.specs.Volume.{Recovers}

-- the unit is one of these
abbrev pub is_among : List UnitOfRecovery → UnitOfRecovery → Bool
is_among units unit = list_any (λ (one : UnitOfRecovery). same_unit one unit) units

-- the before-images of units that aren't among these
abbrev pub kept_but : List UnitOfRecovery → List BeforeImage → List BeforeImage
kept_but counted befores =
    filter (λ (image : BeforeImage). not (is_among counted image.unit)) befores

-- What is committed in a state, where these units count beside those that have ended: records
-- alone.
abbrev pub committed_with : List UnitOfRecovery → State → ℕ → Content
committed_with counted state part =
    put_back part (kept_but counted state.befores) (standing (state.contents part))

-- no unit that is live has logged the place
abbrev pub IsUnlogged : State → ℕ → List ℕ → Type 0
IsUnlogged state part place =
    All (λ (logged : Logged). logged.part ≡ part → logged.place ≢ place) state.logged

-- What was withdrawn at a place that no unit has logged is withdrawn there in these contents, too,
-- and the log has nothing to put back there.
abbrev pub KeepsWithdrawn : State → LogContent → (ℕ → Content) → Type 0
KeepsWithdrawn state log contents = (part : ℕ) (place : List ℕ) (n : ℕ)
    → IsUnlogged state part place → item_at (state.contents part) place ≡ Some (Withdrawn n)
    → (oldest (images_of log.records) part place ≡ None)
    × (item_at (contents part) place ≡ Some (Withdrawn n))

-- The image recovers to what is committed in the state, where these units count; and its blocks
-- keep what was withdrawn.
pub record RecoversTo (geometry : Geometry) (number : ℕ) (state : State)
    (counted : List UnitOfRecovery) (image : Image) : Type 0 where
  pub recovers : Recovers geometry number image (committed_with counted state)
  pub withdrawn : KeepsWithdrawn state recovers.log recovers.contents
