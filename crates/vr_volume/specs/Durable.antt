-- What an image of a volume at rest recovers to. The rules are this project's own.
use Rattle.std.specs.Prelude.{◌≡◌, ℕ, List}
use Rattle.vr_types.specs.Content.{Content, item_at}
use Rattle.vr_types.specs.Image.{Image}
use Rattle.vr_types.specs.declared.geometry.Geometry.{Geometry}
use Rattle.vr_history.specs.Committed.{kept_or}
use Rattle.vr_history.specs.State.{State}
use Rattle.vr_volume.specs.PutBack.{oldest, standing_of}
use Rattle.vr_volume.specs.Volume.{Recovers}

-- At each place there is the record that stands there in the state, or none; but where a unit keeps
-- a before-image, what stood there before the unit.
pub record RecoversState (geometry : Geometry) (number : ℕ) (state : State) (image : Image)
    : Type 0 where
  pub contents : ℕ → Content
  pub recovers : Recovers geometry number image contents
  pub items : (part : ℕ) (place : List ℕ) → item_at (contents part) place
      ≡ kept_or (oldest state.befores part place)
      (standing_of (item_at (state.contents part) place))
