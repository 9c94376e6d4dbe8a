-- What stays of a volume through any crash between two events: where no live unit of recovery changed
-- it, the item of each place, what was withdrawn too. The rules are this project's own.
use Rattle.std.specs.Prelude.{◌≡◌, ℕ, List, Some}
use Rattle.vr_types.specs.Content.{Ascends, Content, item_at}
use Rattle.vr_types.specs.Image.{Image}
use Rattle.vr_types.specs.declared.geometry.Geometry.{Geometry}
use Rattle.vr_space.specs.Part.{Shape}
use Rattle.vr_history.specs.State.{State}
use Rattle.vr_recover.specs.Recovered.{IsRecovered}
use Rattle.vr_volume.specs.Crashes.{IsUnlogged}
use Rattle.vr_volume.specs.Laid.{shape_by}

-- Whatever contents the image recovers to, as an opening hands them out, they have the item of the
-- state at each place of a part of its catalog that no live unit changed: the record that stands
-- there, or what was withdrawn, or none.
pub record KeepsItems (geometry : Geometry) (number : ℕ) (state : State) (image : Image) : Type 0
  where
    pub kept : (contents : ℕ → Content) → IsRecovered geometry number contents image
        → ((part : ℕ) → Ascends (contents part)) → (part : ℕ) (shape : Shape)
        → shape_by geometry (state.contents 0) part ≡ Some shape → (place : List ℕ)
        → IsUnlogged state part place
        → item_at (contents part) place ≡ item_at (state.contents part) place
