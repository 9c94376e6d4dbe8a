-- When a change is answered that there is no space: the part of its file lacks room for the record, as
-- the event found it. The rules are this project's own.
use Rattle.std.specs.Prelude.{◌≡◌, ℕ, List, Some, length, map}
use Rattle.vr_types.specs.Seen.{Seen}
use Rattle.vr_types.specs.declared.geometry.Geometry.{Geometry}
use Rattle.vr_types.specs.declared.request.Request.{Request}
use Rattle.vr_types.specs.declared.unit.Unit.{Unit as UnitOfRecovery}
use Rattle.vr_space.specs.Known.{Known}
use Rattle.vr_space.specs.Part.{Knows, Shape, room_of}
use Rattle.vr_space.specs.declared.room.Room.TheVariants.{NoSpace}
use Rattle.vr_answer.specs.Here.{base_here}
use Rattle.vr_history.specs.Case.{new_record}
use Rattle.vr_history.specs.Change.{place_changed}
use Rattle.vr_history.specs.RefusedRoom.{free_areas}
use Rattle.vr_history.specs.State.{BeforeImage, State}
use Rattle.vr_history.specs.Step.{case_of}
use Rattle.vr_volume.specs.Committed.{logged_of}
use Rattle.vr_volume.specs.Laid.{shape_by}
use Rattle.vr_volume.specs.PutBack.{lengths_kept}

-- The part of the request's file, as the catalog of the state lays it, lacks room for the record that
-- the request gives the place that it changes: beside what stands in its blocks, what is kept for the
-- places that live units have logged, and the areas that the state leaves free. So it answers, with its
-- numbers.
pub record LacksArea (geometry : Geometry) (state : State) (unit : UnitOfRecovery) (now : Seen)
    (request : Request) (need free : ℕ) : Type 0 where
  pub place : List ℕ
  pub place_is : place_changed (case_of geometry state unit request) ≡ Some place
  pub shape : Shape
  pub laid : shape_by geometry (state.contents 0) (base_here request) ≡ Some shape
  pub known : Known
  pub knows : Knows shape known now
  pub images : List BeforeImage
  pub logged : map logged_of images ≡ state.logged
  pub bytes : List ℕ
  pub given : new_record request ≡ Some bytes
  pub lacks : room_of shape known now.cur (free_areas (case_of geometry state unit request))
      (lengths_kept images (base_here request)) place (length bytes) ≡ NoSpace need free
