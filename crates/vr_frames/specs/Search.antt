-- What the parts of a take do to the seat at the table. No public clause cites this module.
use Rattle.std.specs.Prelude.{◌≡◌, ℕ, ◌+◌, ◌<◌, ◌≤◌, [], ◌∷◌, ◌++◌, List, length, vec_len, Option}
use Rattle.std.specs.Prelude.{Some}
use mathlib.Core.Option.{some}
use lib.ListN.{get_elem?}
use Rattle.std.specs.Global.{Vec}
use Rattle.atomic_table.specs.declared.shared.Seat.{Seat}
use Rattle.vr_frames.specs.declared.view.View.{View}
use Rattle.vr_frames.specs.declared.shared.Pool.{Pool}
use Rattle.vr_frames.specs.Rule.{IsBuffer}
use Rattle.vr_frames.specs.Views.{times, tries, view_with}
use Rattle.vr_frames.specs.Frames.{id_of, frame_size, frame_count}

abbrev pub Place : Type 0
Place = Seat (Option (Vec ℕ)) View

-- it is the same seat of the same table
abbrev pub IsSamePlace : Place → Place → Type 0
IsSamePlace old new = (new.table_id ≡ old.table_id) × (new.id ≡ old.id)

-- the seat is of the pool, with a part, and brings no frame
pub record IsIdle (pool : Pool) (place : Place) : Type 0 where
  pub of_pool : place.table_id ≡ id_of pool
  pub sized : place.me.0.size ≡ frame_size pool
  pub no_slot : place.me.1 ≡ []
  pub no_frame : place.me.0.moving ≡ []
  pub has_part : 0 < place.me.0.parts

-- how many claims of the seat found the frame out
abbrev pub failed_at : Place → ℕ → ℕ
failed_at place number = times number place.me.0.failed

-- each frame from `first` up to `end` was claimed once, in vain, and no other was
abbrev pub Missed : Place → Place → ℕ → ℕ → Type 0
Missed old new first end =
    (number : ℕ) → failed_at new number ≡ failed_at old number + tries first end number

-- some frames were claimed in vain, each once at most
pub record MissedSome (old new : Place) : Type 0 where
  pub claims : (number : ℕ) → failed_at old number ≤ failed_at new number
  pub claims_once : (number : ℕ) → failed_at new number ≤ failed_at old number + 1

-- the frames from `first` up to `end` were claimed in vain, and that is all
pub record Tried (old new : Place) (first end : ℕ) : Type 0 where
  pub same_seat : IsSamePlace old new
  pub same_view : let view = old.me.0 in
      new.me
      ≡ (view_with view.size view.parts view.frames view.moving new.me.0.failed, old.me.1)
  pub missed : Missed old new first end

-- the seat has the frame's slot, with a buffer of this size, and brings the frame
pub record Brings (place : Place) (frame size : ℕ) : Type 0 where
  pub buffer : Vec ℕ
  pub whole : vec_len buffer ≡ size
  pub slot : place.me.1 ≡ (frame, Some buffer) ∷ []
  pub moving : place.me.0.moving ≡ frame ∷ []

-- the frame, which the seat did not hold, was claimed
pub record Won (old new : Place) (frame : ℕ) : Type 0 where
  pub same_seat : IsSamePlace old new
  pub same_view : let view = old.me.0 in
      new.me.0 ≡ view_with view.size view.parts view.frames (frame ∷ []) new.me.0.failed
  pub new_frame : times frame old.me.0.frames ≡ 0
  pub brings : Brings new frame old.me.0.size

-- what the second half of a take asks for
pub record Carries (pool : Pool) (place : Place) (frame : ℕ) : Type 0 where
  pub of_pool : place.table_id ≡ id_of pool
  pub sized : place.me.0.size ≡ frame_size pool
  pub has_part : 0 < place.me.0.parts
  pub inside : frame < frame_count pool
  pub brings : Brings place frame (frame_size pool)

-- the frame is now in the view, and the slot is back
pub record Brought (old new : Place) (frame : ℕ) : Type 0 where
  pub same_seat : IsSamePlace old new
  pub same_view : let view = old.me.0 in
      new.me ≡ (view_with view.size view.parts (view.frames ++ frame ∷ []) [] view.failed, [])

-- each slot has a buffer of this size
abbrev pub IsFullRow : ℕ → List (Option (Vec ℕ)) → Type 0
IsFullRow size slots = (k : ℕ) → k < length slots
    → (buffer : Vec ℕ) × (get_elem? slots k ≡ some (Some buffer)) × IsBuffer size buffer
