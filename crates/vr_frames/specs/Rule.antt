-- Where each frame is. The rule holds between any two steps of any threads, and is this project's
-- own. Word k is 0 where frame k is home, and slot k is the place of its buffer. With one word
-- more a pool of no frames has a word too, which the split and the join of seats read.
use Rattle.std.specs.Prelude.{◌≡◌, ◌≢◌, ◌⊎◌, ℕ, ◌+◌, ◌<◌, ◌≤◌, List, length, sum_by, slice_index}
use Rattle.std.specs.Prelude.{slice_get, Option, Some, None, vec_len}
use Rattle.std.specs.Global.{Vec}
use mathlib.Core.Option.{some, none}
use lib.ListN.{get_elem?}
use Rattle.atomic_table.specs.Table.{State}
use Rattle.vr_frames.specs.declared.view.View.{View}
use Rattle.vr_frames.specs.Views.{times, nobody}

-- how often the frame stands in the views, as held, as on its way, and as tried for in vain
abbrev pub holders : List View → ℕ → ℕ
holders views frame = sum_by (λ view. times frame view.frames) views

abbrev pub movers : List View → ℕ → ℕ
movers views frame = sum_by (λ view. times frame view.moving) views

abbrev pub misses : List View → ℕ → ℕ
misses views frame = sum_by (λ view. times frame view.failed) views

-- a view with a part is of frames of this size, and one with none knows nothing
abbrev pub IsSound : ℕ → View → Type 0
IsSound size view = (view.parts ≢ 0 → view.size ≡ size) × (view.parts ≡ 0 → view ≡ nobody)

module _ {B : Type 0} where
  -- its buffer, which is whole, is in its slot, and it is in no view
  pub record IsHome (IsWhole : B → Type 0) (s : State (Option B) View) (frame : ℕ) : Type 0 where
    pub in_slot :
        (buffer : B) × (get_elem? s.homes frame ≡ some (some (Some buffer))) × IsWhole buffer
    pub in_no_view : (holders s.views frame ≡ 0) × (movers s.views frame ≡ 0)

  -- it is in exactly one view, and its slot is empty
  pub record IsHeld (s : State (Option B) View) (frame : ℕ) : Type 0 where
    pub empty_slot : get_elem? s.homes frame ≡ some (some None)
    pub in_one_view : (holders s.views frame ≡ 1) × (movers s.views frame ≡ 0)

  -- one seat, which has its slot, brings it out or back
  pub record IsOnItsWay (s : State (Option B) View) (frame : ℕ) : Type 0 where
    pub slot_out : get_elem? s.homes frame ≡ some none
    pub by_one_seat : (holders s.views frame ≡ 0) × (movers s.views frame ≡ 1)

  pub record IsKept (size : ℕ) (IsWhole : B → Type 0) (s : State (Option B) View) : Type 0 where
    pub one_word_more : length s.words ≡ length s.homes + 1
    pub home : (frame : ℕ) → frame < length s.homes → slice_index s.words frame ≡ 0
        → IsHome IsWhole s frame
    pub out : (frame : ℕ) → frame < length s.homes → slice_index s.words frame ≢ 0
        → IsHeld s frame ⊎ IsOnItsWay s frame
    -- no view holds, brings or has claimed a number that is not a frame's
    pub no_others : (frame : ℕ) → length s.homes ≤ frame
        → (holders s.views frame ≡ 0) × (movers s.views frame ≡ 0) × (misses s.views frame ≡ 0)
    pub all_parts : sum_by (λ view. view.parts) s.views ≡ 1024
    pub sound :
        (seat : ℕ) (view : View) → get_elem? s.views seat ≡ some view → IsSound size view

-- what is in the slot of a frame of this size
abbrev pub IsBuffer : ℕ → Vec ℕ → Type 0
IsBuffer size buffer = vec_len buffer ≡ size

-- the table of a pool, and its rule
abbrev pub PoolState : Type 0
PoolState = State (Option (Vec ℕ)) View

abbrev pub IsPoolState : ℕ → PoolState → Type 0
IsPoolState size = IsKept size (IsBuffer size)

-- in this state of the pool the seat of this number holds the frame
pub record HoldsIn (state : PoolState) (seat frame : ℕ) : Type 0 where
  pub view : View
  pub of_seat : slice_get state.views seat ≡ Some view
  pub holds : 0 < times frame view.frames
