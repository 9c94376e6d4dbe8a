-- What each step shows the thread that makes it: of the step, the seat before, the number found,
-- and the seat after. They are this project's own.
use Rattle.std.specs.Prelude.{◌≡◌, ◌≢◌, ℕ, [], ◌∷◌, ◌++◌, Option, Some, None}
use Rattle.atomic_table.specs.Table.{Me, Step}
use Rattle.vr_frames.specs.declared.view.View.{View}
use Rattle.vr_frames.specs.Views.{times, without, view_with}

-- what a seat has: its view, and the slots that it took out, each with its value
abbrev pub SeatState : Type 0 → Type 0
SeatState B = Me (Option B) View

-- the seat's claim on the frame found it out
abbrev pub failing : View → ℕ → View
failing view frame = view_with view.size view.parts view.frames view.moving (frame ∷ view.failed)

-- the seat has this frame on its way, and no other
abbrev pub bringing : View → ℕ → View
bringing view frame = view_with view.size view.parts view.frames (frame ∷ []) view.failed

module _ {B : Type 0} where
  -- the seat has the frame's slot, with a whole buffer, and it did not hold the frame before
  abbrev pub Claims : (View → B → Type 0) → SeatState B → ℕ → SeatState B → Type 0
  Claims IsWhole old frame new =
      (buffer : B) × IsWhole old.0 buffer × (times frame old.0.frames ≡ 0)
      × (new ≡ (bringing old.0 frame, (frame, Some buffer) ∷ old.1))

  -- claim: a compare-exchange, which gets the frame only where it found its word at 0
  abbrev pub claimed :
      (View → B → Type 0) → Step (Option B) → SeatState B → ℕ → SeatState B → Type 0
  claimed IsWhole made old found new =
      (found ≡ 0 → Claims IsWhole old made.word new)
      × (found ≢ 0 → new ≡ (failing old.0 made.word, old.1))

  -- slot in, at the end of a take: the emptied slot is back, and the seat holds the frame
  abbrev pub brought : Step (Option B) → SeatState B → ℕ → SeatState B → Type 0
  brought made old found new =
      let view = old.0 in
      new ≡ (view_with view.size view.parts (view.frames ++ made.word ∷ []) [] view.failed, [])

  -- slot out, at the start of a give: the seat has the empty slot, and no longer holds the frame
  abbrev pub fetched : Step (Option B) → SeatState B → ℕ → SeatState B → Type 0
  fetched made old found new =
      let view = old.0 in
      let frames = without made.word view.frames in
      new ≡ (
        view_with view.size view.parts frames (made.word ∷ []) view.failed,
        (made.word, None) ∷ [],
      )

  -- release: a store, and the frame is home
  abbrev pub released : Step (Option B) → SeatState B → ℕ → SeatState B → Type 0
  released made old found new =
      let view = old.0 in
      new ≡ (view_with view.size view.parts view.frames [] view.failed, [])
