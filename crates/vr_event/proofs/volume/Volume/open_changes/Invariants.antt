use Rattle.std.proofs.Common.{◌≡◌, IsTrue, None, length, take}
use Rattle.std.specs.Prelude.{All}
use Rattle.vr_history.specs.State.{State}
use Rattle.vr_event.specs.EditSteps.{AreMetAt, HasMetOnly, HasOpened, HasOpenedHeld, HasRoomAfter}
use Rattle.vr_event.specs.EditSteps.{IsOpenAt}
use Rattle.vr_event.specs.Volume.{IsHeld}
use Rattle.vr_event.proofs.volume.Volume.open_changes.Given as goal

-- the places so far were met, are kept, and are open, and the catalog keeps what it meets of the rest
abbrev pub invariant-loop-change : goal.invariant-loop-change
invariant-loop-change g l =
    let B = g.B.Blocks in
    let so-far = take l.change-index l.changes in
    record {
      opened : HasOpened B.seen l.after l.unit l.line None l.fn.self l.self;
      only : HasMetOnly B.seen l.fn.self l.self;
      room : HasRoomAfter l.change-index (length l.changes) l.self.store.parts;
      met : AreMetAt l.self.store.parts so-far;
      still : IsTrue B.tells → (B.seen l.self.blocks).cur ≡ (B.seen l.fn.self.blocks).cur;
      opens : IsTrue B.tells → All (IsOpenAt l.self.store (B.seen l.self.blocks).cur) so-far;
      held : IsTrue B.tells → (opening : State) → IsHeld B.seen opening l.fn.self
          → HasOpenedHeld B.seen opening l.fn.self l.self;
      faults : B.faults l.self.blocks ≡ B.faults l.fn.self.blocks;
    }
