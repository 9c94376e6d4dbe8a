use Rattle.std.proofs.Common.{◌≡◌, ℕ}
use Rattle.std.specs.Prelude.{IsTrue}
use Rattle.vr_types.specs.Blocks.{Keeps}
use Rattle.vr_history.specs.State.{State}
use Rattle.vr_event.specs.Counts.{IsWalked}
use Rattle.vr_store.specs.Store.{IsStored}
use Rattle.vr_event.proofs.records.count_records.Given as goal

-- the calls so far put nothing, and the walk came to the last place
abbrev pub invariant-loop-counted : goal.invariant-loop-counted
invariant-loop-counted g l =
    let B = g.B.Blocks in
    let first = B.seen l.fn.blocks in
    record {
      keeps : Keeps B.tells first (B.seen l.blocks);
      walked : IsTrue B.tells → (volume : ℕ) (state : State)
          → IsStored volume l.fn.store state first
          → IsWalked l.counted l.last (state.contents l.part.0);
      faults : B.faults l.blocks ≡ B.faults l.fn.blocks;
      same : l.store ≡ l.fn.store;
    }
