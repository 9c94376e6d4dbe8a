use Rattle.std.proofs.Common.{◌≡◌, ℕ}
use Rattle.std.specs.Prelude.{IsTrue}
use Rattle.std.specs.Option.{option_copied}
use Rattle.vr_types.specs.Blocks.{Keeps}
use Rattle.vr_history.specs.State.{State}
use Rattle.vr_event.specs.Reading.{HasVisited}
use Rattle.vr_store.specs.Store.{IsStored}
use Rattle.vr_event.proofs.HandedRecords.{IsHanded}
use Rattle.vr_event.proofs.handing.hand_records.Given as goal

-- the calls so far put nothing, and the walk handed over what is up to the last place
abbrev pub invariant-loop-turn : goal.invariant-loop-turn
invariant-loop-turn g l =
    let B = g.B.Blocks in
    let R = g.R.RecordVisitor in
    let first = B.seen l.fn.blocks in
    record {
      keeps : Keeps B.tells first (B.seen l.blocks);
      handed : IsTrue B.tells → (volume : ℕ) (state : State)
          → IsStored volume l.fn.store state first
          → IsHanded R.after R.done l._turn (option_copied l.from) l.last
          (state.contents l.part.0) l.fn.visitor l.visitor;
      visited : HasVisited R.after R.done l.fn.visitor l.visitor;
      faults : B.faults l.blocks ≡ B.faults l.fn.blocks;
      same : l.store ≡ l.fn.store;
    }
