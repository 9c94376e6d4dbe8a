use Rattle.std.proofs.Common.{◌≡◌, take}
use Rattle.vr_model_state.proofs.content.copy_of_items.Given as goal

-- the copies so far are the items so far
abbrev pub invariant-loop-entry : goal.invariant-loop-entry
invariant-loop-entry l = l.copy.items ≡ take l.entry-index l.placed
