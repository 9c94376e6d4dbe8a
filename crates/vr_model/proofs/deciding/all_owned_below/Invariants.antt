use Rattle.std.proofs.Common.{◌≡◌, ◌<◌, ℕ, true}
use Rattle.vr_history.specs.Step.{is_owned}
use Rattle.vr_model_state.specs.Seen.{seen}
use Rattle.vr_model.proofs.deciding.all_owned_below.Given as goal

-- the areas so far are owned
abbrev pub invariant-loop-lower : goal.invariant-loop-lower
invariant-loop-lower l = (lower : ℕ) → lower < l.lower → is_owned (seen l.state) lower ≡ true
