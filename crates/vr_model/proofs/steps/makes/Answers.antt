use Rattle.std.proofs.Common.{◌≡◌, ◌∙◌, ap}
use Rattle.vr_types.specs.declared.unit.Mode.TheVariants.{Exclusive}
use Rattle.vr_history.specs.Case.{Case}
use Rattle.vr_history.specs.Change.{Change}
use Rattle.vr_history.specs.Effects as effects
use Rattle.vr_history.specs.LogSpace as space
use Rattle.vr_history.specs.Names as names
use Rattle.vr_history.specs.State.{State}
use Rattle.vr_history.specs.Step as steps
use Rattle.vr_model_state.specs.Seen.{case_in, seen}
use Rattle.vr_model.proofs.steps.makes.Goals as goal

-- the four steps after one another
in_turn : (case : Case) (change : Change) (state locked kept logged new : State)
    → locked ≡ effects.locks case.unit Exclusive (names.lock_names case case.request) state
    → kept ≡ effects.keeps_before case.unit change locked
    → logged ≡ effects.logs case.unit (space.new_loggings case) (space.log_need case) kept
    → new ≡ effects.changes change logged → new ≡ steps.makes case change state
in_turn case change state locked kept logged new locks keeps logs changes =
    changes ∙ ap (effects.changes change)
    (logs ∙ ap (effects.logs case.unit (space.new_loggings case) (space.log_need case))
    (keeps ∙ ap (effects.keeps_before case.unit change) locks))

pub returns : goal.returns
returns c =
    in_turn (case_in c.args.state.now c.args.unit c.args.request.now) c.args.change.now
    (seen c.args.now) _ _ _ _ c.in_ok-locked.ensures c.in_ok-kept.ensures c.in_ok-with_log.ensures
    c.in_ok-changes.ensures
