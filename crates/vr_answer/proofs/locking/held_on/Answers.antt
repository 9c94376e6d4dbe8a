use Rattle.std.proofs.Common.{sym, ap, ◌∙◌}
use Rattle.std.specs.Option.{option_map}
use Rattle.vr_types.specs.Locks.{first_conflict}
use Rattle.vr_types.specs.declared.unit.Mode.{Mode}
use Rattle.vr_history.specs.Names.{mode_asked}
use Rattle.vr_locks.specs.Conflict.{holding}
use Rattle.vr_answer.proofs.HeldLemmas.{held_shown}
use Rattle.vr_answer.proofs.locking.held_on.Goals as goal

pub returns-in-Some : goal.returns-in-Some
returns-in-Some c =
    let case = c.args.case.now in
    held_shown case.locks.now case.unit (mode_asked case.request.now) c.args.name c.in-Some.holder
    c.in-Some.mode
    (sym c.in-Some.is ∙ c.test.ensures
    ∙ ap (λ (m : Mode). option_map holding (first_conflict case.locks.now case.unit m c.args.name))
    c.mode_asked.ensures)
