use Rattle.std.proofs.Common.{sym, ◌∙◌}
use Rattle.std.specs.Option.{option_copied}
use Rattle.vr_answer.proofs.Outcomes.{ok_then}
use Rattle.vr_answer.proofs.PlaceLemmas.{names_are}
use Rattle.vr_answer.proofs.locking.lock_names.Goals as goal

pub returns-clause-value : goal.returns-clause-value
returns-clause-value c =
    ok_then c.names_here.result c.names_here.ensures.value
    (λ asked is state agrees at.
    is ∙ sym (names_are c.args.case.now state agrees (option_copied c.args.looked.place) at.place))
