use Rattle.std.proofs.Common.{◌∙◌}
use Rattle.std.specs.Option.{option_copied}
use Rattle.vr_answer.proofs.LogLemmas.{need_is}
use Rattle.vr_answer.proofs.logging.log_need.Goals as goal

pub returns : goal.returns
returns c = λ state is at logs lives.
    c.need_here.ensures
    ∙ need_is c.args.case.now state is (option_copied c.args.looked.present) c.args.logged
    c.args.live at.present logs lives
