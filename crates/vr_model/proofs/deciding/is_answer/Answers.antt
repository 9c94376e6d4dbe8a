use Rattle.std.proofs.Common.{sym, ◌∙◌}
use Rattle.vr_model.proofs.deciding.is_answer.Goals as goal

pub returns : goal.returns
returns c = (
  λ yes. c.is_same-same.ensures.0 yes ∙ c.in_ok-wanted.ensures,
  λ is. c.is_same-same.ensures.1 (is ∙ sym c.in_ok-wanted.ensures),
)
