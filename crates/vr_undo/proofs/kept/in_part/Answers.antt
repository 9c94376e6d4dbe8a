use Rattle.std.proofs.Common.{List, ℕ, ap, not, ◌∷◌, [], ◌∙◌}
use Rattle.std.specs.Ordering.{is_lt}
use Rattle.vr_types.specs.Content.{place_cmp}
use Rattle.vr_undo.specs.Order.{comes_before}
use Rattle.vr_undo.proofs.Ordered.{before-end}
use Rattle.vr_undo.proofs.kept.in_part.Goals as goal

pub returns-clause-all : goal.returns-clause-all
returns-clause-all c = λ number place there is allowed.
    c.between.ensures.all number there
    (ap (comes_before c.low_bound.result) is ∙ c.low_bound.ensures place ∙ ap not allowed)
    (ap (λ (key : List ℕ). is_lt (place_cmp key (c.args.part.0 ∷ 2 ∷ []))) is
    ∙ before-end c.args.part.0 place)
