use Rattle.std.proofs.Common.{List, ℕ, ◌∷◌, ap, sym, ◌∙◌}
use Rattle.vr_undo.specs.Order.{key_at}
use Rattle.vr_undo.proofs.Ordered.{at-bound}
use Rattle.vr_undo.proofs.order.at_place.Goals as goal

pub returns-clause-all : goal.returns-clause-all
returns-clause-all c = λ number there is.
    let here =
    at-bound (key_at c.args.records.now number)
    (c.args.part.0 ∷ c.args.shelf ∷ c.as_slice.result.now)
    (is ∙ sym (ap (λ (place : List ℕ). c.args.part.0 ∷ c.args.shelf ∷ place) c.as_slice.ensures)) in
    c.between.ensures.all number there here.0 here.1
