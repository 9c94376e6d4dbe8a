use Rattle.std.proofs.Common.{List, ℕ, Bool, ap, cond, filter, not, rules, sym, ◌==◌, ◌∙◌}
use Rattle.std.proofs.lemmas.Fn.{filter_same}
use Rattle.vr_undo.proofs.order.unlist.Goals as goal

pub returns-clause-rest : goal.returns-clause-rest
returns-clause-rest c =
    let order : List ℕ = c.args.order.now.items in
    filter_same _ (λ (other : ℕ). not (other == c.args.number)) _
    (λ other stays next called. search rules) _ _ c.retain.ensures.filtered
    ∙ sym (ap (λ (b : Bool). cond b order
    (filter (λ (other : ℕ). not (other == c.args.number)) order))
    (sym c.is_some.ensures ∙ c.if-is_some.false))
