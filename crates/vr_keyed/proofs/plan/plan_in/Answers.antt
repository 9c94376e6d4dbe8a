use Rattle.std.proofs.Common.{List, ℕ, subst}
use Rattle.std.proofs.lemmas.Bool.{false≢true}
use Rattle.vr_space.specs.AreaCalls.{area_part}
use Rattle.vr_keyed.specs.Slots.{met_in}
use Rattle.vr_keyed.specs.Planned.{HasNoCut, IsCutAt}
use Rattle.vr_keyed.proofs.PlanLemmas.{some-cut, has-key, is-plan}
use Rattle.vr_keyed.proofs.plan.plan_in.Goals as goal

pub returns-in_default-clause-plan : goal.returns-in_default-clause-plan
returns-in_default-clause-plan g c image lacks target has =
    let part = c.args.layout.now in
    let kept = g.K.Kept.kept c.args.kept.now (area_part part) in
    some-cut part image kept (met_in c.args.slot.now) c.args.place.now c.args.longest lacks
    c.gather_met.new.weights.lengths
    (c.if-not-gather_met.ensures.gathered lacks.holds lacks.places lacks.key has)
    (subst (HasNoCut c.gather_met.new.weights.lengths) c.as_slice.ensures c.in_default.ensures)

pub returns-then-not-has_key_at-clause-plan : goal.returns-then-not-has_key_at-clause-plan
returns-then-not-has_key_at-clause-plan g c image lacks target has =
    let part = c.args.layout.now in
    let kept = g.K.Kept.kept c.args.kept.now (area_part part) in
    false≢true (c.if-not-has_key_at.ensures.all
    (has-key part image kept (met_in c.args.slot.now) c.args.place.now c.args.longest lacks
    c.gather_met.new.weights.lengths c.in-Some.number
    (c.if-not-gather_met.ensures.gathered lacks.holds lacks.places lacks.key has)
    c.in-Some.ensures.further))

pub returns-clause-plan : goal.returns-clause-plan
returns-clause-plan g c image lacks target has =
    let part = c.args.layout.now in
    let kept = g.K.Kept.kept c.args.kept.now (area_part part) in
    is-plan part image kept (met_in c.args.slot.now) c.args.place.now c.args.longest lacks
    c.gather_met.new.weights.lengths _
    (c.if-not-gather_met.ensures.gathered lacks.holds lacks.places lacks.key has) target
    (subst (λ (p : List ℕ). IsCutAt c.gather_met.new.weights.lengths p c.args.target.last
    c.in-Some.number) c.as_slice.ensures c.in-Some.ensures)
