use Rattle.std.proofs.Common.{◌∙◌, sym, ap, length, subst}
use Rattle.vr_ci.specs.Interval.{Interval}
use Rattle.vr_ci.specs.Reading.{CountFits}
use Rattle.vr_ci.proofs.ItemLemmas.{length-items_at}
use Rattle.vr_ci.proofs.view.CiView.count.Goals as goal

pub returns-clause-count : goal.returns-clause-count
returns-clause-count c = c.self.invariant.shown.count
    ∙ sym (length-items_at _ c.self.inside.bytes.now)
    ∙ ap (λ (v : Interval). length v.items) c.self.view_is

pub returns-clause-whole : goal.returns-clause-whole
returns-clause-whole c = subst (λ (v : Interval). CountFits v.shape c.self.inside.count)
    c.self.view_is c.self.invariant.count
