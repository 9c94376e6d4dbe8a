use Rattle.std.proofs.Common.{◌≡◌, ◌<◌, ℕ, ap, sym, subst, ◌∙◌, true≢false}
use Rattle.std.specs.Prelude.{IfSome}
use Rattle.vr_types.specs.Geometry.{area_count}
use Rattle.vr_seqset.specs.Roster.{Roster}
use Rattle.vr_space.specs.Rosters.{Numbered}
use Rattle.vr_chained.proofs.RosterRules.{no-area, not-whole, other-part}
use Rattle.vr_chained.proofs.rules.view_rule.Goals as goal

pub returns-then-not-leads_there : goal.returns-then-not-leads_there
returns-then-not-leads_there c = λ top spells same.
    no-area c.args.layout.now top spells
    (λ there. true≢false (sym (c.leads_there.ensures.1
    (subst (λ (r : Roster). IfSome r.next (λ (next : ℕ).
    next < area_count c.args.layout.now.geometry)) same there)) ∙ c.if-not-leads_there.true))

pub returns-then-part-layout : goal.returns-then-part-layout
returns-then-part-layout c = λ top spells same.
    other-part c.args.layout.now top spells
    (subst (λ (r : Roster). IfSome r.next (λ (next : ℕ).
    next < area_count c.args.layout.now.geometry)) (sym same)
    (c.leads_there.ensures.0 c.if-not-leads_there.false))
    (λ is. c.if-part-layout.true
    (c.part.ensures ∙ ap (λ (r : Roster). r.part) (sym same) ∙ is
    ∙ sym (ap (λ (l : Numbered). l.part) c.layout.view_is)))

pub returns-then-not-leads_whole : goal.returns-then-not-leads_whole
returns-then-not-leads_whole c = λ top spells same.
    not-whole c.args.layout.now top
    (subst (λ (r : Roster). IfSome r.next (λ (next : ℕ).
    next < area_count c.args.layout.now.geometry)) (sym same)
    (c.leads_there.ensures.0 c.if-not-leads_there.false))
    (ap (λ (r : Roster). r.part) same ∙ sym c.part.ensures ∙ c.if-part-layout.false
    ∙ ap (λ (l : Numbered). l.part) c.layout.view_is)
    (λ whole. true≢false (sym (c.leads_whole.ensures.1
    (subst (λ (r : Roster). IfSome r.next (λ (next : ℕ).
    r.used ≡ c.args.layout.now.geometry.area)) same whole)) ∙ c.if-not-leads_whole.true))

pub returns : goal.returns
returns c = λ top spells same. record {
  leads = record {
    spells = spells;
    whole = subst (λ (r : Roster). IfSome r.next (λ (next : ℕ).
        r.used ≡ c.args.layout.now.geometry.area)) (sym same)
        (c.leads_whole.ensures.0 c.if-not-leads_whole.false);
  };
  number = ap (λ (r : Roster). r.part) same ∙ sym c.part.ensures ∙ c.if-part-layout.false
      ∙ ap (λ (l : Numbered). l.part) c.layout.view_is;
  there = subst (λ (r : Roster). IfSome r.next (λ (next : ℕ).
      next < area_count c.args.layout.now.geometry)) (sym same)
      (c.leads_there.ensures.0 c.if-not-leads_there.false);
}
