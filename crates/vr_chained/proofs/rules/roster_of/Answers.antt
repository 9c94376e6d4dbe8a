use Rattle.std.proofs.Common.{ap, sym, ◌∙◌}
use Rattle.vr_seqset.specs.Roster.{Roster}
use Rattle.vr_space.specs.Rosters.{Numbered}
use Rattle.vr_chained.proofs.RosterRules.{view-is}
use Rattle.vr_chained.proofs.rules.roster_of.Goals as goal

pub returns-in-Some-clause-broken : goal.returns-in-Some-clause-broken
returns-in-Some-clause-broken c =
    let is = view-is c.args.layout.now c.args.top.now c.in-Ok.view c.layout.inside.geometry.area
    (ap (λ (l : Numbered). l.geometry.area) c.layout.view_is) c.in-Ok.ensures.found c.requires in
    c.in-Some.ensures c.args.top.now is.spells is.same

pub returns-in-None-clause-read : goal.returns-in-None-clause-read
returns-in-None-clause-read c =
    let is = view-is c.args.layout.now c.args.top.now c.in-Ok.view c.layout.inside.geometry.area
    (ap (λ (l : Numbered). l.geometry.area) c.layout.view_is) c.in-Ok.ensures.found c.requires in
    record {
      good = c.in-None.ensures c.args.top.now is.spells is.same;
      used_is = c.from.ensures ∙ c.used.ensures ∙ sym (ap (λ (r : Roster). r.used) is.same);
      next_is = c.next.ensures ∙ sym (ap (λ (r : Roster). r.next) is.same);
    }
