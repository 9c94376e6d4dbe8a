use Rattle.std.proofs.Common.{◌≡◌, ◌∙◌, ap, subst, sym}
use Rattle.vr_space.specs.Rosters.{Numbered}
use Rattle.vr_chained.specs.Extended.{IsMadeRoster}
use Rattle.vr_chained.proofs.EmptyEnd.{made-roster}
use Rattle.vr_chained.proofs.extend.put_roster.Goals as goal

pub returns-clause-roster : goal.returns-clause-roster
returns-clause-roster g c =
    let inside = c.layout.inside in
    let part : Numbered = record {
      part = inside.part.0;
      first = inside.first;
      geometry = inside.geometry;
      most = inside.most;
      relative = inside.relative;
    } in
    let is : part ≡ c.args.chain.now.part = c.layout.view_is ∙ c.layout-layout.ensures in
    subst (λ (layout : Numbered).
    IsMadeRoster layout c.args.used c.args.next c.write_roster.new.out) is
    (made-roster part c.args.used c.args.next c.write_roster.new.out c.write_roster.ensures
    (c.write_roster.auto.out ∙ c.requires.out
    ∙ ap (λ (layout : Numbered). layout.geometry.size) (sym is)))
