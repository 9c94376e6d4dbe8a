use Rattle.std.proofs.Common.{◌<◌, length, subst, sym}
use Rattle.vr_types.specs.Geometry.{area_count}
use Rattle.vr_attach.specs.Areas.{AreasNow}
use Rattle.vr_attach.proofs.AreaLists.{used-there}
use Rattle.vr_attach.proofs.areas.Areas.area_at.Goals as goal

pub returns-clause-there : goal.returns-clause-there
returns-clause-there c =
    subst (λ (now : AreasNow). c.index.result.now.area < area_count now.part.geometry)
    c.self.view_is
    (used-there c.self.inside.layout c.self.inside.entries.items c.self.inside.used c.args.i
    c.index.result.now c.self.invariant
    (subst (λ (now : AreasNow). c.args.i < length now.areas) (sym c.self.view_is) c.requires)
    c.index.ensures)
