use Rattle.std.proofs.Common.{subst, sym}
use Rattle.vr_mount.specs.Numbers.{AreToldApart}
use Rattle.vr_mount.specs.declared.distinct.Which.TheVariants.{Area}
use Rattle.vr_mount.proofs.Laying.{apart_told, told_apart}
use Rattle.vr_mount.proofs.Parts.{parts_told}
use Rattle.vr_mount.proofs.areas.are_apart.Goals as goal

pub returns : goal.returns
returns c geometry = (
  λ yes. told_apart geometry c.args.catalog.now
      (subst (AreToldApart Area) c.as_slice.ensures (c.are_told_apart.ensures.0 yes)),
  λ apart. c.are_told_apart.ensures.1 (subst (AreToldApart Area) (sym c.as_slice.ensures)
      (apart_told geometry c.args.catalog.now (parts_told c.args.catalog.now c.requires) apart)),
)
