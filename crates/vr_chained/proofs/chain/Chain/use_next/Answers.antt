use Rattle.std.proofs.Common.{◌*◌, ◌<◌, length, subst, sym, arith}
use Rattle.vr_chained.specs.Chain.{ChainNow}
use Rattle.vr_chained.proofs.Counted.{intervals-below}
use Rattle.vr_chained.proofs.chain.Chain.use_next.Goals as goal

pub overflow_add-self : goal.overflow_add-self
overflow_add-self c =
    let unused : c.self.inside.used
    < length c.self.inside.areas.items * c.self.inside.layout.geometry.area =
    subst (λ (now : ChainNow). now.used < length now.areas * now.part.geometry.area)
    (sym c.self.view_is) c.requires in
    omega (
      arith,
      unused,
      intervals-below c.self.inside.layout c.self.inside.areas.items
          c.self.inside.used c.self.invariant.0,
    )
