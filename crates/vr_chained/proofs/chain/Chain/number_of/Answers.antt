use Rattle.std.proofs.Common.{◌*◌, ◌<◌, ℕ, subst, sym, ap, arith}
use Rattle.vr_space.specs.Numbered.{span_of}
use Rattle.vr_chained.specs.Chain.{ChainNow}
use Rattle.vr_chained.proofs.Counted.{number-fits}
use Rattle.vr_chained.proofs.chain.Chain.number_of.Goals as goal

pub overflow_add-result-2 : goal.overflow_add-result-2
overflow_add-result-2 c =
    let part = c.self.inside.layout in
    let used : c.args.interval < c.self.inside.used =
    subst (λ (now : ChainNow). c.args.interval < now.used) (sym c.self.view_is) c.requires.used in
    let there : c.args.at < span_of part =
    subst (λ (now : ChainNow). c.args.at < span_of now.part) (sym c.self.view_is)
    c.requires.there in
    omega (
      arith,
      c.start.ensures,
      ap (λ (n : ℕ). c.args.interval * n) c.span.ensures.count,
      number-fits part c.self.inside.areas.items c.self.inside.used c.args.interval c.args.at
          c.self.invariant.0 used there,
    )

pub overflow_add-result : goal.overflow_add-result
overflow_add-result c =
    omega (arith, overflow_add-result-2 c)
