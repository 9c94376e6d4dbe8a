use Rattle.std.proofs.Common.{length, ap, arith}
use Rattle.std.proofs.lemmas.List.{length-map}
use Rattle.vr_device.specs.Past.{Past}
use Rattle.vr_device.proofs.past.Past.size.Goals as goal

pub returns-clause-count : goal.returns-clause-count
returns-clause-count c =
    omega (
      arith,
      c.self.invariant.count,
      length-map c.self.inside.start.items
          (λ block. block.items),
      ap (λ (p : Past). length p.start) c.self.view_is,
    )
