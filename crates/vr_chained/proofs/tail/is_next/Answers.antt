use Rattle.std.proofs.Common.{ap, ◌∙◌}
use Rattle.std.specs.Prelude.{bytes_eq}
use Rattle.std.proofs.Common.{ℕ}
use Rattle.vr_types.specs.Fields.{four}
use Rattle.vr_chained.proofs.NextAddress.{next-test}
use Rattle.vr_chained.proofs.tail.is_next.Goals as goal

pub returns : goal.returns
returns c =
    next-test c.args.place.now c.number_in.result c.address_of.result c.requires.place.bytes
    c.number_in.ensures c.address_of.type_inv
    ∙ ap (λ (address : ℕ). bytes_eq c.args.place.now (four address)) c.address_of.ensures
