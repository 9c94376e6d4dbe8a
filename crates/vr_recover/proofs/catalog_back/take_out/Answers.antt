use Rattle.std.proofs.Common.{◌∙◌, ap, bytes_eq, rules}
use Rattle.std.specs.Prelude.{not}
use Rattle.std.proofs.lemmas.Fn.{filter_same}
use Rattle.vr_recover.specs.Images.{name_in, named}
use Rattle.vr_recover.proofs.CatalogBack.{taken-out}
use Rattle.vr_recover.proofs.catalog_back.take_out.Goals as goal

pub returns : goal.returns
returns c =
    ap named (filter_same _ (λ bytes. not (bytes_eq c.args.place.now (name_in bytes))) _
    (λ bytes kept next_test called. search rules) _ _ c.retain.ensures.filtered)
    ∙ taken-out c.args.place.now c.args.records.now.items
