use Rattle.std.proofs.Common.{sym, ◌∙◌}
use Rattle.vr_catalog.proofs.NameLemmas.{is_name-as_spelled}
use Rattle.vr_catalog.proofs.read.name_of.Goals as goal

pub returns-then-eq-clause-named : goal.returns-then-eq-clause-named
returns-then-eq-clause-named c =
    let name = c.in-Ok-dataset_name.ensures.name in
    is_name-as_spelled _ _ _ _ c.in-Ok.ensures.cases.0 name.0 name.1 c.as_slice.ensures.value
    ∙ sym c.if-eq.ensures

pub returns-else-eq-clause-misspelled : goal.returns-else-eq-clause-misspelled
returns-else-eq-clause-misspelled c misspelled =
    let name = c.in-Ok-dataset_name.ensures.name in
    is_name-as_spelled _ _ _ _ c.in-Ok.ensures.cases.0 name.0 name.1 c.as_slice.ensures.value
    ∙ sym c.if-eq.ensures
