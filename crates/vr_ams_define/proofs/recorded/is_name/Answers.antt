use Rattle.std.proofs.Common.{sym, ◌∙◌}
use Rattle.vr_catalog.proofs.NameLemmas.{is_name-as_spelled}
use Rattle.vr_ams_define.proofs.recorded.is_name.Goals as goal

pub returns-in-Ok-dataset_name : goal.returns-in-Ok-dataset_name
returns-in-Ok-dataset_name c =
    let name = c.in-Ok-dataset_name.ensures.name in
    c.eq.ensures
    ∙ sym (is_name-as_spelled _ _ _ _ c.in-Ok.ensures.cases.0 name.0 name.1
    c.as_slice.ensures.value)
