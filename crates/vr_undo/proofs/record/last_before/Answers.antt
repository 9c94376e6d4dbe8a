use Rattle.std.proofs.Common.{ap, get_or, ◌∙◌}
use Rattle.std.specs.Prelude.{option_map}
use Rattle.std.proofs.lemmas.List.{get_or_default}
use Rattle.vr_undo.specs.Found.{no_record}
use Rattle.vr_undo.specs.Records.{image_of}
use Rattle.vr_undo.specs.declared.record.KeptRecord.{KeptRecord}
use Rattle.vr_undo.proofs.Leaving.{last-kept, none-last}
use Rattle.vr_undo.proofs.record.last_before.Goals as goal

pub returns-in-Some : goal.returns-in-Some
returns-in-Some c =
    let records = c.args.records.now in
    let number = get_or c.args.live.now c.in-Some.at 0 in
    let is = c.in-Some.ensures.last in
    ap (option_map (image_of c.args.unit)) (c.as_ref.ensures.value
    ∙ ap (λ (kept : KeptRecord). kept.kept)
    (get_or_default records number c.index-records-live.result no_record is.in_range))
    ∙ last-kept c.args.unit records number is

pub returns-in-None : goal.returns-in-None
returns-in-None c = none-last c.args.unit c.args.records.now c.in-None.ensures
