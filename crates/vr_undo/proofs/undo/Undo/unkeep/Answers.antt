use Rattle.std.proofs.Common.{List, ◌≡◌, subst, ap, ◌∙◌, false}
use Rattle.std.specs.List.{list_any, remove}
use Rattle.vr_undo.specs.Found.{IsLastAt}
use Rattle.vr_undo.specs.Records.{is_record_at, without_last_by}
use Rattle.vr_undo.specs.declared.record.KeptRecord.{KeptRecord}
use Rattle.vr_undo.proofs.Leaving.{none-removed, removed, taken-back}
use Rattle.vr_undo.proofs.undo.Undo.unkeep.Goals as goal

pub returns-in-Some-clause-without : goal.returns-in-Some-clause-without
returns-in-Some-clause-without c =
    let test : KeptRecord → _ = is_record_at c.args.unit c.args.part.0 c.args.place.now in
    c.drop_at.ensures.records
    ∙ ap (λ (records : List KeptRecord). remove records c.in-Some.at) c.self.view_is
    ∙ removed test c.args.self.now c.in-Some.at
    (subst (λ (records : List KeptRecord). IsLastAt test records c.in-Some.at)
    (c.deref.ensures.value ∙ c.self.view_is) c.in-Some.ensures)

pub returns-in-Some-clause-back : goal.returns-in-Some-clause-back
returns-in-Some-clause-back c = λ records last is passes.
    let test : KeptRecord → _ = is_record_at c.args.unit c.args.part.0 c.args.place.now in
    returns-in-Some-clause-without c ∙ ap (without_last_by test) is
    ∙ taken-back test records last passes

pub returns-in_default-clause-without : goal.returns-in_default-clause-without
returns-in_default-clause-without c =
    let test : KeptRecord → _ = is_record_at c.args.unit c.args.part.0 c.args.place.now in
    none-removed test c.args.self.now
    (subst (λ (records : List KeptRecord). list_any test records ≡ false)
    (c.deref.ensures.value ∙ c.self.view_is) c.in_default.ensures)
