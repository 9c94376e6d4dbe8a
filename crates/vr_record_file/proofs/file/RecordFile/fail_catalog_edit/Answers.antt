use Rattle.std.proofs.Common.{◌≡◌, ◌<◌, ℕ, ◌∙◌, ap, sym, subst}
use Rattle.vr_record_file.specs.CatalogEdit.{entries_of, failed_to_edit}
use Rattle.vr_record_file.specs.Now.{FileNow, IsStateOf, failed}
use Rattle.vr_record_file.proofs.CatalogEdits.{in_doubt_is}
use Rattle.vr_record_file.proofs.RecordsMade.{steps_keep}
use Rattle.vr_record_file.proofs.Stepping.{steps_room, two_left}
use Rattle.vr_record_file.proofs.file.RecordFile.fail_catalog_edit.Goals as goal

pub fail_write-requires-clause-room : goal.fail_write-requires-clause-room
fail_write-requires-clause-room c = subst (λ (n : ℕ). 1 < n)
    (sym (ap (λ (file : FileNow). file.room) c.enter_steps.ensures.leaves
    ∙ steps_room c.args.after c.args.line c.args.unit c.args.steps.items c.args.self.now))
    (two_left c.args.self.now.room (entries_of c.args.steps.items) c.requires.room)

pub fail_write-requires-clause-going : goal.fail_write-requires-clause-going
fail_write-requires-clause-going c =
    ap (λ (file : FileNow). file.stopped) c.enter_steps.ensures.leaves
    ∙ ap (λ (file : FileNow). file.stopped)
    (steps_keep c.args.after c.args.line c.args.unit c.args.steps.items c.args.self.now)
    ∙ c.requires.going

pub returns-clause-state : goal.returns-clause-state
returns-clause-state c = λ opening changes is may.
    let leaves : c.fail_write.new.self ≡ failed_to_edit c.args.after c.args.unit c.args.line
    c.args.steps.items c.args.commit c.args.catalog c.args.self.now =
    c.fail_write.ensures.leaves
    ∙ ap (λ (to : FileNow). failed 0 c.args.unit c.args.line c.args.commit to)
    c.enter_steps.ensures.leaves in
    subst (IsStateOf opening) (sym leaves) (in_doubt_is opening c.args.self.now c.args.after
    c.args.line c.args.unit c.args.steps.items changes c.args.commit
    c.args.catalog is may)
