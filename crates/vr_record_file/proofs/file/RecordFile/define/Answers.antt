use Rattle.std.proofs.Common.{◌≡◌, None, ◌∙◌, ap, sym, subst}
use Rattle.vr_types.specs.declared.reply.Reply.TheVariants.{Done}
use Rattle.vr_history.specs.declared.entry.What.TheVariants.{Asked}
use Rattle.vr_record_file.specs.Defining.{defined}
use Rattle.vr_record_file.specs.Now.{FileNow, IsStateOf, ended, with_event}
use Rattle.vr_record_file.proofs.Definitions.{defined_is}
use Rattle.vr_record_file.proofs.file.RecordFile.define.Goals as goal

pub returns-clause-state : goal.returns-clause-state
returns-clause-state c = λ opening bytes is may.
    let leaves : c.end_unit.new.self ≡ defined c.args.after c.args.unit c.args.line c.args.part
    c.args.area c.args.add c.args.place c.args.commit c.args.catalog c.args.self.now =
    c.end_unit.ensures.leaves
    ∙ ap (λ (to : FileNow). with_event 0 c.args.unit c.args.line (Asked
    c.args.commit (Done 0 None None)) (ended c.args.unit to)) c.enter_added.ensures.leaves in
    subst (IsStateOf opening) (sym leaves) (defined_is opening c.args.self.now c.args.after
    c.args.line c.args.unit c.args.part c.args.area c.args.add c.args.place bytes c.args.commit
    c.args.catalog is may c.requires.deck c.requires.number)
