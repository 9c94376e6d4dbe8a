use Rattle.std.proofs.Common.{◌≡◌, None, ◌∙◌, ap, sym, subst}
use Rattle.vr_types.specs.declared.reply.Reply.TheVariants.{Done}
use Rattle.vr_history.specs.declared.entry.What.TheVariants.{Asked}
use Rattle.vr_record_file.specs.Now.{FileNow, IsStateOf, ended, with_event}
use Rattle.vr_record_file.proofs.Ends.{ended_state}
use Rattle.vr_record_file.proofs.file.RecordFile.end_unit.Goals as goal

pub returns-clause-state : goal.returns-clause-state
returns-clause-state c = λ opening is may ends.
    let file : FileNow = c.args.self.now in
    let leaves : c.enter.new.self ≡ with_event c.args.after c.args.unit c.args.line (Asked
    c.args.request (Done 0 None None)) (ended c.args.unit file) = c.enter.ensures.leaves
    ∙ ap (λ (to : FileNow). with_event c.args.after c.args.unit c.args.line (Asked
    c.args.request (Done 0 None None)) to) c.end.ensures in
    subst (IsStateOf opening) (sym leaves) (ended_state opening file c.args.after c.args.line
    c.args.unit c.args.request ends is may c.requires.deck c.requires.number)
