use Rattle.std.proofs.Common.{List, None, ap, sym, ◌∙◌, subst}
use Rattle.vr_browse.specs.Positions.{SetsOnly}
use Rattle.vr_browse.specs.declared.positions.FilePosition.{FilePosition}
use Rattle.vr_types.specs.declared.request.Request.{Request}
use Rattle.vr_history.specs.Case.{file_of}
use Rattle.vr_history.specs.Step.{stand_refused}
use Rattle.vr_record_file.specs.Now.{FileNow, IsStateOf, lets_go}
use Rattle.vr_record_file.proofs.Placed.{refused_state}
use Rattle.vr_record_file.proofs.file.RecordFile.refuse.Goals as goal

pub returns-clause-file : goal.returns-clause-file
returns-clause-file c = λ stand on moves known.
    subst (λ (l : List FilePosition). SetsOnly c.args.self.now.files l c.args.unit.deck on.slot
    (record { stand = stand; held = None }))
    (sym (ap (λ (f : FileNow). f.files) c.enter.ensures.leaves))
    (c.move_refused.ensures.moved stand on
    (ap (λ (r : Request). stand_refused r c.args.refusal) c.get.ensures ∙ moves)
    (ap file_of c.get.ensures ∙ known))

pub returns-clause-state : goal.returns-clause-state
returns-clause-state c = λ opening is may none.
    subst (IsStateOf opening) (sym c.enter.ensures.leaves)
    (refused_state opening c.args.self.now c.move_refused.new.self c.args.after c.args.line
    c.args.unit c.args.request c.args.refusal c.move_refused.new.self.files
    c.move_refused.new.self.files_room c.move_refused.ensures.same
    (λ still. c.move_refused.ensures.stays
    (ap (λ (r : Request). stand_refused r c.args.refusal) c.get.ensures ∙ still)
    ∙ ap (λ (r : Request). lets_go c.args.unit.deck r c.args.self.now) c.get.ensures)
    (λ stand on moves known. c.move_refused.ensures.moved stand on
    (ap (λ (r : Request). stand_refused r c.args.refusal) c.get.ensures ∙ moves)
    (ap file_of c.get.ensures ∙ known))
    (λ known. c.move_refused.ensures.none (ap file_of c.get.ensures ∙ known)) is may none)
