use Rattle.std.proofs.Common.{◌≡◌, List, Some, ap, sym, ◌∙◌, subst}
use Rattle.vr_browse.specs.Positions.{SetsOnly}
use Rattle.vr_browse.specs.declared.positions.FilePosition.{FilePosition}
use Rattle.vr_types.specs.declared.request.FileRef.{FileRef}
use Rattle.vr_types.specs.declared.request.Request.{Request}
use Rattle.vr_history.specs.Case.{file_of}
use Rattle.vr_record_file.specs.Now.{FileNow, IsStateOf, locks_kept, mode_kept}
use Rattle.vr_record_file.proofs.Placed.{read_state}
use Rattle.vr_record_file.proofs.file.RecordFile.read.Goals as goal

-- the locks that were taken are of the request, and no file moved as they were
taken : (c : goal.After-enter) → c.lock_read.new.self ≡ record c.args.self.now {
  locks = locks_kept c.args.unit (mode_kept c.args.request) c.args.names.now
      c.args.self.now.locks;
}
taken c = c.in_ok-lock_read.ensures.taken
    ∙ ap (λ (r : Request). record c.args.self.now {
      locks = locks_kept c.args.unit (mode_kept r) c.args.names.now c.args.self.now.locks;
    }) c.get.ensures

-- the file alone was set
set : (c : goal.After-enter) (on : FileRef) → file_of c.args.request ≡ Some on
    → SetsOnly c.args.self.now.files c.place.new.self.files c.args.unit.deck on.slot
    (record { stand = c.args.stand; held = c.args.held })
set c on known =
    subst (λ (l : List FilePosition). SetsOnly l c.place.new.self.files c.args.unit.deck on.slot
    (record { stand = c.args.stand; held = c.args.held }))
    (ap (λ (f : FileNow). f.files) (taken c))
    (c.place.ensures.set on (ap file_of c.get-2.ensures ∙ known))

pub returns-clause-file : goal.returns-clause-file
returns-clause-file c = λ on known.
    subst (λ (l : List FilePosition). SetsOnly c.args.self.now.files l c.args.unit.deck on.slot
    (record { stand = c.args.stand; held = c.args.held }))
    (sym (ap (λ (f : FileNow). f.files) c.enter.ensures.leaves)) (set c on known)

pub returns-clause-state : goal.returns-clause-state
returns-clause-state c = λ opening on find place update integrity feedback shown bytes is may asks
    done at names stands held.
    let file : FileNow = c.args.self.now in
    subst (IsStateOf opening) (sym c.enter.ensures.leaves)
    (read_state opening file c.place.new.self c.args.after c.args.line c.args.unit c.args.request
    c.args.reply c.args.stand c.args.names.now c.args.held c.place.new.self.files
    c.place.new.self.files_room (c.place.ensures.same ∙ ap (λ (f : FileNow). record f {
      files = c.place.new.self.files;
      files_room = c.place.new.self.files_room;
    }) (taken c)) (set c) is may on find place update integrity feedback shown bytes asks done at
    names stands held)
