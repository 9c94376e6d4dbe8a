use Rattle.std.proofs.Common.{◌≡◌, Some, ap, subst, sym, ◌∙◌}
use Rattle.vr_types.specs.declared.request.Request.{Request}
use Rattle.vr_history.specs.Step.{case_of}
use Rattle.vr_types.specs.declared.request.Request.TheVariants.{Get}
use Rattle.vr_answer.specs.Least.{found_at}
use Rattle.vr_record_file.specs.Now.{FileNow, IsStateOf, locks_kept, mode_kept, stand_done}
use Rattle.vr_record_file.specs.Now.{state_now}
use Rattle.vr_event.specs.Getting.{IsAsked, MayEnd}
use Rattle.vr_event.specs.declared.getting.Outcome.TheVariants.{Done}
use Rattle.vr_event.specs.Volume.{IsHeld, VolumeNow}
use Rattle.vr_event.proofs.Held.{held-read, ok-both}
use Rattle.vr_event.proofs.Causes.{entered-read}
use Rattle.vr_event.proofs.volume.Volume.try_read.Goals as goal

pub returns-clause-held : goal.returns-clause-held
returns-clause-held g c = ok-both c.read.result c.read.ensures.leaves c.read.ensures.state
    (λ leaves state told opening held asked may.
    let seen = g.B.Blocks.seen in
    let before : VolumeNow g.row.B.Denot = record {
      blocks = c.self.inside.blocks;
      number = c.self.inside.number;
      store = c.self.inside.store;
      file = c.self.inside.file;
    } in
    let file = c.self.inside.file in
    let unit = c.args.unit in
    let shared = c.in_ok-shared.shared in
    let reply = c.args.reply in
    let names = c.args.names.now in
    let holds = c.args.held in
    let same : shared ≡ c.args.request.now = c.in_ok-shared.ensures in
    let of-file : before.file ≡ c.args.self.now.file =
    ap (λ (v : VolumeNow g.row.B.Denot). v.file) c.self.view_is in
    let at = c.args.at.now in
    let stand = c.in_ok-stand.stand in
    held-read seen opening before c.read.new.self c.args.after unit c.args.line shared reply names at
    stand holds (locks_kept unit (mode_kept shared) names file.locks) c.read.new.self.files
    c.read.new.self.files_room leaves (state opening)
    (λ on find update integrity. subst (λ (r : Request).
    let case = case_of file.geometry (state_now opening file) unit r in
    IsStateOf opening file → r ≡ Get on find update integrity → found_at case ≡ Some at
    → stand ≡ stand_done case) (c.get.ensures ∙ sym same)
    (c.in_ok-stand.ensures.found opening on find update integrity))
    (subst (λ (r : Request). IsAsked opening file unit r) (sym same)
    (subst (λ (f : FileNow). IsAsked opening f unit c.args.request.now) (sym of-file) asked))
    (subst (λ (r : Request). MayEnd (case_of file.geometry (state_now opening file) unit r)
    (Done reply names at holds)) (sym same)
    (subst (λ (f : FileNow). MayEnd (case_of f.geometry (state_now opening f) unit
    c.args.request.now) (Done reply names at holds)) (sym of-file) may))
    (subst (IsHeld seen opening) (sym c.self.view_is) held))

pub returns-clause-replied : goal.returns-clause-replied
returns-clause-replied g c = ok-both c.read.result c.read.ensures.leaves c.read.ensures.leaves
    (λ leaves again before now cause calm. entered-read c.in_ok-shared.shared c.args.request.now
    c.args.reply c.self.inside.file c.args.self.now.file c.read.new.self
    (locks_kept c.args.unit (mode_kept c.in_ok-shared.shared) c.args.names.now
    c.self.inside.file.locks) c.in_ok-shared.ensures
    (ap (λ (v : VolumeNow g.row.B.Denot). v.file) c.self.view_is) leaves cause calm)
