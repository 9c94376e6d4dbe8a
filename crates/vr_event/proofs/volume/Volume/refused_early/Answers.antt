use Rattle.std.proofs.Common.{ap, subst, sym, ◌∙◌}
use Rattle.std.specs.Option.{option_and_then}
use Rattle.vr_history.specs.Case.{Case}
use Rattle.vr_history.specs.Replies.{first_of}
use Rattle.vr_history.specs.State.{State}
use Rattle.vr_history.specs.Step.{case_of, stand_refused}
use Rattle.vr_answer.specs.Tried.{file_refusals}
use Rattle.vr_record_file.specs.Now.{state_now}
use Rattle.vr_event.specs.Volume.{IsHeld, VolumeNow}
use Rattle.vr_event.proofs.Known.{whole-is}
use Rattle.vr_event.proofs.Staying.{files-stay}
use Rattle.vr_event.proofs.volume.Volume.refused_early.Goals as goal

pub returns-clause-value : goal.returns-clause-value
returns-clause-value g c told opening held deck =
    let seen = g.B.Blocks.seen in
    let before : VolumeNow g.row.B.Denot = record {
      blocks = c.self.inside.blocks;
      number = c.self.inside.number;
      store = c.self.inside.store;
      file = c.self.inside.file;
    } in
    let file = c.self.inside.file in
    let state : State = state_now opening file in
    let then : IsHeld seen opening before =
    subst (IsHeld seen opening) (sym c.self.view_is) held in
    c.refused_by_file.ensures.value state (c.case.ensures.file opening then.file)
    ∙ ap (λ (w : Case). first_of (file_refusals w)) (whole-is c.case.result state file.geometry
    c.args.unit c.args.request.now c.case.ensures.geometry c.case.ensures.unit
    c.case.ensures.asked)
    ∙ ap (λ (v : VolumeNow g.row.B.Denot). first_of (file_refusals (case_of v.file.geometry
    (state_now opening v.file) c.args.unit c.args.request.now))) c.self.view_is

pub returns-clause-stays_any : goal.returns-clause-stays_any
returns-clause-stays_any g c told opening held deck =
    let file = c.args.self.now.file in
    ap (option_and_then (stand_refused c.args.request.now))
    (returns-clause-value g c told opening held deck)
    ∙ files-stay (case_of file.geometry (state_now opening file) c.args.unit c.args.request.now)
