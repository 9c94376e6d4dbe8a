use Rattle.std.proofs.Common.{◌≡◌, ap, subst, sym}
use Rattle.vr_history.specs.Step.{case_of}
use Rattle.vr_record_file.specs.Now.{FileNow, state_now}
use Rattle.vr_event.specs.Cause.{IsEnteredFor}
use Rattle.vr_event.specs.Getting.{IsAsked, MayEnd}
use Rattle.vr_event.specs.Volume.{IsHeld, VolumeNow}
use Rattle.vr_event.specs.declared.getting.Outcome.TheVariants.{Pointed}
use Rattle.vr_event.proofs.Causes.{calm-unwritten, entered-with}
use Rattle.vr_event.proofs.Held.{held-pointed}
use Rattle.vr_event.proofs.volume.Volume.enter_point.Goals as goal

pub returns-clause-held : goal.returns-clause-held
returns-clause-held g c told opening held asked may =
    let seen = g.B.Blocks.seen in
    let before : VolumeNow g.row.B.Denot = record {
      blocks = c.self.inside.blocks;
      number = c.self.inside.number;
      store = c.self.inside.store;
      file = c.self.inside.file;
    } in
    let unit = c.args.unit in
    let request = c.args.request in
    let of-file : before.file ≡ c.args.self.now.file =
    ap (λ (v : VolumeNow g.row.B.Denot). v.file) c.self.view_is in
    held-pointed seen opening before c.point.new.self c.args.after unit c.args.line request
    c.args.reply c.args.at c.point.ensures.leaves (c.point.ensures.state opening)
    (subst (λ (f : FileNow). IsAsked opening f unit request) (sym of-file) asked)
    (subst (λ (f : FileNow). MayEnd (case_of f.geometry (state_now opening f) unit request)
    (Pointed c.args.reply c.args.at)) (sym of-file) may)
    (subst (IsHeld seen opening) (sym c.self.view_is) held)

pub returns-clause-replied : goal.returns-clause-replied
returns-clause-replied g c before now cause calm =
    subst (λ (v : VolumeNow g.row.B.Denot). IsEnteredFor before now c.args.after c.args.unit
    c.args.line c.args.request v.file c.point.new.self) c.self.view_is
    (entered-with c.args.reply c.point.ensures.leaves cause
    (calm-unwritten c.args.reply calm))
