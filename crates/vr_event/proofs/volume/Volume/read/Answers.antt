use Rattle.std.proofs.Common.{◌≡◌, [], subst, sym}
use Rattle.vr_types.specs.declared.request.Request.{Request}
use Rattle.vr_types.specs.Moments.{Guards}
use Rattle.vr_history.specs.Step.{case_of}
use Rattle.vr_record_file.specs.Now.{FileNow, state_now}
use Rattle.vr_volume.specs.Crashes.{RecoversTo}
use Rattle.vr_event.specs.Getting.{IsAsked, MayEnd}
use Rattle.vr_event.proofs.Acts.{acted-got}
use Rattle.vr_event.proofs.Recovers.{recovers-keeps}
use Rattle.vr_event.specs.Cause.{HasGetCause}
use Rattle.vr_event.proofs.volume.Volume.read.Goals as goal

pub returns-clause-held : goal.returns-clause-held
returns-clause-held g c told opening held asked =
    let unit = c.args.unit in
    let request = c.args.request in
    let outcome = c.decide_read-outcome.result in
    let of-request : c.get.result.now ≡ request = c.get.ensures in
    let of-file = sym c.decide_read-outcome.ensures.file in
    let ends = c.decide_read-outcome.ensures.ends told opening held
    (subst (IsAsked opening c.args.self.now.file unit) (sym of-request) asked) in
    c.enter_outcome.ensures.held told opening (c.decide_read-outcome.ensures.held told opening held)
    (subst (λ (f : FileNow). IsAsked opening f unit request) of-file asked)
    (subst (λ (f : FileNow). MayEnd (case_of f.geometry (state_now opening f) unit request)
    outcome) of-file (subst (λ (r : Request). MayEnd (case_of c.args.self.now.file.geometry
    (state_now opening c.args.self.now.file) unit r) outcome) of-request ends))

pub returns-clause-moments : goal.returns-clause-moments
returns-clause-moments g c told opening held =
    let seen = g.B.Blocks.seen in
    let old = c.args.self.now in
    let state = state_now opening old.file in
    subst (λ (b : g.row.B.Denot). Guards (seen old.blocks) (seen b)
    (RecoversTo old.store.log.geometry old.number state []))
    (sym c.enter_outcome.ensures.blocks)
    (recovers-keeps old.number old.store state (seen old.blocks)
    (seen c.decide_read-outcome.new.self.blocks) (held.stored c.requires.going) g.B.Blocks.tells told
    c.decide_read-outcome.ensures.keeps)

pub returns-clause-acted : goal.returns-clause-acted
returns-clause-acted g c =
    let faults = g.B.Blocks.faults in
    let old = c.args.self.now in
    let looked = c.decide_read-outcome.new.self in
    acted-got
    (subst (λ (b : g.row.B.Denot). HasGetCause (faults old.blocks) (faults b) c.args.after c.args.unit
    c.args.line c.args.request old.file c.enter_outcome.new.self.file) (sym c.enter_outcome.ensures.blocks)
    (subst (λ (f : FileNow). HasGetCause (faults old.blocks) (faults looked.blocks) c.args.after
    c.args.unit c.args.line c.args.request f c.enter_outcome.new.self.file)
    c.decide_read-outcome.ensures.file
    (c.enter_outcome.ensures.cause (faults old.blocks) (faults looked.blocks)
    c.decide_read-outcome.ensures.cause)))

pub returns-clause-cause : goal.returns-clause-cause
returns-clause-cause g c =
    let faults = g.B.Blocks.faults in
    let old = c.args.self.now in
    let looked = c.decide_read-outcome.new.self in
    subst (λ (b : g.row.B.Denot). HasGetCause (faults old.blocks) (faults b) c.args.after c.args.unit
    c.args.line c.args.request old.file c.enter_outcome.new.self.file) (sym c.enter_outcome.ensures.blocks)
    (subst (λ (f : FileNow). HasGetCause (faults old.blocks) (faults looked.blocks) c.args.after
    c.args.unit c.args.line c.args.request f c.enter_outcome.new.self.file)
    c.decide_read-outcome.ensures.file
    (c.enter_outcome.ensures.cause (faults old.blocks) (faults looked.blocks)
    c.decide_read-outcome.ensures.cause))
