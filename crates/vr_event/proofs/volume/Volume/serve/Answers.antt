use Rattle.std.proofs.Common.{subst, sym}
use Rattle.vr_types.specs.Moments.{Guards}
use Rattle.vr_types.proofs.CallerLemmas.{keeps-none}
use Rattle.vr_types.specs.declared.request.Request.TheVariants as requests
use Rattle.vr_types.specs.declared.request.Request.TheVariants.{EndReq}
use Rattle.vr_history.specs.Step.{case_of}
use Rattle.vr_record_file.specs.Now.{state_now}
use Rattle.vr_event.specs.Acting.{IsLeftIn}
use Rattle.vr_event.specs.declared.acting.Event.TheVariants as events
use Rattle.vr_event.specs.declared.acting.Event.TheVariants.{EndRequest, Read}
use Rattle.vr_event.proofs.Recovers.{recovers-keeps, recovers-with}
use Rattle.vr_event.proofs.Serves.{change-of, ended-of, ending-of, event-at, no-change}
use Rattle.vr_event.proofs.Serves.{no-change-read}
use Rattle.vr_event.proofs.Weighs.{asks-change}
use Rattle.std.proofs.Common.{ap}
use Rattle.vr_store.specs.Store.{StoreNow}
use Rattle.vr_event.proofs.CountedSplits.{keeps-same, splits-answered}
use Rattle.vr_event.proofs.volume.Volume.serve.Goals as goal

pub returns-in-Read-clause-moments : goal.returns-in-Read-clause-moments
returns-in-Read-clause-moments g c told opening held may none =
    let old = c.args.self.now in
    let state = state_now opening old.file in
    let a = g.B.Blocks.seen old.blocks in
    recovers-with old.number old.store state a (g.B.Blocks.seen c.read.new.self.blocks)
    (held.stored c.requires.going) c.args.after c.args.unit c.args.line c.args.request old.file
    c.read.new.self.file (c.read.ensures.moments told opening held)

pub returns-in-EndRequest-clause-held : goal.returns-in-EndRequest-clause-held
returns-in-EndRequest-clause-held g c told opening held may none =
    let request = c.args.request in
    let ends = event-at EndRequest c.event_of.result c.get.result.now request c.in-EndRequest.is
    c.get.ensures c.event_of.ensures in
    c.end_request.ensures.held told opening ends.0 held
    (ended-of opening c.args.self.now.file c.args.unit request may ends.0 ends.1 none) ends.1

pub returns-in-EndRequest-clause-moments : goal.returns-in-EndRequest-clause-moments
returns-in-EndRequest-clause-moments g c told opening held may none =
    let old = c.args.self.now in
    let state = state_now opening old.file in
    let a = g.B.Blocks.seen old.blocks in
    let tells = g.B.Blocks.tells in
    let stored = held.stored c.requires.going in
    subst (λ (b : g.row.B.Denot). Guards a (g.B.Blocks.seen b) (IsLeftIn old.store.log.geometry
    old.number state c.args.after c.args.unit c.args.line c.args.request old.file
    c.end_request.new.self.file)) (sym c.end_request.ensures.blocks)
    (recovers-with old.number old.store state a a stored c.args.after c.args.unit c.args.line
    c.args.request old.file c.end_request.new.self.file
    (recovers-keeps old.number old.store state a a stored tells told
    (keeps-none tells a (λ told image is. g.met.B.Blocks.images_may old.blocks image told is))))

pub returns-in-Change-clause-moments : goal.returns-in-Change-clause-moments
returns-in-Change-clause-moments g c told opening held may none =
    let old = c.args.self.now in
    let state = state_now opening old.file in
    let a = g.B.Blocks.seen old.blocks in
    recovers-with old.number old.store state a (g.B.Blocks.seen c.change.new.self.blocks)
    (held.stored c.requires.going) c.args.after c.args.unit c.args.line c.args.request old.file
    c.change.new.self.file (c.change.ensures.moments told opening held)

pub returns-in-BackOut-clause-moments : goal.returns-in-BackOut-clause-moments
returns-in-BackOut-clause-moments g c told opening held may none =
    let old = c.args.self.now in
    let state = state_now opening old.file in
    let a = g.B.Blocks.seen old.blocks in
    recovers-with old.number old.store state a (g.B.Blocks.seen c.back_out.new.self.blocks)
    (held.stored c.requires.going) c.args.after c.args.unit c.args.line c.args.request old.file
    c.back_out.new.self.file (c.back_out.ensures.moments told opening held
    (ending-of opening old.file c.args.unit c.args.request may none))

pub returns-in-Change-clause-lacks : goal.returns-in-Change-clause-lacks
returns-in-Change-clause-lacks g c told opening held may none entered need free is place at =
    let old = c.args.self.now in
    let request = c.args.request in
    c.change.ensures.lacks told opening held
    (change-of opening old.file c.args.unit request may none (asks-change (case_of old.file.geometry
    (state_now opening old.file) c.args.unit request) request place at)) entered need free is
    place at

pub returns-in-Read-clause-lacks : goal.returns-in-Read-clause-lacks
returns-in-Read-clause-lacks g c told opening held may none entered need free is place at =
    let old = c.args.self.now in
    let request = c.args.request in
    absurd (no-change-read request (event-at Read c.event_of.result c.get.result.now request
    c.in-Read.is c.get.ensures c.event_of.ensures) (asks-change (case_of old.file.geometry
    (state_now opening old.file) c.args.unit request) request place at))

pub returns-in-EndRequest-clause-lacks : goal.returns-in-EndRequest-clause-lacks
returns-in-EndRequest-clause-lacks g c told opening held may none entered need free is place at =
    let old = c.args.self.now in
    let request = c.args.request in
    let ends = event-at EndRequest c.event_of.result c.get.result.now request c.in-EndRequest.is
    c.get.ensures c.event_of.ensures in
    absurd (no-change request (EndReq ends.0) ends.1 (asks-change (case_of old.file.geometry
    (state_now opening old.file) c.args.unit request) request place at))

pub returns-in-Commit-clause-lacks : goal.returns-in-Commit-clause-lacks
returns-in-Commit-clause-lacks g c told opening held may none entered need free is place at =
    let old = c.args.self.now in
    let request = c.args.request in
    absurd (no-change request requests.Commit (event-at events.Commit c.event_of.result
    c.get.result.now request c.in-Commit.is c.get.ensures c.event_of.ensures)
    (asks-change (case_of old.file.geometry (state_now opening old.file) c.args.unit request)
    request place at))

pub returns-in-BackOut-clause-lacks : goal.returns-in-BackOut-clause-lacks
returns-in-BackOut-clause-lacks g c told opening held may none entered need free is place at =
    let old = c.args.self.now in
    let request = c.args.request in
    absurd (no-change request requests.Backout (event-at events.BackOut c.event_of.result
    c.get.result.now request c.in-BackOut.is c.get.ensures c.event_of.ensures)
    (asks-change (case_of old.file.geometry (state_now opening old.file) c.args.unit request)
    request place at))

pub returns-in-Read-clause-splits : goal.returns-in-Read-clause-splits
returns-in-Read-clause-splits g c told =
    let faults = g.B.Blocks.faults in
    let old = c.args.self.now in
    let new = c.read.new.self in
    splits-answered old new (faults old.blocks) (faults new.blocks) c.args.after c.args.unit
    c.args.line c.args.request
    (λ going. keeps-same old.store new.store
    (ap (λ (s : StoreNow). s.parts) c.read.ensures.store)) c.read.ensures.acted

pub returns-in-EndRequest-clause-splits : goal.returns-in-EndRequest-clause-splits
returns-in-EndRequest-clause-splits g c told =
    let faults = g.B.Blocks.faults in
    let old = c.args.self.now in
    let new = c.end_request.new.self in
    splits-answered old new (faults old.blocks) (faults new.blocks) c.args.after c.args.unit
    c.args.line c.args.request
    (λ going. keeps-same old.store new.store
    (ap (λ (s : StoreNow). s.parts) c.end_request.ensures.store)) c.end_request.ensures.acted
