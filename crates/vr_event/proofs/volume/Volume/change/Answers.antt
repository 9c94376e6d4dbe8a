use Rattle.std.proofs.Common.{◌≡◌, ◌∙◌, ℕ, IsTrue, List, [], None, Option, Some, ap, refl, subst}
use Rattle.std.proofs.Common.{sym}
use Rattle.vr_types.proofs.CallerLemmas.{guards-then}
use Rattle.vr_types.specs.Moments.{Guards}
use Rattle.vr_types.specs.declared.geometry.Geometry.{Geometry}
use Rattle.vr_types.specs.declared.reply.Refusal.TheVariants.{NoSpace}
use Rattle.vr_types.specs.declared.request.Request.{Request}
use Rattle.vr_types.specs.declared.reply.Reply.TheVariants.{Refused}
use Rattle.vr_types.specs.declared.unit.Unit.{Unit as UnitOfRecovery}
use Rattle.vr_answer.specs.Here.{base_here}
use Rattle.vr_answer.specs.Tried.{file_refusals}
use Rattle.vr_history.specs.Change.{place_changed}
use Rattle.vr_history.specs.Replies.{before_room, fills_base, first_of}
use Rattle.vr_history.specs.State.{State}
use Rattle.vr_history.specs.Step.{case_of}
use Rattle.vr_log.specs.LogNow.{LogNow}
use Rattle.vr_record_file.specs.Now.{FileNow, MayBeAsked, state_now}
use Rattle.vr_volume.specs.Crashes.{RecoversTo}
use Rattle.vr_event.specs.Acting.{IsActed}
use Rattle.vr_event.specs.Cause.{HasGetCause}
use Rattle.vr_event.specs.Getting.{IsEntered}
use Rattle.vr_event.specs.Lacking.{IfNoSpace, IsLacking, LacksRoomIn}
use Rattle.vr_event.specs.Putting.{IfAgain, IsChange, IsReadyFor, MayLackRoom, MayWeigh}
use Rattle.vr_event.specs.Staging.{IsStateStaged}
use Rattle.vr_store.specs.Store.{StoreNow}
use Rattle.vr_event.specs.declared.act.Act.{Act}
use Rattle.vr_event.specs.declared.act.Act.TheVariants.{Again, Done}
use Rattle.vr_event.specs.declared.weighing.Weighed.TheVariants as weighed
use Rattle.vr_event.proofs.ActedLater.{acted-earlier}
use Rattle.vr_event.proofs.Acts.{acted-got}
use Rattle.vr_event.proofs.ClaimedAreas.{staged-refusals}
use Rattle.vr_event.proofs.Lacks.{done-unrefused, fact-of}
use Rattle.vr_event.proofs.Recovering.{keeps-recovers}
use Rattle.vr_event.proofs.Wholes.{may-changing}
use Rattle.vr_event.proofs.CountedSplits.{keeps-met, keeps-same, nearer-after, splits-after, splits-met}
use Rattle.vr_event.proofs.volume.Volume.change.Goals as goal

pub returns-in-Refused-clause-held : goal.returns-in-Refused-clause-held
returns-in-Refused-clause-held g c told opening held asked =
    let old = c.args.self.now.file in
    let unit = c.args.unit in
    let request = c.args.request in
    let case = case_of old.geometry (state_now opening old) unit request in
    let may : MayWeigh case (weighed.Refused c.in-Refused.refusal) =
    subst (λ (r : Request). MayWeigh (case_of old.geometry (state_now opening old) unit r)
    (weighed.Refused c.in-Refused.refusal)) c.get-2.ensures
    (c.in-Refused.ensures.may told opening held) in
    let both = may asked.unrefused in
    c.enter_refused.ensures.held told opening (c.weigh_change.ensures.held told opening held)
    (subst (λ (f : FileNow). MayBeAsked opening f unit request (Refused c.in-Refused.refusal))
    (sym c.weigh_change.ensures.file)
    (may-changing opening old unit request (Refused c.in-Refused.refusal) asked both.0))

pub returns-in-Refused-clause-moments : goal.returns-in-Refused-clause-moments
returns-in-Refused-clause-moments g c told opening held =
    let seen = g.B.Blocks.seen in
    let old = c.args.self.now in
    subst (λ (b : g.row.B.Denot). Guards (seen old.blocks) (seen b)
    (RecoversTo old.store.log.geometry old.number (state_now opening old.file) []))
    (sym c.enter_refused.ensures.blocks)
    (keeps-recovers g.B.Blocks.tells told old.number old.store (state_now opening old.file)
    (seen old.blocks) (seen c.weigh_change.new.self.blocks) c.weigh_change.ensures.keeps
    (held.stored c.requires.going))

pub returns-in-Refused-clause-number : goal.returns-in-Refused-clause-number
returns-in-Refused-clause-number g c =
    c.enter_refused.ensures.volume ∙ c.weigh_change.ensures.number

pub returns-in-Refused-clause-generation : goal.returns-in-Refused-clause-generation
returns-in-Refused-clause-generation g c going =
    ap (λ (s : StoreNow). s.log.generation) c.enter_refused.ensures.store
    ∙ ap (λ (l : LogNow). l.generation) c.weigh_change.ensures.log

pub returns-in-Refused-clause-acted : goal.returns-in-Refused-clause-acted
returns-in-Refused-clause-acted g c =
    let faults = g.B.Blocks.faults in
    let old = c.args.self.now in
    let mid = c.weigh_change.new.self in
    let new = c.enter_refused.new.self in
    acted-got
    (subst (λ (b : g.row.B.Denot). HasGetCause (faults old.blocks) (faults b) c.args.after
    c.args.unit c.args.line c.args.request old.file new.file) (sym c.enter_refused.ensures.blocks)
    (subst (λ (f : FileNow). HasGetCause (faults old.blocks) (faults mid.blocks) c.args.after
    c.args.unit c.args.line c.args.request f new.file) c.weigh_change.ensures.file
    (c.enter_refused.ensures.cause (faults old.blocks) (faults mid.blocks)
    c.in-Refused.ensures.cause)))

pub returns-in-Stage-clause-acted : goal.returns-in-Stage-clause-acted
returns-in-Stage-clause-acted g c =
    let faults = g.B.Blocks.faults in
    acted-earlier (faults c.args.self.now.blocks) (faults c.weigh_change.new.self.blocks)
    (faults c.do_stage.new.self.blocks) (c.in-Stage.ensures.cause.calm refl)
    c.args.after c.args.unit c.args.line c.args.request
    c.args.self.now.file c.do_stage.new.self.file c.do_stage.result
    (subst (λ (f : FileNow). IsActed (faults c.weigh_change.new.self.blocks)
    (faults c.do_stage.new.self.blocks) c.do_stage.result c.args.after c.args.unit c.args.line
    c.args.request f c.do_stage.new.self.file) c.weigh_change.ensures.file
    c.do_stage.ensures.acted)

pub returns-in-Ready-clause-acted : goal.returns-in-Ready-clause-acted
returns-in-Ready-clause-acted g c =
    let faults = g.B.Blocks.faults in
    acted-earlier (faults c.args.self.now.blocks) (faults c.weigh_change.new.self.blocks)
    (faults c.put.new.self.blocks) (c.in-Ready.ensures.cause.calm c.in-Ready.ensures.fits.1)
    c.args.after c.args.unit c.args.line c.args.request
    c.args.self.now.file c.put.new.self.file Done
    (subst (λ (f : FileNow). IsActed (faults c.weigh_change.new.self.blocks)
    (faults c.put.new.self.blocks) Done c.args.after c.args.unit c.args.line
    c.args.request f c.put.new.self.file) c.weigh_change.ensures.file
    c.put.ensures.acted)

pub returns-in-Stage-clause-moments : goal.returns-in-Stage-clause-moments
returns-in-Stage-clause-moments g c told opening held =
    let seen = g.B.Blocks.seen in
    let old = c.args.self.now in
    let mid = c.weigh_change.new.self in
    let P = RecoversTo old.store.log.geometry old.number (state_now opening old.file) [] in
    let b = seen c.do_stage.new.self.blocks in
    guards-then (seen old.blocks) (seen mid.blocks) b P
    (keeps-recovers g.B.Blocks.tells told old.number old.store (state_now opening old.file)
    (seen old.blocks) (seen mid.blocks) c.weigh_change.ensures.keeps (held.stored c.requires.going))
    (subst (λ (l : LogNow). Guards (seen mid.blocks) b
    (RecoversTo l.geometry old.number (state_now opening old.file) [])) c.weigh_change.ensures.log
    (subst (λ (n : ℕ). Guards (seen mid.blocks) b
    (RecoversTo mid.store.log.geometry n (state_now opening old.file) []))
    c.weigh_change.ensures.number
    (subst (λ (f : FileNow). Guards (seen mid.blocks) b
    (RecoversTo mid.store.log.geometry mid.number (state_now opening f) []))
    c.weigh_change.ensures.file
    (c.do_stage.ensures.moments told opening (c.weigh_change.ensures.held told opening held)))))

pub returns-in-Ready-clause-moments : goal.returns-in-Ready-clause-moments
returns-in-Ready-clause-moments g c told opening held =
    let seen = g.B.Blocks.seen in
    let old = c.args.self.now in
    let mid = c.weigh_change.new.self in
    let b = seen c.put.new.self.blocks in
    let is-ready = subst (λ (f : FileNow). IsReadyFor (case_of f.geometry (state_now opening f)
    c.args.unit c.args.request) c.in-Ready.place c.in-Ready.old c.in-Ready.reply c.in-Ready.names)
    (sym c.weigh_change.ensures.file)
    (subst (λ (r : Request). IsReadyFor (case_of old.file.geometry (state_now opening old.file)
    c.args.unit r) c.in-Ready.place c.in-Ready.old c.in-Ready.reply c.in-Ready.names)
    c.get-2.ensures (c.in-Ready.ensures.may told opening held)) in
    guards-then (seen old.blocks) (seen mid.blocks) b
    (RecoversTo old.store.log.geometry old.number (state_now opening old.file) [])
    (keeps-recovers g.B.Blocks.tells told old.number old.store (state_now opening old.file)
    (seen old.blocks) (seen mid.blocks) c.weigh_change.ensures.keeps (held.stored c.requires.going))
    (subst (λ (l : LogNow). Guards (seen mid.blocks) b
    (RecoversTo l.geometry old.number (state_now opening old.file) [])) c.weigh_change.ensures.log
    (subst (λ (n : ℕ). Guards (seen mid.blocks) b
    (RecoversTo mid.store.log.geometry n (state_now opening old.file) []))
    c.weigh_change.ensures.number
    (subst (λ (f : FileNow). Guards (seen mid.blocks) b
    (RecoversTo mid.store.log.geometry mid.number (state_now opening f) []))
    c.weigh_change.ensures.file
    (c.put.ensures.moments told opening (c.weigh_change.ensures.held told opening held)
    (subst (λ (o : Option (List ℕ)). IsReadyFor (case_of mid.file.geometry (state_now opening mid.file)
    c.args.unit c.args.request) c.in-Ready.place o c.in-Ready.reply c.in-Ready.names)
    (sym c.slice_of-old.ensures) is-ready)))))

-- what refuses it once a stage is done refused it before
again-by : (act : Act) (opening : State) (old new : FileNow) (unit : UnitOfRecovery)
    (request : Request) (part : ℕ) → IsChange request
    → IfAgain act ((new.geometry ≡ old.geometry)
    × IsStateStaged part (state_now opening old) (state_now opening new))
    → first_of (before_room (case_of old.geometry (state_now opening old) unit request)) ≡ None
    → IfAgain act (MayLackRoom opening new unit request)
again-by Done opening old new unit request part change leaves none = tt
again-by (Again given) opening old new unit request part change leaves none = λ some fills.
    subst (λ (g : Geometry). IsTrue (fills_base (case_of g (state_now opening new) unit request))
    → first_of (before_room (case_of g (state_now opening new) unit request)) ≡ None)
    (sym leaves.0)
    (λ filled. staged-refusals old.geometry unit request part (state_now opening old)
    (state_now opening new) change leaves.1 filled ∙ none) fills

pub returns-in-Stage-clause-again : goal.returns-in-Stage-clause-again
returns-in-Stage-clause-again g c told opening held asked =
    let old = c.args.self.now.file in
    let new = c.do_stage.new.self.file in
    let part = c.base_of-part.result.0 in
    let may : MayWeigh (case_of old.geometry (state_now opening old) c.args.unit c.args.request)
    (weighed.Stage c.in-Stage.place c.in-Stage.length) =
    subst (λ (r : Request). MayWeigh (case_of old.geometry (state_now opening old) c.args.unit r)
    (weighed.Stage c.in-Stage.place c.in-Stage.length)) c.get-2.ensures
    (c.in-Stage.ensures.may told opening held) in
    again-by c.do_stage.result opening old new c.args.unit c.args.request part
    c.requires.change
    (subst (λ (f : FileNow). IfAgain c.do_stage.result ((new.geometry ≡ f.geometry)
    × IsStateStaged part (state_now opening f) (state_now opening new)))
    c.weigh_change.ensures.file (c.do_stage.ensures.again opening)) (may asked.unrefused)

pub returns-in-Refused-clause-lacks : goal.returns-in-Refused-clause-lacks
returns-in-Refused-clause-lacks g c told opening held asked entered need free is place at =
    let old = c.args.self.now in
    let image = (g.B.Blocks.seen old.blocks).cur in
    let request = c.args.request in
    let refusal = c.in-Refused.refusal in
    let here : c.base_of-part.result.0 ≡ base_here request =
    c.base_of-part.ensures ∙ ap (λ (r : Request). base_here r) c.get.ensures in
    let lacks = subst (λ (r : Request).
    first_of (file_refusals (case_of old.file.geometry (state_now opening old.file) c.args.unit r))
    ≡ None
    → place_changed (case_of old.file.geometry (state_now opening old.file) c.args.unit r)
    ≡ Some place
    → IfNoSpace (LacksRoomIn old.store image c.base_of-part.result.0 place r) refusal)
    c.get-2.ensures
    (λ none at. c.in-Refused.ensures.lacks told opening held none place at) asked.unrefused at in
    let replied = subst (λ (f : FileNow).
    (entered : IsEntered c.args.after c.args.unit c.args.line request f
    c.enter_refused.new.self.file)
    → entered.reply ≡ Refused refusal) c.weigh_change.ensures.file c.enter_refused.ensures.replied
    entered in
    fact-of (IsLacking old.store image place request) refusal need free
    (subst (λ (n : ℕ). IfNoSpace (LacksRoomIn old.store image n place request) refusal) here lacks)
    (sym replied ∙ is)

pub returns-in-Stage-clause-lacks : goal.returns-in-Stage-clause-lacks
returns-in-Stage-clause-lacks g c told opening held asked entered need free is place at =
    absurd (subst (λ (f : FileNow).
    (entered : IsEntered c.args.after c.args.unit c.args.line c.args.request f
    c.do_stage.new.self.file) (need free : ℕ) → entered.reply ≡ Refused (NoSpace need free) → ⊥)
    c.weigh_change.ensures.file c.do_stage.ensures.lacks entered need free is)

pub returns-in-Ready-clause-lacks : goal.returns-in-Ready-clause-lacks
returns-in-Ready-clause-lacks g c told opening held asked entered need free is place at =
    let reply = subst (λ (f : FileNow).
    (entered : IsEntered c.args.after c.args.unit c.args.line c.args.request f c.put.new.self.file)
    (need free : ℕ) → entered.reply ≡ Refused (NoSpace need free)
    → c.in-Ready.reply ≡ Refused (NoSpace need free)) c.weigh_change.ensures.file
    c.put.ensures.lacks entered need free is in
    let ready = c.in-Ready.ensures.may told opening held in
    absurd (done-unrefused (case_of c.args.self.now.file.geometry
    (state_now opening c.args.self.now.file) c.args.unit c.get-2.result.now) c.get-2.result.now
    (NoSpace need free) (sym ready.reply_is ∙ reply))

pub returns-in-Refused-clause-splits : goal.returns-in-Refused-clause-splits
returns-in-Refused-clause-splits g c told =
    let faults = g.B.Blocks.faults in
    let old = c.args.self.now in
    let mid = c.weigh_change.new.self in
    let new = c.enter_refused.new.self in
    splits-met old mid new (faults old.blocks) (faults mid.blocks) c.args.after c.args.unit
    c.args.line c.args.request c.weigh_change.ensures.meets c.weigh_change.ensures.file
    (λ going. keeps-same mid.store new.store
    (ap (λ (s : StoreNow). s.parts) c.enter_refused.ensures.store))
    (acted-got (c.enter_refused.ensures.cause (faults old.blocks) (faults mid.blocks)
    c.in-Refused.ensures.cause))

pub returns-in-Stage-clause-nearer : goal.returns-in-Stage-clause-nearer
returns-in-Stage-clause-nearer g c told =
    nearer-after c.do_stage.result c.args.unit c.args.self.now c.weigh_change.new.self
    c.do_stage.new.self c.weigh_change.ensures.meets (c.do_stage.ensures.nearer told)

pub returns-in-Stage-clause-splits : goal.returns-in-Stage-clause-splits
returns-in-Stage-clause-splits g c told =
    splits-after c.args.self.now c.weigh_change.new.self c.do_stage.new.self
    c.weigh_change.ensures.meets c.weigh_change.ensures.file (c.do_stage.ensures.splits told)

pub returns-in-Ready-clause-splits : goal.returns-in-Ready-clause-splits
returns-in-Ready-clause-splits g c told =
    let faults = g.B.Blocks.faults in
    let mid = c.weigh_change.new.self in
    let new = c.put.new.self in
    splits-met c.args.self.now mid new (faults mid.blocks) (faults new.blocks) c.args.after
    c.args.unit c.args.line c.args.request c.weigh_change.ensures.meets c.weigh_change.ensures.file
    (λ going. keeps-met c.base_of-part.result.0 mid.store new.store (c.put.ensures.met going))
    c.put.ensures.acted
