use Rattle.std.proofs.Common.{◌≡◌, ◌∙◌, Some, subst, sym}
use Rattle.vr_types.specs.Moments.{Guards}
use Rattle.vr_types.specs.declared.request.Request.{Request}
use Rattle.vr_types.proofs.CallerLemmas.{keeps-none}
use Rattle.vr_answer.specs.Tried.{file_refusals}
use Rattle.vr_history.specs.Replies.{first_of}
use Rattle.vr_history.specs.Step.{case_of}
use Rattle.vr_record_file.specs.Now.{state_now}
use Rattle.vr_event.specs.Acting.{IsLeftIn}
use Rattle.vr_event.specs.Lacking.{AreElse}
use Rattle.vr_event.proofs.Lacks.{fact-of, file-else}
use Rattle.vr_event.proofs.Recovers.{recovers-keeps, recovers-with}
use Rattle.vr_event.proofs.Weighs.{asks-change}
use Rattle.std.proofs.Common.{ap}
use Rattle.vr_store.specs.Store.{StoreNow}
use Rattle.vr_event.proofs.CountedSplits.{keeps-same, splits-answered}
use Rattle.vr_event.proofs.volume.Volume.act.Goals as goal

pub returns-in-Some-clause-moments : goal.returns-in-Some-clause-moments
returns-in-Some-clause-moments g c told opening held may going =
    let old = c.args.self.now in
    let state = state_now opening old.file in
    let a = g.B.Blocks.seen old.blocks in
    let tells = g.B.Blocks.tells in
    let stored = held.stored going in
    subst (λ (b : g.row.B.Denot). Guards a (g.B.Blocks.seen b) (IsLeftIn old.store.log.geometry
    old.number state c.args.after c.args.unit c.args.line c.args.request old.file
    c.refuse_early.new.self.file)) (sym c.refuse_early.ensures.blocks)
    (recovers-with old.number old.store state a a stored c.args.after c.args.unit c.args.line
    c.args.request old.file c.refuse_early.new.self.file
    (recovers-keeps old.number old.store state a a stored tells told
    (keeps-none tells a (λ told image is. g.met.B.Blocks.images_may old.blocks image told is))))

pub returns-in-None-clause-held : goal.returns-in-None-clause-held
returns-in-None-clause-held g c told opening held may =
    let old = c.args.self.now in
    let state = state_now opening old.file in
    let value = c.refused_early.ensures.value told opening held may.of_deck in
    c.serve.ensures.held told opening held may
    (sym (subst (λ (r : Request). c.refused_early.result
    ≡ first_of (file_refusals (case_of old.file.geometry state c.args.unit r))) c.get.ensures value)
    ∙ c.in-None.is)

pub returns-in-Some-clause-lacks : goal.returns-in-Some-clause-lacks
returns-in-Some-clause-lacks g c told opening held may entered need free is place at =
    let old = c.args.self.now in
    let request = c.args.request in
    let case = case_of old.file.geometry (state_now opening old.file) c.args.unit request in
    let value = subst (λ (r : Request). c.refused_early.result
    ≡ first_of (file_refusals (case_of old.file.geometry (state_now opening old.file) c.args.unit
    r))) c.get.ensures (c.refused_early.ensures.value told opening held may.of_deck) in
    let other : AreElse (Some c.in-Some.refusal) = subst AreElse (sym value ∙ c.in-Some.is)
    (file-else case (asks-change case request place at)) in
    absurd (fact-of (λ need free. ⊥) c.in-Some.refusal need free other
    (sym (c.refuse_early.ensures.replied entered) ∙ is))

pub returns-in-None-clause-lacks : goal.returns-in-None-clause-lacks
returns-in-None-clause-lacks g c told opening held may entered need free is place at =
    let old = c.args.self.now in
    let value = subst (λ (r : Request). c.refused_early.result
    ≡ first_of (file_refusals (case_of old.file.geometry (state_now opening old.file) c.args.unit
    r))) c.get.ensures (c.refused_early.ensures.value told opening held may.of_deck) in
    c.serve.ensures.lacks told opening held may (sym value ∙ c.in-None.is) entered need free is
    place at

pub returns-in-Some-clause-splits : goal.returns-in-Some-clause-splits
returns-in-Some-clause-splits g c told =
    let faults = g.B.Blocks.faults in
    let old = c.args.self.now in
    let new = c.refuse_early.new.self in
    splits-answered old new (faults old.blocks) (faults new.blocks) c.args.after c.args.unit
    c.args.line c.args.request
    (λ going. keeps-same old.store new.store
    (ap (λ (s : StoreNow). s.parts) c.refuse_early.ensures.store)) c.refuse_early.ensures.acted
