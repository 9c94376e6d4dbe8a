use Rattle.std.proofs.Common.{◌≡◌, ℕ, None, subst, sym, ◌∙◌}
use Rattle.vr_history.specs.Case.{Case}
use Rattle.vr_history.specs.Replies.{first_of}
use Rattle.vr_history.specs.State.{State}
use Rattle.vr_answer.specs.InHand.{IsCaseOf}
use Rattle.vr_answer.specs.Tried.{file_refusals}
use Rattle.vr_record_file.specs.Now.{state_now}
use Rattle.vr_history.specs.Step.{case_of}
use Rattle.vr_event.specs.Putting.{IsSpaceOf}
use Rattle.vr_event.specs.Getting.{IsRead, MayEnd}
use Rattle.vr_event.proofs.Known.{whole-is}
use Rattle.vr_event.proofs.NumbersHeld.{numbers-read}
use Rattle.vr_event.proofs.getting.decide.Goals as goal

pub returns-clause-ends : goal.returns-clause-ends
returns-clause-ends g c told volume opening is going stored deck read space none =
    let file = c.args.file.now in
    let state : State = state_now opening file in
    let case = c.case-case.result in
    let agrees : IsCaseOf case state = c.case-case.ensures.going opening is going deck
    (c.used.ensures ∙ stored.volume.logged.used) (c.free_areas.ensures ∙ space.free)
    (numbers-read (g.B.Blocks.seen c.args.blocks.now) c.args.store.now c.requires.set opening file is
    c.requires.laid c.args.unit c.args.request.now c.base_of-base.result.0
    c.base_of-base.ensures (subst (λ (n : ℕ). IsSpaceOf c.args.store.now n
    (case_of file.geometry state c.args.unit c.args.request.now)) (sym c.base_of-base.ensures) space)
    c.areas_of-areas.result c.areas_of-areas.ensures read) in
    let same = whole-is case state file.geometry c.args.unit c.args.request.now
    c.case-case.ensures.geometry c.case-case.ensures.unit c.case-case.ensures.asked in
    subst (λ (w : Case). MayEnd w c.sought.result) same
    (c.sought.ensures.ends told volume state agrees stored
    (subst IsRead (sym c.case-case.ensures.asked) read)
    (subst (λ (w : Case). first_of (file_refusals w) ≡ None) (sym same) none))
