use Rattle.std.proofs.Common.{ℕ, Bool, List, Option, subst}
use Rattle.std.specs.Option.{option_copied}
use Rattle.std.proofs.lemmas.Result.{IfOk-weaker}
use Rattle.vr_types.proofs.CallerLemmas.{keeps-none}
use Rattle.vr_space.specs.Whence.{allows}
use Rattle.vr_history.specs.Case.{sees_kept}
use Rattle.vr_history.specs.State.{State}
use Rattle.vr_answer.specs.Here.{or_start}
use Rattle.vr_answer.specs.Least.{Searches, asks_for}
use Rattle.vr_event.specs.Searching.{AsksFrom, IsFirstSeen}
use Rattle.vr_store.specs.Store.{IsStored}
use Rattle.vr_event.proofs.Sought.{first-asked}
use Rattle.vr_event.proofs.searching.searched.Goals as goal

pub returns-in-None-clause-keeps : goal.returns-in-None-clause-keeps
returns-in-None-clause-keeps g c =
    keeps-none g.B.Blocks.tells (g.B.Blocks.seen c.args.blocks.now)
    (λ told image is. g.met.B.Blocks.images_may c.args.blocks.now image told is)

pub returns-in-Some-clause-first : goal.returns-in-Some-clause-first
returns-in-Some-clause-first g c told =
    let a = g.B.Blocks.seen c.args.blocks.now in
    let case = c.args.case.now in
    let part = c.args.part.0 in
    let find = c.args.find.now in
    let stand = or_start (option_copied case.stand) in
    let from = c.in-Some.from in
    let sees = c.sees_kept-sees.result in
    IfOk-weaker c.first_seen.result
    (λ (at : Option (List ℕ)). (volume : ℕ) (state : State)
    → IsStored volume c.args.store.now state a
    → IsFirstSeen (allows from) case.unit part sees state at)
    (λ (at : Option (List ℕ)). (volume : ℕ) (state : State)
    → IsStored volume c.args.store.now state a → Searches find
    → IsFirstSeen (asks_for stand find) case.unit part (sees_kept case.request.now) state at)
    (λ at first volume state stored seeks.
    subst (λ (b : Bool). IsFirstSeen (asks_for stand find) case.unit part b state at)
    c.sees_kept-sees.ensures
    (first-asked stand find from
    (subst (AsksFrom stand find) c.in-Some.is (c.whence_of.ensures seeks))
    case.unit part sees state at (first volume state stored)))
    (c.first_seen.ensures.first told)
