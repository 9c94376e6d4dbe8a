use Rattle.std.proofs.Common.{ℕ, List, Option}
use Rattle.std.specs.Option.{option_copied}
use Rattle.std.proofs.lemmas.Result.{IfOk-weaker}
use Rattle.vr_space.specs.Whence.{allows}
use Rattle.vr_history.specs.State.{State}
use Rattle.vr_answer.specs.Least.{IsLeastWith}
use Rattle.vr_event.specs.Searching.{HasRecord}
use Rattle.vr_event.specs.Walking.{is_coming}
use Rattle.vr_store.specs.Store.{IsStored}
use Rattle.vr_event.proofs.Sought.{least-asked}
use Rattle.vr_event.proofs.walking.place_coming.Goals as goal

pub returns-clause-next : goal.returns-clause-next
returns-clause-next g c told =
    let a = g.B.Blocks.seen c.args.blocks.now in
    let part = c.args.part.0 in
    let coming = is_coming (option_copied c.args.from) c.args.last.now in
    let from = c.whence_coming.result in
    IfOk-weaker c.next_place.result
    (λ (next : Option (List ℕ)). (volume : ℕ) (state : State)
    → IsStored volume c.args.store.now state a
    → IsLeastWith (allows from) (HasRecord (state.contents part)) next)
    (λ (next : Option (List ℕ)). (volume : ℕ) (state : State)
    → IsStored volume c.args.store.now state a
    → IsLeastWith coming (HasRecord (state.contents part)) next)
    (λ next is volume state stored. least-asked (allows from) coming
    (HasRecord (state.contents part)) c.whence_coming.ensures next (is volume state stored))
    (c.next_place.ensures.next told)
