use Rattle.std.proofs.Common.{◌≡◌, List, Option, ℕ}
use Rattle.std.specs.Option.{option_copied}
use Rattle.std.proofs.lemmas.Result.{IfOk-weaker}
use Rattle.vr_space.specs.Whence.{allows}
use Rattle.vr_history.specs.State.{State}
use Rattle.vr_undo.specs.Records.{befores_of}
use Rattle.vr_answer.specs.Least.{IsLeastWith, lesser}
use Rattle.vr_event.specs.Searching.{HasRecord, IsFirstSeen}
use Rattle.vr_event.proofs.Sought.{first-both}
use Rattle.vr_event.proofs.searching.or_kept.Goals as goal

pub returns-then-sees : goal.returns-then-sees
returns-then-sees g c =
    let unit = c.args.unit in
    let part = c.args.number.0 in
    let from = c.args.from in
    let standing = c.args.standing in
    let kept = c.next_other.result in
    IfOk-weaker c.lesser.result
    (λ (at : Option (List ℕ)). at ≡ lesser standing (option_copied kept))
    (λ (at : Option (List ℕ)). (state : State) → befores_of c.args.store.now.undo ≡ state.befores
    → IsLeastWith (allows from) (HasRecord (state.contents part)) standing
    → IsFirstSeen (allows from) unit part c.args.sees state at)
    (λ at is state befores least.
    first-both from c.args.store.now.undo unit part c.args.sees state standing at kept c.if-sees.true
    befores least c.next_other.ensures is)
    c.lesser.ensures
