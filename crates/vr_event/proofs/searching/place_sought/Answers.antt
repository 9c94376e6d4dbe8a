use Rattle.std.proofs.Common.{◌≡◌, ℕ, List, Option, Some, None, Bor, ap, subst, sym, ◌∙◌}
use Rattle.std.specs.Option.{option_copied}
use Rattle.std.proofs.lemmas.Result.{IfOk-weaker}
use Rattle.vr_types.proofs.CallerLemmas.{keeps-none}
use Rattle.vr_types.specs.declared.request.Find.{Find}
use Rattle.vr_history.specs.Case.{sees_kept}
use Rattle.vr_history.specs.Replies.{first_of}
use Rattle.vr_history.specs.State.{State}
use Rattle.vr_answer.specs.Here.{or_start}
use Rattle.vr_answer.specs.InHand.{IsCaseOf, whole}
use Rattle.vr_answer.specs.Least.{IsReadOf, Searches, asks_for}
use Rattle.vr_answer.specs.Tried.{file_refusals}
use Rattle.vr_event.specs.Getting.{IsRead}
use Rattle.vr_event.specs.Searching.{IsFirstSeen, IsSought}
use Rattle.vr_store.specs.Store.{IsStored}
use Rattle.vr_event.proofs.Known.{read-on, reads-known}
use Rattle.vr_event.proofs.Sought.{sought-first, sought-named}
use Rattle.vr_event.proofs.searching.place_sought.Goals as goal

pub returns-in_err-copy-in-Some-place_named-clause-keeps :
    goal.returns-in_err-copy-in-Some-place_named-clause-keeps
returns-in_err-copy-in-Some-place_named-clause-keeps g c =
    keeps-none g.B.Blocks.tells (g.B.Blocks.seen c.args.blocks.now)
    (λ told image is. g.met.B.Blocks.images_may c.args.blocks.now image told is)

pub returns-in-None-clause-keeps : goal.returns-in-None-clause-keeps
returns-in-None-clause-keeps g c =
    keeps-none g.B.Blocks.tells (g.B.Blocks.seen c.args.blocks.now)
    (λ told image is. g.met.B.Blocks.images_may c.args.blocks.now image told is)

pub returns-in_ok-copy-in-Some-place_named-clause-keeps :
    goal.returns-in_ok-copy-in-Some-place_named-clause-keeps
returns-in_ok-copy-in-Some-place_named-clause-keeps g c =
    keeps-none g.B.Blocks.tells (g.B.Blocks.seen c.args.blocks.now)
    (λ told image is. g.met.B.Blocks.images_may c.args.blocks.now image told is)

pub returns-in_ok-copy-in-Some-place_named-clause-sought :
    goal.returns-in_ok-copy-in-Some-place_named-clause-sought
returns-in_ok-copy-in-Some-place_named-clause-sought g c told volume state is stored read none =
    let case = c.args.case.now in
    let w = whole case state in
    let on = read-on case.request.now read in
    let stand = or_start (option_copied case.stand) in
    let finds = sym c.find_of.ensures
    ∙ ap (λ (o : Option (Bor Find)). option_copied o) c.in-Some.is in
    let reads = reads-known case state is none (stored.volume.laid.each _) on.on
    c.in-Some.find.now on.file finds in
    subst (λ (place : List ℕ). IsSought w (Some place)) (sym c.in_ok-copy-in-Some-place_named.ensures)
    (sought-named w reads.0 stand c.in-Some-place_named.place.now
    (subst (IsReadOf w reads.0 stand) c.in-Some-place_named.ensures.named reads.1))

pub returns-in-None-place_named-clause-sought : goal.returns-in-None-place_named-clause-sought
returns-in-None-place_named-clause-sought g c told =
    let a = g.B.Blocks.seen c.args.blocks.now in
    let case = c.args.case.now in
    let find = c.in-Some.find.now in
    let stand = or_start (option_copied case.stand) in
    IfOk-weaker c.searched.result
    (λ (at : Option (List ℕ)). (volume : ℕ) (state : State)
    → IsStored volume c.args.store.now state a → Searches find
    → IsFirstSeen (asks_for stand find) case.unit c.args.part.0 (sees_kept case.request.now) state at)
    (λ (at : Option (List ℕ)). (volume : ℕ) (state : State) → IsCaseOf case state
    → IsStored volume c.args.store.now state a → IsRead case.request.now
    → first_of (file_refusals (whole case state)) ≡ None → IsSought (whole case state) at)
    (λ at first volume state is stored read none.
    let on = read-on case.request.now read in
    let finds = sym c.find_of.ensures
    ∙ ap (λ (o : Option (Bor Find)). option_copied o) c.in-Some.is in
    let reads = reads-known case state is none (stored.volume.laid.each _) on.on find on.file finds in
    let seeks = c.place_named.ensures.none c.in-None-place_named.is in
    sought-first (whole case state) reads.0 stand find at reads.1 seeks
    (subst (λ (part : ℕ). IsFirstSeen (asks_for stand find) case.unit part
    (sees_kept case.request.now) state at) c.requires.base (first volume state stored seeks)))
    (c.searched.ensures.first told)
