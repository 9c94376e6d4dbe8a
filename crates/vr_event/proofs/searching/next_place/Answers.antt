use Rattle.std.proofs.Common.{Bool, List, ℕ, Some, true, false, subst, sym}
use Rattle.vr_types.proofs.CallerLemmas.{keeps-none}
use Rattle.vr_space.specs.Whence.{allows}
use Rattle.vr_answer.specs.Least.{IsLeastWith}
use Rattle.vr_store.specs.Next.{IsNextAt}
use Rattle.vr_event.specs.Searching.{HasRecord}
use Rattle.vr_event.proofs.Sought.{next-least}
use Rattle.vr_event.proofs.searching.next_place.Goals as goal

pub returns-in_err-into-clause-keeps : goal.returns-in_err-into-clause-keeps
returns-in_err-into-clause-keeps g c =
    keeps-none g.B.Blocks.tells (g.B.Blocks.seen c.args.blocks.now)
    (λ told image is. g.met.B.Blocks.images_may c.args.blocks.now image told is)

pub returns-then-branch-clause-next : goal.returns-then-branch-clause-next
returns-then-branch-clause-next g c told volume state stored =
    let store = c.args.store.now in
    let a = g.B.Blocks.seen c.args.blocks.now in
    let number = c.args.number.0 in
    let from = c.args.from in
    subst (λ (place : List ℕ). IsLeastWith (allows from) (HasRecord (state.contents number))
    (Some place)) (sym c.into_place.ensures)
    (next-least store a c.requires.set volume state stored number from true c.next.new.into.place
    (subst (λ (found : Bool). IsNextAt store a.cur number from found c.next.new.into.place)
    c.if-branch.true (c.in_ok-next.ensures.next told)))

pub returns-else-branch-clause-next : goal.returns-else-branch-clause-next
returns-else-branch-clause-next g c told volume state stored =
    let store = c.args.store.now in
    let a = g.B.Blocks.seen c.args.blocks.now in
    let number = c.args.number.0 in
    let from = c.args.from in
    next-least store a c.requires.set volume state stored number from false c.next.new.into.place
    (subst (λ (found : Bool). IsNextAt store a.cur number from found c.next.new.into.place)
    c.if-branch.false (c.in_ok-next.ensures.next told))
