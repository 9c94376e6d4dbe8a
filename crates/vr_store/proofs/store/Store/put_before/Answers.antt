use Rattle.std.proofs.Common.{List, Option, Some, ap, subst, sym, ◌∙◌, ℕ}
use Rattle.std.specs.Prelude.{OnOk}
use Rattle.vr_types.specs.Moments.{Guards}
use Rattle.vr_history.specs.State.{State}
use Rattle.vr_volume.specs.Committed.{committed_by}
use Rattle.vr_volume.specs.Safe.{IsSafeImage}
use Rattle.vr_volume.specs.Steps.{IsChangeOf, IsPutBack}
use Rattle.vr_store.specs.PutBack.{IsTakenFrom, back_at}
use Rattle.vr_store.specs.Store.{IsStored, left_among, owners_of}
use Rattle.vr_store.proofs.store.Store.put_before.Goals as goal

pub returns-in-Some-clause-back : goal.returns-in-Some-clause-back
returns-in-Some-clause-back g c told =
    let store = c.args.self.now in
    let before = c.args.before.now in
    let a = g.B.Blocks.seen c.args.blocks.now in
    subst (λ (found : Option (List ℕ)). OnOk c.put_taken.result ((volume : ℕ)
    (was : Option (List ℕ)) (old new : State) → IsTakenFrom volume store c.args.unit old a
    → IsChangeOf store.log.geometry old (back_at c.args.unit before.part before.place was
    (left_among store.parts before.part.0 old before.place found))
    → IsPutBack (back_at c.args.unit before.part before.place was
    (left_among store.parts before.part.0 old before.place found)) old new
    → IsStored volume c.put_taken.new.self new (g.B.Blocks.seen c.put_taken.new.blocks)))
    (ap (λ (b : List ℕ). Some b) c.as_slice.ensures ∙ sym c.in-Some.is) (c.put_taken.ensures.back told)

pub returns-in-Some-clause-moments : goal.returns-in-Some-clause-moments
returns-in-Some-clause-moments g c told volume was old new =
    let store = c.args.self.now in
    let before = c.args.before.now in
    let a = g.B.Blocks.seen c.args.blocks.now in
    subst (λ (found : Option (List ℕ)). IsTakenFrom volume store c.args.unit old a
    → IsChangeOf store.log.geometry old (back_at c.args.unit before.part before.place was
    (left_among store.parts before.part.0 old before.place found))
    → IsPutBack (back_at c.args.unit before.part before.place was
    (left_among store.parts before.part.0 old before.place found)) old new
    → Guards a (g.B.Blocks.seen c.put_taken.new.blocks)
    (IsSafeImage store.log.geometry volume (owners_of store) store.log (committed_by old)))
    (ap (λ (b : List ℕ). Some b) c.as_slice.ensures ∙ sym c.in-Some.is) (c.put_taken.ensures.moments told volume was old new)

pub returns-in-None-clause-back : goal.returns-in-None-clause-back
returns-in-None-clause-back g c told =
    let store = c.args.self.now in
    let before = c.args.before.now in
    let a = g.B.Blocks.seen c.args.blocks.now in
    subst (λ (found : Option (List ℕ)). OnOk c.put_taken-in-None.result ((volume : ℕ)
    (was : Option (List ℕ)) (old new : State) → IsTakenFrom volume store c.args.unit old a
    → IsChangeOf store.log.geometry old (back_at c.args.unit before.part before.place was
    (left_among store.parts before.part.0 old before.place found))
    → IsPutBack (back_at c.args.unit before.part before.place was
    (left_among store.parts before.part.0 old before.place found)) old new
    → IsStored volume c.put_taken-in-None.new.self new (g.B.Blocks.seen c.put_taken-in-None.new.blocks)))
    (sym c.in-None.is) (c.put_taken-in-None.ensures.back told)

pub returns-in-None-clause-moments : goal.returns-in-None-clause-moments
returns-in-None-clause-moments g c told volume was old new =
    let store = c.args.self.now in
    let before = c.args.before.now in
    let a = g.B.Blocks.seen c.args.blocks.now in
    subst (λ (found : Option (List ℕ)). IsTakenFrom volume store c.args.unit old a
    → IsChangeOf store.log.geometry old (back_at c.args.unit before.part before.place was
    (left_among store.parts before.part.0 old before.place found))
    → IsPutBack (back_at c.args.unit before.part before.place was
    (left_among store.parts before.part.0 old before.place found)) old new
    → Guards a (g.B.Blocks.seen c.put_taken-in-None.new.blocks)
    (IsSafeImage store.log.geometry volume (owners_of store) store.log (committed_by old)))
    (sym c.in-None.is) (c.put_taken-in-None.ensures.moments told volume was old new)
