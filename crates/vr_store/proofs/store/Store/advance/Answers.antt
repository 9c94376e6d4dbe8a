use Rattle.std.proofs.Common.{◌<◌, map, sym, subst}
use Rattle.std.proofs.lemmas.Result.{IfErr-weaker, on_ok_weaker}
use Rattle.vr_types.specs.Moments.{Guards}
use Rattle.vr_volume.specs.Committed.{committed_by}
use Rattle.vr_volume.specs.Safe.{IsSafeImage}
use Rattle.vr_attach.specs.Owning.{claimed_by, owner_of}
use Rattle.vr_store.specs.Left.{left_for}
use Rattle.vr_store.specs.Store.{IsStored, StoreNow, part_now, store_of}
use Rattle.vr_store.proofs.StagesLeft.{waits-staged}
use Rattle.vr_store.proofs.store.Store.advance.Goals as goal

pub returns-clause-stored : goal.returns-clause-stored
returns-clause-stored g c told = on_ok_weaker c.advance_at.result
    (λ holds volume state stored. holds volume state
    (subst (λ (s : StoreNow). IsStored volume s state (g.B.Blocks.seen c.args.blocks.now))
    (sym c.self.view_is) stored)) (c.advance_at.ensures.stored told)

pub returns-clause-moments : goal.returns-clause-moments
returns-clause-moments g c told volume state =
    subst (λ (s : StoreNow). IsStored volume s state (g.B.Blocks.seen c.args.blocks.now)
    → Guards (g.B.Blocks.seen c.args.blocks.now) (g.B.Blocks.seen c.advance_at.new.blocks)
    (IsSafeImage s.log.geometry volume
    (owner_of s.log.geometry (claimed_by c.args.number s.space)) s.log (committed_by state)))
    c.self.view_is
    (c.advance_at.ensures.moments told volume state)

pub returns-clause-unread : goal.returns-clause-unread
returns-clause-unread g c = IfErr-weaker c.advance_at.result _ _
    (λ fault unread is.
    let kept = unread is in (
      kept.0,
      λ told volume state stored. kept.1 told volume state
          (subst (λ (s : StoreNow). IsStored volume s state (g.B.Blocks.seen c.args.blocks.now))
          (sym c.self.view_is) stored),
    )) c.advance_at.ensures.unread

pub returns-clause-nearer : goal.returns-clause-nearer
returns-clause-nearer g c told = on_ok_weaker c.advance_at.result
    (λ fewer waits.
    let inside = c.self.inside in
    let store : StoreNow = store_of g.P.Part.shape g.P.Part.known inside.log inside.undo
    inside.parts.items inside.changed.items inside.space in
    let new = map (part_now g.P.Part.shape g.P.Part.known) c.advance_at.new.parts.items in
    let space = c.advance_at.new.space in
    subst (λ (s : StoreNow). left_for waits (record store { parts = new; space = space })
    < left_for waits s) c.self.view_is (waits-staged waits store new space fewer))
    (c.advance_at.ensures.fewer told)
