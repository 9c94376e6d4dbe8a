use Rattle.std.proofs.Common.{◌≢◌, ◌<◌, [], ℕ, map, subst, sym}
use Rattle.std.proofs.lemmas.Result.{on_ok_weaker}
use Rattle.std.specs.Prelude.{All}
use Rattle.vr_store.specs.Left.{left_for}
use Rattle.vr_store.specs.Store.{ChangedBy, IsSet, IsStored, StoreNow, blocks_of, changed_by}
use Rattle.vr_store.specs.Store.{part_now, store_of}
use Rattle.vr_store.proofs.StagesLeft.{waits-forced}
use Rattle.vr_store.proofs.Ends.{stored-forced}
use Rattle.vr_store.proofs.PutNothing.{moments-keeps, set-keeps}
use Rattle.vr_store.proofs.Kept.{set-listed}
use Rattle.vr_store.proofs.store.Store.force_changed.Goals as goal

pub returns-clause-stored : goal.returns-clause-stored
returns-clause-stored g c told volume state =
    let inside = c.self.inside in
    let a = g.B.Blocks.seen c.args.blocks.now in
    let b = g.B.Blocks.seen c.force_listed.new.blocks in
    let store : StoreNow = record {
      log = inside.log;
      undo = inside.undo;
      parts = map (part_now g.P.Part.shape g.P.Part.known) inside.parts.items;
      changed = map changed_by inside.changed.items;
      space = inside.space;
    } in
    let changed = map changed_by c.force_listed.new.changed.items in
    subst (λ (s : StoreNow). IsStored volume s state a
    → IsStored volume (record store { changed = changed }) state b) c.self.view_is
    (stored-forced g.B.Blocks.tells told a b c.force_listed.ensures.keeps store c.args.unit changed
    c.force_listed.ensures.others (c.force_listed.ensures.due told) volume state
    (g.met.B.Blocks.cur_may c.args.blocks.now told))

pub returns-clause-moments : goal.returns-clause-moments
returns-clause-moments g c told volume state stored =
    moments-keeps g.B.Blocks.tells told (g.B.Blocks.seen c.args.blocks.now)
    (g.B.Blocks.seen c.force_listed.new.blocks) c.force_listed.ensures.keeps volume c.args.self.now
    state stored

pub returns-clause-set : goal.returns-clause-set
returns-clause-set g c =
    let inside = c.self.inside in
    let a = g.B.Blocks.seen c.args.blocks.now in
    let b = g.B.Blocks.seen c.force_listed.new.blocks in
    let store : StoreNow = record {
      log = inside.log;
      undo = inside.undo;
      parts = map (part_now g.P.Part.shape g.P.Part.known) inside.parts.items;
      changed = map changed_by inside.changed.items;
      space = inside.space;
    } in
    let changed = map changed_by c.force_listed.new.changed.items in
    let keeps = c.force_listed.ensures.keeps in
    set-listed store b changed
    (subst (λ (count : ℕ). All (λ (by : ChangedBy). All (λ n. n < count) by.blocks) changed)
    (sym keeps.count_same) c.force_listed.ensures.each)
    (set-keeps g.B.Blocks.tells store a b keeps
    (subst (λ (s : StoreNow). IsSet s a) (sym c.self.view_is) c.requires.set))

pub returns-clause-nearer : goal.returns-clause-nearer
returns-clause-nearer g c some = on_ok_weaker c.force_listed.result
    (λ taken.
    let inside = c.self.inside in
    let store : StoreNow = store_of g.P.Part.shape g.P.Part.known inside.log inside.undo
    inside.parts.items inside.changed.items inside.space in
    let unit = c.args.unit in
    let changed = map changed_by c.force_listed.new.changed.items in
    subst (λ (s : StoreNow). left_for unit (record store { changed = changed }) < left_for unit s)
    c.self.view_is
    (waits-forced unit store changed
    (subst (λ (s : StoreNow). blocks_of unit s.changed ≢ []) (sym c.self.view_is) some) taken))
    c.force_listed.ensures.taken
