use Rattle.std.proofs.Common.{◌≢◌, None, ap, map, subst, sym}
use Rattle.vr_store.specs.Store.{IsSet, IsStored, StoreNow, changed_by, part_among, part_now}
use Rattle.vr_store.proofs.Forgotten.{IsForgotten, forgotten}
use Rattle.vr_store.proofs.store.Store.keep_places.Goals as goal

pub returns : goal.returns
returns g c =
    let now = g.B.Blocks.seen c.args.blocks.now in
    let number = c.args.number.0 in
    let inside = c.self.inside in
    let seen = part_now g.P.Part.shape g.P.Part.known in
    let parts = map seen c.keep_at.new.parts.items in
    let store : StoreNow = record {
      log = inside.log;
      undo = inside.undo;
      parts = map seen inside.parts.items;
      changed = map changed_by inside.changed.items;
      space = inside.space;
    } in
    let is : IsForgotten c.args.self.now number parts now =
    subst (λ (s : StoreNow). IsForgotten s number parts now) c.self.view_is
    (forgotten store number parts now
    (subst (λ (s : StoreNow). part_among s.parts number ≢ None) (sym c.self.view_is)
    c.requires.part)
    c.keep_at.ensures.forgets) in
    let rest = ap (λ (s : StoreNow). record s { parts = parts }) c.self.view_is in
    record {
      room = c.keep_at.ensures.room;
      set = λ set. subst (λ (s : StoreNow). IsSet s now) (sym rest) (is.set set);
      stored = λ volume state stored.
          subst (λ (s : StoreNow). IsStored volume s state now) (sym rest)
          (is.stored volume state stored);
      parts = is.only;
      rest = rest;
    }
