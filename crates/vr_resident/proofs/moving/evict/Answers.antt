use Rattle.std.proofs.Common.{rules, Result, Ok, Err, IsOk, is_err, true≢false, ◌≡◌, ℕ, Bool, true}
use Rattle.std.proofs.Common.{false, List, ◌∷◌, ◌++◌, sym, ap, ◌∙◌, subst, refl, slice_set, length}
use Rattle.lru.specs.LruCache.{LruCache, lru_cache}
use Rattle.vr_types.specs.Blocks.{Keeps, Puts}
use Rattle.vr_resident.specs.Held.{over}
use Rattle.vr_resident.specs.Places.{Entry}
use Rattle.vr_resident.specs.Cache.{IsKept, held_by, entries_of, with_entries, pool_of}
use Rattle.vr_resident.specs.declared.place.Place.{Place}
use Rattle.vr_resident.specs.declared.place.Place.TheVariants.{Bare, Empty, Taken}
use Rattle.vr_resident.specs.Seeing.{length-block_in}
use Rattle.vr_resident.proofs.Framing.{twice, has_room, block_below, buffer_is, left_any}
use Rattle.vr_resident.proofs.Framing.{failed_write}
use Rattle.vr_resident.proofs.moving.evict.Goals as goal

must : (b : Bool) → (b ≡ false → ⊥) → b ≡ true
must true not_false = refl
must false not_false = absurd (not_false refl)

is_ok_not_err : {A E : Type 0} (r : Result A E) → IsOk r → is_err r ≡ false
is_ok_not_err (Ok a) is = refl
is_ok_not_err (Err e) is = cc

pub block-requires : goal.block-requires
block-requires g c =
    let r = c.requires.taken in
    let it : r.place ≡ Taken c.in-Taken.block c.in-Taken.changed c.in-Taken.buffer =
    sym (c.change.ensures r.before r.after r.place r.split).0 ∙ c.in-Taken.is in
    let was : entries_of c.args.frames.now ≡ r.before
    ++ (c.args.number, Taken c.in-Taken.block c.in-Taken.changed c.in-Taken.buffer) ∷ r.after =
    r.split ∙ ap (λ (p : Place). r.before ++ (c.args.number, p) ∷ r.after) it in
    has_room (pool_of c.args.frames.now) c.args.frames.now.size c.in-Taken.buffer
    (buffer_is g.D.BlockDevice.tells (g.D.BlockDevice.seen c.args.device.now) c.args.frames.now
    c.args.number r.before r.after c.in-Taken.block c.in-Taken.changed c.in-Taken.buffer
    c.requires.kept was)

pub write_if-requires-clause-block : goal.write_if-requires-clause-block
write_if-requires-clause-block g c =
    let r = c.requires.taken in
    let it : r.place ≡ Taken c.in-Taken.block c.in-Taken.changed c.in-Taken.buffer =
    sym (c.change.ensures r.before r.after r.place r.split).0 ∙ c.in-Taken.is in
    let was : entries_of c.args.frames.now ≡ r.before
    ++ (c.args.number, Taken c.in-Taken.block c.in-Taken.changed c.in-Taken.buffer) ∷ r.after =
    r.split ∙ ap (λ (p : Place). r.before ++ (c.args.number, p) ∷ r.after) it in
    block_below g.D.BlockDevice.tells (g.D.BlockDevice.seen c.args.device.now) c.args.frames.now
    c.args.number r.before r.after c.in-Taken.block c.in-Taken.changed c.in-Taken.buffer
    c.requires.kept was

pub write_if-requires-clause-whole : goal.write_if-requires-clause-whole
write_if-requires-clause-whole g c = ap length c.block.ensures
    ∙ length-block_in c.args.frames.now.size c.in-Taken.buffer ∙ c.requires.kept.size_is

pub returns-in-Ok : goal.returns-in-Ok
returns-in-Ok g c =
    let frames = c.args.frames.now in
    let seen = g.D.BlockDevice.seen in
    let r = c.requires.taken in
    let t = c.in-Taken in
    let it : r.place ≡ Taken t.block t.changed t.buffer =
    sym (c.change.ensures r.before r.after r.place r.split).0 ∙ t.is in
    let was : entries_of frames ≡ r.before
    ++ (c.args.number, Taken t.block t.changed t.buffer) ∷ r.after = r.split
    ∙ ap (λ (p : Place). r.before ++ (c.args.number, p) ∷ r.after) it in
    let one : c.change.new.table ≡ lru_cache (r.before
    ++ (c.args.number, Bare) ∷ r.after) frames.table.cap =
    (c.change.ensures r.before r.after r.place r.split).1 in
    let two : c.change-in-Ok.new.table ≡ lru_cache (r.before
    ++ (c.args.number, Empty t.buffer) ∷ r.after) c.change.new.table.cap =
    (c.change-in-Ok.ensures r.before r.after Bare
    (ap (λ (x : LruCache ℕ Place). x.entries) one)).1 in
    let new : c.change-in-Ok.new.table ≡ lru_cache (r.before
    ++ (c.args.number, Empty t.buffer) ∷ r.after) frames.table.cap =
    twice frames c.args.number r.before r.after Bare (Empty t.buffer) c.change.new.table
    c.change-in-Ok.new.table one two in
    let bytes = c.block.ensures in
    let e = c.write_if.ensures in
    let both : IsKept g.D.BlockDevice.tells (seen c.write_if.new.device)
    (with_entries frames (r.before ++ (c.args.number, Empty t.buffer) ∷ r.after))
    × Keeps g.D.BlockDevice.tells (over (seen c.args.device.now) (held_by frames))
    (over (seen c.write_if.new.device) (held_by (with_entries frames (r.before
    ++ (c.args.number, Empty t.buffer) ∷ r.after)))) =
    left_any g.D.BlockDevice.tells (seen c.args.device.now) (seen c.write_if.new.device) frames
    c.args.number r.before r.after t.block t.changed t.buffer c.requires.kept was
    (λ unmarked. ap seen (e.still unmarked).1)
    (λ marked. subst
    (λ (b : List ℕ). Puts g.D.BlockDevice.tells t.block b (seen c.args.device.now)
    (seen c.write_if.new.device)) bytes (e.after marked))
    (λ marked told. c.in-Ok.ensures.written marked told
    ∙ ap (slice_set (seen c.args.device.now).cur t.block) bytes)
    (λ told. (g.met.D.BlockDevice.cur_may c.args.device.now told).length_is)
    (λ told image left. g.met.D.BlockDevice.images_may c.args.device.now image told left) in
    record {
      ok = record {
        before = r.before;
        after = r.after;
        block = t.block;
        changed =
            t.changed;
        buffer = t.buffer;
        was = was;
        is =
            ap (λ (x : LruCache ℕ Place). record frames { table = x }) new;
        none_after =
            r.none_after;
      };
      err = search rules;
      kept = subst (λ (x : LruCache ℕ Place). IsKept g.D.BlockDevice.tells
          (seen c.write_if.new.device) (record frames { table = x })) (sym new) both.0;
      after = subst
          (λ (x : LruCache ℕ Place). Keeps g.D.BlockDevice.tells
          (over (seen c.args.device.now) (held_by frames))
          (over (seen c.write_if.new.device) (held_by (record frames {
            table =
                x;
          })))) (sym new) both.1;
      fault = search rules;
    }

pub returns-in-Err : goal.returns-in-Err
returns-in-Err g c =
    let frames = c.args.frames.now in
    let seen = g.D.BlockDevice.seen in
    let r = c.requires.taken in
    let t = c.in-Taken in
    let it : r.place ≡ Taken t.block t.changed t.buffer =
    sym (c.change.ensures r.before r.after r.place r.split).0 ∙ t.is in
    let was : entries_of frames ≡ r.before
    ++ (c.args.number, Taken t.block t.changed t.buffer) ∷ r.after = r.split
    ∙ ap (λ (p : Place). r.before ++ (c.args.number, p) ∷ r.after) it in
    let one : c.change.new.table ≡ lru_cache (r.before
    ++ (c.args.number, Bare) ∷ r.after) frames.table.cap =
    (c.change.ensures r.before r.after r.place r.split).1 in
    let two : c.change-in-Err.new.table ≡ lru_cache (r.before
    ++ (c.args.number, Taken t.block t.changed t.buffer) ∷ r.after) c.change.new.table.cap =
    (c.change-in-Err.ensures r.before r.after Bare
    (ap (λ (x : LruCache ℕ Place). x.entries) one)).1 in
    let new : c.change-in-Err.new.table ≡ frames.table =
    twice frames c.args.number r.before r.after Bare (Taken t.block t.changed t.buffer)
    c.change.new.table c.change-in-Err.new.table one two
    ∙ ap (λ (es : List Entry). lru_cache es frames.table.cap) (sym was) in
    let e = c.write_if.ensures in
    let failed : is_err c.write_if.result ≡ true = ap is_err c.in-Err.is in
    let marked : t.changed ≡ true =
    must t.changed (λ unmarked. true≢false (sym failed
    ∙ is_ok_not_err c.write_if.result (e.still unmarked).0)) in
    let both : IsKept g.D.BlockDevice.tells (seen c.write_if.new.device) frames
    × Keeps g.D.BlockDevice.tells (over (seen c.args.device.now) (held_by frames))
    (over (seen c.write_if.new.device) (held_by frames)) =
    failed_write g.D.BlockDevice.tells (seen c.args.device.now) (seen c.write_if.new.device) frames
    c.args.number r.before r.after t.block t.buffer t.changed c.requires.kept was marked
    (subst (λ (b : List ℕ). Puts g.D.BlockDevice.tells t.block b (seen c.args.device.now)
    (seen c.write_if.new.device)) c.block.ensures (e.after marked)) in
    record {
      ok = search rules;
      err = ap (λ (x : LruCache ℕ Place). record frames { table = x }) new;
      kept = subst (λ (x : LruCache ℕ Place). IsKept g.D.BlockDevice.tells
          (seen c.write_if.new.device) (record frames { table = x })) (sym new) both.0;
      after = subst
          (λ (x : LruCache ℕ Place). Keeps g.D.BlockDevice.tells
          (over (seen c.args.device.now) (held_by frames))
          (over (seen c.write_if.new.device) (held_by (record frames {
            table =
                x;
          })))) (sym new) both.1;
      fault = search rules;
    }
