use Rattle.std.proofs.Common.{rules, Result, Ok, Err, is_err, ◌≡◌, OnOk, OnErr, ℕ, Bool, true}
use Rattle.std.proofs.Common.{IsTrue, List, ◌∷◌, ◌++◌, sym, ap, ◌∙◌, subst, refl, slice_set, length}
use Rattle.lru.specs.LruCache.{LruCache, lru_cache}
use Rattle.vr_types.specs.Seen.{Seen}
use Rattle.vr_types.specs.Blocks.{Keeps, Puts}
use Rattle.vr_resident.specs.Held.{over}
use Rattle.vr_resident.specs.Places.{Entry, block_in, fits}
use Rattle.vr_resident.specs.Cache.{IsKept, WritesAt, held_by, entries_of, pool_of}
use Rattle.vr_resident.specs.declared.place.Place.{Place}
use Rattle.vr_resident.specs.declared.place.Place.TheVariants.{Bare, Taken}
use Rattle.vr_resident.specs.declared.place.Sought.TheVariants.{Changed}
use Rattle.vr_resident.specs.declared.place.Buffer.{Buffer}
use Rattle.vr_resident.specs.declared.frames.Frames.{Frames}
use Rattle.vr_resident.specs.Seeing.{length-block_in}
use Rattle.vr_resident.proofs.Framing.{twice, has_room, block_below, buffer_is, failed_write}
use Rattle.vr_resident.proofs.Framing.{written_clean}
use Rattle.vr_resident.proofs.moving.write_out.Goals as goal

marked_by : (block : ℕ) (mark : Bool) (buffer : Buffer) (place : Place)
    → place ≡ Taken block mark buffer → fits Changed place ≡ true → mark ≡ true
marked_by block mark buffer place is it_fits = sym (ap (fits Changed) is) ∙ it_fits

pub block-requires : goal.block-requires
block-requires g c =
    let r = c.requires.changed in
    let t = c.in-Taken in
    let it : r.place ≡ Taken t.block t.field-1 t.buffer =
    sym (c.change.ensures r.before r.after r.place r.split).0 ∙ t.is in
    let was : entries_of c.args.frames.now ≡ r.before
    ++ (c.args.number, Taken t.block t.field-1 t.buffer) ∷ r.after = r.split
    ∙ ap (λ (p : Place). r.before ++ (c.args.number, p) ∷ r.after) it in
    has_room (pool_of c.args.frames.now) c.args.frames.now.size t.buffer
    (buffer_is g.D.BlockDevice.tells (g.D.BlockDevice.seen c.args.device.now) c.args.frames.now
    c.args.number r.before r.after t.block t.field-1 t.buffer c.requires.kept was)

pub write-result-requires-clause-block : goal.write-result-requires-clause-block
write-result-requires-clause-block g c =
    let r = c.requires.changed in
    let t = c.in-Taken in
    let it : r.place ≡ Taken t.block t.field-1 t.buffer =
    sym (c.change.ensures r.before r.after r.place r.split).0 ∙ t.is in
    let was : entries_of c.args.frames.now ≡ r.before
    ++ (c.args.number, Taken t.block t.field-1 t.buffer) ∷ r.after = r.split
    ∙ ap (λ (p : Place). r.before ++ (c.args.number, p) ∷ r.after) it in
    block_below g.D.BlockDevice.tells (g.D.BlockDevice.seen c.args.device.now) c.args.frames.now
    c.args.number r.before r.after t.block t.field-1 t.buffer c.requires.kept was

pub write-result-requires-clause-whole : goal.write-result-requires-clause-whole
write-result-requires-clause-whole g c = ap length c.block.ensures
    ∙ length-block_in c.args.frames.now.size c.in-Taken.buffer ∙ c.requires.kept.size_is

module _ (tells : Bool) (device now : Seen) (frames : Frames) (number : ℕ)
    (before after : List Entry) (block : ℕ) (buffer : Buffer) (kept : IsKept tells device frames)
    (was : entries_of frames ≡ before
    ++ (number, Taken block true buffer) ∷ after)
    (call : Puts tells block (block_in frames.size buffer) device now) (long : IsTrue tells
    → length device.cur ≡ device.count) where
  by_result : {E : Type 0} (result : Result (Unit {0}) E) (table : LruCache ℕ Place)
      → table ≡ lru_cache (before
      ++ (number, Taken block (is_err result) buffer) ∷ after) frames.table.cap
      → (IsTrue tells
      → OnOk result (now.cur ≡ slice_set device.cur block (block_in frames.size buffer)))
      → OnErr result (record frames { table = table } ≡ frames)
      × IsKept tells now (record frames { table = table })
      × Keeps tells (over device (held_by frames)) (over now (held_by (record frames {
        table =
            table;
      })))
  by_result (Ok u) table new written =
      let both = written_clean tells device now frames number before after block buffer true kept
      was refl call written long in (
        tt,
        subst (λ (x : LruCache ℕ Place). IsKept tells now (record frames {
          table =
              x;
        })) (sym new) both.0,
        subst (λ (x : LruCache ℕ Place). Keeps tells (over device (held_by frames))
            (over now (held_by (record frames { table = x })))) (sym new) both.1,
      )
  by_result (Err e) table new written =
      let both = failed_write tells device now frames number before after block buffer true kept was
      refl call in
      let same : table ≡ frames.table = new
      ∙ ap (λ (es : List Entry). lru_cache es frames.table.cap) (sym was) in (
        ap (λ (x : LruCache ℕ Place). record frames { table = x }) same,
        subst (λ (x : LruCache ℕ Place). IsKept tells now (record frames {
          table =
              x;
        })) (sym same) both.0,
        subst (λ (x : LruCache ℕ Place). Keeps tells (over device (held_by frames))
            (over now (held_by (record frames { table = x })))) (sym same) both.1,
      )

ok_any : {E : Type 0} (frames : Frames) (number block : ℕ) (buffer : Buffer)
    (result : Result (Unit {0}) E) (table : LruCache ℕ Place)
    → ((before after : List Entry) (place : Place) → entries_of frames ≡ before
    ++ (number, place) ∷ after → (place ≡ Taken block true buffer)
    × (table ≡ lru_cache (before
    ++ (number, Taken block (is_err result) buffer) ∷ after) frames.table.cap))
    → OnOk result (WritesAt number frames (record frames { table = table }))
ok_any frames number block buffer (Ok u) table any = λ before after place split. let a =
    any before after place split in
    record {
      block = block;
      buffer = buffer;
      was = a.0;
      is =
          ap (λ (x : LruCache ℕ Place). record frames { table = x }) a.1;
    }
ok_any frames number block buffer (Err e) table any = tt

pub returns : goal.returns
returns g c =
    let frames = c.args.frames.now in
    let seen = g.D.BlockDevice.seen in
    let r = c.requires.changed in
    let t = c.in-Taken in
    let it : r.place ≡ Taken t.block t.field-1 t.buffer =
    sym (c.change.ensures r.before r.after r.place r.split).0 ∙ t.is in
    let marked : t.field-1 ≡ true = marked_by t.block t.field-1 t.buffer r.place it r.it_fits in
    let was : entries_of frames ≡ r.before
    ++ (c.args.number, Taken t.block true t.buffer) ∷ r.after = r.split
    ∙ ap (λ (p : Place). r.before ++ (c.args.number, p) ∷ r.after) (it
    ∙ ap (λ (m : Bool). Taken t.block m t.buffer) marked) in
    let one : c.change.new.table ≡ lru_cache (r.before
    ++ (c.args.number, Bare) ∷ r.after) frames.table.cap =
    (c.change.ensures r.before r.after r.place r.split).1 in
    let mark : c.is_err.result ≡ is_err c.write-result.result = c.is_err.ensures.value in
    let two : c.change-in-Taken.new.table ≡ lru_cache (r.before
    ++ (c.args.number, Taken t.block (is_err c.write-result.result) t.buffer) ∷ r.after)
    c.change.new.table.cap =
    (c.change-in-Taken.ensures r.before r.after Bare
    (ap (λ (x : LruCache ℕ Place). x.entries) one)).1
    ∙ ap (λ (m : Bool). lru_cache (r.before
    ++ (c.args.number, Taken t.block m t.buffer) ∷ r.after) c.change.new.table.cap) mark in
    let new = twice frames c.args.number r.before r.after Bare
    (Taken t.block (is_err c.write-result.result) t.buffer) c.change.new.table
    c.change-in-Taken.new.table one two in
    let all = by_result g.D.BlockDevice.tells (seen c.args.device.now)
    (seen c.write-result.new.self) frames c.args.number r.before r.after t.block t.buffer
    c.requires.kept was
    (subst (λ (b : List ℕ). Puts g.D.BlockDevice.tells t.block b (seen c.args.device.now)
    (seen c.write-result.new.self)) c.block.ensures c.write-result.ensures.after)
    (λ told. (g.met.D.BlockDevice.cur_may c.args.device.now told).length_is)
    c.write-result.result c.change-in-Taken.new.table new
    (λ told. subst
    (λ (b : List ℕ). OnOk c.write-result.result
    ((seen c.write-result.new.self).cur ≡ slice_set (seen c.args.device.now).cur t.block b))
    c.block.ensures (c.write-result.ensures.written told)) in
    record {
      ok = ok_any frames c.args.number t.block t.buffer c.write-result.result
          c.change-in-Taken.new.table (λ before after place split.
          let at : place ≡ Taken t.block t.field-1 t.buffer =
          sym (c.change.ensures before after place split).0 ∙ t.is in
          let first : c.change.new.table ≡ lru_cache (before
          ++ (c.args.number, Bare) ∷ after) frames.table.cap =
          (c.change.ensures before after place split).1 in
          let second : c.change-in-Taken.new.table ≡ lru_cache (before
          ++ (c.args.number, Taken t.block (is_err c.write-result.result) t.buffer) ∷ after)
          c.change.new.table.cap =
          (c.change-in-Taken.ensures before after Bare
          (ap (λ (x : LruCache ℕ Place). x.entries) first)).1
          ∙ ap (λ (m : Bool). lru_cache (before
          ++ (c.args.number, Taken t.block m t.buffer) ∷ after) c.change.new.table.cap) mark in (
            at ∙ ap (λ (m : Bool). Taken t.block m t.buffer) marked,
            twice frames c.args.number
                before after Bare (Taken t.block (is_err c.write-result.result) t.buffer)
                c.change.new.table c.change-in-Taken.new.table first second,
          ));
      err = all.0;
      kept = all.1;
      after = all.2;
      fault = search rules;
    }
