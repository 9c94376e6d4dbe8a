use Rattle.std.proofs.Common.{rules, ◌≡◌, ℕ, false, ◌∷◌, ◌++◌, sym, ap, ◌∙◌, subst, refl}
use Rattle.lru.specs.LruCache.{LruCache, lru_cache}
use Rattle.vr_types.specs.Blocks.{Keeps}
use Rattle.vr_resident.specs.Held.{over}
use Rattle.vr_resident.specs.Cache.{IsKept, KeepsSeat, ReadsIn, IsSameCache, held_by, entries_of}
use Rattle.vr_resident.specs.Cache.{pool_of}
use Rattle.vr_resident.specs.declared.place.Buffer.{Buffer}
use Rattle.vr_resident.specs.declared.place.Place.{Place}
use Rattle.vr_resident.specs.declared.place.Place.TheVariants.{Bare, Empty, Taken}
use Rattle.vr_resident.proofs.Framing.{twice, has_room, held_in}
use Rattle.vr_resident.proofs.Taking.{empty_is}
use Rattle.vr_resident.proofs.Entering.{buffer_in, one_of, is_first, entered, entered_seat}
use Rattle.vr_resident.proofs.Entering.{refilled_cache, refilled_seat, read_kept, unread_kept}
use Rattle.vr_resident.proofs.bringing.read_in.Goals as goal

pub read-requires-clause-room : goal.read-requires-clause-room
read-requires-clause-room g c =
    let frames = c.args.frames.now in
    let r = c.requires.empty in
    has_room (pool_of frames) frames.size c.lift-buffer.result
    (buffer_in frames c.args.number r.before r.after r.place c.lift-buffer.result
    c.requires.kept.framed r.split (c.lift-buffer.ensures r.before r.after r.place r.split).0)

pub returns-in-Ok : goal.returns-in-Ok
returns-in-Ok g c =
    let tells = g.D.BlockDevice.tells in
    let seen = g.D.BlockDevice.seen in
    let frames = c.args.frames.now in
    let r = c.requires.empty in
    let b = c.lift-buffer.result in
    let e = empty_is r.place r.it_fits in
    let was0 : entries_of frames ≡ r.before ++ (c.args.number, Empty e.0) ∷ r.after = r.split
    ∙ ap (λ (p : Place). r.before ++ (c.args.number, p) ∷ r.after) e.1 in
    let it : e.0 ≡ b = one_of e.0 b (c.lift-buffer.ensures r.before r.after (Empty e.0) was0).0 in
    let was : entries_of frames ≡ r.before ++ (c.args.number, Empty b) ∷ r.after = was0
    ∙ ap (λ (x : Buffer). r.before ++ (c.args.number, Empty x) ∷ r.after) it in
    let one : c.lift-buffer.new.table ≡ lru_cache (r.before
    ++ (c.args.number, Bare) ∷ r.after) frames.table.cap =
    (c.lift-buffer.ensures r.before r.after r.place r.split).1 in
    let two : c.put_first.new.table ≡ lru_cache
    ((c.args.number, Taken c.args.n false c.read.new.self) ∷ (r.before
    ++ r.after)) c.lift-buffer.new.table.cap =
    c.put_first.ensures r.before r.after Bare (ap (λ (x : LruCache ℕ Place). x.entries) one) in
    let new : c.put_first.new.table ≡ lru_cache
    ((c.args.number, Taken c.args.n false c.read.new.self) ∷ (r.before
    ++ r.after)) frames.table.cap = two
    ∙ ap (λ (x : LruCache ℕ Place). lru_cache
    ((c.args.number, Taken c.args.n false c.read.new.self) ∷ (r.before
    ++ r.after)) x.cap) one in
    let same = c.read.ensures.same in
    let both = read_kept tells (seen c.args.device.now) (seen c.read.new.device) frames c.args.n
    c.args.number r.before r.after b c.read.new.self same c.requires.kept c.read.ensures.after
    was c.requires.block c.requires.not_held c.in-Ok.ensures.bytes
    (λ told image left. g.met.D.BlockDevice.images_may c.read.new.device image told left) in
    record {
      ok = subst (λ (x : LruCache ℕ Place). ReadsIn c.args.n frames (record frames {
        table =
            x;
      })) (sym new) (record {
        h = held_in frames c.args.n false c.read.new.self;
        it_is = refl;
        unchanged = refl;
        not_held = c.requires.not_held;
        enters = entered frames c.args.n c.args.number r.before r.after b c.read.new.self false same
            was;
        first = is_first frames c.args.n c.args.number r.before r.after b c.read.new.self false
            same;
      });
      err = search rules;
      kept = subst (λ (x : LruCache ℕ Place). IsKept tells (seen c.read.new.device)
          (record frames { table = x })) (sym new) both.0;
      seat = subst (λ (x : LruCache ℕ Place). KeepsSeat frames (record frames {
        table =
            x;
      })) (sym new)
          (entered_seat frames c.args.n c.args.number r.before r.after b c.read.new.self false same
          was);
      after = subst
          (λ (x : LruCache ℕ Place). Keeps tells (over (seen c.args.device.now) (held_by frames))
          (over (seen c.read.new.device) (held_by (record frames { table = x })))) (sym new) both.1;
      fault = search rules;
    }

pub returns-in-Err : goal.returns-in-Err
returns-in-Err g c =
    let tells = g.D.BlockDevice.tells in
    let seen = g.D.BlockDevice.seen in
    let frames = c.args.frames.now in
    let r = c.requires.empty in
    let b = c.lift-buffer.result in
    let e = empty_is r.place r.it_fits in
    let was0 : entries_of frames ≡ r.before ++ (c.args.number, Empty e.0) ∷ r.after = r.split
    ∙ ap (λ (p : Place). r.before ++ (c.args.number, p) ∷ r.after) e.1 in
    let it : e.0 ≡ b = one_of e.0 b (c.lift-buffer.ensures r.before r.after (Empty e.0) was0).0 in
    let was : entries_of frames ≡ r.before ++ (c.args.number, Empty b) ∷ r.after = was0
    ∙ ap (λ (x : Buffer). r.before ++ (c.args.number, Empty x) ∷ r.after) it in
    let one : c.lift-buffer.new.table ≡ lru_cache (r.before
    ++ (c.args.number, Bare) ∷ r.after) frames.table.cap =
    (c.lift-buffer.ensures r.before r.after r.place r.split).1 in
    let two : c.change.new.table ≡ lru_cache (r.before
    ++ (c.args.number, Empty c.read.new.self) ∷ r.after) c.lift-buffer.new.table.cap =
    (c.change.ensures r.before r.after Bare (ap (λ (x : LruCache ℕ Place). x.entries) one)).1 in
    let new : c.change.new.table ≡ lru_cache (r.before
    ++ (c.args.number, Empty c.read.new.self) ∷ r.after) frames.table.cap =
    twice frames c.args.number r.before r.after Bare (Empty c.read.new.self)
    c.lift-buffer.new.table c.change.new.table one two in
    let same = c.read.ensures.same in
    let both = unread_kept tells (seen c.args.device.now) (seen c.read.new.device) frames c.args.n
    c.args.number r.before r.after b c.read.new.self same c.requires.kept c.read.ensures.after
    was in
    record {
      ok = search rules;
      err = subst (λ (x : LruCache ℕ Place). IsSameCache frames (record frames {
        table =
            x;
      })) (sym new)
          (refilled_cache frames c.args.number r.before r.after b c.read.new.self same was);
      kept = subst (λ (x : LruCache ℕ Place). IsKept tells (seen c.read.new.device)
          (record frames { table = x })) (sym new) both.0;
      seat = subst (λ (x : LruCache ℕ Place). KeepsSeat frames (record frames {
        table =
            x;
      })) (sym new)
          (refilled_seat frames c.args.number r.before r.after b c.read.new.self same was);
      after = subst
          (λ (x : LruCache ℕ Place). Keeps tells (over (seen c.args.device.now) (held_by frames))
          (over (seen c.read.new.device) (held_by (record frames { table = x })))) (sym new) both.1;
      fault = search rules;
    }
