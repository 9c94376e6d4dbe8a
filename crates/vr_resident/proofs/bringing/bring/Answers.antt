use Rattle.std.proofs.Common.{rules, ◌≡◌, ℕ, ◌∷◌, ◌++◌, sym, ap, ◌∙◌, subst, refl, inl}
use Rattle.lru.specs.LruCache.{LruCache, lru_cache}
use Rattle.vr_types.specs.Blocks.{Keeps}
use Rattle.vr_resident.specs.Held.{over}
use Rattle.vr_resident.specs.Cache.{IsKept, KeepsSeat, GetsBlock, IsFirst, held_by, entries_of}
use Rattle.vr_resident.specs.declared.place.Place.{Place}
use Rattle.vr_resident.specs.declared.place.Place.TheVariants.{Taken}
use Rattle.vr_resident.specs.declared.place.Sought.TheVariants.{Block}
use Rattle.vr_resident.proofs.Entries.{none_of, some_of}
use Rattle.vr_resident.proofs.Framing.{held_in}
use Rattle.vr_resident.proofs.Entering.{none_other, same_buffer, is_first, hit, hit_seat, used_kept}
use Rattle.vr_resident.proofs.Entering.{taken_is}
use Rattle.vr_resident.proofs.bringing.bring.Goals as goal

pub miss-requires-clause-not_held : goal.miss-requires-clause-not_held
miss-requires-clause-not_held g c =
    let entries = entries_of c.args.frames.now in
    none_other c.args.frames.now.size c.args.n entries
    (none_of (Block c.args.n) entries c.find_lasts-last.result.found c.find_lasts-last.ensures.found
    c.in-None.is)

pub returns-in-Some : goal.returns-in-Some
returns-in-Some g c =
    let tells = g.D.BlockDevice.tells in
    let device = g.D.BlockDevice.seen c.args.device.now in
    let frames = c.args.frames.now in
    let r = some_of (Block c.args.n) (entries_of frames) c.find_lasts-last.result.found
    c.in-Some.number c.find_lasts-last.ensures.found c.in-Some.is in
    let t = taken_is c.args.n r.place r.it_fits in
    let mark = t.0 in
    let b = t.1 in
    let was : entries_of frames ≡ r.before ++ (c.in-Some.number, Taken c.args.n t.0 t.1) ∷ r.after =
    r.split ∙ ap (λ (p : Place). r.before ++ (c.in-Some.number, p) ∷ r.after) t.2 in
    let new : c.use_place.new.table ≡ lru_cache
    ((c.in-Some.number, Taken c.args.n t.0 t.1) ∷ (r.before ++ r.after)) frames.table.cap =
    c.use_place.ensures r.before r.after (Taken c.args.n t.0 t.1) was in
    let both = used_kept tells device frames c.args.n c.in-Some.number r.before r.after t.1 t.1
    (same_buffer t.1) c.requires.kept
    (λ told image left. g.met.D.BlockDevice.images_may c.args.device.now image told left) t.0
    was in
    record {
      ok = subst (λ (x : LruCache ℕ Place). GetsBlock c.args.n frames (record frames {
        table =
            x;
      })) (sym new) (
        held_in frames c.args.n t.0 t.1,
        refl,
        inl
            (hit frames c.args.n c.in-Some.number r.before r.after t.1 t.1 t.0 (same_buffer t.1)
            t.0 was),
      );
      first = subst (λ (x : LruCache ℕ Place). IsFirst c.args.n (record frames {
        table =
            x;
      })) (sym new)
          (is_first frames c.args.n c.in-Some.number r.before r.after t.1 t.1 t.0
          (same_buffer t.1));
      unread = search rules;
      unwritten = search rules;
      kept = subst (λ (x : LruCache ℕ Place). IsKept tells device (record frames {
        table =
            x;
      })) (sym new) both.0;
      seat = subst (λ (x : LruCache ℕ Place). KeepsSeat frames (record frames {
        table =
            x;
      })) (sym new)
          (hit_seat frames c.args.n c.in-Some.number r.before r.after t.1 t.1 t.0 (same_buffer t.1)
          t.0 was);
      after = subst
          (λ (x : LruCache ℕ Place). Keeps tells (over device (held_by frames))
          (over device (held_by (record frames { table = x })))) (sym new) both.1;
      cause = search rules;
    }
