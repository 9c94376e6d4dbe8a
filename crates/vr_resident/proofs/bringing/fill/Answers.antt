use Rattle.std.proofs.Common.{◌≡◌, ◌≤◌, ℕ, true, IsTrue, slice_set, ◌∷◌, ◌++◌, sym, ap, ◌∙◌, subst}
use Rattle.std.proofs.Common.{refl, length, arith, inl, inr, ⊎_elim}
use Rattle.lru.specs.LruCache.{LruCache, lru_cache}
use Rattle.vr_types.specs.Image.{Image, Block}
use Rattle.vr_types.specs.Seen.{Left}
use Rattle.vr_types.specs.Blocks.{Puts}
use Rattle.vr_resident.specs.Held.{Held, over, overlay}
use Rattle.vr_resident.specs.Places.{block_in, bytes_in, buffers_at}
use Rattle.vr_resident.specs.Cache.{IsKept, KeepsSeat, FillsIn, Enters, Hits, held_by, entries_of}
use Rattle.vr_resident.specs.Cache.{pool_of, put_as}
use Rattle.vr_resident.specs.declared.place.Place.{Place}
use Rattle.vr_resident.specs.declared.place.Place.TheVariants.{Bare, Empty, Taken}
use Rattle.vr_resident.proofs.Framing.{has_room, held_in}
use Rattle.vr_resident.proofs.Entering.{buffer_in, one_of, front, entered, entered_seat, hit}
use Rattle.vr_resident.proofs.Entering.{hit_seat, put_again, put_new, reads_again, reads_new}
use Rattle.vr_resident.proofs.bringing.fill.Goals as goal

pub fill-requires : goal.fill-requires
fill-requires g c =
    let frames = c.args.frames.now in
    let r = c.requires.place in
    let room : frames.size ≤ length (bytes_in c.lift-buffer.result) =
    has_room (pool_of frames) frames.size c.lift-buffer.result
    (buffer_in frames c.args.number r.before r.after r.place c.lift-buffer.result
    c.requires.kept.framed r.split (c.lift-buffer.ensures r.before r.after r.place r.split).0)
    in
    omega (arith, room, c.requires.whole, c.requires.kept.size_is)

pub returns : goal.returns
returns g c =
    let tells = g.D.BlockDevice.tells in
    let device = g.D.BlockDevice.seen c.args.device.now in
    let frames = c.args.frames.now in
    let n = c.args.n in
    let number = c.args.number in
    let r = c.requires.place in
    let b = c.lift-buffer.result in
    let d = c.fill.new.self in
    let same = c.fill.ensures.same in
    let lifted = c.lift-buffer.ensures r.before r.after r.place r.split in
    let one : c.lift-buffer.new.table ≡ lru_cache (r.before
    ++ (number, Bare) ∷ r.after) frames.table.cap = lifted.1 in
    let two : c.put_first.new.table ≡ lru_cache ((number, Taken n true d) ∷ (r.before
    ++ r.after)) c.lift-buffer.new.table.cap =
    c.put_first.ensures r.before r.after Bare (ap (λ (x : LruCache ℕ Place). x.entries) one) in
    let new : c.put_first.new.table ≡ lru_cache ((number, Taken n true d) ∷ (r.before
    ++ r.after)) frames.table.cap = two
    ∙ ap (λ (x : LruCache ℕ Place). lru_cache ((number, Taken n true d) ∷ (r.before
    ++ r.after)) x.cap) one in
    let filled : block_in frames.size d ≡ c.args.bytes.now =
    subst (λ (k : ℕ). block_in k d ≡ c.args.bytes.now) (c.requires.whole
    ∙ sym c.requires.kept.size_is) c.fill.ensures.block in
    let within : IsTrue tells → (image : Image) → device.images device.moment image
    → Left device image =
    λ told image left. g.met.D.BlockDevice.images_may c.args.device.now image told left in
    let as_put : held_in frames n true d ≡ put_as n c.args.bytes.now =
    ap (λ (x : Block). put_as n x) filled in
    let all : FillsIn n c.args.bytes.now frames
    (front frames n number r.before r.after b d true same)
    × IsKept tells device (front frames n number r.before r.after b d true same)
    × KeepsSeat frames (front frames n number r.before r.after b d true same)
    × Puts tells n c.args.bytes.now (over device (held_by frames))
    (over device (held_by (front frames n number r.before r.after b d true same)))
    × (overlay device.cur (held_by (front frames n number r.before r.after b d true same)) ≡
    slice_set (overlay device.cur (held_by frames)) n c.args.bytes.now) =
    ⊎_elim
    (λ e. let it : r.buffer ≡ b = one_of r.buffer b (sym (ap buffers_at e.0) ∙ lifted.0) in
    let was : entries_of frames ≡ r.before ++ (number, Empty b) ∷ r.after = r.split
    ∙ ap (λ (p : Place). r.before ++ (number, p) ∷ r.after) (e.0 ∙ ap Empty it) in
    let both = put_new tells device frames n number r.before r.after b d same c.requires.kept within
    c.args.bytes.now was c.requires.block e.1 filled in (
      inr (
        e.1,
        subst
            (λ (h : Held). Enters h frames (front frames n number r.before r.after b d true same))
            as_put (entered frames n number r.before r.after b d true same was),
      ),
      both.0,
      entered_seat
          frames n number r.before r.after b d true same was,
      both.1,
      reads_new tells device frames n
          number r.before r.after b d same c.requires.kept within c.args.bytes.now was filled,
    ))
    (λ t. let it : r.buffer ≡ b = one_of r.buffer b (sym (ap buffers_at t.1) ∙ lifted.0) in
    let was : entries_of frames ≡ r.before ++ (number, Taken n t.0 b) ∷ r.after = r.split
    ∙ ap (λ (p : Place). r.before ++ (number, p) ∷ r.after) (t.1 ∙ ap (Taken n t.0) it) in
    let both = put_again tells device frames n number r.before r.after b d same c.requires.kept
    within c.args.bytes.now t.0 was filled in (
      inl (
        held_in frames n t.0 b,
        refl,
        subst
            (λ (h : Held). Hits (held_in frames n t.0 b) h frames
            (front frames n number r.before r.after b d true same)) as_put
            (hit frames n number r.before r.after b d true same t.0 was),
      ),
      both.0,
      hit_seat frames n
          number r.before r.after b d true same t.0 was,
      both.1,
      reads_again tells device frames n
          number r.before r.after b d same c.requires.kept within c.args.bytes.now t.0 was filled,
    ))
    r.kind in
    record {
      filled = subst
          (λ (x : LruCache ℕ Place). FillsIn n c.args.bytes.now frames (record frames {
            table =
                x;
          })) (sym new) all.0;
      kept = subst (λ (x : LruCache ℕ Place). IsKept tells device (record frames {
        table =
            x;
      })) (sym new) all.1;
      seat = subst (λ (x : LruCache ℕ Place). KeepsSeat frames (record frames {
        table =
            x;
      })) (sym new) all.2;
      put = λ told. subst
          (λ (x : LruCache ℕ Place). overlay device.cur (held_by (record frames {
            table =
                x;
          })) ≡ slice_set (overlay device.cur (held_by frames)) n c.args.bytes.now) (sym new)
          all.4;
      after = subst
          (λ (x : LruCache ℕ Place). Puts tells n c.args.bytes.now (over device (held_by frames))
          (over device (held_by (record frames { table = x })))) (sym new) all.3;
    }
