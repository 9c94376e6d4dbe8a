use Rattle.std.proofs.Common.{◌≡◌, ◌≤◌, ◌∷◌, ◌++◌, sym, ap, ◌∙◌, subst, ℕ, length, arith}
use Rattle.lru.specs.LruCache.{LruCache}
use Rattle.vr_resident.specs.Cache.{IsSeated, KeepsSeat, entries_of}
use Rattle.vr_resident.specs.Making.{IsTaken}
use Rattle.vr_resident.specs.declared.place.Place.{Place}
use Rattle.vr_resident.specs.declared.place.Place.TheVariants.{Bare}
use Rattle.vr_resident.proofs.Taking.{bare_is}
use Rattle.vr_resident.proofs.Beginning.{some_bare, is_last, own_seated, own_seat, own_taken}
use Rattle.vr_resident.proofs.making.own_one.Goals as goal

pub unwrap-number-requires : goal.unwrap-number-requires
unwrap-number-requires c =
    some_bare c.args.frames.now c.last_fit.result c.requires.bare c.last_fit.ensures

pub returns : goal.returns
returns c =
    let frames = c.args.frames.now in
    let number = c.unwrap-number.result in
    let r = is_last frames c.last_fit.result number c.unwrap-number.ensures c.last_fit.ensures in
    let was : entries_of frames ≡ r.before ++ (number, Bare) ∷ r.after = r.split
    ∙ ap (λ (p : Place). r.before ++ (number, p) ∷ r.after) (bare_is r.place r.it_fits) in
    let new = (c.change.ensures r.before r.after Bare was).1 in
    let room : frames.size ≤ length c.in_ok-bytes.bytes.items =
    omega (arith, c.in_ok-bytes.ensures.len) in
    record {
      all = subst (λ (x : LruCache ℕ Place). IsTaken 1 frames (record frames {
        table =
            x;
      })) (sym new) (own_taken frames number r.before r.after c.in_ok-bytes.bytes was);
      seated = subst (λ (x : LruCache ℕ Place). IsSeated (record frames {
        table =
            x;
      })) (sym new)
          (own_seated frames number r.before r.after c.in_ok-bytes.bytes was c.requires.seated
          room);
      seat = subst (λ (x : LruCache ℕ Place). KeepsSeat frames (record frames {
        table =
            x;
      })) (sym new) (own_seat frames number r.before r.after c.in_ok-bytes.bytes was);
    }
