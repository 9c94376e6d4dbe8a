use Rattle.std.proofs.Common.{◌≡◌, ◌∷◌, ◌++◌, ℕ, refl, sym, ap, ◌∙◌, subst, inl}
use Rattle.lru.specs.LruCache.{LruCache}
use Rattle.vr_frames.specs.declared.shared.Pool.{Pool}
use Rattle.vr_frames.specs.Frames.{IsSeatOf, IsFrameOf}
use Rattle.vr_resident.specs.Cache.{IsSeated, KeepsSeat, entries_of}
use Rattle.vr_resident.specs.declared.place.Place.{Place}
use Rattle.vr_resident.specs.declared.place.Place.TheVariants.{Bare}
use Rattle.vr_resident.specs.declared.place.Sought.TheVariants as sought
use Rattle.vr_resident.proofs.Moves.{count_none}
use Rattle.vr_resident.proofs.Entries.{none_of, some_of}
use Rattle.vr_resident.proofs.Taking.{seated_got, seat_got, seated_none, if_none, bare_is}
use Rattle.vr_resident.proofs.room.take_frame.Goals as goal

pub returns-in_err-number-clause-none : goal.returns-in_err-number-clause-none
returns-in_err-number-clause-none c =
    if_none c.from_residual.result _ (
      refl,
      inl (count_none sought.Bare (entries_of c.args.frames.now)
          (none_of sought.Bare (entries_of c.args.frames.now) c.args.bare c.requires.last
          c.in_err-number.was)),
    )

pub returns-in_err-frame-clause-seated : goal.returns-in_err-frame-clause-seated
returns-in_err-frame-clause-seated c =
    seated_none c.args.frames.now c.take.new.seat c.in_err-frame.ensures.none.same_frames
    (subst (λ (p : Pool). IsSeatOf p c.take.new.seat) c.deref.ensures c.take.ensures.of_pool)
    c.requires.seated

pub returns-clause-got : goal.returns-clause-got
returns-clause-got c =
    let frames = c.args.frames.now in
    let r = some_of sought.Bare (entries_of frames) c.args.bare c.in_ok-number.number
    c.requires.last c.in_ok-number.was in
    let was : entries_of frames ≡ r.before ++ (c.in_ok-number.number, Bare) ∷ r.after = r.split
    ∙ ap (λ (p : Place). r.before
    ++ (c.in_ok-number.number, p) ∷ r.after) (bare_is r.place r.it_fits) in
    record {
      number = c.in_ok-number.number;
      before = r.before;
      after = r.after;
      frame = c.in_ok-frame.frame;
      was = was;
      is = ap (λ (x : LruCache ℕ Place). record frames {
        table = x;
        seat =
            c.take.new.seat;
      }) (c.change.ensures r.before r.after Bare was).1;
      of_pool = subst (λ (p : Pool). IsFrameOf p c.in_ok-frame.frame) c.deref.ensures
          c.in_ok-frame.ensures.frame;
      got = c.in_ok-frame.ensures.some;
    }

pub returns-clause-seated : goal.returns-clause-seated
returns-clause-seated c =
    let frames = c.args.frames.now in
    let r = some_of sought.Bare (entries_of frames) c.args.bare c.in_ok-number.number
    c.requires.last c.in_ok-number.was in
    let was : entries_of frames ≡ r.before ++ (c.in_ok-number.number, Bare) ∷ r.after = r.split
    ∙ ap (λ (p : Place). r.before
    ++ (c.in_ok-number.number, p) ∷ r.after) (bare_is r.place r.it_fits) in
    subst (λ (x : LruCache ℕ Place). IsSeated (record frames {
      table = x;
      seat =
          c.take.new.seat;
    })) (sym (c.change.ensures r.before r.after Bare was).1)
    (seated_got frames c.take.new.seat c.in_ok-frame.frame c.in_ok-number.number r.before r.after
    was c.in_ok-frame.ensures.some c.requires.seated
    (subst (λ (p : Pool). IsSeatOf p c.take.new.seat) c.deref.ensures c.take.ensures.of_pool)
    (subst (λ (p : Pool). IsFrameOf p c.in_ok-frame.frame) c.deref.ensures
    c.in_ok-frame.ensures.frame))

pub returns-clause-seat : goal.returns-clause-seat
returns-clause-seat c =
    let frames = c.args.frames.now in
    let r = some_of sought.Bare (entries_of frames) c.args.bare c.in_ok-number.number
    c.requires.last c.in_ok-number.was in
    let was : entries_of frames ≡ r.before ++ (c.in_ok-number.number, Bare) ∷ r.after = r.split
    ∙ ap (λ (p : Place). r.before
    ++ (c.in_ok-number.number, p) ∷ r.after) (bare_is r.place r.it_fits) in
    subst (λ (x : LruCache ℕ Place). KeepsSeat frames (record frames {
      table = x;
      seat =
          c.take.new.seat;
    })) (sym (c.change.ensures r.before r.after Bare was).1)
    (seat_got frames c.take.new.seat c.in_ok-frame.frame c.in_ok-number.number r.before r.after was
    c.in_ok-frame.ensures.some c.take.ensures.same c.take.ensures.parts)
