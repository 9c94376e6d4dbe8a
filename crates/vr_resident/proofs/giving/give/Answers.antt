use Rattle.std.proofs.Common.{◌∷◌, [], ℕ, true≢false, sym, ap, ◌∙◌, subst}
use Rattle.lru.specs.LruCache.{LruCache}
use Rattle.vr_frames.specs.declared.shared.Pool.{Pool}
use Rattle.vr_frames.specs.Frames.{IsSeatOf, IsFrameOf}
use Rattle.vr_resident.specs.Places.{is_shared}
use Rattle.vr_resident.specs.Cache.{IsSeated, KeepsSeat, entries_of}
use Rattle.vr_resident.specs.declared.place.Buffer.{Buffer}
use Rattle.vr_resident.specs.declared.place.Place.{Place}
use Rattle.vr_resident.proofs.Entering.{one_of}
use Rattle.vr_resident.proofs.Returning.{shared_is, shared_has, frame_of, frame_held, seated_back}
use Rattle.vr_resident.proofs.Returning.{seat_back}
use Rattle.vr_resident.proofs.giving.give.Goals as goal

pub lift-requires : goal.lift-requires
lift-requires c = shared_has (entries_of c.args.frames.now) c.args.number c.requires.shared

pub unreachable-requires : goal.unreachable-requires
unreachable-requires c =
    let r = c.requires.shared in
    let s = shared_is r.place r.it_fits in
    let it = one_of s.0 c.lift.result (sym s.1
    ∙ (c.lift.ensures r.before r.after r.place r.split).0) in
    true≢false (sym s.2 ∙ (ap is_shared it ∙ ap is_shared c.in-Own.is))

pub give-requires-clause-seat : goal.give-requires-clause-seat
give-requires-clause-seat c =
    subst (λ (p : Pool). IsSeatOf p c.args.frames.now.seat) (sym c.deref.ensures)
    c.requires.seated.seat_of

pub give-requires-clause-frame : goal.give-requires-clause-frame
give-requires-clause-frame c =
    let frames = c.args.frames.now in
    let r = c.requires.shared in
    subst (λ (p : Pool). IsFrameOf p c.in-Shared.frame) (sym c.deref.ensures)
    (frame_of frames frames.seat c.in-Shared.frame c.args.number r.before r.after r.place r.split
    ((c.lift.ensures r.before r.after r.place r.split).0
    ∙ ap (λ (b : Buffer). b ∷ []) c.in-Shared.is) c.requires.seated)

pub give-requires-clause-held : goal.give-requires-clause-held
give-requires-clause-held c =
    let frames = c.args.frames.now in
    let r = c.requires.shared in
    frame_held frames frames.seat c.in-Shared.frame c.args.number r.before r.after r.place r.split
    ((c.lift.ensures r.before r.after r.place r.split).0
    ∙ ap (λ (b : Buffer). b ∷ []) c.in-Shared.is) c.requires.seated

pub returns : goal.returns
returns c =
    let frames = c.args.frames.now in
    let r = c.requires.shared in
    let lifted = c.lift.ensures r.before r.after r.place r.split in
    let has = lifted.0 ∙ ap (λ (b : Buffer). b ∷ []) c.in-Shared.is in
    record {
      given = λ before after place split. (c.lift.ensures before after place split).1;
      claims = c.give.ensures.given.same_claims;
      seated = subst (λ (x : LruCache ℕ Place). IsSeated (record frames {
        table = x;
        seat =
            c.give.new.seat;
      })) (sym lifted.1)
          (seated_back frames c.give.new.seat c.in-Shared.frame c.args.number r.before r.after
          r.place r.split has c.requires.seated c.give.ensures.given
          (subst (λ (p : Pool). IsSeatOf p c.give.new.seat) c.deref.ensures
          c.give.ensures.of_pool));
      seat = subst (λ (x : LruCache ℕ Place). KeepsSeat frames (record frames {
        table = x;
        seat =
            c.give.new.seat;
      })) (sym lifted.1)
          (seat_back frames c.give.new.seat c.in-Shared.frame c.args.number r.before r.after r.place
          r.split has c.requires.seated c.give.ensures.given c.give.ensures.same
          c.give.ensures.parts);
    }
