use Rattle.std.proofs.Common.{◌≢◌, ◌≡◌, ℕ, List, ◌∷◌, ◌++◌, ap, ◌∙◌, subst, refl, inl, inr, ⊎_elim}
use Rattle.vr_resident.specs.Held.{Held, IsOther}
use Rattle.vr_resident.specs.Cache.{held_by, entries_of}
use Rattle.vr_resident.specs.declared.place.Place.{Place}
use Rattle.vr_resident.specs.declared.place.Place.TheVariants.{Taken}
use Rattle.vr_resident.specs.declared.place.Sought.TheVariants.{Block}
use Rattle.vr_resident.proofs.Entries.{none_of, some_of}
use Rattle.vr_resident.proofs.Framing.{held_in}
use Rattle.vr_resident.proofs.Taking.{empty_is}
use Rattle.vr_resident.proofs.Entering.{none_other, room_other, same_buffer}
use Rattle.vr_resident.proofs.Held.{all_at}
use Rattle.vr_resident.proofs.Entering.{taken_held, taken_is}
use Rattle.vr_resident.proofs.bringing.store.Goals as goal

-- a block that is between the others is held
there : (n : ℕ) (held xs ys : List Held) (k : Held) → held ≡ xs ++ k ∷ ys → k.block ≡ n
    → IsOther n held → ⊥
there n held xs ys k is same other =
    all_at (λ j. j.block ≢ n) k xs ys (subst (IsOther n) is other) same

pub fill-requires-clause-place : goal.fill-requires-clause-place
fill-requires-clause-place g c =
    let r = some_of (Block c.args.n) (entries_of c.args.frames.now) c.find_lasts-last.result.found
    c.in-Some.number c.find_lasts-last.ensures.found c.in-Some.is in
    let t = taken_is c.args.n r.place r.it_fits in
    record {
      place = r.place;
      before = r.before;
      after = r.after;
      split = r.split;
      buffer =
          t.1;
      kind = inr (t.0, t.2);
    }

pub returns-in-Some-clause-ok : goal.returns-in-Some-clause-ok
returns-in-Some-clause-ok g c =
    let frames = c.args.frames.now in
    let r = some_of (Block c.args.n) (entries_of c.args.frames.now) c.find_lasts-last.result.found
    c.in-Some.number c.find_lasts-last.ensures.found c.in-Some.is in
    let t = taken_is c.args.n r.place r.it_fits in
    let was : entries_of frames ≡ r.before ++ (c.in-Some.number, Taken c.args.n t.0 t.1) ∷ r.after =
    r.split ∙ ap (λ (p : Place). r.before ++ (c.in-Some.number, p) ∷ r.after) t.2 in
    ⊎_elim (λ hits. inl hits)
    (λ enters. absurd
    (there c.args.n (held_by frames) _ _ (held_in frames c.args.n t.0 t.1)
    (taken_held frames c.args.n c.in-Some.number r.before r.after t.1 t.1 t.0 (same_buffer t.1)
    t.0 was) refl enters.0))
    c.fill.ensures.filled

pub fill-requires-in-Ok-clause-place : goal.fill-requires-in-Ok-clause-place
fill-requires-in-Ok-clause-place g c =
    let frames = c.args.frames.now in
    let r = c.in-Ok.ensures.place in
    let e = empty_is r.place r.it_fits in
    let other = none_other frames.size c.args.n (entries_of frames)
    (none_of (Block c.args.n) (entries_of frames) c.find_lasts-last.result.found
    c.find_lasts-last.ensures.found c.in_default.is) in
    record {
      place = r.place;
      before = r.before;
      after = r.after;
      split = r.split;
      buffer =
          e.0;
      kind = inl (e.1, room_other c.args.n frames c.room.new.frames c.in-Ok.ensures.ok other);
    }

pub returns-in-Ok-clause-ok : goal.returns-in-Ok-clause-ok
returns-in-Ok-clause-ok g c =
    let frames = c.args.frames.now in
    let other = none_other frames.size c.args.n (entries_of frames)
    (none_of (Block c.args.n) (entries_of frames) c.find_lasts-last.result.found
    c.find_lasts-last.ensures.found c.in_default.is) in
    let mid = room_other c.args.n frames c.room.new.frames c.in-Ok.ensures.ok other in
    ⊎_elim (λ hits. let h = hits.2 in
    absurd (there c.args.n (held_by c.room.new.frames) h.between.before h.between.after hits.0
    h.between.with_it hits.1 mid))
    (λ enters. inr (record {
      not_held = other;
      with_room = c.room.new.frames;
      room =
          c.in-Ok.ensures.ok;
      enters = enters.1;
    }))
    c.fill-in-Ok.ensures.filled
