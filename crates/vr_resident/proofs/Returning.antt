-- What a frame that goes back to the pool leaves.
use Rattle.std.proofs.Common.{◌≡◌, ◌+◌, ◌-◌, ◌<◌, ◌≤◌, ◌&&◌, ℕ, Bool, true, false, cond, List, []}
use Rattle.std.proofs.Common.{◌∷◌, ◌++◌, refl, sym, ap, ◌∙◌, subst, arith, length, true≢false}
use Rattle.std.proofs.Common.{nat_lt, le-ltb}
use Rattle.std.specs.List.{AllByRecursion, flat_map}
use Rattle.std.proofs.lemmas.List.Concat.{flat_map-append}
use Rattle.std.proofs.lemmas.List.{length-append}
use Rattle.std.proofs.lemmas.List.Sums.{sum_by-cons, sum_by-append}
use Rattle.lru.specs.LruCache.{LruCache}
use Rattle.vr_frames.specs.Frames.{number_of, frames_of, parts_of, IsFrameOf, IsSeatOf, IsSameSeat}
use Rattle.vr_frames.specs.Frames.{Returns}
use Rattle.vr_frames.specs.Keeper.{others_of}
use Rattle.vr_frames.specs.Views.{times}
use Rattle.vr_frames.specs.declared.frame.Frame.{Frame}
use Rattle.vr_frames.specs.declared.seat.FrameSeat.{FrameSeat}
use Rattle.vr_frames.proofs.CallerLemmas.{OneMore, one_more-between, holds-kept}
use Rattle.vr_frames.proofs.CallerLemmas.{holds_each-returned, others_of-returned, others_of-none}
use Rattle.vr_resident.specs.Table.{IsFit, HasBuffer}
use Rattle.vr_resident.specs.Places.{Entry, numbers_in, is_shared, IsBufferOf, buffers_at}
use Rattle.vr_resident.specs.Places.{buffers_of, numbers_of, fits, is_at, AreNone, IsLast, count_of}
use Rattle.vr_resident.specs.Places.{gave}
use Rattle.vr_resident.specs.Cache.{entries_of, pool_of, reseated, IsSeated, KeepsSeat, others}
use Rattle.vr_resident.specs.Cache.{GivesAt}
use Rattle.vr_resident.specs.declared.place.Buffer.{Buffer}
use Rattle.vr_resident.specs.declared.place.Buffer.TheVariants.{Own, Shared}
use Rattle.vr_resident.specs.declared.place.Place.{Place}
use Rattle.vr_resident.specs.declared.place.Place.TheVariants.{Bare, Empty, Taken}
use Rattle.vr_resident.specs.declared.place.Sought.TheVariants as sought
use Rattle.vr_resident.specs.declared.frames.Frames.{Frames}
use Rattle.vr_resident.proofs.Framing.{buffers_split}
use Rattle.vr_resident.proofs.Moves.{count_split}
use Rattle.vr_resident.proofs.Written.{last_at, last_one_more, count_last}

-- the buffer of a place that has a frame of the pool
pub shared_is : (place : Place) → fits sought.Shared place ≡ true → (buffer : Buffer)
    × (buffers_at place ≡ buffer ∷ []) × (is_shared buffer ≡ true)
shared_is Bare is = cc
shared_is (Empty buffer) is = (buffer, refl, is)
shared_is (Taken block changed buffer) is = (buffer, refl, is)

pub shared_has : (entries : List Entry) (number : ℕ) → IsFit sought.Shared entries number
    → HasBuffer entries number
shared_has entries number fit =
    record {
      place = fit.place;
      before = fit.before;
      after = fit.after;
      split = fit.split;
      has =
          let s = shared_is fit.place fit.it_fits in omega (arith, ap length s.1);
    }

and_right : (a b : Bool) → (a && b) ≡ true → b ≡ true
and_right true b is = is
and_right false b is = absurd (true≢false (sym is))

pub free_shared : (place : Place) → fits sought.Free place ≡ true → fits sought.Shared place ≡ true
free_shared Bare is = cc
free_shared (Empty buffer) is = is
free_shared (Taken block true buffer) is = absurd (true≢false (sym is))
free_shared (Taken block false buffer) is = is

pub fit_of_free : (entries : List Entry) (number : ℕ) → IsLast sought.Free entries number
    → IsFit sought.Shared entries number
fit_of_free entries number last =
    record {
      place = last.place;
      before = last.before;
      after = last.after;
      split =
          last.split;
      it_fits = free_shared last.place last.it_fits;
    }

remove_all : (P : Buffer → Type 0) (xs : List Buffer) (b : Buffer) (ys : List Buffer)
    → AllByRecursion P (xs ++ b ∷ ys) → AllByRecursion P (xs ++ ys) × P b
remove_all P [] b ys all = (all.1, all.0)
remove_all P (x ∷ xs) b ys all = let on = remove_all P xs b ys all.1 in ((all.0, on.0), on.1)

module _ (frames : Frames) (seat : FrameSeat) (frame : Frame) (number : ℕ)
    (before after : List Entry) (place : Place)
    (was : entries_of frames ≡ before
    ++ (number, place) ∷ after) (has : buffers_at place ≡ Shared frame ∷ [])
    (seated : IsSeated frames) where
  abbrev pub without_frame : Frames
  without_frame = reseated frames (before ++ (number, Bare) ∷ after) seat

  old_buffers : buffers_of (entries_of frames) ≡ buffers_of before
      ++ Shared frame ∷ buffers_of after
  old_buffers = ap buffers_of was
      ∙ (buffers_split before (number, place) after
      ∙ ap (λ (bs : List Buffer). buffers_of before ++ (bs ++ buffers_of after)) has)

  new_buffers : buffers_of (before ++ (number, Bare) ∷ after) ≡ buffers_of before
      ++ buffers_of after
  new_buffers = buffers_split before (number, Bare) after

  old_numbers : numbers_of (entries_of frames) ≡ flat_map numbers_in (buffers_of before)
      ++ number_of frame ∷ flat_map numbers_in (buffers_of after)
  old_numbers = ap (flat_map numbers_in) old_buffers
      ∙ flat_map-append numbers_in (buffers_of before) (Shared frame ∷ buffers_of after)

  new_numbers : numbers_of (before
      ++ (number, Bare) ∷ after) ≡ flat_map numbers_in (buffers_of before)
      ++ flat_map numbers_in (buffers_of after)
  new_numbers = ap (flat_map numbers_in) new_buffers
      ∙ flat_map-append numbers_in (buffers_of before) (buffers_of after)

  one_more : OneMore (number_of frame) (numbers_of (before
      ++ (number, Bare) ∷ after)) (numbers_of (entries_of frames))
  one_more = subst (λ (ns : List ℕ). OneMore (number_of frame) (numbers_of (before
      ++ (number, Bare) ∷ after)) ns) (sym old_numbers)
      (subst (λ (ns : List ℕ). OneMore (number_of frame) ns
      (flat_map numbers_in (buffers_of before)
      ++ number_of frame ∷ flat_map numbers_in (buffers_of after))) (sym new_numbers)
      (one_more-between (number_of frame) (flat_map numbers_in (buffers_of before))
      (flat_map numbers_in (buffers_of after))))

  all_of : AllByRecursion (IsBufferOf (pool_of frames) frames.size) (buffers_of before
      ++ Shared frame ∷ buffers_of after)
  all_of = subst (AllByRecursion (IsBufferOf (pool_of frames) frames.size)) old_buffers
      seated.each_is

  pub frame_of : IsFrameOf (pool_of frames) frame
  frame_of = (remove_all (IsBufferOf (pool_of frames) frames.size) (buffers_of before)
      (Shared frame) (buffers_of after) all_of).1.0

  pub frame_held : 0 < times (number_of frame) (frames_of frames.seat)
  frame_held = holds-kept frames.seat seat frame (numbers_of (before
      ++ (number, Bare) ∷ after)) (numbers_of (entries_of frames)) seated.holds one_more

  pub one_shorter : length (buffers_of (before
      ++ (number, Bare) ∷ after)) + 1 ≡ length (buffers_of (entries_of frames))
  one_shorter = omega (
    arith,
    ap length old_buffers,
    ap length new_buffers,
    length-append (buffers_of before)
        (buffers_of after),
    length-append (buffers_of before) (Shared frame ∷ buffers_of after),
  )

  module _ (back : Returns frames.seat frame seat) where
    pub seated_back : IsSeatOf (pool_of frames) seat → IsSeated without_frame
    seated_back seat_of = record {
      cap_is = seated.cap_is;
      long = seated.long;
      seat_of = seat_of;
      each_is = subst (AllByRecursion (IsBufferOf (pool_of frames) frames.size)) (sym new_buffers)
          (remove_all (IsBufferOf (pool_of frames) frames.size) (buffers_of before) (Shared frame)
          (buffers_of after) all_of).0;
      holds = holds_each-returned frames.seat seat frame (numbers_of (before
          ++ (number, Bare) ∷ after)) (numbers_of (entries_of frames)) back seated.holds one_more;
    }

    pub seat_back : IsSameSeat frames.seat seat → parts_of seat ≡ parts_of frames.seat
        → KeepsSeat frames without_frame
    seat_back same parts = record {
      pool_same = refl;
      size_same = refl;
      same = same;
      parts = parts;
      others_same = others_of-returned frames.seat seat frame (numbers_of (before
          ++ (number, Bare) ∷ after)) (numbers_of (entries_of frames)) back seated.holds one_more;
    }

-- where no place has a frame of the pool, none is kept
no_numbers : (entries : List Entry) → AreNone sought.Shared entries → numbers_of entries ≡ []
no_numbers [] none = refl
no_numbers (e ∷ entries) none = flat_map-append numbers_in (buffers_at e.1) (buffers_of entries)
    ∙ by_place e.1 none.0 (no_numbers entries none.1)
  where
    by_buffer : (buffer : Buffer) → is_shared buffer ≡ false → numbers_in buffer ≡ []
    by_buffer (Own bytes) is = refl
    by_buffer (Shared frame) is = absurd (true≢false is)

    by_place : (place : Place) → fits sought.Shared place ≡ false → numbers_of entries ≡ []
        → flat_map numbers_in (buffers_at place) ++ numbers_of entries ≡ []
    by_place Bare is rest = rest
    by_place (Empty buffer) is rest =
        ap (λ (ns : List ℕ). (ns ++ []) ++ numbers_of entries) (by_buffer buffer is) ∙ rest
    by_place (Taken block changed buffer) is rest =
        ap (λ (ns : List ℕ). (ns ++ []) ++ numbers_of entries) (by_buffer buffer is) ∙ rest

pub all_home : (frames : Frames) → AreNone sought.Shared (entries_of frames)
    → frames_of frames.seat ≡ others frames
all_home frames none = sym (others_of-none frames.seat)
    ∙ ap (others_of frames.seat) (sym (no_numbers (entries_of frames) none))

-- one more place is bare
pub gives_one : (first old new : Frames) (k number : ℕ)
    → entries_of old ≡ gave k (entries_of first) → IsLast sought.Free (entries_of old) number
    → GivesAt number old new → entries_of new ≡ gave (k + 1) (entries_of first)
gives_one first old new k number so_far last given =
    ap (λ (t : LruCache ℕ Place). t.entries) (given last.before last.after last.place last.split)
    ∙ (sym (last_at (is_at sought.Free) (λ (e : Entry). (e.0, Bare)) (number, last.place)
    last.before last.after last.it_fits last.none_after)
    ∙ (ap (gave 1) (sym last.split)
    ∙ (ap (gave 1) so_far
    ∙ last_one_more (is_at sought.Free) (λ (e : Entry). (e.0, Bare)) (λ e. refl) k
    (entries_of first))))

pub one_free : (entries : List Entry) (number : ℕ) → IsLast sought.Free entries number
    → 0 < count_of sought.Free entries
one_free entries number last = omega (
  arith,
  ap (count_of sought.Free) last.split,
  sum_by-append (λ (e : Entry). cond {A =
      ℕ} (is_at sought.Free e) 1 0) last.before ((number, last.place) ∷ last.after),
  sum_by-cons (λ (e : Entry). cond {A =
      ℕ} (is_at sought.Free e) 1 0) (number, last.place) last.after,
  ap {B = ℕ} (λ (b : Bool). cond b 1 0) last.it_fits,
)

pub free_left : (first old : Frames) (k : ℕ) → entries_of old ≡ gave k (entries_of first)
    → count_of sought.Free (entries_of old) ≡ count_of sought.Free (entries_of first) - k
free_left first old k so_far = ap (count_of sought.Free) so_far
    ∙ count_last (is_at sought.Free) (λ (e : Entry). (e.0, Bare)) (λ e. refl) k (entries_of first)

pub gave_none : (entries : List Entry) → entries ≡ gave 0 entries
gave_none [] = refl
gave_none (e ∷ entries) = ap (λ (xs : List Entry). e ∷ xs) (gave_none entries)
    ∙ by_mark (is_at sought.Free e)
  where
    by_mark : (b : Bool)
        → e ∷ gave 0 entries ≡ cond (b
        && nat_lt (count_of sought.Free entries) 0) (e.0, Bare) e ∷ gave 0 entries
    by_mark true =
        sym (ap (λ (b : Bool). cond b (e.0, Bare) e ∷ gave 0 entries)
        (le-ltb (count_of sought.Free entries) 0 (omega arith)))
    by_mark false = refl

-- each give leaves one fewer
pub fewer_shared : (old new : Frames) (number : ℕ)
    → (last : IsLast sought.Shared (entries_of old) number) → GivesAt number old new
    → count_of sought.Shared (entries_of new) + 1 ≡ count_of sought.Shared (entries_of old)
fewer_shared old new number last given = omega (
  arith,
  ap (count_of sought.Shared) last.split,
  ap (λ (t : LruCache ℕ Place). count_of sought.Shared t.entries)
      (given last.before last.after last.place last.split),
  count_split sought.Shared last.before (number, last.place) last.after,
  count_split sought.Shared last.before (number, Bare) last.after,
  sum_by-cons (λ (e : Entry). cond {A = ℕ} (is_at sought.Shared e) 1 0) (number, last.place) [],
  ap {B = ℕ} (λ (b : Bool). cond b 1 0) last.it_fits,
)

pub buffers_given : (old new : Frames) (number : ℕ)
    → (last : IsLast sought.Free (entries_of old) number) → GivesAt number old new
    → length (buffers_of (entries_of new)) + 1 ≡ length (buffers_of (entries_of old))
buffers_given old new number last given =
    let s = shared_is last.place (free_shared last.place last.it_fits) in
    omega (
      arith,
      ap (λ (es : List Entry). length (buffers_of es)) last.split,
      ap (λ (t : LruCache ℕ Place). length (buffers_of t.entries))
          (given last.before last.after last.place last.split),
      ap length (buffers_split last.before (number, last.place) last.after),
      ap length (buffers_split last.before (number, Bare) last.after),
      length-append (buffers_of last.before) (buffers_at last.place ++ buffers_of last.after),
      length-append (buffers_at last.place) (buffers_of last.after),
      length-append (buffers_of last.before) (buffers_of last.after),
      ap length s.1,
    )

-- a place has at most one buffer
pub buffers_few : (entries : List Entry) → length (buffers_of entries) ≤ length entries
buffers_few [] = omega arith
buffers_few (e ∷ entries) =
    omega (arith, length-append (buffers_at e.1) (buffers_of entries), one e.1, buffers_few entries)
  where
    one : (place : Place) → length (buffers_at place) ≤ 1
    one Bare = omega arith
    one (Empty buffer) = omega arith
    one (Taken block changed buffer) = omega arith
