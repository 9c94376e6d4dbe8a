-- What a place that moves to the front, or changes its buffer, leaves of the frames.
use Rattle.std.proofs.Common.{◌≡◌, ◌+◌, ◌<◌, ◌≤◌, ◌==◌, ℕ, Bool, true, false, cond, List, [], ◌∷◌}
use Rattle.std.proofs.Common.{◌++◌, refl, sym, ap, ◌∙◌, subst, arith, length}
use Rattle.std.specs.Prelude.{count_by}
use Rattle.std.specs.List.{AllByRecursion, flat_map}
use Rattle.std.proofs.lemmas.List.Concat.{flat_map-append}
use Rattle.std.proofs.lemmas.List.Elements.{filter_agree}
use Rattle.std.proofs.lemmas.List.{length-append}
use Rattle.std.proofs.lemmas.List.Sums.{sum_by-cons, sum_by-append}
use Rattle.vr_frames.specs.Views.{times}
use Rattle.vr_resident.specs.Refill.{IsSameBuffer}
use Rattle.vr_resident.specs.Places.{Entry, numbers_in, IsBufferOf, buffers_at, buffers_of}
use Rattle.vr_resident.specs.Places.{numbers_of, is_at, AreNone, count_of}
use Rattle.vr_resident.specs.Cache.{entries_of, pool_of, with_entries, IsFramed, KeepsSeat}
use Rattle.vr_resident.specs.declared.place.Buffer.{Buffer}
use Rattle.vr_resident.specs.declared.place.Place.{Place}
use Rattle.vr_resident.specs.declared.place.Sought.{Sought}
use Rattle.vr_resident.specs.declared.frames.Frames.{Frames}
use Rattle.vr_resident.proofs.Framing.{buffers_split}

-- counts of a list in two parts
pub count-append : {X : Type 0} (p : X → Bool) (xs ys : List X)
    → count_by p (xs ++ ys) ≡ count_by p xs + count_by p ys
count-append p xs ys = sum_by-append (λ x. cond (p x) 1 0) xs ys

pub count_none : (which : Sought) (entries : List Entry) → AreNone which entries
    → count_of which entries ≡ 0
count_none which [] none = refl
count_none which (e ∷ entries) none =
    omega (
      arith,
      sum_by-cons (λ x. cond (is_at which x) 1 0) e entries,
      ap {B =
          ℕ} (λ (b : Bool). cond b 1 0) none.0,
      count_none which entries none.1,
    )

pub none_count : (which : Sought) (entries : List Entry) → count_of which entries ≡ 0
    → AreNone which entries
none_count which [] none = tt
none_count which (e ∷ entries) none =
    by_test (is_at which e) refl
    (omega (arith, sum_by-cons (λ x. cond (is_at which x) 1 0) e entries, none))
    (none_count which entries)
  where
    by_test : (b : Bool) → is_at which e ≡ b
        → cond (is_at which e) 1 0 + count_of which entries ≡ 0
        → (count_of which entries ≡ 0 → AreNone which entries) → AreNone which (e ∷ entries)
    by_test true is sum go = absurd (omega (arith, sum, ap {B = ℕ} (λ (b : Bool). cond b 1 0) is))
    by_test false is sum go = (is, go (omega (arith, sum)))

-- the count of one kind, where one place changes or moves
pub count_split : (which : Sought) (before : List Entry) (e : Entry) (after : List Entry)
    → count_of which (before ++ e ∷ after) ≡ count_of which (before
    ++ after) + count_of which (e ∷ [])
count_split which before e after =
    omega (
      arith,
      count-append (is_at which) before (e ∷ after),
      count-append (is_at which) before
          after,
      count-append (is_at which) (e ∷ []) after,
    )

pub count_front : (which : Sought) (e : Entry) (rest : List Entry)
    → count_of which (e ∷ rest) ≡ count_of which rest + count_of which (e ∷ [])
count_front which e rest = omega (arith, count-append (is_at which) (e ∷ []) rest)

-- frames whose numbers stand as often in the lists
module _ (frames : Frames) (entries : List Entry)
    (numbers : (k : ℕ)
    → times k (numbers_of entries) ≡ times k (numbers_of (entries_of frames))) where
  pub framed_by : AllByRecursion (IsBufferOf (pool_of frames) frames.size) (buffers_of entries)
      → length (buffers_of entries) ≡ length (buffers_of (entries_of frames)) → IsFramed frames
      → IsFramed (with_entries frames entries)
  framed_by each long is = record {
    seated = record {
      cap_is = is.seated.cap_is;
      long = is.seated.long;
      seat_of = is.seated.seat_of;
      each_is = each;
      holds = record {
        once = λ k. subst (λ (n : ℕ). n ≤ 1) (sym (numbers k)) (is.seated.holds.once k);
        held = λ k there. is.seated.holds.held k (subst (λ (n : ℕ). 0 < n) (numbers k) there);
      };
    };
    sixteen = omega (arith, long, is.sixteen);
  }

  pub seat_by : KeepsSeat frames (with_entries frames entries)
  seat_by = record {
    pool_same = refl;
    size_same = refl;
    same = record { same_table = refl; same_id = refl };
    parts = refl;
    others_same = filter_agree (λ k. times k (numbers_of entries) == 0)
        (λ k. times k (numbers_of (entries_of frames)) == 0)
        (λ k. ap (λ (n : ℕ). n == 0) (numbers k)) frames.seat.place.me.0.frames;
  }

buffers_all : (P : Buffer → Type 0) (xs : List Buffer) (b c : Buffer) (ys : List Buffer)
    → AllByRecursion P (xs ++ b ∷ ys) → (P b → P c) → AllByRecursion P (xs ++ c ∷ ys)
buffers_all P [] b c ys all next = (next all.0, all.1)
buffers_all P (x ∷ xs) b c ys all next = (all.0, buffers_all P xs b c ys all.1 next)

buffers_front : (P : Buffer → Type 0) (xs : List Buffer) (b : Buffer) (ys : List Buffer)
    → AllByRecursion P (xs ++ b ∷ ys) → AllByRecursion P (b ∷ xs ++ ys)
buffers_front P [] b ys all = all
buffers_front P (x ∷ xs) b ys all = let on = buffers_front P xs b ys all.1 in (on.0, (all.0, on.1))

abbrev pub KeepsFrames : Frames → List Entry → Type 0
KeepsFrames frames entries = (IsFramed frames → IsFramed (with_entries frames entries))
    × KeepsSeat frames (with_entries frames entries)

module _ (frames : Frames) (before after : List Entry) (number : ℕ) (place to : Place)
    (b c : Buffer)
    (was : entries_of frames ≡ before
    ++ (number, place) ∷ after) (has : buffers_at place ≡ b ∷ [])
    (will : buffers_at to ≡ c ∷ []) (same : IsSameBuffer b c) where
  old_buffers : buffers_of (entries_of frames) ≡ buffers_of before ++ b ∷ buffers_of after
  old_buffers = ap buffers_of was ∙ buffers_split before (number, place) after
      ∙ ap (λ (bs : List Buffer). buffers_of before ++ (bs ++ buffers_of after)) has

  numbers_as : (entries : List Entry) (bs : List Buffer) → buffers_of entries ≡ bs
      → ((k : ℕ) → times k (flat_map numbers_in bs) ≡ times k
      (flat_map numbers_in (buffers_of before ++ b ∷ buffers_of after)))
      → (k : ℕ) → times k (numbers_of entries) ≡ times k (numbers_of (entries_of frames))
  numbers_as entries bs is numbers k = ap (λ (l : List Buffer). times k (flat_map numbers_in l)) is
      ∙ (numbers k ∙ ap (λ (l : List Buffer). times k (flat_map numbers_in l)) (sym old_buffers))

  pub framed_stays : KeepsFrames frames (before ++ (number, to) ∷ after)
  framed_stays =
      let new : buffers_of (before ++ (number, to) ∷ after) ≡ buffers_of before
      ++ c ∷ buffers_of after = buffers_split before (number, to) after
      ∙ ap (λ (bs : List Buffer). buffers_of before ++ (bs ++ buffers_of after)) will in
      let numbers : (k : ℕ)
      → times k (numbers_of (before
      ++ (number, to) ∷ after)) ≡ times k (numbers_of (entries_of frames)) =
      numbers_as (before ++ (number, to) ∷ after) (buffers_of before
      ++ c ∷ buffers_of after) new
      (λ k. ap (times k) (flat_map-append numbers_in (buffers_of before) (c ∷ buffers_of after)
      ∙ ap (λ (ns : List ℕ). flat_map numbers_in (buffers_of before)
      ++ (ns ++ flat_map numbers_in (buffers_of after))) same.number_same
      ∙ sym (flat_map-append numbers_in (buffers_of before) (b ∷ buffers_of after)))) in (
        λ is. framed_by frames (before ++ (number, to) ∷ after) numbers
            (subst (AllByRecursion (IsBufferOf (pool_of frames) frames.size)) (sym new)
            (buffers_all (IsBufferOf (pool_of frames) frames.size) (buffers_of before) b c
            (buffers_of after)
            (subst (AllByRecursion (IsBufferOf (pool_of frames) frames.size)) old_buffers
            is.seated.each_is) (same.of_pool (pool_of frames) frames.size)))
            (omega (
              arith,
              ap length new,
              ap length old_buffers,
              length-append (buffers_of before)
                  (c ∷ buffers_of after),
              length-append (buffers_of before) (b ∷ buffers_of after),
            ))
            is,
        seat_by frames (before ++ (number, to) ∷ after) numbers,
      )

  pub framed_front : KeepsFrames frames ((number, to) ∷ (before ++ after))
  framed_front =
      let new : buffers_of ((number, to) ∷ (before ++ after)) ≡ c ∷ (buffers_of before
      ++ buffers_of after) = ap (λ (bs : List Buffer). bs ++ buffers_of (before ++ after)) will
      ∙ ap (λ (bs : List Buffer). c ∷ bs)
      (flat_map-append (λ (f : Entry). buffers_at f.1) before after) in
      let numbers : (k : ℕ)
      → times k (numbers_of ((number, to) ∷ (before
      ++ after))) ≡ times k (numbers_of (entries_of frames)) =
      numbers_as ((number, to) ∷ (before ++ after)) (c ∷ (buffers_of before
      ++ buffers_of after)) new
      (λ k. ap (times k) (ap (λ (ns : List ℕ). ns
      ++ flat_map numbers_in (buffers_of before ++ buffers_of after)) same.number_same)
      ∙ omega (
        arith,
        count-append (λ x. x == k) (numbers_in b) (flat_map numbers_in (buffers_of before
            ++ buffers_of after)),
        ap (times k) (flat_map-append numbers_in (buffers_of before) (buffers_of after)),
        count-append (λ x. x == k) (flat_map numbers_in (buffers_of before))
            (flat_map numbers_in (buffers_of after)),
        ap (times k) (flat_map-append numbers_in (buffers_of before) (b ∷ buffers_of after)),
        count-append (λ x. x == k) (flat_map numbers_in (buffers_of before)) (numbers_in b
            ++ flat_map numbers_in (buffers_of after)),
        count-append (λ x. x == k) (numbers_in b) (flat_map numbers_in (buffers_of after)),
      )) in (
        λ is. framed_by frames ((number, to) ∷ (before ++ after)) numbers
            (subst (AllByRecursion (IsBufferOf (pool_of frames) frames.size)) (sym new) (let all =
            buffers_front (IsBufferOf (pool_of frames) frames.size) (buffers_of before) b
            (buffers_of after)
            (subst (AllByRecursion (IsBufferOf (pool_of frames) frames.size)) old_buffers
            is.seated.each_is) in (same.of_pool (pool_of frames) frames.size all.0, all.1)))
            (omega (
              arith,
              ap length new,
              ap length old_buffers,
              length-append (buffers_of before)
                  (buffers_of after),
              length-append (buffers_of before) (b ∷ buffers_of after),
            )) is,
        seat_by frames ((number, to) ∷ (before ++ after)) numbers,
      )
