-- For those who keep frames: what a take and a give leave of the frames that they keep, by
-- `specs/Keeper.antt`. A list of numbers counts here by how often each stands in it.
use Rattle.std.proofs.Common.{◌≡◌, ◌≢◌, ℕ, ◌+◌, ◌<◌, ◌≤◌, ◌==◌, List, [], ◌∷◌, ◌++◌, Bool, true}
use Rattle.std.proofs.Common.{false, cond, not, length, take, drop, sym, refl, ap, ◌∙◌, subst}
use Rattle.std.proofs.Common.{arith, eq-eqb, ne_eqb}
use Rattle.std.specs.Prelude.{filter}
use Rattle.std.proofs.lemmas.List.Elements.{filter-append}
use Rattle.std.proofs.Math.Seq.{take-append_seam}
use mathlib.Core.Logic.{dite}
use native.Mathlib.Decide.{ℕ_discrete}
use Rattle.vr_frames.specs.declared.seat.FrameSeat.{FrameSeat}
use Rattle.vr_frames.specs.declared.frame.Frame.{Frame}
use Rattle.vr_frames.specs.Views.{times}
use Rattle.vr_frames.specs.Frames.{frames_of, number_of, bytes_of, Gets, Returns}
use Rattle.vr_frames.specs.Lends.{with_bytes}
use Rattle.vr_frames.specs.Keeper.{HoldsEach, others_of}
use Rattle.vr_frames.proofs.Counts.{one_if-same, one_if-other, times-cons, times-one, times-append}
use Rattle.vr_frames.proofs.Counts.{times-without_same, times-without_other}
-- A pool may be shared and sent to another thread, and a seat may be sent.
pub use Rattle.vr_frames.proofs.Sending.{seat_send, pool_send, pool_sync}

-- the list `more` has this number once, which `numbers` has not, and each other as often
pub record OneMore (number : ℕ) (numbers more : List ℕ) : Type 0 where
  pub here : times number more ≡ times number numbers + 1
  pub others : (k : ℕ) → k ≢ number → times k more ≡ times k numbers

-- a number before the others is one more
pub one_more-cons : (number : ℕ) (numbers : List ℕ) → OneMore number numbers (number ∷ numbers)
one_more-cons number numbers = record {
  here = omega (arith, times-cons number number numbers, one_if-same number number refl);
  others = λ k other. omega (
    arith,
    times-cons k number numbers,
    one_if-other k number (λ same. other (sym same)),
  );
}

-- a number after the others is one more
pub one_more-push : (number : ℕ) (numbers : List ℕ)
    → OneMore number numbers (numbers ++ number ∷ [])
one_more-push number numbers = record {
  here = omega (
    arith,
    times-append number numbers (number ∷ []),
    times-one number number,
    one_if-same number number refl,
  );
  others = λ k other. omega (
    arith,
    times-append k numbers (number ∷ []),
    times-one k number,
    one_if-other k number (λ same. other (sym same)),
  );
}

-- and so it is anywhere between them
pub one_more-between : (number : ℕ) (before after : List ℕ)
    → OneMore number (before ++ after) (before ++ (number ∷ after))
one_more-between number before after = record {
  here = omega (
    arith,
    times-append number before after,
    times-append number before (number ∷ after),
    times-cons number number after,
    one_if-same number number refl,
  );
  others = λ k other. omega (
    arith,
    times-append k before after,
    times-append k before (number ∷ after),
    times-cons k number after,
    one_if-other k number (λ same. other (sym same)),
  );
}

-- a test that is the same at each element keeps the same elements
filter-same : (p q : ℕ → Bool) (xs : List ℕ) → ((x : ℕ) → 0 < times x xs → p x ≡ q x)
    → filter p xs ≡ filter q xs
filter-same p q [] same = refl
filter-same p q (x ∷ xs) same =
    ap (λ (test : Bool). cond test (x ∷ filter p xs) (filter p xs))
    (same x (omega (arith, times-cons x x xs, one_if-same x x refl)))
    ∙ ap (λ (rest : List ℕ). cond (q x) (x ∷ rest) rest)
    (filter-same p q xs (λ y there. same y (omega (arith, times-cons y x xs))))

-- two tests, one after the other
filter-filter : (p q both : ℕ → Bool) (xs : List ℕ) → ((x : ℕ) → cond (q x) (p x) false ≡ both x)
    → filter p (filter q xs) ≡ filter both xs
filter-filter p q both [] same = refl
filter-filter p q both (x ∷ xs) same = by_test (filter-filter p q both xs same) (q x) refl
  where
    by_test : filter p (filter q xs) ≡ filter both xs → (test : Bool) → q x ≡ test
        → filter p (filter q (x ∷ xs)) ≡ filter both (x ∷ xs)
    by_test rest true passes =
        ap (λ (t : Bool). filter p (cond t (x ∷ filter q xs) (filter q xs))) passes
        ∙ (ap (λ (ys : List ℕ). cond (p x) (x ∷ ys) ys) rest
        ∙ ap (λ (t : Bool). cond t (x ∷ filter both xs) (filter both xs))
        (sym (ap (λ (t : Bool). cond t (p x) false) passes) ∙ same x))
    by_test rest false fails =
        ap (λ (t : Bool). filter p (cond t (x ∷ filter q xs) (filter q xs))) fails
        ∙ (rest
        ∙ ap (λ (t : Bool). cond t (x ∷ filter both xs) (filter both xs))
        (sym (ap (λ (t : Bool). cond t (p x) false) fails) ∙ same x))

-- one keeps none at first
pub holds_each-none : (seat : FrameSeat) → HoldsEach seat []
holds_each-none seat = record {
  once = λ number. omega arith;
  held =
      λ number there. absurd (omega arith);
}

-- and all that the seat holds are others then
pub others_of-none : (seat : FrameSeat) → others_of seat [] ≡ frames_of seat
others_of-none seat = all (frames_of seat)
  where
    all : (xs : List ℕ) → filter (λ number. times number [] == 0) xs ≡ xs
    all [] = refl
    all (x ∷ xs) = ap (λ (rest : List ℕ). x ∷ rest) (all xs)

module _ (old new : FrameSeat) (frame : Frame) (numbers more : List ℕ) where
  abbrev number : ℕ
  number = number_of frame

  -- after a take one keeps the frame too
  pub holds_each-got : Gets old frame new → HoldsEach old numbers → OneMore number numbers more
      → HoldsEach new more
  holds_each-got got each one = record {
    once = λ k. dite (ℕ_discrete k number)
        (λ same. subst (λ (j : ℕ). times j more ≤ 1) (sym same) (omega (arith, one.here, not_yet)))
        (λ other. omega (arith, one.others k other, each.once k));
    held = λ k there. dite (ℕ_discrete k number)
        (λ same. omega (arith, listed k, times-one k number, one_if-same k number (sym same)))
        (λ other. omega (arith, listed k, each.held k (omega (arith, one.others k other))));
  }
    where
      not_yet : times number numbers ≡ 0
      not_yet = dite (ℕ_discrete (times number numbers) 0) (λ none. none)
          (λ some. absurd (omega (arith, each.held number (omega arith), got.new_to_it)))

      listed : (k : ℕ) → times k (frames_of new) ≡ times k (frames_of old) + times k (number ∷ [])
      listed k = ap (times k) got.held_now ∙ times-append k (frames_of old) (number ∷ [])

  -- and the others stay
  pub others_of-got : Gets old frame new → OneMore number numbers more
      → others_of new more ≡ others_of old numbers
  others_of-got got one =
      ap (filter test) got.held_now
      ∙ (filter-append test (frames_of old) (number ∷ [])
      ∙ (ap (λ (t : Bool). filter test (frames_of old) ++ cond t (number ∷ []) [])
      (ne_eqb (times number more) 0 (λ none. omega (arith, one.here)))
      ∙ (append_nothing (filter test (frames_of old))
      ∙ filter-same test (λ k. times k numbers == 0) (frames_of old)
      (λ k there. ap (λ (n : ℕ). n == 0) (one.others k
      (λ same. omega (
        arith,
        subst (λ (j : ℕ). 0 < times j (frames_of old)) same there,
        got.new_to_it,
      )))))))
    where
      test : ℕ → Bool
      test = λ k. times k more == 0

      append_nothing : (xs : List ℕ) → xs ++ [] ≡ xs
      append_nothing [] = refl
      append_nothing (x ∷ xs) = ap (λ (rest : List ℕ). x ∷ rest) (append_nothing xs)

module _ (old new : FrameSeat) (frame : Frame) (numbers more : List ℕ) where
  -- before a give: the seat holds the frame
  pub holds-kept : HoldsEach old more → OneMore (number_of frame) numbers more
      → 0 < times (number_of frame) (frames_of old)
  holds-kept each one = each.held (number_of frame) (omega (arith, one.here))

  -- after a give one keeps the frame no more
  pub holds_each-returned : Returns old frame new → HoldsEach old more
      → OneMore (number_of frame) numbers more → HoldsEach new numbers
  holds_each-returned back each one = record {
    once = λ k. dite (ℕ_discrete k (number_of frame))
        (λ same. subst (λ (j : ℕ). times j numbers ≤ 1) (sym same)
        (omega (arith, one.here, each.once (number_of frame))))
        (λ other. omega (arith, one.others k other, each.once k));
    held = λ k there. dite (ℕ_discrete k (number_of frame))
        (λ same. absurd (omega (
          arith,
          subst (λ (j : ℕ). 0 < times j numbers) same there,
          one.here,
          each.once (number_of frame),
        )))
        (λ other. omega (
          arith,
          ap (times k) back.others,
          times-without_other k (number_of frame) (frames_of old) other,
          each.held k (omega (arith, one.others k other)),
        ));
  }

  -- and the others stay
  pub others_of-returned : Returns old frame new → HoldsEach old more
      → OneMore (number_of frame) numbers more → others_of new numbers ≡ others_of old more
  others_of-returned back each one =
      ap (filter (λ k. times k numbers == 0)) back.others
      ∙ filter-filter (λ k. times k numbers == 0) (λ k. not (k == number_of frame))
      (λ k. times k more == 0) (frames_of old)
      (λ k. dite (ℕ_discrete k (number_of frame))
      (λ same. ap (λ (t : Bool). cond (not t) (times k numbers == 0) false)
      (eq-eqb k (number_of frame) same) ∙ sym
      (ne_eqb (times k more) 0 (λ none. omega
      (arith, subst (λ (j : ℕ). times j more ≡ 0) same none, one.here))))
      (λ other. ap (λ (t : Bool). cond (not t) (times k numbers == 0) false)
      (ne_eqb k (number_of frame) other) ∙ ap (λ (n : ℕ). n == 0) (sym (one.others k other))))

-- the frame that was got stands in the seat's list once, and one that was given back no more
pub times-got : (old new : FrameSeat) (frame : Frame) → Gets old frame new
    → times (number_of frame) (frames_of new) ≡ 1
times-got old new frame got = ap (times (number_of frame)) got.held_now
    ∙ omega (
      arith,
      times-append (number_of frame) (frames_of old) (number_of frame ∷ []),
      times-one (number_of frame) (number_of frame),
      one_if-same (number_of frame) (number_of frame) refl,
      got.new_to_it,
    )

pub times-returned : (old new : FrameSeat) (frame : Frame) → Returns old frame new
    → times (number_of frame) (frames_of new) ≡ 0
times-returned old new frame back = ap (times (number_of frame)) back.others
    ∙ times-without_same (number_of frame) (frames_of old)

-- a frame whose bytes were written has them, where they are as many as before
pub bytes_of-with_bytes : (frame : Frame) (bytes : List ℕ) → length bytes ≡ length (bytes_of frame)
    → bytes_of (with_bytes frame bytes) ≡ bytes
bytes_of-with_bytes frame bytes whole =
    ap (λ (n : ℕ). take n (bytes ++ drop (length bytes) (bytes_of frame)))
    (omega (arith, frame.buffer.ok.0, whole))
    ∙ take-append_seam bytes (drop (length bytes) (bytes_of frame))
