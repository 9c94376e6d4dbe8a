-- At the end: the frames that are home and those that the last seat holds are all frames.
use Rattle.std.proofs.Common.{◌≡◌, ◌≢◌, ℕ, zero, suc, ◌+◌, ◌<◌, ◌≤◌, List, [], ◌∷◌, ◌++◌, Bool}
use Rattle.std.proofs.Common.{cond, length, get_or, take, sym, refl, ap, ◌∙◌, ⊎_elim, arith, eq-eqb}
use Rattle.std.proofs.Common.{ne_eqb, add-one}
use Rattle.std.specs.Prelude.{Option, sum_by, count_by, ◌==◌}
use Rattle.std.proofs.lemmas.List.{take_more}
use Rattle.std.proofs.lemmas.List.Sums.{sum_by-cons, sum_by_push}
use mathlib.Core.Logic.{dite}
use mathlib.Core.Option.{some, some-injective, some-ne-none}
use native.Mathlib.Decide.{ℕ_discrete, dec_le}
use lib.ListN.{get_elem?}
use Rattle.atomic_table.specs.Table.{State}
use Rattle.vr_frames.specs.declared.view.View.{View}
use Rattle.vr_frames.specs.Views.{times, nobody}
use Rattle.vr_frames.specs.Rule.{IsHeld, IsOnItsWay, IsKept}
use Rattle.vr_frames.proofs.Counts.{term_le, terms_le, one_if, one_if-same, one_if-other}
use Rattle.vr_frames.proofs.Counts.{times-cons}
use Rattle.vr_frames.proofs.Steps.{held_once}

-- the sum of `value` over the numbers below n
below : (ℕ → ℕ) → ℕ → ℕ
below value zero = 0
below value (suc n) = below value n + value n

below-zero : (value : ℕ → ℕ) → below value 0 ≡ 0
unfolding below
below-zero value = refl

below-more : (value : ℕ → ℕ) (n : ℕ) → below value (suc n) ≡ below value n + value n
unfolding below
below-more value n = refl

below-same : (value other : ℕ → ℕ) (n : ℕ) → ((k : ℕ) → k < n → value k ≡ other k)
    → below value n ≡ below other n
below-same value other zero all = below-zero value ∙ sym (below-zero other)
below-same value other (suc n) all = omega (
  arith,
  below-more value n,
  below-more other n,
  all n (omega arith),
  below-same value other n (λ k near. all k (omega arith)),
)

below-sum : (value other : ℕ → ℕ) (n : ℕ)
    → below (λ k. value k + other k) n ≡ below value n + below other n
below-sum value other zero =
    omega (arith, below-zero (λ k. value k + other k), below-zero value, below-zero other)
below-sum value other (suc n) =
    omega (
      arith,
      below-more (λ k. value k + other k) n,
      below-more value n,
      below-more other n,
      below-sum value other n,
    )

below-none : (value : ℕ → ℕ) (n : ℕ) → ((k : ℕ) → k < n → value k ≡ 0) → below value n ≡ 0
below-none value zero all = below-zero value
below-none value (suc n) all =
    omega (
      arith,
      below-more value n,
      all n (omega arith),
      below-none value n (λ k near. all k (omega arith)),
    )

below-most : (value : ℕ → ℕ) (n : ℕ) → ((k : ℕ) → k < n → value k ≤ 1) → below value n ≤ n
below-most value zero all = omega (arith, below-zero value)
below-most value (suc n) all =
    omega (
      arith,
      below-more value n,
      all n (omega arith),
      below-most value n (λ k near. all k (omega arith)),
    )

below-all : (value : ℕ → ℕ) (n : ℕ) → ((k : ℕ) → k < n → value k ≡ 1) → below value n ≡ n
below-all value zero all = below-zero value
below-all value (suc n) all =
    omega (
      arith,
      below-more value n,
      all n (omega arith),
      below-all value n (λ k near. all k (omega arith)),
    )

below-one : (x n : ℕ) → x < n → below (λ k. one_if k x) n ≡ 1
below-one x zero near = absurd (omega arith)
below-one x (suc n) near = dite (ℕ_discrete x n)
    (λ same. omega (
      arith,
      below-more (λ k. one_if k x) n,
      one_if-same n x same,
      below-none (λ k. one_if k x) n (λ k below_it. one_if-other k x (λ one. omega arith)),
    ))
    (λ apart. omega (
      arith,
      below-more (λ k. one_if k x) n,
      one_if-other n x apart,
      below-one x n (omega arith),
    ))

-- a list of numbers below n is as long as its numbers come
below-length : (xs : List ℕ) (n : ℕ) → ((k : ℕ) → n ≤ k → times k xs ≡ 0)
    → below (λ k. times k xs) n ≡ length xs
below-length [] n all = below-none (λ k. times k []) n (λ k near. refl)
below-length (x ∷ xs) n all =
    let near : x < n =
    dite (dec_le n x) (λ far. absurd (omega
    (arith, all x far, times-cons x x xs, one_if-same x x refl))) (λ near. omega arith) in
    let rest = below-length xs n (λ k far. omega (arith, all k far, times-cons k x xs)) in
    omega (
      arith,
      below-same (λ k. times k (x ∷ xs)) (λ k. one_if k x + times k xs) n
          (λ k near. times-cons k x xs),
      below-sum (λ k. one_if k x) (λ k. times k xs) n,
      below-one x n near,
      rest,
    )

-- 1 where the word says home
abbrev is_home : List ℕ → ℕ → ℕ
is_home words k = cond (get_or words k 0 == 0) 1 0

home_is : (words : List ℕ) (k : ℕ) → get_or words k 0 ≡ 0 → is_home words k ≡ 1
home_is words k home = ap (λ (b : Bool). cond b 1 0) (eq-eqb (get_or words k 0) 0 home)

out_is : (words : List ℕ) (k : ℕ) → get_or words k 0 ≢ 0 → is_home words k ≡ 0
out_is words k out = ap (λ (b : Bool). cond b 1 0) (ne_eqb (get_or words k 0) 0 out)

count_is : (words : List ℕ) (n : ℕ) → n ≤ length words
    → count_by (λ word. word == 0) (take n words) ≡ below (is_home words) n
count_is words zero within = sym (below-zero (is_home words))
count_is words (suc n) within =
    let more : take (suc n) words ≡ take n words ++ get_or words n 0 ∷ [] =
    ap (λ (m : ℕ). take m words) (sym (add-one n)) ∙ take_more words n 0 (omega arith) in
    omega (
      arith,
      ap (λ (list : List ℕ). count_by (λ word. word == 0) list) more,
      sum_by_push (λ (word : ℕ). cond (word == 0) 1 0) (take n words) (get_or words n 0),
      below-more (is_home words) n,
      count_is words n (omega arith),
    )

module _ {A : Type 0} (value : A → ℕ) where
  none_count : (xs : List A) → ((k : ℕ) (other : A) → get_elem? xs k ≡ some other
      → value other ≡ 0) → sum_by value xs ≡ 0
  none_count [] none = refl
  none_count (x ∷ xs) none =
      omega (
        arith,
        sum_by-cons value x xs,
        none zero x refl,
        none_count xs (λ k other at. none (suc k) other at),
      )

  -- where the others count for nothing, the sum is what one counts for
  only : (xs : List A) (j : ℕ) (one : A) → get_elem? xs j ≡ some one
      → ((k : ℕ) (other : A) → k ≢ j → get_elem? xs k ≡ some other → value other ≡ 0)
      → sum_by value xs ≡ value one
  only [] j one at none = absurd (some-ne-none one (sym at))
  only (x ∷ xs) zero one at none = omega (
    arith,
    sum_by-cons value x xs,
    ap value (some-injective x one at),
    none_count xs (λ k other there. none (suc k) other (λ same. omega arith) there),
  )
  only (x ∷ xs) (suc j) one at none = omega (
    arith,
    sum_by-cons value x xs,
    none zero x (λ same. omega arith) refl,
    only xs j one at (λ k other apart there. none (suc k) other
        (λ same. apart (omega arith)) there),
  )

module _ {B : Type 0} (fits : ℕ → B → Type 0) (size : ℕ) (state : State (Option B) View)
    (kept : IsKept size (fits size) state) (id : ℕ) (view : View)
    (at : get_elem? state.views id ≡ some view) where
  abbrev frames : ℕ
  frames = length state.homes

  far_none : (k : ℕ) → frames ≤ k → times k view.frames ≡ 0
  far_none k far =
      omega (
        arith,
        term_le (λ seat_view. times k seat_view.frames) state.views id view at,
        (kept.no_others k far).0,
      )

  both_count : count_by (λ word. word == 0) (take frames state.words) + length view.frames ≡ below
      (λ k. is_home state.words k + times k view.frames) frames
  both_count =
      omega (
        arith,
        count_is state.words frames (omega (arith, kept.one_word_more)),
        below-length view.frames frames far_none,
        below-sum (is_home state.words) (λ k. times k view.frames) frames,
      )

  -- what is home is no more than what the seat does not hold
  pub home_most : count_by (λ word. word == 0)
      (take frames state.words) + length view.frames ≤ frames
  home_most =
      omega (
        arith,
        both_count,
        below-most (λ k. is_home state.words k + times k view.frames)
            frames one,
      )
    where
      one : (k : ℕ) → k < frames → is_home state.words k + times k view.frames ≤ 1
      one k near = let mine =
          term_le (λ seat_view. times k seat_view.frames) state.views id view at in
          dite (ℕ_discrete (get_or state.words k 0) 0)
          (λ home. omega (arith, home_is state.words k home, (kept.home k near home).in_no_view.0))
          (λ out. omega (arith, out_is state.words k out, held_once fits size state kept k))

  -- and where the seat has every part, and brings no frame, it is just that
  pub home_last : view.parts ≡ 1024 → view.moving ≡ []
      → count_by (λ word. word == 0) (take frames state.words) + length view.frames ≡ frames
  home_last whole still =
      omega (
        arith,
        both_count,
        below-all (λ k. is_home state.words k + times k view.frames) frames
            one,
      )
    where
      others : (value : View → ℕ) → value nobody ≡ 0 → sum_by value state.views ≡ value view
      others value none = only value state.views id view at (λ k other apart there. let parts =
          terms_le (λ seat_view. seat_view.parts) state.views k id other view apart there at in
          ap value ((kept.sound k other there).1 (omega (arith, kept.all_parts))) ∙ none)

      one : (k : ℕ) → k < frames → is_home state.words k + times k view.frames ≡ 1
      one k near = let mine = others (λ seat_view. times k seat_view.frames) refl in let moved =
          others (λ seat_view. times k seat_view.moving) refl in let none =
          ap (times k) still in dite (ℕ_discrete (get_or state.words k 0) 0)
          (λ home. omega (arith, home_is state.words k home, (kept.home k near home).in_no_view.0))
          (λ out. ⊎_elim (λ (found : IsHeld state k). omega
          (arith, out_is state.words k out, found.in_one_view.0))
          (λ (found : IsOnItsWay state k). absurd (omega (arith, found.by_one_seat.1)))
          (kept.out k near out))

-- one word more
pub count_more : (words : List ℕ) (n word : ℕ) → get_elem? words n ≡ some word → n < length words
    → count_by (λ word. word == 0) (take (n + 1) words) ≡ count_by (λ word. word == 0)
    (take n words) + cond (word == 0) 1 0
count_more words n word at near =
    let read : get_or words n 0 ≡ word = read_at words n at in
    ap (λ (list : List ℕ). count_by (λ word. word == 0) list) (take_more words n 0 near)
    ∙ (sum_by_push (λ (word : ℕ). cond (word == 0) 1 0) (take n words) (get_or words n 0)
    ∙ ap (λ (first : ℕ). count_by (λ word. word == 0) (take n words) + cond (first == 0) 1 0)
    read)
  where
    read_at : (list : List ℕ) (k : ℕ) → get_elem? list k ≡ some word → get_or list k 0 ≡ word
    read_at [] k found = absurd (some-ne-none word (sym found))
    read_at (first ∷ rest) zero found = some-injective first word found
    read_at (first ∷ rest) (suc k) found = read_at rest k found
