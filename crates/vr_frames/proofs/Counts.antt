-- How often a frame stands in a list, and sums over the views.
use Rattle.std.proofs.Common.{◌≡◌, ◌≢◌, ℕ, zero, suc, ◌+◌, ◌<◌, ◌≤◌, List, [], ◌∷◌, ◌++◌, Bool}
use Rattle.std.proofs.Common.{cond, not, set, sym, refl, ap, ◌∙◌, arith, ltb, eq-eqb, ne_eqb}
use Rattle.std.proofs.Common.{lt-ltb, le-ltb}
use Rattle.std.specs.Prelude.{◌==◌, sum_by}
use Rattle.std.proofs.lemmas.List.Sums.{sum_by-cons, sum_by-append}
use mathlib.Core.Logic.{dite}
use mathlib.Core.Option.{some, some-injective, some-ne-none}
use native.Mathlib.Decide.{ℕ_discrete, dec_le}
use lib.ListN.{get_elem?}
use Rattle.vr_frames.specs.Views.{times, tries, without}

module _ {A : Type 0} (value : A → ℕ) where
  -- the sum after a change of one element
  pub sum_set : (xs : List A) (j : ℕ) (old new : A) → get_elem? xs j ≡ some old
      → sum_by value (set xs j new) + value old ≡ sum_by value xs + value new
  sum_set [] j old new at = absurd (some-ne-none old (sym at))
  sum_set (x ∷ xs) zero old new at = omega
      (arith, sum_by-cons value new xs, sum_by-cons value x xs, ap value (some-injective x old at))
  sum_set (x ∷ xs) (suc j) old new at = omega
      (arith, sum_by-cons value x (set xs j new), sum_by-cons value x xs, sum_set xs j old new at)

  -- no element counts for more than all
  pub term_le : (xs : List A) (j : ℕ) (one : A) → get_elem? xs j ≡ some one
      → value one ≤ sum_by value xs
  term_le [] j one at = absurd (some-ne-none one (sym at))
  term_le (x ∷ xs) zero one at =
      omega (arith, sum_by-cons value x xs, ap value (some-injective x one at))
  term_le (x ∷ xs) (suc j) one at = omega (arith, sum_by-cons value x xs, term_le xs j one at)

  -- nor do two
  pub terms_le : (xs : List A) (j k : ℕ) (one other : A) → j ≢ k → get_elem? xs j ≡ some one
      → get_elem? xs k ≡ some other → value one + value other ≤ sum_by value xs
  terms_le [] j k one other apart at there = absurd (some-ne-none one (sym at))
  terms_le (x ∷ xs) zero zero one other apart at there = absurd (apart refl)
  terms_le (x ∷ xs) zero (suc k) one other apart at there =
      omega (
        arith,
        sum_by-cons value x xs,
        ap value (some-injective x one at),
        term_le xs k other there,
      )
  terms_le (x ∷ xs) (suc j) zero one other apart at there =
      omega (
        arith,
        sum_by-cons value x xs,
        ap value (some-injective x other there),
        term_le xs j one at,
      )
  terms_le (x ∷ xs) (suc j) (suc k) one other apart at there =
      omega (
        arith,
        sum_by-cons value x xs,
        terms_le xs j k one other
            (λ same. apart (ap suc same)) at there,
      )

  -- the sum with one element more
  pub sum_push : (xs : List A) (new : A)
      → sum_by value (xs ++ new ∷ []) ≡ sum_by value xs + value new
  sum_push xs new = omega (arith, sum_by-append value xs (new ∷ []), sum_by-cons value new [])

-- 1 for the frame itself, and 0 for another
abbrev pub one_if : ℕ → ℕ → ℕ
one_if k x = cond (x == k) 1 0

pub one_if-same : (k x : ℕ) → x ≡ k → one_if k x ≡ 1
one_if-same k x same = ap (λ (test : Bool). cond test 1 0) (eq-eqb x k same)

pub one_if-other : (k x : ℕ) → x ≢ k → one_if k x ≡ 0
one_if-other k x apart = ap (λ (test : Bool). cond test 1 0) (ne_eqb x k apart)

pub times-cons : (k x : ℕ) (xs : List ℕ) → times k (x ∷ xs) ≡ one_if k x + times k xs
times-cons k x xs = sum_by-cons (one_if k) x xs

pub times-append : (k : ℕ) (xs ys : List ℕ) → times k (xs ++ ys) ≡ times k xs + times k ys
times-append k xs ys = sum_by-append (one_if k) xs ys

pub times-one : (k x : ℕ) → times k (x ∷ []) ≡ one_if k x
times-one k x = omega (arith, times-cons k x [])

-- a list without a frame has the frame no more, and each other as before
pub times-without_same : (k : ℕ) (xs : List ℕ) → times k (without k xs) ≡ 0
times-without_same k [] = refl
times-without_same k (x ∷ xs) = dite (ℕ_discrete x k)
    (λ same. ap (λ (test : Bool). times k (cond (not test) (x ∷ without k xs) (without k xs)))
    (eq-eqb x k same) ∙ times-without_same k xs)
    (λ apart. ap (λ (test : Bool). times k (cond (not test) (x ∷ without k xs) (without k xs)))
    (ne_eqb x k apart) ∙ omega (
      arith,
      times-cons k x (without k xs),
      one_if-other k x apart,
      times-without_same k xs,
    ))

pub times-without_other : (k j : ℕ) (xs : List ℕ) → k ≢ j → times k (without j xs) ≡ times k xs
times-without_other k j [] other = refl
times-without_other k j (x ∷ xs) other = dite (ℕ_discrete x j)
    (λ same. ap (λ (test : Bool). times k (cond (not test) (x ∷ without j xs) (without j xs)))
    (eq-eqb x j same) ∙ omega (
      arith,
      times-cons k x xs,
      one_if-other k x (λ one. other (sym one ∙ same)),
      times-without_other k j xs other,
    ))
    (λ apart. ap (λ (test : Bool). times k (cond (not test) (x ∷ without j xs) (without j xs)))
    (ne_eqb x j apart) ∙ omega (
      arith,
      times-cons k x (without j xs),
      times-cons k x xs,
      times-without_other k j xs other,
    ))

-- a run of claims: before it, within it, after it, an empty one, and two that are one
pub tries-before : (first end k : ℕ) → k < first → tries first end k ≡ 0
tries-before first end k before = ap (λ (test : Bool). cond test 0 (cond (ltb k end) 1 0))
    (lt-ltb k first before)

pub tries-within : (first end k : ℕ) → first ≤ k → k < end → tries first end k ≡ 1
tries-within first end k from below = ap (λ (test : Bool). cond test 0 (cond (ltb k end) 1 0))
    (le-ltb k first from) ∙ ap (λ (test : Bool). cond test 1 0) (lt-ltb k end below)

pub tries-after : (first end k : ℕ) → end ≤ k → tries first end k ≡ 0
tries-after first end k past = dite (dec_le first k)
    (λ from. ap (λ (test : Bool). cond test 0 (cond (ltb k end) 1 0)) (le-ltb k first from)
    ∙ ap (λ (test : Bool). cond test 1 0) (le-ltb k end past))
    (λ earlier. tries-before first end k (omega arith))

pub tries-none : (first k : ℕ) → tries first first k ≡ 0
tries-none first k = dite (dec_le first k) (λ from. tries-after first first k from)
    (λ earlier. tries-before first first k (omega arith))

pub tries-join : (a b c k : ℕ) → a ≤ b → b ≤ c → tries a b k + tries b c k ≡ tries a c k
tries-join a b c k first second = dite (dec_le a k)
    (λ from. dite (dec_le b k)
    (λ later. dite (dec_le c k) (λ past. omega
    (arith, tries-after a b k later, tries-after b c k past, tries-after a c k past))
    (λ within. omega (
      arith,
      tries-after a b k later,
      tries-within b c k later (omega arith),
      tries-within a c k from (omega arith),
    )))
    (λ sooner. omega (
      arith,
      tries-within a b k from (omega arith),
      tries-before b c k (omega arith),
      tries-within a c k from (omega arith),
    )))
    (λ before. omega (
      arith,
      tries-before a b k (omega arith),
      tries-before b c k (omega arith),
      tries-before a c k (omega arith),
    ))

-- no frame is in a run twice
pub tries-once : (first end k : ℕ) → tries first end k ≤ 1
tries-once first end k = dite (dec_le first k)
    (λ from. dite (dec_le end k) (λ past. omega (arith, tries-after first end k past))
    (λ within. omega (arith, tries-within first end k from (omega arith))))
    (λ before. omega (arith, tries-before first end k (omega arith)))

-- a run up to a frame before another's start has nothing in common with the other
pub tries-apart : (a b c d k : ℕ) → b ≤ c → tries a b k + tries c d k ≤ 1
tries-apart a b c d k apart = dite (dec_le b k)
    (λ later. omega (arith, tries-after a b k later, tries-once c d k))
    (λ sooner. omega (arith, tries-before c d k (omega arith), tries-once a b k))
