-- Marking interval numbers one by one.
use Rattle.std.proofs.Math.Nat.{div-le_self}
use Rattle.std.proofs.Common.{◌≡◌, ℕ, ◌+◌, ◌<◌, ◌≤◌, Bool, true, false, ◌||◌, eqb, List, [], ◌∷◌}
use Rattle.std.proofs.Common.{◌++◌, length, get_or, set, take, drop, All, refl, sym, ap, subst, ◌∙◌}
use Rattle.std.proofs.Common.{arith, append_assoc, inl, inr, replicate, ◌-◌}
use Rattle.std.specs.List.{IsDistinct, list_any, flat_map}
use Rattle.std.proofs.lemmas.Bool.{cases_eq, cases_lt, eqb-true, eq-eqb, ne_eqb, or_cases, or_right}
use Rattle.std.proofs.lemmas.Bool.{true≢false}
use Rattle.std.proofs.lemmas.Cmp.{nat_eq_equiv}
use Rattle.std.proofs.lemmas.List.{get_or-set_same, get_or-set_other, take-append-drop, take_more}
use Rattle.std.proofs.lemmas.List.{length-append, get_or_append_left, get_or-replicate, get_or_past}
use Rattle.std.proofs.lemmas.List.{length-replicate}
use Rattle.std.proofs.lemmas.Grind.{flat_map-append}
use Rattle.std.proofs.lemmas.List.Elements.{All-push, All-head, All-nil, All-from_recursion}
use Rattle.std.proofs.lemmas.List.Folds.{list_any-append}
use Rattle.std.proofs.lemmas.Map.Keys.{IsDistinct-push, IsDistinct-from_apart, apart_from_distinct}
use Rattle.std.proofs.lemmas.Map.Keys.{IsDistinct-head, IsDistinct-tail}
use Rattle.vr_seqset.specs.Entry.{Entry}
use Rattle.vr_seqset.specs.Numbers.{AreOnceBelow, Marks, intervals_used}
use Rattle.vr_seqset.proofs.ListLemmas.{All-left, All-right}

-- no more intervals are used than a block has bytes
pub used_below : (cis size place : ℕ) → intervals_used cis size place ≤ size
used_below cis size place = omega (arith, div-le_self (size - 32 - place) (4 + place))

IsDistinct-left : (xs ys : List ℕ) → IsDistinct eqb (xs ++ ys) → IsDistinct eqb xs
IsDistinct-left xs ys once = IsDistinct-from_apart eqb xs (λ i j d lt below.
    let within : i < length xs = omega arith in
    let first = get_or_append_left xs ys d i within in
    let second = get_or_append_left xs ys d j below in
    ap (λ (n : ℕ). eqb n (get_or xs j d)) (sym first)
    ∙ ap (eqb (get_or (xs ++ ys) i d)) (sym second)
    ∙ apart_from_distinct eqb (xs ++ ys) i j d once lt (omega (arith, length-append xs ys)))

pub once_left : (limit : ℕ) (xs ys : List ℕ) → AreOnceBelow limit (xs ++ ys) → AreOnceBelow limit xs
once_left limit xs ys once_is = record {
  below =
      All-left (λ (n : ℕ). n < limit) xs ys once_is.below;
  once = IsDistinct-left xs ys once_is.once;
}

-- a number that comes before is not there once
twice : (xs : List ℕ) (n : ℕ) → list_any (eqb n) xs ≡ true → IsDistinct eqb (xs ++ n ∷ []) → ⊥
twice [] n there once = absurd cc
twice (x ∷ xs) n there once =
    elim (or_cases (eqb n x) (list_any (eqb n) xs) there) [
      | inl first ↦
          let apart : All (λ (y : ℕ). eqb x y ≡ false) (xs ++ n ∷ []) =
          All-from_recursion (λ (y : ℕ). eqb x y ≡ false) (xs ++ n ∷ [])
          (IsDistinct-head eqb x (xs ++ n ∷ []) once) in
          let last : eqb x n ≡ false = All-head (λ (y : ℕ). eqb x y ≡ false) n []
          (All-right (λ (y : ℕ). eqb x y ≡ false) xs (n ∷ []) apart) in
          let same : eqb x n ≡ true = eq-eqb x n (sym (eqb-true n x first)) in
          true≢false (sym same ∙ last)
      | inr others ↦ twice xs n others (IsDistinct-tail eqb x (xs ++ n ∷ []) once)
    ]

-- a number that is not marked yet
pub mark_more : (limit : ℕ) (seen : List Bool) (xs : List ℕ) (n : ℕ) → limit ≤ length seen
    → n < limit → get_or seen n false ≡ false → AreOnceBelow limit xs × Marks limit seen xs
    → AreOnceBelow limit (xs ++ n ∷ []) × Marks limit (set seen n true) (xs ++ n ∷ [])
mark_more limit seen xs n room lt fresh both = (
  record {
    below = All-push (λ (m : ℕ). m < limit) xs n both.0.below lt;
    once = IsDistinct-push nat_eq_equiv xs n both.0.once (sym (both.1 n lt) ∙ fresh);
  },
  λ m below. elim (cases_eq m n) [
    | inl same ↦
        rw same (get_or-set_same seen n true false (omega arith)
        ∙ sym (list_any-append (eqb n) xs (n ∷ [])
        ∙ or_right (list_any (eqb n) xs) (list_any (eqb n) (n ∷ []))
        (ap (λ (b : Bool). b || false) (eq-eqb n n refl))))
    | inr other ↦
        get_or-set_other seen n m true false other ∙ both.1 m below
        ∙ sym (list_any-append (eqb m) xs (n ∷ [])
        ∙ ap (λ (b : Bool). list_any (eqb m) xs || (b || false)) (ne_eqb m n other)
        ∙ or_false (list_any (eqb m) xs))
  ],
)
  where
    or_false : (b : Bool) → (b || (false || false)) ≡ b
    or_false true = refl
    or_false false = refl

-- a number that is marked, or past the limit
pub marked : (limit : ℕ) (seen : List Bool) (xs : List ℕ) (n : ℕ) → get_or seen n false ≡ true
    → Marks limit seen xs → AreOnceBelow limit (xs ++ n ∷ []) → ⊥
marked limit seen xs n there marks once_is =
    let lt : n < limit = All-head (λ (m : ℕ). m < limit) n []
    (All-right (λ (m : ℕ). m < limit) xs (n ∷ []) once_is.below) in
    twice xs n (sym (marks n lt) ∙ there) once_is.once

pub past_limit : (limit : ℕ) (xs : List ℕ) (n : ℕ) → limit ≤ n → AreOnceBelow limit (xs ++ n ∷ [])
    → ⊥
past_limit limit xs n le once =
    let lt : n < limit = All-head (λ (m : ℕ). m < limit) n []
    (All-right (λ (m : ℕ). m < limit) xs (n ∷ []) once.below) in
    omega arith

-- ---- the numbers of an entry, one by one

pub more_used : (used ns : List ℕ) (j : ℕ) → j < length ns
    → used ++ take (j + 1) ns ≡ (used ++ take j ns) ++ get_or ns j 0 ∷ []
more_used used ns j lt = ap (λ (x : List ℕ). used ++ x) (take_more ns j 0 lt)
    ∙ sym (append_assoc used (take j ns) (get_or ns j 0 ∷ []))

-- what holds of all numbers holds of the first ones
pub once_upto : (limit : ℕ) (used ns : List ℕ) (j : ℕ) → j < length ns
    → AreOnceBelow limit (used ++ ns) → AreOnceBelow limit
    ((used ++ take j ns) ++ get_or ns j 0 ∷ [])
once_upto limit used ns j lt once =
    let cut : used ++ ns ≡ (used ++ take (j + 1) ns) ++ drop (j + 1) ns =
    ap (λ (x : List ℕ). used ++ x) (sym (take-append-drop (j + 1) ns))
    ∙ sym (append_assoc used (take (j + 1) ns) (drop (j + 1) ns)) in
    let front : AreOnceBelow limit (used ++ take (j + 1) ns) =
    once_left limit (used ++ take (j + 1) ns) (drop (j + 1) ns)
    (subst (AreOnceBelow limit) cut once) in
    subst (AreOnceBelow limit) (more_used used ns j lt) front

-- ---- entry by entry

pub none_once : (limit : ℕ) → AreOnceBelow limit []
unfolding IsDistinct
none_once limit = record { below = All-nil (λ (n : ℕ). n < limit); once = tt }

pub none_marked : (m limit : ℕ) → Marks limit (replicate m false) []
none_marked m limit n lt =
    elim (cases_lt n m) [
      | inl within ↦ get_or-replicate m n false false within
      | inr past ↦ get_or_past (replicate m false) n false (omega (arith, length-replicate m false))
    ]

-- numbers of entries that are not once are not once among all
pub once_of_all : (limit : ℕ) (all before others : List Entry) (e : Entry)
    → all ≡ before ++ e ∷ others → AreOnceBelow limit (flat_map (λ x. x.intervals) all)
    → AreOnceBelow limit (flat_map (λ x. x.intervals) before ++ e.intervals)
once_of_all limit all before others e cut whole =
    let numbers = λ (x : Entry). x.intervals in
    let same : flat_map (λ (x : Entry). x.intervals) all ≡
    (flat_map (λ (x : Entry). x.intervals) before ++ e.intervals)
    ++ flat_map (λ (x : Entry). x.intervals) others =
    ap (flat_map (λ (x : Entry). x.intervals)) cut
    ∙ flat_map-append (λ (x : Entry). x.intervals) before (e ∷ others)
    ∙ sym (append_assoc (flat_map (λ (x : Entry). x.intervals) before) e.intervals
    (flat_map (λ (x : Entry). x.intervals) others)) in
    once_left limit (flat_map (λ (x : Entry). x.intervals) before ++ e.intervals)
    (flat_map (λ (x : Entry). x.intervals) others) (subst (AreOnceBelow limit) same whole)
