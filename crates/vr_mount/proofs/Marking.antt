-- Elements that mark a list at their numbers, one after the other.
use Rattle.std.proofs.Common.{◌≡◌, ◌⊎◌, ℕ, zero, suc, ◌+◌, ◌<◌, List, [], ◌∷◌, length}
use Rattle.std.proofs.Common.{get_or, refl, sym, ap, ◌∙◌, subst, arith, inl, inr, Option, Some}
use Rattle.std.proofs.Common.{None, take}
use Rattle.std.specs.Prelude.{nat_eq, set}
use Rattle.vr_mount.specs.Marks.{mark_by, marked}
use Rattle.std.specs.List.{IsDistinct, filter_map, fold}
use Rattle.std.proofs.lemmas.Bool.{cases_lt}
use Rattle.std.proofs.lemmas.Bool.Decides.{eqb_tells}
use Rattle.std.proofs.lemmas.List.{get_or-set_same, get_or-set_other, length-set, get_or_past}
use Rattle.std.proofs.lemmas.List.Sums.{fold-append}
use Rattle.std.proofs.lemmas.Grind.{take_at_read}
use Rattle.vr_mount.proofs.Telling.{each_distinct, distinct_after}

-- ---- one mark

mark_length : {Y : Type 0} (o : Option ℕ) (owner : Y) (owners : List (Option Y))
    → length (mark_by o owner owners) ≡ length owners
mark_length None owner owners = refl
mark_length (Some area) owner owners = length-set owners area (Some owner)

mark_here : {Y : Type 0} (o : Option ℕ) (owner : Y) (owners : List (Option Y)) (area : ℕ)
    → o ≡ Some area → area < length owners
    → get_or (mark_by o owner owners) area None ≡ Some owner
mark_here None owner owners area is within = absurd cc
mark_here (Some a) owner owners area is within =
    let same : a ≡ area = cc in
    subst (λ (n : ℕ). get_or (set owners n (Some owner)) area None ≡ Some owner) (sym same)
    (get_or-set_same owners area (Some owner) None within)

mark_elsewhere : {Y : Type 0} (o : Option ℕ) (owner : Y) (owners : List (Option Y)) (area : ℕ)
    → (o ≡ Some area → ⊥) → get_or (mark_by o owner owners) area None ≡ get_or owners area None
mark_elsewhere None owner owners area other = refl
mark_elsewhere (Some a) owner owners area other =
    get_or-set_other owners a area (Some owner) None (λ same. other (ap Some (sym same)))

mark_whose : {Y : Type 0} (o : Option ℕ) (owner : Y) (owners : List (Option Y)) (area : ℕ) (who : Y)
    → get_or (mark_by o owner owners) area None ≡ Some who
    → (get_or owners area None ≡ Some who) ⊎ ((o ≡ Some area) × (owner ≡ who))
mark_whose None owner owners area who is = inl is
mark_whose (Some a) owner owners area who is =
    elim (eqb_tells a area) [
      | inl same ↦ elim (cases_lt area (length owners)) [
        | inl within ↦
            let put : get_or (set owners a (Some owner)) area None ≡ Some owner =
            mark_here (Some a) owner owners area (ap Some same.1) within in
            inr (ap Some same.1, cc)
        | inr past ↦
            let none : get_or (set owners a (Some owner)) area None ≡ None =
            get_or_past (set owners a (Some owner)) area None
            (omega (arith, length-set owners a (Some owner))) in
            absurd cc
      ]
      | inr differ ↦ inl
          (sym (get_or-set_other owners a area (Some owner) None (λ same. differ.1 (sym same))) ∙ is)
    ]

-- ---- the marks of all

pub marks_length : {X Y : Type 0} (h : X → Option ℕ) (g : X → Y) (owners : List (Option Y))
    (xs : List X) → length (fold (marked h g) owners xs) ≡ length owners
marks_length h g owners [] = refl
marks_length h g owners (x ∷ xs) =
    marks_length h g (marked h g owners x) xs ∙ mark_length (h x) (g x) owners

-- what none of them marks stays
pub marks_elsewhere : {X Y : Type 0} (h : X → Option ℕ) (g : X → Y) (owners : List (Option Y))
    (xs : List X) (area : ℕ)
    → ((j : ℕ) (d : X) → j < length xs → h (get_or xs j d) ≡ Some area → ⊥)
    → get_or (fold (marked h g) owners xs) area None ≡ get_or owners area None
marks_elsewhere h g owners [] area none = refl
marks_elsewhere h g owners (x ∷ xs) area none =
    marks_elsewhere h g (marked h g owners x) xs area
    (λ j d within same. none (suc j) d (omega arith) same)
    ∙ mark_elsewhere (h x) (g x) owners area (none 0 x (omega arith))

-- what one of them marks is its own, where no two have the same number
pub marks_here : {X Y : Type 0} (h : X → Option ℕ) (g : X → Y) (owners : List (Option Y))
    (xs : List X) (i : ℕ) (d : X) (area : ℕ) → IsDistinct nat_eq (filter_map h xs) → i < length xs
    → h (get_or xs i d) ≡ Some area → area < length owners
    → get_or (fold (marked h g) owners xs) area None ≡ Some (g (get_or xs i d))
marks_here h g owners [] i d area distinct below is within = absurd (omega arith)
marks_here h g owners (x ∷ xs) zero d area distinct below is within =
    marks_elsewhere h g (marked h g owners x) xs area
    (λ j other past same. each_distinct h (x ∷ xs) 0 (suc j) other area distinct (omega arith)
    (omega arith) is same)
    ∙ mark_here (h x) (g x) owners area is within
marks_here h g owners (x ∷ xs) (suc i) d area distinct below is within =
    marks_here h g (marked h g owners x) xs i d area
    (tail (h x) distinct) (omega arith) is (omega (arith, mark_length (h x) (g x) owners))
  where
    tail : (o : Option ℕ) → IsDistinct nat_eq (filter_map h (x ∷ xs))
        → IsDistinct nat_eq (filter_map h xs)
    tail o all = distinct_after h (x ∷ xs) 0 x (omega arith) all

-- and each mark is one of theirs, or was there
pub marks_whose : {X Y : Type 0} (h : X → Option ℕ) (g : X → Y) (owners : List (Option Y))
    (xs : List X) (area : ℕ) (who : Y) → get_or (fold (marked h g) owners xs) area None ≡ Some who
    → (get_or owners area None ≡ Some who)
    ⊎ ((j : ℕ) × (j < length xs)
    × ((d : X) → (h (get_or xs j d) ≡ Some area) × (g (get_or xs j d) ≡ who)))
marks_whose h g owners [] area who is = inl is
marks_whose h g owners (x ∷ xs) area who is =
    elim (marks_whose h g (marked h g owners x) xs area who is) [
      | inl before ↦ elim (mark_whose (h x) (g x) owners area who before) [
        | inl old ↦ inl old
        | inr here ↦ inr (0, omega arith, λ d. here)
      ]
      | inr later ↦ inr (suc later.0, omega (arith, later.1), later.2)
    ]

-- ---- one more

pub marks_more : {X Y : Type 0} (h : X → Option ℕ) (g : X → Y) (owners : List (Option Y))
    (xs : List X) (i : ℕ) (d : X) → i < length xs
    → fold (marked h g) owners (take (i + 1) xs)
    ≡ marked h g (fold (marked h g) owners (take i xs)) (get_or xs i d)
marks_more h g owners xs i d within =
    ap (λ (ys : _). fold (marked h g) owners ys) (take_at_read xs i d within).1
    ∙ fold-append (marked h g) owners (take i xs) (get_or xs i d ∷ [])
