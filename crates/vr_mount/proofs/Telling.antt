-- Numbers of some elements of a list that are told apart.
use Rattle.std.proofs.Common.{◌≡◌, ℕ, zero, suc, ◌+◌, ◌-◌, ◌<◌, ◌≤◌, Bool, true, false, cond}
use Rattle.std.proofs.Common.{List, [], ◌∷◌}
use Rattle.std.proofs.Common.{length, get_or, drop, take, refl, sym, ap, ◌∙◌, subst, arith, map}
use Rattle.std.proofs.Common.{◌++◌}
use Rattle.std.proofs.Common.{Option, Some, None}
use Rattle.std.specs.Prelude.{nat_eq, ◌==◌, All, filter}
use Rattle.std.specs.List.{IsDistinct, filter_map, cons_option, find}
use Rattle.std.proofs.lemmas.Bool.{ne_eqb, eqb-false}
use Rattle.std.proofs.lemmas.Bool.Decides.{Decides-eqb}
use Rattle.std.proofs.lemmas.List.{drop_more, length-drop, take_all}
use Rattle.std.proofs.lemmas.List.Elements.{filter_map-append}
use Rattle.std.proofs.lemmas.Grind.{take_at_read}
use Rattle.vr_mount.specs.Numbers.{IsLone, IsNew}

-- ---- one more number, or none

new_more : (o : Option ℕ) (rest : List ℕ) (n : ℕ) → (o ≡ Some n → ⊥) → IsNew n rest
    → IsNew n (cons_option o rest)
new_more None rest n other new = new
new_more (Some m) rest n other new = (ne_eqb n m (λ same. other (ap Some (sym same))), new)

new_tail : (o : Option ℕ) (rest : List ℕ) (n : ℕ) → IsNew n (cons_option o rest) → IsNew n rest
new_tail None rest n new = new
new_tail (Some m) rest n new = new.1

new_head : (o : Option ℕ) (rest : List ℕ) (n : ℕ) → o ≡ Some n → IsNew n (cons_option o rest) → ⊥
new_head None rest n same new = absurd cc
new_head (Some m) rest n same new =
    let equal : n ≡ m = cc in
    eqb-false n m new.0 equal

distinct_more : (o : Option ℕ) (rest : List ℕ) → IsLone rest o → IsDistinct nat_eq rest
    → IsDistinct nat_eq (cons_option o rest)
unfolding IsDistinct
distinct_more None rest lone distinct = distinct
distinct_more (Some n) rest lone distinct = (lone, distinct)

distinct_tail : (o : Option ℕ) (rest : List ℕ) → IsDistinct nat_eq (cons_option o rest)
    → IsDistinct nat_eq rest
unfolding IsDistinct
distinct_tail None rest distinct = distinct
distinct_tail (Some n) rest distinct = distinct.1

distinct_head : (o : Option ℕ) (rest : List ℕ) → IsDistinct nat_eq (cons_option o rest)
    → IsLone rest o
unfolding IsDistinct
distinct_head None rest distinct = tt
distinct_head (Some n) rest distinct = distinct.0

-- none of the numbers is 0, and no two are the same
pub distinct_from_zero : (numbers : List ℕ) → IsNew 0 numbers → IsDistinct nat_eq numbers
    → IsDistinct nat_eq (0 ∷ numbers)
unfolding IsDistinct
distinct_from_zero numbers new distinct = (new, distinct)

pub zero_is_new : (numbers : List ℕ) → IsDistinct nat_eq (0 ∷ numbers) → IsNew 0 numbers
unfolding IsDistinct
zero_is_new numbers distinct = distinct.0

pub others_distinct : (numbers : List ℕ) → IsDistinct nat_eq (0 ∷ numbers)
    → IsDistinct nat_eq numbers
unfolding IsDistinct
others_distinct numbers distinct = distinct.1

-- ---- the elements from one on, as a walk over them finds them

pub new_from : {X : Type 0} (h : X → Option ℕ) (n : ℕ) (xs : List X) (i : ℕ) (d : X)
    → i < length xs → (h (get_or xs i d) ≡ Some n → ⊥) → IsNew n (filter_map h (drop (i + 1) xs))
    → IsNew n (filter_map h (drop i xs))
new_from h n xs i d within other new =
    rw (drop_more xs i d within)
    (new_more (h (get_or xs i d)) (filter_map h (drop (i + 1) xs)) n other new)

pub new_after : {X : Type 0} (h : X → Option ℕ) (n : ℕ) (xs : List X) (i : ℕ) (d : X)
    → i < length xs → IsNew n (filter_map h (drop i xs))
    → IsNew n (filter_map h (drop (i + 1) xs))
new_after h n xs i d within new =
    new_tail (h (get_or xs i d)) (filter_map h (drop (i + 1) xs)) n
    (rw (drop_more xs i d within) at new)

pub new_not : {X : Type 0} (h : X → Option ℕ) (n : ℕ) (xs : List X) (i : ℕ) (d : X)
    → i < length xs → h (get_or xs i d) ≡ Some n → IsNew n (filter_map h (drop i xs)) → ⊥
new_not h n xs i d within same new =
    new_head (h (get_or xs i d)) (filter_map h (drop (i + 1) xs)) n same
    (rw (drop_more xs i d within) at new)

pub distinct_from : {X : Type 0} (h : X → Option ℕ) (xs : List X) (i : ℕ) (d : X)
    → i < length xs → IsLone (filter_map h (drop (i + 1) xs)) (h (get_or xs i d))
    → IsDistinct nat_eq (filter_map h (drop (i + 1) xs))
    → IsDistinct nat_eq (filter_map h (drop i xs))
distinct_from h xs i d within lone distinct =
    rw (drop_more xs i d within)
    (distinct_more (h (get_or xs i d)) (filter_map h (drop (i + 1) xs)) lone distinct)

pub distinct_after : {X : Type 0} (h : X → Option ℕ) (xs : List X) (i : ℕ) (d : X)
    → i < length xs → IsDistinct nat_eq (filter_map h (drop i xs))
    → IsDistinct nat_eq (filter_map h (drop (i + 1) xs))
distinct_after h xs i d within distinct =
    distinct_tail (h (get_or xs i d)) (filter_map h (drop (i + 1) xs))
    (rw (drop_more xs i d within) at distinct)

pub lone_at : {X : Type 0} (h : X → Option ℕ) (xs : List X) (i : ℕ) (d : X)
    → i < length xs → IsDistinct nat_eq (filter_map h (drop i xs))
    → IsLone (filter_map h (drop (i + 1) xs)) (h (get_or xs i d))
lone_at h xs i d within distinct =
    distinct_head (h (get_or xs i d)) (filter_map h (drop (i + 1) xs))
    (rw (drop_more xs i d within) at distinct)

-- ---- elements that are found

some_same : {X : Type 0} (x y : X) → Some x ≡ Some y → x ≡ y
some_same x y same = cc

test_true : {X : Type 0} (b : Bool) (x y : X) (further : Option X) → b ≡ true
    → cond b (Some x) further ≡ Some y → x ≡ y
test_true true x y further is found = some_same x y found
test_true false x y further is found = absurd cc

test_false : {X : Type 0} (b : Bool) (x y : X) (further : Option X) → b ≡ false
    → cond b (Some x) further ≡ Some y → further ≡ Some y
test_false true x y further is found = absurd cc
test_false false x y further is found = found

-- an element that is found has no new number
pub found_not_new : {X : Type 0} (h : X → Option ℕ) (q : X → Bool) (xs : List X) (y : X) (a : ℕ)
    → find q xs ≡ Some y → h y ≡ Some a → IsNew a (filter_map h xs) → ⊥
found_not_new h q [] y a found has new = absurd cc
found_not_new {X} h q (z ∷ zs) y a found has new =
    by_test (q z) refl (found_not_new h q zs y a)
  where
    by_test : (b : Bool) → q z ≡ b
        → (find q zs ≡ Some y → h y ≡ Some a → IsNew a (filter_map h zs) → ⊥) → ⊥
    by_test true is further =
        let here : z ≡ y = test_true (q z) z y (find q zs) is found in
        new_head (h z) (filter_map h zs) a (ap h here ∙ has) new
    by_test false is further =
        further (test_false (q z) z y (find q zs) is found) has
        (new_tail (h z) (filter_map h zs) a new)

-- two that are found with the same number are one
pub one_found : {X : Type 0} (h : X → Option ℕ) (p q : X → Bool) (xs : List X) (x y : X) (a : ℕ)
    → IsDistinct nat_eq (filter_map h xs) → find p xs ≡ Some x → find q xs ≡ Some y
    → h x ≡ Some a → h y ≡ Some a → x ≡ y
one_found h p q [] x y a distinct one other has holds = absurd cc
one_found {X} h p q (z ∷ zs) x y a distinct one other has holds =
    by_tests (p z) refl (q z) refl
    (one_found h p q zs x y a (distinct_tail (h z) (filter_map h zs) distinct))
  where
    lone : (w : X) → z ≡ w → h w ≡ Some a → IsNew a (filter_map h zs)
    lone w same is = subst (IsLone (filter_map h zs)) (ap h same ∙ is)
        (distinct_head (h z) (filter_map h zs) distinct)

    by_tests : (b : Bool) → p z ≡ b → (c : Bool) → q z ≡ c
        → (find p zs ≡ Some x → find q zs ≡ Some y → h x ≡ Some a → h y ≡ Some a → x ≡ y) → x ≡ y
    by_tests true b-is true c-is further =
        let first : z ≡ x = test_true (p z) z x (find p zs) b-is one in
        let second : z ≡ y = test_true (q z) z y (find q zs) c-is other in
        sym first ∙ second
    by_tests true b-is false c-is further =
        let first : z ≡ x = test_true (p z) z x (find p zs) b-is one in
        let second : find q zs ≡ Some y = test_false (q z) z y (find q zs) c-is other in
        absurd (found_not_new h q zs y a second holds (lone x first has))
    by_tests false b-is true c-is further =
        let first : find p zs ≡ Some x = test_false (p z) z x (find p zs) b-is one in
        let second : z ≡ y = test_true (q z) z y (find q zs) c-is other in
        absurd (found_not_new h p zs x a first has (lone y second holds))
    by_tests false b-is false c-is further =
        further (test_false (p z) z x (find p zs) b-is one)
        (test_false (q z) z y (find q zs) c-is other) has holds

-- ---- by the places of the elements

-- a number that no element has is new
pub new_by_each : {X : Type 0} (h : X → Option ℕ) (a : ℕ) (xs : List X)
    → ((j : ℕ) (d : X) → j < length xs → h (get_or xs j d) ≡ Some a → ⊥)
    → IsNew a (filter_map h xs)
new_by_each h a [] none = tt
new_by_each h a (x ∷ xs) none =
    new_more (h x) (filter_map h xs) a (none 0 x (omega arith))
    (new_by_each h a xs (λ j d within same. none (suc j) d (omega arith) same))

-- and no element has a new number
pub none_has_new : {X : Type 0} (h : X → Option ℕ) (a : ℕ) (xs : List X) (j : ℕ) (d : X)
    → j < length xs → h (get_or xs j d) ≡ Some a → IsNew a (filter_map h xs) → ⊥
none_has_new h a [] j d within same new = absurd (omega arith)
none_has_new h a (x ∷ xs) zero d within same new = new_head (h x) (filter_map h xs) a same new
none_has_new h a (x ∷ xs) (suc j) d within same new =
    none_has_new h a xs j d (omega arith) same (new_tail (h x) (filter_map h xs) a new)

-- numbers of which no two elements have the same are distinct
pub distinct_by_each : {X : Type 0} (h : X → Option ℕ) (xs : List X)
    → ((i j : ℕ) (d : X) (a : ℕ) → i < j → j < length xs → h (get_or xs i d) ≡ Some a
    → h (get_or xs j d) ≡ Some a → ⊥)
    → IsDistinct nat_eq (filter_map h xs)
unfolding IsDistinct
distinct_by_each h [] none = tt
distinct_by_each h (x ∷ xs) none =
    distinct_more (h x) (filter_map h xs) (lone (h x) refl)
    (distinct_by_each h xs
    (λ i j d a below within one other. none (suc i) (suc j) d a (omega arith) (omega arith) one other))
  where
    lone : (o : Option ℕ) → h x ≡ o → IsLone (filter_map h xs) o
    lone None is = tt
    lone (Some a) is = new_by_each h a xs
        (λ j d within same. none 0 (suc j) d a (omega arith) (omega arith) is same)

-- and of distinct numbers no two elements have the same
pub each_distinct : {X : Type 0} (h : X → Option ℕ) (xs : List X) (i j : ℕ) (d : X) (a : ℕ)
    → IsDistinct nat_eq (filter_map h xs) → i < j → j < length xs → h (get_or xs i d) ≡ Some a
    → h (get_or xs j d) ≡ Some a → ⊥
each_distinct h [] i j d a distinct below within one other = absurd (omega arith)
each_distinct h (x ∷ xs) i zero d a distinct below within one other = absurd (omega arith)
each_distinct h (x ∷ xs) zero (suc j) d a distinct below within one other =
    none_has_new h a xs j d (omega arith) other
    (subst (IsLone (filter_map h xs)) one (distinct_head (h x) (filter_map h xs) distinct))
each_distinct h (x ∷ xs) (suc i) (suc j) d a distinct below within one other =
    each_distinct h xs i j d a (distinct_tail (h x) (filter_map h xs) distinct) (omega arith)
    (omega arith) one other

-- ---- numbers that each element has

-- they are those of all elements
pub map_some : {X : Type 0} (f : X → ℕ) (xs : List X)
    → filter_map (λ (x : X). Some (f x)) xs ≡ map f xs
map_some f [] = refl
map_some f (x ∷ xs) = ap (λ (rest : List ℕ). f x ∷ rest) (map_some f xs)

-- an element is found by its number, where no two have the same
pub found_at : {X : Type 0} (f : X → ℕ) (xs : List X) (i : ℕ) (d : X)
    → IsDistinct nat_eq (filter_map (λ (x : X). Some (f x)) xs) → i < length xs
    → find (λ (x : X). f x == f (get_or xs i d)) xs ≡ Some (get_or xs i d)
found_at f [] i d distinct within = absurd (omega arith)
found_at f (x ∷ xs) zero d distinct within =
    rw ((Decides-eqb (f x) (f x)).1 refl) refl
found_at {X} f (x ∷ xs) (suc i) d distinct within =
    let differs : f x ≡ f (get_or xs i d) → ⊥ = λ same.
    each_distinct (λ (y : X). Some (f y)) (x ∷ xs) 0 (suc i) d (f (get_or xs i d)) distinct
    (omega arith) within (ap Some same) refl in
    rw (ne_eqb (f x) (f (get_or xs i d)) differs)
    (found_at f xs i d (distinct_tail (Some (f x)) (filter_map (λ (y : X). Some (f y)) xs) distinct)
    (omega arith))

-- what is found passes the test
pub found_passes : {X : Type 0} (q : X → Bool) (xs : List X) (y : X) → find q xs ≡ Some y
    → q y ≡ true
found_passes q [] y found = absurd cc
found_passes q (z ∷ zs) y found = by_test (q z) refl (found_passes q zs y)
  where
    by_test : (b : Bool) → q z ≡ b → (find q zs ≡ Some y → q y ≡ true) → q y ≡ true
    by_test true is further =
        ap q (sym (test_true (q z) z y (find q zs) is found)) ∙ is
    by_test false is further = further (test_false (q z) z y (find q zs) is found)

-- and is at some place
pub found_place : {X : Type 0} (q : X → Bool) (xs : List X) (y : X) → find q xs ≡ Some y
    → (i : ℕ) × (i < length xs) × (get_or xs i y ≡ y)
found_place q [] y found = absurd cc
found_place q (z ∷ zs) y found = by_test (q z) refl (found_place q zs y)
  where
    by_test : (b : Bool) → q z ≡ b
        → (find q zs ≡ Some y → (i : ℕ) × (i < length zs) × (get_or zs i y ≡ y))
        → (i : ℕ) × (i < length (z ∷ zs)) × (get_or (z ∷ zs) i y ≡ y)
    by_test true is further =
        (0, omega arith, test_true (q z) z y (find q zs) is found)
    by_test false is further =
        let after = further (test_false (q z) z y (find q zs) is found) in
        (suc after.0, omega (arith, after.1), after.2)

-- ---- what the first elements give

pub filter_map_more : {X Y : Type 0} (h : X → Option Y) (xs : List X) (i : ℕ) (d : X) (y : Y)
    → i < length xs → h (get_or xs i d) ≡ Some y
    → filter_map h (take (i + 1) xs) ≡ filter_map h (take i xs) ++ y ∷ []
filter_map_more h xs i d y within is =
    ap (λ ys. filter_map h ys) (take_at_read xs i d within).1
    ∙ filter_map-append h (take i xs) (get_or xs i d ∷ [])
    ∙ rw is refl

-- ---- the end of a walk, and tests

pub distinct_end : {X : Type 0} (h : X → Option ℕ) (xs : List X) (i : ℕ) → length xs ≤ i
    → IsDistinct nat_eq (filter_map h (drop i xs))
unfolding IsDistinct
distinct_end h [] zero past = tt
distinct_end h [] (suc i) past = tt
distinct_end h (x ∷ xs) zero past = absurd (omega arith)
distinct_end h (x ∷ xs) (suc i) past = distinct_end h xs i (omega arith)

-- all that is after a place, as a range
pub rest_is : {X : Type 0} (xs : List X) (n : ℕ)
    → take (length xs - n) (drop n xs) ≡ drop n xs
rest_is xs n = take_all (length xs - n) (drop n xs) (omega (arith, length-drop n xs))

-- what is tested doesn't hold where the test is false
pub untrue : {P : Type 0} (r : Bool) → ((r ≡ true → P) × (P → r ≡ true)) → r ≡ false → P → ⊥
untrue true tested is holds = absurd cc
untrue false tested is holds = absurd (cc (tested.1 holds))

pub all_mapped : {X Y : Type 0} (f : X → Y) (P : Y → Type 0) (xs : List X)
    → All (λ (x : X). P (f x)) xs → All P (map f xs)
all_mapped f P [] each k d below = absurd (omega arith)
all_mapped f P (x ∷ xs) each zero d below = each 0 x (omega arith)
all_mapped f P (x ∷ xs) each (suc k) d below =
    all_mapped f P xs (λ i e within. each (suc i) e (omega arith)) k d (omega arith)

pub mapped_all : {X Y : Type 0} (f : X → Y) (P : Y → Type 0) (xs : List X)
    → All P (map f xs) → All (λ (x : X). P (f x)) xs
mapped_all f P [] each k d below = absurd (omega arith)
mapped_all f P (x ∷ xs) each zero d below = each 0 (f x) (omega arith)
mapped_all f P (x ∷ xs) each (suc k) d below =
    mapped_all f P xs (λ i e within. each (suc i) e (omega arith)) k d (omega arith)

pub element : {X : Type 0} (xs : List X) (i : ℕ) → i < length xs → X
element [] i within = absurd (omega arith)
element (x ∷ xs) i within = x

-- ---- elements that pass a test

none_pass : {X : Type 0} (p : X → Bool) (xs : List X) (d : X)
    → ((j : ℕ) → j < length xs → p (get_or xs j d) ≡ true → ⊥) → length (filter p xs) ≡ 0
none_pass p [] d none = refl
none_pass p (x ∷ xs) d none = by_test (p x) refl
    (none_pass p xs d (λ j within passes. none (suc j) (omega (arith, within)) passes))
  where
    by_test : (b : Bool) → p x ≡ b → length (filter p xs) ≡ 0
        → length (cond b (x ∷ filter p xs) (filter p xs)) ≡ 0
    by_test true is rest = absurd (none 0 (omega arith) is)
    by_test false is rest = rest

-- where one alone does, one is left
pub one_passes : {X : Type 0} (p : X → Bool) (xs : List X) (i : ℕ) (d : X) → i < length xs
    → p (get_or xs i d) ≡ true
    → ((j : ℕ) → j < length xs → p (get_or xs j d) ≡ true → j ≡ i) → length (filter p xs) ≡ 1
one_passes p [] i d within passes alone = absurd (omega arith)
one_passes p (x ∷ xs) zero d within passes alone =
    ap (λ (b : Bool). length (cond b (x ∷ filter p xs) (filter p xs))) passes
    ∙ ap suc (none_pass p xs d (λ j below other.
    absurd (omega (arith, alone (suc j) (omega (arith, below)) other))))
one_passes p (x ∷ xs) (suc i) d within passes alone = by_test (p x) refl
    (one_passes p xs i d (omega arith) passes (λ j below other.
    let same : suc j ≡ suc i = alone (suc j) (omega (arith, below)) other in omega (arith, same)))
  where
    by_test : (b : Bool) → p x ≡ b → length (filter p xs) ≡ 1
        → length (cond b (x ∷ filter p xs) (filter p xs)) ≡ 1
    by_test true is rest = absurd (omega (arith, alone 0 (omega arith) is))
    by_test false is rest = rest
