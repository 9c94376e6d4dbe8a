-- Before-images: which one is found at a place, and that at most one is kept there.
use Rattle.std.proofs.Common.{◌≡◌, ◌⊎◌, inl, inr, ℕ, Bool, true, false, cond, not, ◌==◌, ◌&&◌, ◌||◌}
use Rattle.std.proofs.Common.{List, [], ◌∷◌, ◌++◌, filter, find, bytes_eq, Some, None, refl, sym}
use Rattle.std.proofs.Common.{ap, ◌∙◌, subst, eq-eqb}
use Rattle.std.specs.Prelude.{Option}
use Rattle.std.specs.List.{list_any}
use Rattle.std.specs.Option.{option_or}
use Rattle.std.proofs.lemmas.Bool.{true≢false, false≢true}
use Rattle.std.proofs.lemmas.Slice.Eq.{bytes_eq-Decides}
use Rattle.vr_types.specs.Locks.{same_unit}
use Rattle.vr_types.specs.declared.unit.Unit.{Unit as UnitOfRecovery}
use Rattle.vr_history.specs.Effects.{is_other, keeps_other, last_of, without_last}
use Rattle.vr_history.specs.State.{BeforeImage}
use Rattle.vr_history.proofs.Same.{first_holds, nat_same, second_holds}

-- a before-image is of this place
abbrev pub is_place : ℕ → List ℕ → BeforeImage → Bool
is_place part place kept = kept.part == part && bytes_eq place kept.place

-- at most one before-image of a place
abbrev pub AreApart : List BeforeImage → Type 0
AreApart [] = Unit {0}
AreApart (kept ∷ befores) = (list_any (is_place kept.part kept.place) befores ≡ false)
    × AreApart befores

-- tests of two lists
pub or_false : (a b : Bool) → (a || b) ≡ false → (a ≡ false) × (b ≡ false)
or_false true b none = absurd (true≢false none)
or_false false b none = (refl, none)

pub and_false : (a : Bool) → (a && false) ≡ false
and_false true = refl
and_false false = refl

-- where no element passes a test, none is found by a narrower one
pub find_narrow : (wide narrow : BeforeImage → Bool) (befores : List BeforeImage)
    → ((kept : BeforeImage) → wide kept ≡ false → narrow kept ≡ false)
    → list_any wide befores ≡ false → find narrow befores ≡ None
find_narrow wide narrow [] narrower none = refl
find_narrow wide narrow (kept ∷ befores) narrower none =
    let here = or_false (wide kept) (list_any wide befores) none in
    ap (λ (test : Bool). cond test (Some kept) (find narrow befores)) (narrower kept here.0)
    ∙ find_narrow wide narrow befores narrower here.1

pub find_append : (test : BeforeImage → Bool) (befores : List BeforeImage) (new : BeforeImage)
    → find test (befores
    ++ new ∷ []) ≡ option_or (find test befores) (cond (test new) (Some new) None)
find_append test [] new = refl
find_append test (kept ∷ befores) new = by_test (test kept) (find_append test befores new)
  where
    by_test : (is : Bool)
        → find test (befores
        ++ new ∷ []) ≡ option_or (find test befores) (cond (test new) (Some new) None)
        → cond is (Some kept) (find test (befores
        ++ new ∷ [])) ≡ option_or (cond is (Some kept) (find test befores))
        (cond (test new) (Some new) None)
    by_test true further = refl
    by_test false further = further

or_none : (one : Option BeforeImage) → option_or one None ≡ one
or_none None = refl
or_none (Some kept) = refl

-- one that the test passes over changes nothing
pub find_append_other : (test : BeforeImage
    → Bool) (befores : List BeforeImage) (new : BeforeImage) → test new ≡ false
    → find test (befores ++ new ∷ []) ≡ find test befores
find_append_other test befores new other =
    find_append test befores new
    ∙ (ap (λ (is : Bool). option_or (find test befores) (cond is (Some new) None)) other
    ∙ or_none (find test befores))

pub find_append_new : (test : BeforeImage → Bool) (befores : List BeforeImage) (new : BeforeImage)
    → find test befores ≡ None → test new ≡ true → find test (befores ++ new ∷ []) ≡ Some new
find_append_new test befores new none is =
    find_append test befores new
    ∙ (ap (λ (one : Option BeforeImage). option_or one (cond (test new) (Some new) None)) none
    ∙ ap (λ (b : Bool). cond b (Some new) None) is)

-- those that are taken out don't pass the test
pub find_filter : (left test : BeforeImage → Bool) (befores : List BeforeImage)
    → ((kept : BeforeImage) → left kept ≡ false → test kept ≡ false)
    → find test (filter left befores) ≡ find test befores
find_filter left test [] passes = refl
find_filter left test (kept ∷ befores) passes =
    by_test (left kept) refl (find_filter left test befores passes)
  where
    by_test : (is : Bool) → left kept ≡ is → find test (filter left befores) ≡ find test befores
        → find test (cond is (kept ∷ filter left befores) (filter left befores)) ≡ find test
        (kept ∷ befores)
    by_test true is further =
        ap (λ (rest : Option BeforeImage). cond (test kept) (Some kept) rest) further
    by_test false is further = further
        ∙ sym (ap (λ (b : Bool). cond b (Some kept) (find test befores)) (passes kept is))

-- none is taken out where none is the unit's
pub filter_none : (unit : UnitOfRecovery) (befores : List BeforeImage)
    → list_any (λ kept. same_unit unit kept.unit) befores ≡ false
    → filter (λ kept. is_other unit kept.unit) befores ≡ befores
filter_none unit [] none = refl
filter_none unit (kept ∷ befores) none =
    let here = or_false (same_unit unit kept.unit)
    (list_any (λ other. same_unit unit other.unit) befores) none in
    ap (λ (is : Bool). cond (not is) (kept ∷ filter (λ other. is_other unit other.unit) befores)
    (filter (λ other. is_other unit other.unit) befores)) here.0
    ∙ ap (λ (rest : List BeforeImage). kept ∷ rest) (filter_none unit befores here.1)

-- what is filtered stays apart
any_filter : (left test : BeforeImage → Bool) (befores : List BeforeImage)
    → list_any test befores ≡ false → list_any test (filter left befores) ≡ false
any_filter left test [] none = refl
any_filter left test (kept ∷ befores) none =
    let here = or_false (test kept) (list_any test befores) none in
    by_test (left kept) here.0 (any_filter left test befores here.1)
  where
    by_test : (is : Bool) → test kept ≡ false → list_any test (filter left befores) ≡ false
        → list_any test (cond is (kept ∷ filter left befores) (filter left befores)) ≡ false
    by_test true first further = ap (λ (b : Bool). b || list_any test (filter left befores)) first
        ∙ further
    by_test false first further = further

pub filter_apart : (left : BeforeImage → Bool) (befores : List BeforeImage) → AreApart befores
    → AreApart (filter left befores)
filter_apart left [] apart = tt
filter_apart left (kept ∷ befores) apart = by_test (left kept) (filter_apart left befores apart.1)
  where
    by_test : (is : Bool) → AreApart (filter left befores)
        → AreApart (cond is (kept ∷ filter left befores) (filter left befores))
    by_test true further =
        (any_filter left (is_place kept.part kept.place) befores apart.0, further)
    by_test false further = further

-- a place is the same seen from either side
place_turned : (one other : BeforeImage) → is_place one.part one.place other ≡ false
    → is_place other.part other.place one ≡ false
place_turned one other apart = by_test (is_place other.part other.place one) refl
  where
    by_test : (test : Bool) → is_place other.part other.place one ≡ test
        → is_place other.part other.place one ≡ false
    by_test false is = is
    by_test true is =
        let parts : one.part ≡ other.part = nat_same one.part other.part (first_holds _ _ is) in
        let places : other.place ≡ one.place =
        (bytes_eq-Decides other.place one.place).0 (second_holds (one.part == other.part) _ is)
        in
        let back : is_place one.part one.place other ≡ true =
        ap (λ (b : Bool). b
        && bytes_eq one.place other.place) (eq-eqb other.part one.part (sym parts))
        ∙ (bytes_eq-Decides one.place other.place).1 (sym places) in
        absurd (true≢false (sym back ∙ apart))

any_append : (test : BeforeImage → Bool) (befores : List BeforeImage) (new : BeforeImage)
    → list_any test befores ≡ false → test new ≡ false → list_any test (befores ++ new ∷ []) ≡ false
any_append test [] new none other = ap (λ (b : Bool). b || false) other
any_append test (kept ∷ befores) new none other =
    let here = or_false (test kept) (list_any test befores) none in
    ap (λ (b : Bool). b || list_any test (befores ++ new ∷ [])) here.0
    ∙ any_append test befores new here.1 other

-- a new one, of a place of which there is none, stays apart
pub append_apart : (befores : List BeforeImage) (new : BeforeImage) → AreApart befores
    → list_any (is_place new.part new.place) befores ≡ false → AreApart (befores ++ new ∷ [])
append_apart [] new apart none = (refl, tt)
append_apart (kept ∷ befores) new apart none =
    let here = or_false (is_place new.part new.place kept)
    (list_any (is_place new.part new.place) befores) none in (
      any_append (is_place kept.part kept.place) befores new apart.0 (place_turned new kept here.0),
      append_apart befores new apart.1 here.1,
    )

-- The unit's last before-image, element by element: it is the first of the list, and the unit has
-- none after it, or it is that of the others.
abbrev pub IsLast : UnitOfRecovery → BeforeImage → List BeforeImage → Type 0
IsLast unit last [] = ⊥
IsLast unit last (kept ∷ befores) =
    ((kept ≡ last) × (same_unit unit kept.unit ≡ true) × (keeps_other unit befores ≡ false))
    ⊎ ((keeps_other unit befores ≡ true) × IsLast unit last befores)

abbrev of_unit : UnitOfRecovery → List BeforeImage → List BeforeImage
of_unit unit befores = filter (λ kept. same_unit unit kept.unit) befores

empty_of : (unit : UnitOfRecovery) (befores : List BeforeImage) → keeps_other unit befores ≡ false
    → of_unit unit befores ≡ []
empty_of unit [] none = refl
empty_of unit (kept ∷ befores) none =
    let here = or_false (same_unit unit kept.unit) (keeps_other unit befores) none in
    ap (λ (is : Bool). cond is (kept ∷ of_unit unit befores) (of_unit unit befores)) here.0
    ∙ empty_of unit befores here.1

some_of : (unit : UnitOfRecovery) (befores : List BeforeImage) → keeps_other unit befores ≡ true
    → (first : BeforeImage) × (others : List BeforeImage) × (of_unit unit befores ≡ first ∷ others)
some_of unit [] some = absurd (false≢true some)
some_of unit (kept ∷ befores) some =
    by_test (same_unit unit kept.unit) refl some (some_of unit befores)
  where
    by_test : (is : Bool) → same_unit unit kept.unit ≡ is → (is || keeps_other unit befores) ≡ true
        → (keeps_other unit befores ≡ true → (first : BeforeImage) × (others : List BeforeImage)
        × (of_unit unit befores ≡ first ∷ others))
        → (first : BeforeImage) × (others : List BeforeImage)
        × (of_unit unit (kept ∷ befores) ≡ first ∷ others)
    by_test true own any rest = (
      kept,
      of_unit unit befores,
      ap
          (λ (b : Bool). cond b (kept ∷ of_unit unit befores) (of_unit unit befores)) own,
    )
    by_test false own any rest =
        let found = rest any in (
          found.0,
          found.1,
          ap
              (λ (b : Bool). cond b (kept ∷ of_unit unit befores) (of_unit unit befores)) own
              ∙ found.2,
        )

last_with : (kept first : BeforeImage) (others : List BeforeImage) (is : Bool)
    → last_of (cond is (kept ∷ first ∷ others) (first ∷ others)) ≡ last_of (first ∷ others)
last_with kept first others true = refl
last_with kept first others false = refl

last_one : (kept last : BeforeImage) (is : Bool) → last_of (cond is (kept ∷ []) []) ≡ Some last
    → (kept ≡ last) × (is ≡ true)
last_one kept last true same = (cc, refl)
last_one kept last false same = absurd cc

pub last_is : (unit : UnitOfRecovery) (last : BeforeImage) (befores : List BeforeImage)
    → last_of (of_unit unit befores) ≡ Some last → IsLast unit last befores
last_is unit last [] same = absurd cc
last_is unit last (kept ∷ befores) same =
    by_test (keeps_other unit befores) refl (last_is unit last befores)
  where
    by_test : (is : Bool) → keeps_other unit befores ≡ is
        → (last_of (of_unit unit befores) ≡ Some last → IsLast unit last befores)
        → IsLast unit last (kept ∷ befores)
    by_test true some rest =
        let found = some_of unit befores some in
        let here : last_of (of_unit unit befores) ≡ last_of (of_unit unit (kept ∷ befores)) =
        ap last_of found.2
        ∙ (sym (last_with kept found.0 found.1 (same_unit unit kept.unit))
        ∙ sym (ap (λ (l : List BeforeImage). last_of
        (cond (same_unit unit kept.unit) (kept ∷ l) l)) found.2)) in
        inr (some, rest (here ∙ same))
    by_test false none rest =
        let here : last_of (cond (same_unit unit kept.unit) (kept ∷ []) []) ≡ Some last =
        sym (ap (λ (l : List BeforeImage). last_of
        (cond (same_unit unit kept.unit) (kept ∷ l) l)) (empty_of unit befores none)) ∙ same in
        let one = last_one kept last (same_unit unit kept.unit) here in
        inl (one.0, one.1, none)

-- what is left without it
out_first : (unit : UnitOfRecovery) (kept : BeforeImage) (befores : List BeforeImage)
    → same_unit unit kept.unit ≡ true → keeps_other unit befores ≡ false
    → without_last unit (kept ∷ befores) ≡ befores
out_first unit kept befores own none =
    ap (λ (b : Bool). cond (b
    && not (keeps_other unit befores)) befores (kept ∷ without_last unit befores)) own
    ∙ ap (λ (b : Bool). cond (not b) befores (kept ∷ without_last unit befores)) none

out_later : (unit : UnitOfRecovery) (kept : BeforeImage) (befores : List BeforeImage)
    → keeps_other unit befores ≡ true
    → without_last unit (kept ∷ befores) ≡ kept ∷ without_last unit befores
out_later unit kept befores some =
    ap (λ (b : Bool). cond (same_unit unit kept.unit
    && not b) befores (kept ∷ without_last unit befores)) some
    ∙ ap (λ (b : Bool). cond b befores (kept ∷ without_last unit befores))
    (and_false (same_unit unit kept.unit))

-- another is found as before
pub out_other : (unit : UnitOfRecovery) (last : BeforeImage) (test : BeforeImage
    → Bool) (befores : List BeforeImage) → IsLast unit last befores → test last ≡ false
    → find test (without_last unit befores) ≡ find test befores
out_other unit last test [] is other = absurd is
out_other unit last test (kept ∷ befores) (inl here) other =
    ap (find test) (out_first unit kept befores here.1 here.2)
    ∙ sym (ap (λ (b : Bool). cond b (Some kept) (find test befores))
    (subst (λ (k : BeforeImage). test k ≡ false) (sym here.0) other))
out_other unit last test (kept ∷ befores) (inr later) other =
    ap (find test) (out_later unit kept befores later.0)
    ∙ ap (λ (rest : Option BeforeImage). cond (test kept) (Some kept) rest)
    (out_other unit last test befores later.1 other)

last_test : (unit : UnitOfRecovery) (last : BeforeImage) (test : BeforeImage
    → Bool) (befores : List BeforeImage) → IsLast unit last befores → list_any test befores ≡ false
    → test last ≡ false
last_test unit last test [] is none = absurd is
last_test unit last test (kept ∷ befores) (inl here) none =
    subst (λ (k : BeforeImage). test k ≡ false) here.0
    (or_false (test kept) (list_any test befores) none).0
last_test unit last test (kept ∷ befores) (inr later) none =
    last_test unit last test befores later.1 (or_false (test kept) (list_any test befores) none).1

-- it was the one of its place: before, it is what is found there, and then there is none
pub last_found : (unit : UnitOfRecovery) (last : BeforeImage) (test : BeforeImage
    → Bool) (befores : List BeforeImage) → AreApart befores → IsLast unit last befores
    → ((kept : BeforeImage) → is_place last.part last.place kept ≡ false → test kept ≡ false)
    → test last ≡ true → find test befores ≡ Some last
last_found unit last test [] apart is narrow passes = absurd is
last_found unit last test (kept ∷ befores) apart (inl here) narrow passes =
    ap (λ (b : Bool). cond b (Some kept) (find test befores))
    (subst (λ (k : BeforeImage). test k ≡ true) (sym here.0) passes) ∙ ap Some here.0
last_found unit last test (kept ∷ befores) apart (inr later) narrow passes =
    let other : test kept ≡ false =
    narrow kept (place_turned kept last
    (last_test unit last (is_place kept.part kept.place) befores later.1 apart.0)) in
    ap (λ (b : Bool). cond b (Some kept) (find test befores)) other
    ∙ last_found unit last test befores apart.1 later.1 narrow passes

pub last_gone : (unit : UnitOfRecovery) (last : BeforeImage) (test : BeforeImage
    → Bool) (befores : List BeforeImage) → AreApart befores → IsLast unit last befores
    → ((kept : BeforeImage) → is_place last.part last.place kept ≡ false → test kept ≡ false)
    → find test (without_last unit befores) ≡ None
last_gone unit last test [] apart is narrow = absurd is
last_gone unit last test (kept ∷ befores) apart (inl here) narrow =
    let places : list_any (is_place last.part last.place) befores ≡ false =
    subst (λ (k : BeforeImage). list_any (is_place k.part k.place) befores ≡ false) here.0
    apart.0 in
    ap (find test) (out_first unit kept befores here.1 here.2)
    ∙ find_narrow (is_place last.part last.place) test befores narrow places
last_gone unit last test (kept ∷ befores) apart (inr later) narrow =
    let other : test kept ≡ false =
    narrow kept (place_turned kept last
    (last_test unit last (is_place kept.part kept.place) befores later.1 apart.0)) in
    ap (find test) (out_later unit kept befores later.0)
    ∙ (ap (λ (b : Bool). cond b (Some kept) (find test (without_last unit befores))) other
    ∙ last_gone unit last test befores apart.1 later.1 narrow)

any_out : (unit : UnitOfRecovery) (test : BeforeImage → Bool) (befores : List BeforeImage)
    → list_any test befores ≡ false → list_any test (without_last unit befores) ≡ false
any_out unit test [] none = refl
any_out unit test (kept ∷ befores) none =
    let here = or_false (test kept) (list_any test befores) none in
    by_test (same_unit unit kept.unit
    && not (keeps_other unit befores)) here.0 here.1 (any_out unit test befores here.1)
  where
    by_test : (is : Bool) → test kept ≡ false → list_any test befores ≡ false
        → list_any test (without_last unit befores) ≡ false
        → list_any test (cond is befores (kept ∷ without_last unit befores)) ≡ false
    by_test true first rest out = rest
    by_test false first rest out =
        ap (λ (b : Bool). b || list_any test (without_last unit befores)) first ∙ out

pub out_apart : (unit : UnitOfRecovery) (befores : List BeforeImage) → AreApart befores
    → AreApart (without_last unit befores)
out_apart unit [] apart = tt
out_apart unit (kept ∷ befores) apart =
    by_test (same_unit unit kept.unit
    && not (keeps_other unit befores)) (out_apart unit befores apart.1)
  where
    by_test : (is : Bool) → AreApart (without_last unit befores)
        → AreApart (cond is befores (kept ∷ without_last unit befores))
    by_test true further = apart.1
    by_test false further = (any_out unit (is_place kept.part kept.place) befores apart.0, further)
