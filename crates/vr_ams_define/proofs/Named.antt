-- The entry of a name, in a catalog.
use Rattle.std.proofs.Common.{◌≡◌, ◌∙◌, ◌+◌, ◌≤◌, ℕ, Bool, true, false, List, [], ◌∷◌, Some, refl}
use Rattle.std.proofs.Common.{ap, arith, cond, inl, inr, subst, sym}
use Rattle.std.specs.Prelude.{◌==◌, ◌&&◌, Contains, bytes_eq}
use Rattle.std.specs.List.{count_by, find}
use Rattle.std.proofs.lemmas.Bool.{cases_Bool}
use Rattle.std.proofs.lemmas.Bool.Decides.{nat_tests}
use Rattle.std.proofs.lemmas.List.Sums.{sum_by-cons}
use Rattle.std.proofs.lemmas.List.Elements.{Contains-append_right}
use Rattle.std.proofs.lemmas.Option.{same_Some}
use Rattle.std.proofs.lemmas.Slice.Eq.{bytes_eq-Decides}
use Rattle.vr_catalog.specs.Catalog.{entry_named}
use Rattle.vr_catalog.specs.Entry.{is_entry}
use Rattle.vr_catalog.specs.declared.entry.CatEntry.{CatEntry}
use Rattle.vr_edits.specs.Edits.{IsEntryThere, is_of_part}
use Rattle.vr_ams_define.specs.Altered.{is_alone, is_sound}

find-first : {X : Type 0} (p : X → Bool) (y : X) (xs : List X) → p y ≡ true
    → find p (y ∷ xs) ≡ Some y
find-first p y xs passes = rw passes refl

find-after : {X : Type 0} (p : X → Bool) (y : X) (xs : List X) → p y ≡ false
    → find p (y ∷ xs) ≡ find p xs
find-after p y xs fails = rw fails refl

-- what is found is there, and passes
find-there : {X : Type 0} (p : X → Bool) (xs : List X) (x : X) → find p xs ≡ Some x
    → Contains xs x × (p x ≡ true)
find-there p [] x is = absurd (cc)
find-there p (y ∷ xs) x is = elim (cases_Bool (p y)) [
  | inl passes ↦
      let same : y ≡ x = same_Some y x (sym (find-first p y xs passes) ∙ is) in
      ((0, omega arith, same), subst (λ it. p it ≡ true) same passes)
  | inr fails ↦
      let more = find-there p xs x (sym (find-after p y xs fails) ∙ is) in
      (Contains-append_right (y ∷ []) xs x more.0, more.1)
]

-- It is one of the catalog, and no entry before it has its name.
pub first-named : (entries : List CatEntry) (name : List ℕ) (entry : CatEntry)
    → entry_named entries name ≡ Some entry
    → Contains entries entry × (entry_named entries entry.name ≡ Some entry)
first-named entries name entry is =
    let it = find-there (λ (one : CatEntry). bytes_eq one.name name) entries entry is in
    let same : entry.name ≡ name = (bytes_eq-Decides entry.name name).0 it.1 in
    (it.0, subst (λ (text : List ℕ). entry_named entries text ≡ Some entry) (sym same) is)

-- ---- the only one that passes

-- how many pass, the first apart
count-cons : {X : Type 0} (p : X → Bool) (y : X) (xs : List X)
    → count_by p (y ∷ xs) ≡ cond (p y) 1 0 + count_by p xs
count-cons p y xs = sum_by-cons (λ it. cond (p it) 1 0) y xs

pub count-first : {X : Type 0} (p : X → Bool) (y : X) (xs : List X) → p y ≡ true
    → count_by p (y ∷ xs) ≡ 1 + count_by p xs
count-first p y xs passes =
    count-cons p y xs ∙ ap (λ (b : Bool). cond b 1 0 + count_by p xs) passes

none-more : (n : ℕ) → 0 + n ≡ n
none-more n = omega arith

pub count-after : {X : Type 0} (p : X → Bool) (y : X) (xs : List X) → p y ≡ false
    → count_by p (y ∷ xs) ≡ count_by p xs
count-after p y xs fails =
    count-cons p y xs ∙ ap (λ (b : Bool). cond b 1 0 + count_by p xs) fails
    ∙ none-more (count_by p xs)

-- what another test finds is counted, where it passes
found-counted : {X : Type 0} (p q : X → Bool) (xs : List X) (x : X) → find q xs ≡ Some x
    → p x ≡ true → 1 ≤ count_by p xs
found-counted p q [] x is passes = absurd (cc)
found-counted {X} p q (y ∷ xs) x is passes = elim (cases_Bool (q y)) [
  | inl here ↦
      let same : y ≡ x = same_Some y x (sym (find-first q y xs here) ∙ is) in
      let first = count-first p y xs (subst (λ (it : X). p it ≡ true) (sym same) passes) in
      omega (arith, first)
  | inr later ↦
      let more = found-counted p q xs x (sym (find-after q y xs later) ∙ is) passes in
      elim (cases_Bool (p y)) [
        | inl counts ↦ omega (arith, count-first p y xs counts)
        | inr fails ↦ omega (arith, count-after p y xs fails, more)
      ]
]

-- and found by this one, where it is the only one that does
pub only-found : {X : Type 0} (p q : X → Bool) (xs : List X) (x : X) → find q xs ≡ Some x
    → p x ≡ true → count_by p xs ≡ 1 → find p xs ≡ Some x
only-found p q [] x is passes one = absurd (cc)
only-found {X} p q (y ∷ xs) x is passes one = elim (cases_Bool (q y)) [
  | inl here ↦
      let same : y ≡ x = same_Some y x (sym (find-first q y xs here) ∙ is) in
      find-first p y xs (subst (λ (it : X). p it ≡ true) (sym same) passes) ∙ ap Some same
  | inr later ↦
      let there = sym (find-after q y xs later) ∙ is in
      elim (cases_Bool (p y)) [
        | inl counts ↦
            let more = found-counted p q xs x there passes in
            absurd (omega (arith, count-first p y xs counts, more, one))
        | inr fails ↦ find-after p y xs fails
            ∙ only-found p q xs x there passes (sym (count-after p y xs fails) ∙ one)
      ]
]

-- ---- an entry that a catalog may be asked about

pub both : (a b : Bool) → (a && b) ≡ true → (a ≡ true) × (b ≡ true)
both true b is = (refl, is)
both false b is = absurd (cc)

pub same-number : (n : ℕ) → (n == n) ≡ true
same-number n = grind (arith, nat_tests)

pub one-is : (n : ℕ) → (n == 1) ≡ true → n ≡ 1
one-is n is = grind (arith, nat_tests, is)

-- the entry of a name, which a record spells and no other entry has its part, is the one of its part
pub sound-there : (entries : List CatEntry) (name : List ℕ) (entry : CatEntry)
    → entry_named entries name ≡ Some entry → is_sound entries entry ≡ true
    → IsEntryThere entries entry
sound-there entries name entry is sound =
    let parts = both (is_entry entry) (is_alone entries entry) sound in
    record {
      there = only-found (is_of_part entry) (λ (one : CatEntry). bytes_eq one.name name) entries
          entry is (same-number entry.part.0)
          (one-is (count_by (is_of_part entry) entries) parts.1);
      named = (first-named entries name entry is).1;
      entry_is = parts.0;
    }
