-- A place of the table, found by its number: no number stands twice.
use Rattle.std.proofs.Common.{◌≡◌, ℕ, true, false, List, [], ◌∷◌, ◌++◌, Option, Some, None}
use Rattle.std.proofs.Common.{MatchOption, refl, subst, ap, ◌∙◌, arith, nat_eq, map, append_assoc}
use Rattle.std.specs.List.{AllByRecursion, IsDistinct}
use Rattle.std.specs.Map.{keys_of, lookup, lookup_entry, remove_entry, set_value}
use Rattle.std.proofs.lemmas.Bool.Decides.{nat_tests}
use Rattle.std.proofs.Common.{Bor}
use Rattle.std.proofs.lemmas.List.{map-append}
use Rattle.std.specs.Map.Iter.{deref_pair}
use Rattle.vr_resident.specs.Places.{Entry, AreNone, IsLast, is_at, fits}
use Rattle.vr_resident.specs.Table.{IsLastOf}
use Rattle.vr_resident.specs.declared.place.Place.{Place}
use Rattle.vr_resident.specs.declared.place.Sought.{Sought}

swapped : (a b : ℕ) → nat_eq a b ≡ false → nat_eq b a ≡ false
swapped a b other = grind (arith, nat_tests)

same : (a : ℕ) → nat_eq a a ≡ true
same a = grind (arith, nat_tests)

module _ (number : ℕ) (place : Place) (after : List Entry) where
  apart : (before : List Entry) (e : Entry)
      → IsDistinct nat_eq (keys_of (e ∷ before ++ (number, place) ∷ after))
      → nat_eq number e.0 ≡ false
  unfolding IsDistinct
  apart before e distinct = swapped e.0 number (reach before distinct.0)
    where
      reach : (xs : List Entry)
          → AllByRecursion (λ y. nat_eq e.0 y ≡ false) (keys_of (xs ++ (number, place) ∷ after))
          → nat_eq e.0 number ≡ false
      reach [] all = all.0
      reach (x ∷ xs) all = reach xs all.1

  rest : (before : List Entry) (e : Entry)
      → IsDistinct nat_eq (keys_of (e ∷ before ++ (number, place) ∷ after))
      → IsDistinct nat_eq (keys_of (before ++ (number, place) ∷ after))
  unfolding IsDistinct
  rest before e distinct = distinct.1

  pub found : (before : List Entry)
      → IsDistinct nat_eq (keys_of (before ++ (number, place) ∷ after))
      → lookup_entry (nat_eq number) (before ++ (number, place) ∷ after) ≡ Some (number, place)
  found [] distinct = rw (same number)
  found (e ∷ before) distinct = rw (apart before e distinct) (found before (rest before e distinct))

  pub value_found : (before : List Entry)
      → IsDistinct nat_eq (keys_of (before ++ (number, place) ∷ after))
      → lookup (nat_eq number) (before ++ (number, place) ∷ after) ≡ Some place
  value_found [] distinct = rw (same number)
  value_found (e ∷ before) distinct =
      rw (apart before e distinct) (value_found before (rest before e distinct))

  pub removed : (before : List Entry)
      → IsDistinct nat_eq (keys_of (before ++ (number, place) ∷ after))
      → remove_entry (nat_eq number) (before ++ (number, place) ∷ after) ≡ before ++ after
  removed [] distinct = rw (same number)
  removed (e ∷ before) distinct =
      rw (apart before e distinct)
      (ap (λ (xs : List Entry). e ∷ xs) (removed before (rest before e distinct)))

  pub changed : (to : Place) (before : List Entry)
      → IsDistinct nat_eq (keys_of (before ++ (number, place) ∷ after))
      → set_value (nat_eq number) (before ++ (number, place) ∷ after) to ≡ before
      ++ (number, to) ∷ after
  changed to [] distinct = rw (same number)
  changed to (e ∷ before) distinct =
      rw (apart before e distinct)
      (ap (λ (xs : List Entry). e ∷ xs) (changed to before (rest before e distinct)))

-- one more place at the end of those that were looked at
pub none_more : (which : Sought) (entries : List Entry) (e : Entry) → AreNone which entries
    → is_at which e ≡ false → AreNone which (entries ++ e ∷ [])
none_more which [] e none other = (other, tt)
none_more which (x ∷ entries) e none other = (none.0, none_more which entries e none.1 other)

pub last_more : (which : Sought) (entries : List Entry) (e : Entry) (number : ℕ)
    → IsLast which entries number → is_at which e ≡ false → IsLast which (entries ++ e ∷ []) number
last_more which entries e number last other = record {
  place = last.place;
  before = last.before;
  after = last.after ++ e ∷ [];
  split = ap (λ (xs : List Entry). xs ++ e ∷ []) last.split
      ∙ append_assoc last.before ((number, last.place) ∷ last.after) (e ∷ []);
  it_fits = last.it_fits;
  none_after = none_more which last.after e last.none_after other;
}

pub last_new : (which : Sought) (entries : List Entry) (number : ℕ) (place : Place)
    → fits which place ≡ true → IsLast which (entries ++ (number, place) ∷ []) number
last_new which entries number place it_fits =
    record {
      place = place;
      before = entries;
      after = [];
      split = refl;
      it_fits =
          it_fits;
      none_after = tt;
    }

-- what a search answered
pub none_of : (which : Sought) (entries : List Entry) (o : Option ℕ) → IsLastOf which entries o
    → o ≡ None → AreNone which entries
none_of which entries None none is = none
none_of which entries (Some number) last is = cc

pub some_of : (which : Sought) (entries : List Entry) (o : Option ℕ) (number : ℕ)
    → IsLastOf which entries o → o ≡ Some number → IsLast which entries number
some_of which entries None number none is = cc
some_of which entries (Some m) number last is =
    let same : m ≡ number = cc in subst (IsLast which entries) same last

-- the same of a loop over the places, which has each as two references
module _ (which : Sought) where
  pub kept_more : (last : Option ℕ) (ys : List (Bor ℕ × Bor Place)) (x : Bor ℕ × Bor Place)
      → MatchOption last (AreNone which (map deref_pair ys)) (IsLast which (map deref_pair ys))
      → fits which x.1.now ≡ false
      → MatchOption last (AreNone which (map deref_pair (ys
      ++ x ∷ []))) (IsLast which (map deref_pair (ys ++ x ∷ [])))
  kept_more None ys x none other =
      rw map-append (none_more which (map deref_pair ys) (deref_pair x) none other)
  kept_more (Some number) ys x last other =
      rw map-append (last_more which (map deref_pair ys) (deref_pair x) number last other)

  pub found_more : (ys : List (Bor ℕ × Bor Place)) (x : Bor ℕ × Bor Place)
      → fits which x.1.now ≡ true → IsLast which (map deref_pair (ys ++ x ∷ [])) x.0.now
  found_more ys x it_fits =
      rw map-append (last_new which (map deref_pair ys) x.0.now x.1.now it_fits)
