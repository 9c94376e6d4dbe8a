-- The next place with a record, by the numbers of places.
use Rattle.std.proofs.Common.{◌≡◌, ◌⊎◌, inl, inr, ◌↔◌, ◌^◌, ◌<◌, ◌≤◌, ℕ, IsTrue, List, Option, Some}
use Rattle.std.proofs.Common.{None, refl, sym, ap, subst, ◌∙◌, arith}
use Rattle.std.specs.Ordering.{nat_cmp}
use Rattle.std.specs.declared.cmp.Ordering.TheVariants.{Less}
use Rattle.std.specs.Prelude.{option_and_then}
use Rattle.std.proofs.lemmas.Cmp.{ranked}
use Rattle.vr_types.specs.Content.{Item, place_cmp, record_of}
use Rattle.vr_types.specs.Fields.{four}
use Rattle.vr_types.specs.Image.{Image}
use Rattle.vr_space.specs.Part.{HasNoNext, IsNextPlace, NumberedShape, record_read}
use Rattle.vr_space.specs.Rosters.{Numbered}
use Rattle.vr_space.specs.Numbered.{IsNumberPlace, number_of, numbered_way, start_of}
use Rattle.vr_space.specs.Way.{found_on}
use Rattle.vr_space.specs.Whence.{allows}
use Rattle.vr_space.specs.declared.whence.Whence.{Whence}
use Rattle.vr_space.proofs.CallerLemmas.{found-place, number-below, number-four, number-order}
use Rattle.vr_space.proofs.CallerLemmas.{number-place}
use Rattle.vr_chained.specs.Searched.{HasNoneRead, IsFirstRead}

-- Where a record is read, the place has a number.
read-or-none : (part : Numbered) (image : Image) (place : List ℕ)
    → (record_read (NumberedShape part) image place ≡ None) ⊎ IsNumberPlace part place
read-or-none part image place = by_item (found_on image (numbered_way part place)) refl
  where
    by_item : (item : Option Item) → found_on image (numbered_way part place) ≡ item
        → (record_read (NumberedShape part) image place ≡ None) ⊎ IsNumberPlace part place
    by_item None is = inl (ap (λ (found : Option Item). option_and_then record_of found) is)
    by_item (Some item) is =
        inr (found-place part image place (λ none. differ (sym is ∙ none)))
      where
        differ : Some item ≡ None → ⊥
        differ same = cc

less-number : (m n : ℕ) → nat_cmp m n ≡ Less → m < n
less-number m n is = grind (arith, ranked)

-- of the numbers that the part has, those from one on are those of the places that the search may
-- find
abbrev pub AreAllowedFrom : Numbered → Whence → ℕ → Type 0
AreAllowedFrom part from number = (r : ℕ) → start_of part ≤ r → r < 2 ^ 32
    → IsTrue (allows from (four r)) ↔ (number ≤ r)

module _ (part : Numbered) (image : Image) (from : Whence) where
  -- What is true of each place with a number that may be found, or is read to have no record.
  by-number : (P : List ℕ → Type 0) (place : List ℕ) → IsTrue (allows from place)
      → (record_read (NumberedShape part) image place ≡ None → P place)
      → ((n : ℕ) → start_of part ≤ n → n < 2 ^ 32 → IsTrue (allows from (four n)) → P (four n))
      → P place
  by-number P place allowed none each = by_place (read-or-none part image place)
    where
      by_place : (record_read (NumberedShape part) image place ≡ None) ⊎ IsNumberPlace part place
          → P place
      by_place (inl empty) = none empty
      by_place (inr is) = subst P (sym is.bytes)
          (each (number_of place) is.some (number-below place is.bytes)
          (subst (λ (p : List ℕ). IsTrue (allows from p)) is.bytes allowed))

  -- No place with a number may be found.
  pub next-nowhere : ((r : ℕ) → start_of part ≤ r → r < 2 ^ 32 → IsTrue (allows from (four r)) → ⊥)
      → HasNoNext (NumberedShape part) image from
  next-nowhere nowhere place allowed =
      by-number (λ p. record_read (NumberedShape part) image p ≡ None) place allowed
      (λ empty. empty) (λ n some below may. absurd (nowhere n some below may))

  -- None of those that may be found has a record.
  pub next-none : (number : ℕ) → AreAllowedFrom part from number
      → HasNoneRead part image number (2 ^ 32) → HasNoNext (NumberedShape part) image from
  next-none number least none place allowed =
      by-number (λ p. record_read (NumberedShape part) image p ≡ None) place allowed
      (λ empty. empty) (λ n some below may. none n ((least n some below).0 may) below)

  -- The first of them that has one.
  pub next-is : (number found : ℕ) → start_of part ≤ number → AreAllowedFrom part from number
      → IsFirstRead part image number (2 ^ 32) found
      → IsNextPlace (NumberedShape part) image from (four found)
  next-is number found some least first = record {
    allowed = (least found (omega (arith, some, first.from_is)) first.below_is).1 first.from_is;
    some = first.some;
    least = λ other allowed before. by-number (λ p. place_cmp p (four found) ≡ Less
        → record_read (NumberedShape part) image p ≡ None) other allowed (λ empty turned. empty)
        (λ n there below may turned. first.none n ((least n there below).0 may)
        (less-number n found (sym (order n there below) ∙ turned))) before;
  }
    where
      order : (n : ℕ) → start_of part ≤ n → n < 2 ^ 32
          → place_cmp (four n) (four found) ≡ nat_cmp n found
      order n there below =
          number-order part (four n) (four found) (number-place part n there below)
          (number-place part found (omega (arith, some, first.from_is)) first.below_is)
          ∙ ap (λ (m : ℕ). nat_cmp m (number_of (four found))) (number-four n below)
          ∙ ap (nat_cmp n) (number-four found first.below_is)
