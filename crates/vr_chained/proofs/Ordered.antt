-- Which numbers have places at given bytes or past them.
use Rattle.std.proofs.Common.{◌≡◌, ◌⊎◌, inl, inr, ◌↔◌, ◌+◌, ◌<◌, ◌≤◌, ◌^◌, ℕ, zero, suc, Bool}
use Rattle.std.proofs.Common.{true, false, IsTrue, List, [], ◌∷◌, ◌++◌, length, take, replicate}
use Rattle.std.proofs.Common.{Option, Some, None, IfSome, refl, sym, ap, subst, ◌∙◌, arith}
use Rattle.std.proofs.Common.{true≢false}
use Rattle.std.specs.Option.{SomeIff}
use Rattle.std.specs.Cmp.{nat_cmp_is}
use Rattle.std.specs.Ordering.{is_le, is_lt, nat_cmp, ordering_reverse, ordering_then}
use Rattle.std.specs.declared.cmp.Ordering.{Ordering}
use Rattle.std.specs.declared.cmp.Ordering.TheVariants.{Less, Equal, Greater}
use Rattle.std.proofs.lemmas.Bool.{cases_lt}
use Rattle.std.proofs.lemmas.Cmp.{nat_list_cmp_total, ranked}
use Rattle.vr_types.specs.Content.{place_cmp}
use Rattle.vr_types.specs.Fields.{IsBytes, four}
use Rattle.vr_space.proofs.CallerLemmas.{four_of-is, higher-after, lower-before}
use Rattle.vr_chained.specs.Searched.{is_from, longest, number_from}

suc-cmp : (m n : ℕ) → nat_cmp m n ≡ nat_cmp (suc m) (suc n)
suc-cmp m n = grind (arith, ranked)

-- Bytes are beside themselves, cut to a length or filled up to it, as their own length is beside
-- that.
cut-order : (k fill : ℕ) (from : List ℕ) → k ≤ fill
    → place_cmp from (take k (from ++ replicate fill 0)) ≡ nat_cmp (length from) k
cut-order zero fill [] fits = refl
cut-order zero fill (x ∷ from) fits =
    nat_cmp_is (suc (length from)) 0 Greater (omega arith)
cut-order (suc k) zero from fits = absurd (omega (arith, fits))
cut-order (suc k) (suc fill) [] fits = nat_cmp_is 0 (suc k) Less (omega arith)
cut-order (suc k) fill (x ∷ from) fits =
    ap (λ (first : Ordering).
    ordering_then first (place_cmp from (take k (from ++ replicate fill 0))))
    (sym (nat_cmp_is x x Equal refl))
    ∙ cut-order k fill from (omega (arith, fits)) ∙ suc-cmp (length from) k

-- the number of the first bytes itself
same-order : (bytes : List ℕ) → IsBytes bytes
    → place_cmp bytes (four (number_from bytes)) ≡ nat_cmp (length bytes) 4
same-order bytes each =
    ap (place_cmp bytes) (sym (four_of-is bytes each)) ∙ cut-order 4 4 bytes (omega arith)

-- ---- by how a number is beside it

-- bytes are before the places of higher numbers
order-higher : (bytes : List ℕ) (r : ℕ) → IsBytes bytes → number_from bytes < r → r < 2 ^ 32
    → place_cmp bytes (four r) ≡ Less
order-higher bytes r each higher below = higher-after bytes r each higher below

-- and past those of lower ones
order-lower : (bytes : List ℕ) (r : ℕ) → IsBytes bytes → r < number_from bytes
    → place_cmp bytes (four r) ≡ Greater
order-lower bytes r each lower =
    nat_list_cmp_total.antisymm bytes (four r)
    ∙ ap ordering_reverse (lower-before bytes r each lower)

-- ---- which a search may find

-- whether a place may be found, by how bytes are beside it
abbrev found_by : Bool → Ordering → Bool
found_by false order = is_le order
found_by true order = is_lt order

by-order : (past : Bool) (bytes place : List ℕ)
    → is_from past bytes place ≡ found_by past (place_cmp bytes place)
by-order false bytes place = refl
by-order true bytes place = refl

less-found : (past : Bool) → found_by past Less ≡ true
less-found false = refl
less-found true = refl

greater-not : (past : Bool) → found_by past Greater ≡ false
greater-not false = refl
greater-not true = refl

same-found : (past : Bool) (n : ℕ) → n ≤ longest past → found_by past (nat_cmp n 4) ≡ true
same-found false n most = by_length (cases_lt n 4)
  where
    by_length : (n < 4) ⊎ (4 ≤ n) → is_le (nat_cmp n 4) ≡ true
    by_length (inl less) = ap is_le (sym (nat_cmp_is n 4 Less less))
    by_length (inr least) = ap is_le (sym (nat_cmp_is n 4 Equal (omega (arith, most, least))))
same-found true n most = ap is_lt (sym (nat_cmp_is n 4 Less (omega (arith, most))))

same-not : (past : Bool) (n : ℕ) → longest past < n → found_by past (nat_cmp n 4) ≡ false
same-not false n more = ap is_le (sym (nat_cmp_is n 4 Greater more))
same-not true n more = by_length (cases_lt 4 n)
  where
    by_length : (4 < n) ⊎ (n ≤ 4) → is_lt (nat_cmp n 4) ≡ false
    by_length (inl greater) = ap is_lt (sym (nat_cmp_is n 4 Greater greater))
    by_length (inr most) = ap is_lt (sym (nat_cmp_is n 4 Equal (omega (arith, more, most))))

-- Of bytes no longer than that, the numbers from their own on may be found.
pub short-found : (past : Bool) (bytes : List ℕ) (r : ℕ) → IsBytes bytes
    → length bytes ≤ longest past → r < 2 ^ 32
    → IsTrue (is_from past bytes (four r)) ↔ (number_from bytes ≤ r)
short-found past bytes r each short below =
    by_order (cases_lt r (number_from bytes)) (cases_lt (number_from bytes) r)
  where
    by_order : (r < number_from bytes) ⊎ (number_from bytes ≤ r)
        → (number_from bytes < r) ⊎ (r ≤ number_from bytes)
        → IsTrue (is_from past bytes (four r)) ↔ (number_from bytes ≤ r)
    by_order (inl lower) turned = (
      (λ found. absurd (true≢false (sym found ∙ by-order past bytes (four r)
          ∙ ap (found_by past) (order-lower bytes r each lower) ∙ greater-not past))),
      (λ most. absurd (omega (arith, lower, most))),
    )
    by_order (inr least) (inl higher) = (
      (λ found. least),
      (λ most. by-order past bytes (four r)
          ∙ ap (found_by past) (order-higher bytes r each higher below) ∙ less-found past),
    )
    by_order (inr least) (inr most) =
        let same : number_from bytes ≡ r = omega (arith, least, most) in (
          (λ found. least),
          (λ most. by-order past bytes (four r)
              ∙ ap (λ (n : ℕ). found_by past (place_cmp bytes (four n))) (sym same)
              ∙ ap (found_by past) (same-order bytes each) ∙ same-found past (length bytes) short),
        )

-- Of longer ones, those past it.
pub long-found : (past : Bool) (bytes : List ℕ) (r : ℕ) → IsBytes bytes
    → longest past < length bytes → r < 2 ^ 32
    → IsTrue (is_from past bytes (four r)) ↔ (number_from bytes + 1 ≤ r)
long-found past bytes r each long below =
    by_order (cases_lt r (number_from bytes)) (cases_lt (number_from bytes) r)
  where
    by_order : (r < number_from bytes) ⊎ (number_from bytes ≤ r)
        → (number_from bytes < r) ⊎ (r ≤ number_from bytes)
        → IsTrue (is_from past bytes (four r)) ↔ (number_from bytes + 1 ≤ r)
    by_order (inl lower) turned = (
      (λ found. absurd (true≢false (sym found ∙ by-order past bytes (four r)
          ∙ ap (found_by past) (order-lower bytes r each lower) ∙ greater-not past))),
      (λ most. absurd (omega (arith, lower, most))),
    )
    by_order (inr least) (inl higher) = (
      (λ found. omega (arith, higher)),
      (λ most. by-order past bytes (four r)
          ∙ ap (found_by past) (order-higher bytes r each higher below) ∙ less-found past),
    )
    by_order (inr least) (inr most) =
        let same : number_from bytes ≡ r = omega (arith, least, most) in (
          (λ found. absurd (true≢false (sym found ∙ by-order past bytes (four r)
              ∙ ap (λ (n : ℕ). found_by past (place_cmp bytes (four n))) (sym same)
              ∙ ap (found_by past) (same-order bytes each) ∙ same-not past (length bytes) long))),
          (λ more. absurd (omega (arith, more, most))),
        )

-- ---- the least of them

-- the least number from a bound on is what a search may find first
abbrev pub IsLeast : Bool → List ℕ → ℕ → Type 0
IsLeast past bytes n = (r : ℕ) → r < 2 ^ 32 → IsTrue (is_from past bytes (four r)) ↔ (n ≤ r)

-- past the number of longer bytes, where it fits into four
pub long-some : (past : Bool) (bytes : List ℕ) (next : Option ℕ) → IsBytes bytes
    → longest past < length bytes
    → SomeIff next (number_from bytes + 1 < 2 ^ 32) (number_from bytes + 1)
    → IfSome next (IsLeast past bytes)
long-some past bytes None each long is = tt
long-some past bytes (Some n) each long (fits, same) =
    subst (IsLeast past bytes) (sym same) (λ r. long-found past bytes r each long)

-- and none where it doesn't
pub long-none : (past : Bool) (bytes : List ℕ) (next : Option ℕ) → IsBytes bytes
    → longest past < length bytes
    → SomeIff next (number_from bytes + 1 < 2 ^ 32) (number_from bytes + 1) → next ≡ None
    → (r : ℕ) → r < 2 ^ 32 → IsTrue (is_from past bytes (four r)) → ⊥
long-none past bytes None each long not none r below found =
    not (omega (arith, (long-found past bytes r each long below).0 found, below))
long-none past bytes (Some n) each long is none r below found = absurd cc
