-- Addresses as numbers: in the order of the numbers, and in an interval.
use Rattle.std.proofs.Common.{◌≡◌, ◌⊎◌, inl, inr, ℕ, ◌+◌, ◌*◌, ◌/◌, ◌%◌, ◌^◌, ◌<◌}
use Rattle.std.proofs.Common.{sym, ap, ◌∙◌, arith}
use Rattle.std.specs.Cmp.{nat_cmp_is}
use Rattle.std.specs.Int.{w32, from_be_bytes, to_be_bytes}
use Rattle.std.specs.Ordering.{nat_cmp, ordering_then}
use Rattle.std.specs.declared.cmp.Ordering.{Ordering}
use Rattle.std.specs.declared.cmp.Ordering.TheVariants.{Less, Equal}
use Rattle.std.proofs.lemmas.Bool.{cases_lt}
use Rattle.std.proofs.lemmas.Nat.{from_be_bytes-to_be_bytes_4, mod_below}
use Rattle.vr_types.specs.Content.{place_cmp}
use Rattle.vr_history.specs.Address.{number_of}

-- the first pair of bytes that differ decides
first_less : (x y : ℕ) (rest : Ordering) → (x < y) ⊎ ((x ≡ y) × (rest ≡ Less))
    → ordering_then (nat_cmp x y) rest ≡ Less
first_less x y rest (inl less) =
    ap (λ (order : Ordering). ordering_then order rest) (sym (nat_cmp_is x y Less less))
first_less x y rest (inr same) =
    ap (λ (order : Ordering). ordering_then order rest) (sym (nat_cmp_is x y Equal same.0)) ∙ same.1

second_less : (c d c' d' : ℕ) → d < 256 → d' < 256 → c * 256 + d < c' * 256 + d'
    → ordering_then (nat_cmp c c') (ordering_then (nat_cmp d d') Equal) ≡ Less
second_less c d c' d' fits fits' below =
    elim (cases_lt c c') [
      | inl less ↦ first_less c c' _ (inl less)
      | inr more ↦ first_less c c' _
          (inr (omega arith, first_less d d' Equal (inl (omega arith))))
    ]

third_less : (b c d b' c' d' : ℕ) → c < 256 → d < 256 → c' < 256 → d' < 256
    → b * 65536 + (c * 256 + d) < b' * 65536 + (c' * 256 + d')
    → ordering_then (nat_cmp b b')
    (ordering_then (nat_cmp c c') (ordering_then (nat_cmp d d') Equal)) ≡ Less
third_less b c d b' c' d' fits_c fits_d fits_c' fits_d' below =
    elim (cases_lt b b') [
      | inl less ↦ first_less b b' _ (inl less)
      | inr more ↦ first_less b b' _
          (inr (omega arith, second_less c d c' d' fits_d fits_d' (omega arith)))
    ]

fourth_less : (a b c d a' b' c' d' : ℕ) → b < 256 → c < 256 → d < 256 → b' < 256 → c' < 256
    → d' < 256
    → a * 16777216 + (b * 65536 + (c * 256 + d)) < a' * 16777216 + (b' * 65536 + (c' * 256 + d'))
    → ordering_then (nat_cmp a a') (ordering_then (nat_cmp b b')
    (ordering_then (nat_cmp c c') (ordering_then (nat_cmp d d') Equal))) ≡ Less
fourth_less a b c d a' b' c' d' fits_b fits_c fits_d fits_b' fits_c' fits_d' below =
    elim (cases_lt a a') [
      | inl less ↦ first_less a a' _ (inl less)
      | inr more ↦ first_less a a' _
          (inr (
            omega arith,
            third_less b c d b' c' d' fits_c fits_d fits_c' fits_d' (omega arith),
          ))
    ]

-- a place of four bytes is read as the number that it was made of
pub number_back : (n : ℕ) → n < 2 ^ 32 → number_of (to_be_bytes w32 n) ≡ n
number_back n fits = from_be_bytes-to_be_bytes_4 n fits

-- places come in the order of their numbers
pub places_rise : (m n : ℕ) → m < n → n < 2 ^ 32
    → place_cmp (to_be_bytes w32 m) (to_be_bytes w32 n) ≡ Less
places_rise m n below fits =
    let one : from_be_bytes w32 (to_be_bytes w32 m) ≡ m =
    from_be_bytes-to_be_bytes_4 m (omega arith) in
    let other : from_be_bytes w32 (to_be_bytes w32 n) ≡ n = from_be_bytes-to_be_bytes_4 n fits in
    fourth_less (m / 16777216 % 256) (m / 65536 % 256) (m / 256 % 256) (m % 256)
    (n / 16777216 % 256) (n / 65536 % 256) (n / 256 % 256) (n % 256)
    (mod_below _ 256 (omega arith)) (mod_below _ 256 (omega arith)) (mod_below _ 256 (omega arith))
    (mod_below _ 256 (omega arith)) (mod_below _ 256 (omega arith)) (mod_below _ 256 (omega arith))
    (omega arith)
