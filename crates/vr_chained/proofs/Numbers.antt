-- The number that a place spells.
use Rattle.std.proofs.Common.{◌≡◌, ◌+◌, ◌*◌, ◌≤◌, ℕ, List, [], ◌∷◌, length, refl, sym, ap}
use Rattle.std.proofs.Common.{◌∙◌, arith}
use Rattle.std.proofs.lemmas.Nat.{be_bytes_4}
use Rattle.std.specs.Int.{to_be_bytes, w32}
use Rattle.vr_types.specs.Fields.{IsBytes, four, four_at}
use Rattle.vr_types.proofs.CallerLemmas.{length-four}
use Rattle.vr_space.specs.Numbered.{IsNumberPlace, number_of, start_of}
use Rattle.vr_space.specs.Rosters.{Numbered}
use Rattle.std.specs.Prelude.{slice_index}
use Rattle.vr_chained.specs.Searched.{number_from}

-- a place of a number has four bytes
pub place-length : (part : Numbered) (place : List ℕ) → IsNumberPlace part place
    → length place ≡ 4
place-length part place is =
    ap (λ (bytes : List ℕ). length bytes) is.bytes ∙ length-four (number_of place)

-- the number of four bytes
pub number-read : (place : List ℕ) → length place ≡ 4 → four_at 0 place ≡ number_of place
unfolding four_at
number-read [] long = absurd (omega (arith, long))
number-read (a ∷ []) long = absurd (omega (arith, long))
number-read (a ∷ b ∷ []) long = absurd (omega (arith, long))
number-read (a ∷ b ∷ c ∷ []) long = absurd (omega (arith, long))
number-read (a ∷ b ∷ c ∷ d ∷ []) long = refl
number-read (a ∷ b ∷ c ∷ d ∷ e ∷ rest) long = absurd (omega (arith, long))

-- four bytes that spell no less than the first number are the place of one
pub place-of : (part : Numbered) (place : List ℕ) → length place ≡ 4 → IsBytes place
    → start_of part ≤ number_of place → IsNumberPlace part place
unfolding four
place-of part place long bytes some = record {
  bytes = sym (be_bytes_4 place (number_of place) long bytes refl);
  some = some;
}

-- the number of the first four of any bytes
pub start-bytes : (bytes : List ℕ) → number_from bytes
    ≡ slice_index bytes 0 * 16777216 + slice_index bytes 1 * 65536 + slice_index bytes 2 * 256
    + slice_index bytes 3
start-bytes [] = omega arith
start-bytes (a ∷ []) = omega arith
start-bytes (a ∷ b ∷ []) = omega arith
start-bytes (a ∷ b ∷ c ∷ []) = omega arith
start-bytes (a ∷ b ∷ c ∷ d ∷ rest) = omega arith

-- a number as it is written
pub four-bytes : (n : ℕ) → four n ≡ to_be_bytes w32 n
unfolding four
four-bytes n = refl
