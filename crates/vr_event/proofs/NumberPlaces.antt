-- The places that are numbers in four bytes, by their bytes.
use Rattle.std.proofs.Common.{◌≡◌, ◌≢◌, ◌<◌, ◌^◌, ◌++◌, ℕ, Bool, true, false, not, List}
use Rattle.std.proofs.Common.{refl, sym, ap, ◌∙◌, arith, length, nat_eq}
use Rattle.std.specs.Prelude.{◌&&◌, bytes_eq, nat_le}
use Rattle.std.proofs.Math.ListN.{drop_of_length-le}
use Rattle.std.proofs.lemmas.Bool.{and_parts, eqb-true, le-leb, lt-leb}
use Rattle.std.proofs.lemmas.Bool.Decides.{nat_tests}
use Rattle.std.proofs.lemmas.List.{append-nil}
use Rattle.std.proofs.lemmas.Slice.Eq.{bytes_eq-Decides}
use Rattle.vr_types.specs.Fields.{IsBytes, four, four_at}
use Rattle.vr_types.proofs.CallerLemmas.{cut_four, four_below, length-four}
use Rattle.vr_space.specs.Numbered.{number_of, start_by}
use Rattle.vr_space.proofs.CallerLemmas.{number-four}
use Rattle.vr_event.specs.Getting.{is_number}

-- four bytes spell the number that is read there
four-spelled : (place : List ℕ) → IsBytes place → length place ≡ 4 → place ≡ four (four_at 0 place)
four-spelled place bytes long =
    cut_four 0 place bytes (omega (arith, long))
    ∙ ap (λ (rest : List ℕ). four (four_at 0 place) ++ rest)
    (drop_of_length-le place {i = 4} (omega (arith, long)))
    ∙ append-nil (four (four_at 0 place))

-- it is spelled by these bytes
four-tested : (n : ℕ) → n < 2 ^ 32 → bytes_eq (four n) (four (number_of (four n))) ≡ true
four-tested n below =
    (bytes_eq-Decides (four n) (four (number_of (four n)))).1 (ap four (sym (number-four n below)))

number-tested : (relative : Bool) (n : ℕ) → n < 2 ^ 32
    → nat_le (start_by relative) n ≡ is_number relative (four n)
number-tested relative n below =
    ap (λ (m : ℕ). nat_le (start_by relative) m) (sym (number-four n below))
    ∙ ap (λ (test : Bool). test && nat_le (start_by relative) (number_of (four n)))
    (sym (four-tested n below))

-- of four bytes the number decides,
number-decides : (relative : Bool) (place : List ℕ) → IsBytes place → length place ≡ 4
    → nat_le (start_by relative) (four_at 0 place) ≡ is_number relative place
number-decides relative place bytes long =
    number-tested relative (four_at 0 place) (four_below 0 place bytes)
    ∙ ap (is_number relative) (sym (four-spelled place bytes long))

-- and a place of another length is no number
not-number : (relative : Bool) (place : List ℕ) → length place ≢ 4
    → is_number relative place ≡ false
not-number relative place long = by_test (is_number relative place) refl
  where
    by_test : (test : Bool) → is_number relative place ≡ test → test ≡ false
    by_test false is = refl
    by_test true is =
        let both = and_parts (bytes_eq place (four (number_of place)))
        (nat_le (start_by relative) (number_of place)) is in
        absurd (long (ap (λ (bytes : List ℕ). length bytes)
        ((bytes_eq-Decides place (four (number_of place))).0 both.0) ∙ length-four _))

-- four bytes are an address,
pub address-tested : (relative : Bool) (place : List ℕ) → IsBytes place → length place ≡ 4
    → relative ≡ false → not relative ≡ is_number relative place
address-tested true place bytes long none = absurd cc
address-tested false place bytes long none =
    sym (le-leb 0 (four_at 0 place) (omega arith)) ∙ number-decides false place bytes long

-- and that of a slot where they aren't 0
some-tested : (n : ℕ) → not (nat_eq n 0) ≡ nat_le 1 n
some-tested n = by_test (nat_eq n 0) refl
  where
    by_test : (test : Bool) → nat_eq n 0 ≡ test → not test ≡ nat_le 1 n
    by_test true is = sym (lt-leb 1 n (omega (arith, eqb-true n 0 is)))
    by_test false is = sym (le-leb 1 n (grind (arith, nat_tests, is)))

pub slot-tested : (relative : Bool) (place : List ℕ) → IsBytes place → length place ≡ 4 → (n : ℕ)
    → n ≡ four_at 0 place → relative ≡ true → not (nat_eq n 0) ≡ is_number relative place
slot-tested false place bytes long n read none = absurd cc
slot-tested true place bytes long n read none =
    ap (λ (m : ℕ). not (nat_eq m 0)) read
    ∙ some-tested (four_at 0 place)
    ∙ number-decides true place bytes long

-- by the test of the length
pub length-tested : (relative : Bool) (place : List ℕ) → length place ≢ 4
    → nat_eq (length place) 4 ≡ is_number relative place
length-tested relative place long =
    by_length (nat_eq (length place) 4) refl ∙ sym (not-number relative place long)
  where
    by_length : (test : Bool) → nat_eq (length place) 4 ≡ test → test ≡ false
    by_length false is = refl
    by_length true is = absurd (long (eqb-true (length place) 4 is))
