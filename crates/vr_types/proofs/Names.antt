-- Columns of bytes in a name.
use Rattle.std.proofs.Common.{◌≡◌, ◌≢◌, ℕ, ◌+◌, ◌-◌, ◌<◌, ◌==◌, true, false, not, List, length}
use Rattle.std.proofs.Common.{take, get_or, refl, ap, arith}
use Rattle.std.specs.List.{suffix_len}
use Rattle.std.proofs.lemmas.List.Sums.{suffix_len-take_yes, suffix_len-take_no}
use Rattle.std.proofs.lemmas.Bool.Decides.{nat_tests}
use Rattle.std.proofs.lemmas.Grind.{common_steps}
use Rattle.vr_types.specs.Name.{column_at, fits_column, is_right_at}

-- after a dot a qualifier begins
pub column_at-dot : (text : List ℕ) (i : ℕ) → i < length text → get_or text i 0 ≡ 46
    → column_at text (i + 1) ≡ 0
column_at-dot text i within dot =
    let dropped : i + 1 - 1 ≡ i = omega arith in
    suffix_len-take_no (λ b. not (b == 46)) text (i + 1) 0 (omega arith) (omega arith)
    (rw (dropped, dot) refl)

-- after another byte it goes on
pub column_at-next : (text : List ℕ) (i : ℕ) → i < length text → get_or text i 0 ≢ 46
    → column_at text (i + 1) ≡ column_at text i + 1
column_at-next text i within differs =
    let other : (get_or text i 0 == 46) ≡ false = grind (arith, nat_tests) in
    let dropped : i + 1 - 1 ≡ i = omega arith in
    let more : suffix_len (λ b. not (b == 46)) (take (i + 1) text) ≡ 1 + suffix_len
    (λ b. not (b == 46)) (take (i + 1 - 1) text)
    = suffix_len-take_yes (λ b. not (b == 46)) text (i + 1) 0 (omega arith) (omega arith)
    (rw (dropped, other) refl) in
    let at_i : suffix_len (λ b. not (b == 46)) (take (i + 1 - 1) text) ≡ column_at text i =
    ap (λ n. suffix_len (λ b. not (b == 46)) (take n text)) dropped in
    omega arith

-- a byte that fits its column is right
pub right_inside : (text : List ℕ) (i : ℕ) → i < length text
    → fits_column (column_at text i) (get_or text i 0) ≡ true → is_right_at text i ≡ true
right_inside text i within fits = grind (arith, common_steps)
