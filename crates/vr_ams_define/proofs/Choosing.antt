-- The lowest of the numbers that are left.
use Rattle.std.proofs.Common.{◌≡◌, ℕ, suc, ◌+◌, ◌-◌, ◌<◌, ◌≤◌, Bool, true, false, ◌∷◌}
use Rattle.std.proofs.Common.{Some, None, refl, ap, arith, ◌∙◌}
use Rattle.std.specs.List.{find, range_with_len}

range-next : (number count : ℕ) → number < count
    → range_with_len number (count - number)
    ≡ number ∷ range_with_len (number + 1) (count - (number + 1))
range-next number count below =
    let more : count - number ≡ suc (count - (number + 1)) = omega arith in
    ap (range_with_len number) more

-- the first of them passes
pub find-here : (p : ℕ → Bool) (number count : ℕ) → number < count → p number ≡ true
    → find p (range_with_len number (count - number)) ≡ Some number
find-here p number count below passes =
    ap (find p) (range-next number count below) ∙ rw passes refl

-- it fails, and the others are left
pub find-next : (p : ℕ → Bool) (number count : ℕ) → number < count → p number ≡ false
    → find p (range_with_len number (count - number))
    ≡ find p (range_with_len (number + 1) (count - (number + 1)))
find-next p number count below fails =
    ap (find p) (range-next number count below) ∙ rw fails refl

-- none is left
pub find-none : (p : ℕ → Bool) (number count : ℕ) → count ≤ number
    → find p (range_with_len number (count - number)) ≡ None
find-none p number count past =
    let none : count - number ≡ 0 = omega arith in
    rw none refl
