-- Numbers of a range, one by one.
use Rattle.std.proofs.Common.{◌≡◌, ℕ, suc, ◌+◌, ◌-◌, ◌<◌, Bool, true, false, List, [], ◌∷◌, ◌++◌, filter}
use Rattle.std.proofs.Common.{sym, ap, ◌∙◌, append_assoc, cond, arith}
use Rattle.std.specs.List.{range_with_len}

range_next : (v e : ℕ) → v < e
    → range_with_len v (e - v) ≡ v ∷ range_with_len (v + 1) (e - (v + 1))
range_next v e h =
    let one : e - v ≡ suc (e - (v + 1)) = omega arith in ap (range_with_len v) one

-- a number that passes is the next one
pub passed_next : (p : ℕ → Bool) (found whole : List ℕ) (v e : ℕ) → v < e → p v ≡ true
    → found ++ filter p (range_with_len v (e - v)) ≡ whole
    → (found ++ v ∷ []) ++ filter p (range_with_len (v + 1) (e - (v + 1))) ≡ whole
passed_next p found whole v e h pass same =
    let rest : List ℕ = filter p (range_with_len (v + 1) (e - (v + 1))) in
    append_assoc found (v ∷ []) rest
    ∙ ap (λ xs. found ++ xs) (sym (ap (filter p) (range_next v e h)
    ∙ ap (λ b. cond b (v ∷ rest) rest) pass))
    ∙ same

-- one that doesn't is left out
pub other_next : (p : ℕ → Bool) (found whole : List ℕ) (v e : ℕ) → v < e → p v ≡ false
    → found ++ filter p (range_with_len v (e - v)) ≡ whole
    → found ++ filter p (range_with_len (v + 1) (e - (v + 1))) ≡ whole
other_next p found whole v e h fail same =
    let rest : List ℕ = filter p (range_with_len (v + 1) (e - (v + 1))) in
    ap (λ xs. found ++ xs) (sym (ap (filter p) (range_next v e h)
    ∙ ap (λ b. cond b (v ∷ rest) rest) fail))
    ∙ same
