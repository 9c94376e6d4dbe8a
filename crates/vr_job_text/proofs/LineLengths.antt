-- No line is longer than its text.
use Rattle.std.proofs.Common.{ℕ, zero, suc, ◌-◌, ◌≤◌, ◌&&◌, ◌==◌, nat_lt, Bool, true, false, cond}
use Rattle.std.proofs.Common.{List, [], ◌∷◌, length, map, take, drop, slice_index, arith}
use Rattle.std.proofs.Common.{length-take, length-drop}
use Rattle.std.specs.List.{AllByRecursion}
use Rattle.bstr.specs.Text.{lines_from, lines_of, line_len, no_cr, without_terminator}

choice_shorter : (b : Bool) (n : ℕ) (one other : List ℕ) → length one ≤ n → length other ≤ n
    → length (cond b one other) ≤ n
choice_shorter true n one other h g = h
choice_shorter false n one other h g = g

front_shorter : (bs : List ℕ) (k : ℕ) → length (take k bs) ≤ length bs
front_shorter bs k = omega (arith, length-take k bs)

no_cr_shorter : (bs : List ℕ) → length (no_cr bs) ≤ length bs
no_cr_shorter bs =
    choice_shorter (nat_lt 0 (length bs) && slice_index bs (length bs - 1) == 13) (length bs)
    (take (length bs - 1) bs) bs (front_shorter bs (length bs - 1)) (omega arith)

end_shorter : (bs : List ℕ) → length (without_terminator bs) ≤ length bs
end_shorter bs =
    let front = front_shorter bs (length bs - 1) in
    let short = no_cr_shorter (take (length bs - 1) bs) in
    choice_shorter (nat_lt 0 (length bs) && slice_index bs (length bs - 1) == 10) (length bs)
    (no_cr (take (length bs - 1) bs)) bs (omega (arith, front, short)) (omega arith)

lines_from_short : (fuel : ℕ) (bs : List ℕ) (n : ℕ) → length bs ≤ n
    → AllByRecursion (λ line. length line ≤ n) (map without_terminator (lines_from fuel bs))
unfolding lines_from
lines_from_short zero bs n h = tt
lines_from_short (suc fuel) [] n h = tt
lines_from_short (suc fuel) (b ∷ rest) n h =
    let len = line_len (b ∷ rest) in
    let first = end_shorter (take len (b ∷ rest)) in
    let front = front_shorter (b ∷ rest) len in (
      omega (arith, first, front, h),
      lines_from_short fuel (drop len (b ∷ rest)) n (omega (arith, length-drop len (b ∷ rest), h)),
    )

pub lines_short : (text : List ℕ) (n : ℕ) → length text ≤ n
    → AllByRecursion (λ line. length line ≤ n) (map without_terminator (lines_of text))
lines_short text n h = lines_from_short (length text) text n h
