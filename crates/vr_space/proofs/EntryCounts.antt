-- A head has no more entries than its area has intervals.
use Rattle.std.proofs.Common.{◌≡◌, ◌<◌, ◌≤◌, ◌-◌, ◌+◌, ◌/◌, ℕ, true, List, [], ◌∷◌, length, sym}
use Rattle.std.proofs.Common.{subst, arith, All, eqb, true≢false, inl, inr}
use Rattle.std.specs.Prelude.{min}
use Rattle.std.specs.List.{IsDistinct, flat_map, list_any}
use Rattle.std.proofs.lemmas.Bool.{eqb-true, or_cases}
use Rattle.std.proofs.lemmas.List.{length-append}
use Rattle.std.proofs.lemmas.List.Elements.{All-head, All-tail}
use Rattle.std.proofs.lemmas.Map.Steps.{length-le_from_distinct_below}
use Rattle.vr_types.specs.Image.{Block}
use Rattle.vr_seqset.specs.Entry.{Entry, IsWhole}
use Rattle.vr_seqset.specs.Numbers.{intervals_used}
use Rattle.vr_seqset.specs.Reading.{record_in}
use Rattle.vr_seqset.specs.SequenceSet.{KeepsRules, SequenceSet, used_by}
use Rattle.vr_space.specs.Keyed.{IsHead, Keyed, entries_of}

-- the numbers are below the limit, each once: so they are no more
numbers-most : (limit : ℕ) (numbers : List ℕ) → IsDistinct eqb numbers
    → All (λ n. n < limit) numbers → length numbers ≤ limit
numbers-most limit numbers once below = length-le_from_distinct_below numbers limit once
    (λ n there. below-any numbers n below there)
  where
    below-any : (numbers : List ℕ) (n : ℕ) → All (λ m. m < limit) numbers
        → list_any (eqb n) numbers ≡ true → n < limit
    below-any [] n all there = absurd (true≢false (sym there))
    below-any (m ∷ numbers) n all there =
        elim (or_cases (eqb n m) (list_any (eqb n) numbers) there) [
          | inl first ↦ subst (λ (k : ℕ). k < limit) (sym (eqb-true n m first))
              (All-head (λ k. k < limit) m numbers all)
          | inr others ↦ below-any numbers n (All-tail (λ k. k < limit) m numbers all) others
        ]

-- each entry has a number at least
entries-most : (place : ℕ) (entries : List Entry) → All (IsWhole place) entries
    → length entries ≤ length (flat_map (λ (entry : Entry). entry.intervals) entries)
entries-most place [] whole = omega arith
entries-most place (entry ∷ entries) whole =
    let one : IsWhole place entry = All-head (IsWhole place) entry entries whole in
    omega (
      arith,
      one.some,
      length-append entry.intervals
          (flat_map (λ (other : Entry). other.intervals) entries),
      entries-most place entries (All-tail (IsWhole place) entry entries whole),
    )

-- A record has no more entries than intervals are used under it.
pub entries-below : (cis size : ℕ) (s : SequenceSet) → KeepsRules cis size s
    → length s.entries ≤ intervals_used cis size (length s.low)
entries-below cis size s rules = omega (
  arith,
  entries-most (length s.low) s.entries rules.lengths.whole,
  numbers-most (intervals_used cis size (length s.low)) (used_by s) rules.numbers.once
      rules.numbers.below,
)

min-left : (m n : ℕ) → min m n ≤ m
min-left m n = omega arith

pub head-entries : (part : Keyed) (top : Block) → IsHead part top
    → length (entries_of top) ≤ part.area
head-entries part top head =
    let place : ℕ = length (record_in top).low in
    omega (
      arith,
      entries-below part.area (length top) (record_in top) head.spelled.rules,
      min-left part.area ((length top - 32 - place) / (4 + place)),
    )
