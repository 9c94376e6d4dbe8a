-- The walk over the intervals of a head.
use Rattle.std.proofs.Common.{◌≡◌, ⊎_elim, ℕ, zero, suc, ◌+◌, ◌<◌, ◌≤◌, List, [], ◌∷◌}
use Rattle.std.proofs.Common.{Option, Some, length, refl, sym, ap, subst, ◌∙◌, arith}
use Rattle.std.specs.Prelude.{unwrap_or, MatchOption}
use Rattle.std.specs.List.{slice_get}
use Rattle.std.proofs.lemmas.Bool.{cases_lt}
use Rattle.vr_types.specs.Image.{Block, Image, block_at}
use Rattle.vr_seqset.specs.Entry.{Entry}
use Rattle.vr_space.specs.Room.{Range}
use Rattle.vr_space.specs.Keyed.{Keyed, HoldsRange, HoldRanges, entries_of, entry_block}
use Rattle.vr_space.specs.Keyed.{low_of, range_of}
use Rattle.vr_space.specs.Search.{low_before, range_found, IsEntryAt}
use Rattle.vr_space.specs.UnderWay.{interval_block}
use Rattle.vr_space.specs.declared.search.FoundEntry.{FoundEntry}
use Rattle.vr_attach.specs.Damage.{HoldsNth, IntervalBreaks, IsBadInterval, IsLeastBroken}
use Rattle.vr_attach.specs.declared.damage.Damage.{Damage}
use Rattle.vr_attach.specs.declared.rule.Rule.{Rule}

-- entry by entry they hold their ranges
pub hold-all : (part : Keyed) (image : Image) (low : Option (List ℕ)) (entries : List Entry)
    → ((i : ℕ) (entry : Entry) → slice_get entries i ≡ Some entry
    → HoldsRange part (range_of (low_before low entries i) entry)
    (block_at image (entry_block part entry)))
    → HoldRanges part image low entries
hold-all part image low [] each = tt
hold-all part image low (entry ∷ entries) each = (
  each 0 entry refl,
  hold-all part image (Some entry.high) entries (λ i other is. each (suc i) other is),
)

-- such an entry is there
pub got-within : (entries : List Entry) (i : ℕ) (entry : Entry) → slice_get entries i ≡ Some entry
    → i < length entries
got-within [] i entry is = absurd cc
got-within (first ∷ entries) zero entry is = omega arith
got-within (first ∷ entries) (suc i) entry is = omega (arith, got-within entries i entry is)

-- ---- the interval of an entry that is found

module _ (part : Keyed) (top : Block) (image : Image) (number : ℕ) (found : FoundEntry)
    (is : IsEntryAt top number found) (n : ℕ)
    (at : n ≡ interval_block part found.interval) where
  found-block : n ≡ entry_block part is.entry
  found-block = at ∙ ap (λ (i : ℕ). part.head + 1 + i) is.interval

  pub holds_here : HoldsRange part (range_found found) (block_at image n)
      → HoldsNth part top image number
  holds_here holds other got =
      let same : is.entry ≡ other =
      ap (λ (o : Option Entry). unwrap_or o is.entry) (sym is.number ∙ got) in
      subst (λ (e : Entry). HoldsRange part
      (range_of (low_before (low_of top) (entries_of top) number) e)
      (block_at image (entry_block part e))) same
      (subst (λ (m : ℕ). HoldsRange part
      (range_of (low_before (low_of top) (entries_of top) number) is.entry) (block_at image m))
      found-block
      (subst (λ (r : Range). HoldsRange part r (block_at image n)) is.range holds))

  pub bad_here : (rule : Rule)
      → IsLeastBroken (IntervalBreaks part (range_found found) (block_at image n)) rule
      → ((i : ℕ) → i < number → HoldsNth part top image i)
      → IsBadInterval part top image n rule
  bad_here rule broken before = record {
    number = number;
    entry = is.entry;
    is = is.number;
    before = before;
    block = found-block;
    rule_is = subst (λ (r : Range). IsLeastBroken (IntervalBreaks part r (block_at image n)) rule)
        is.range broken;
  }

-- what is found at the interval of an entry, and what of those before
abbrev pub FoundAt : Keyed → Block → ℕ → Image → Option Damage → Type 0
FoundAt part top n image found = MatchOption found (HoldsNth part top image n)
    (λ (damage : Damage). ((i : ℕ) → i < n → HoldsNth part top image i)
    → IsBadInterval part top image damage.block damage.rule)

-- those of one entry more hold their ranges
pub held_more : (part : Keyed) (top : Block) (image : Image) (n : ℕ)
    → ((i : ℕ) → i < n → HoldsNth part top image i) → HoldsNth part top image n
    → (i : ℕ) → i < n + 1 → HoldsNth part top image i
held_more part top image n held here i less = ⊎_elim
    (λ (below : i < n). held i below)
    (λ (most : n ≤ i). let same : n ≡ i = omega (arith, most, less) in
    subst (HoldsNth part top image) same here)
    (cases_lt i n)
