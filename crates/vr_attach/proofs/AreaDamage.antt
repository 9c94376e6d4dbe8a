-- One area of a chain: it breaks no rule, or one block is the first that breaks one.
use Rattle.std.proofs.Common.{◌≡◌, ⊎_elim, inl, inr, ℕ, zero, suc, ◌<◌, ◌≤◌, List, Option, Some}
use Rattle.std.proofs.Common.{None, length, refl, sym, ap, subst, ◌∙◌, arith}
use Rattle.std.specs.Prelude.{unwrap_or}
use Rattle.std.specs.List.{slice_get}
use Rattle.std.proofs.lemmas.Bool.{cases_lt}
use Rattle.vr_types.specs.Image.{Block, Image, block_at}
use Rattle.vr_seqset.specs.Entry.{Entry}
use Rattle.vr_space.specs.Room.{Range}
use Rattle.vr_space.specs.Keyed.{HoldsRange, Keyed, entries_of, entry_block, low_of, range_of}
use Rattle.vr_space.specs.Search.{low_before}
use Rattle.vr_attach.specs.Damage.{HoldsNth, IntervalBreaks, IsBadInterval, IsLeastBroken}
use Rattle.vr_attach.specs.Damage.{rule_number}
use Rattle.vr_attach.specs.Linked.{IsBadTop, IsGoodTop, IsKeyedAreaBad, IsKeyedAreaSound}
use Rattle.vr_attach.specs.Linked.{IsTopSound, LinkBreaks}
use Rattle.vr_attach.specs.declared.rule.Rule.{Rule}
use Rattle.vr_attach.proofs.Rules.{one_least}
use Rattle.vr_attach.proofs.Intervals.{range_keeps, range_or_broken}
use Rattle.vr_attach.proofs.LinkRules.{good_or_broken, good_sound}
use Rattle.vr_attach.proofs.Walks.{got-within, held_more}

-- ---- the intervals of a head

module _ (part : Keyed) (top : Block) (image : Image) where
  abbrev range_at : ℕ → Entry → Range
  range_at i entry = range_of (low_before (low_of top) (entries_of top) i) entry

  -- those of the first entries hold their ranges, unless one is damaged
  each-or-bad : ((n : ℕ) (rule : Rule) → IsBadInterval part top image n rule → ⊥)
      → (k : ℕ) → (((i : ℕ) → i < k → HoldsNth part top image i) → ⊥) → ⊥
  each-or-bad none zero refuted = refuted (λ i less. absurd (omega (arith, less)))
  each-or-bad none (suc k) refuted = each-or-bad none k (λ before.
      nth-by (slice_get (entries_of top) k) refl before (λ nth.
      refuted (λ i less. held_more part top image k before nth i (omega (arith, less)))))
    where
      nth-by : (got : Option Entry) → slice_get (entries_of top) k ≡ got
          → ((i : ℕ) → i < k → HoldsNth part top image i)
          → (HoldsNth part top image k → ⊥) → ⊥
      nth-by None is before not = not (λ entry some. absurd (none-some entry (sym is ∙ some)))
        where
          none-some : (entry : Entry) → None ≡ Some entry → ⊥
          none-some entry same = cc
      nth-by (Some entry) is before not =
          range_or_broken part (range_at k entry) (block_at image (entry_block part entry))
          (λ holds. not (λ other some.
          let same : entry ≡ other = ap (λ (o : Option Entry). unwrap_or o entry)
          (sym is ∙ some) in
          subst (λ (e : Entry). HoldsRange part (range_at k e)
          (block_at image (entry_block part e))) same holds))
          (λ rule broken. none (entry_block part entry) rule (record {
            number = k;
            entry = entry;
            is = is;
            before = before;
            block = refl;
            rule_is = broken;
          }))

  -- one that holds its range is not bad
  bad-holds : (n : ℕ) (rule : Rule) → (bad : IsBadInterval part top image n rule)
      → HoldsNth part top image bad.number → ⊥
  bad-holds n rule bad holds =
      range_keeps part (range_at bad.number bad.entry) (block_at image n)
      (subst (λ (m : ℕ). HoldsRange part (range_at bad.number bad.entry) (block_at image m))
      (sym bad.block) (holds bad.entry bad.is)) rule bad.rule_is.broken

  -- one is bad at most
  same-bad : (n m : ℕ) (rule other : Rule) (first : IsBadInterval part top image n rule)
      (second : IsBadInterval part top image m other) → first.number ≡ second.number
      → (n ≡ m) × (rule_number rule ≡ rule_number other)
  same-bad n m rule other first second same =
      let entry : first.entry ≡ second.entry =
      ap (λ (o : Option Entry). unwrap_or o first.entry)
      (sym first.is ∙ ap (slice_get (entries_of top)) same ∙ second.is) in
      let block : n ≡ m =
      first.block ∙ ap (entry_block part) entry ∙ sym second.block in
      let range : range_at first.number first.entry ≡ range_at second.number second.entry =
      ap (λ (i : ℕ). range_at i first.entry) same
      ∙ ap (range_at second.number) entry in
      let moved : IsLeastBroken (IntervalBreaks part (range_at second.number second.entry)
      (block_at image m)) rule =
      subst (λ (b : ℕ). IsLeastBroken (IntervalBreaks part
      (range_at second.number second.entry) (block_at image b)) rule) block
      (subst (λ (r : Range). IsLeastBroken (IntervalBreaks part r (block_at image n)) rule) range
      first.rule_is) in (
        block,
        one_least (IntervalBreaks part (range_at second.number second.entry) (block_at image m))
            rule other moved second.rule_is,
      )

  one-interval : (n m : ℕ) (rule other : Rule) → IsBadInterval part top image n rule
      → IsBadInterval part top image m other
      → (n ≡ m) × (rule_number rule ≡ rule_number other)
  one-interval n m rule other first second = ⊎_elim
      (λ (less : first.number < second.number).
      absurd (bad-holds n rule first (second.before first.number less)))
      (λ (most : second.number ≤ first.number). ⊎_elim
      (λ (more : second.number < first.number).
      absurd (bad-holds m other second (first.before second.number more)))
      (λ (at : first.number ≤ second.number).
      same-bad n m rule other first second (omega (arith, at, most)))
      (cases_lt second.number first.number))
      (cases_lt first.number second.number)

-- ---- the area

module _ (part : Keyed) (area areas : ℕ) (low : Option (List ℕ)) (image : Image) where
  abbrev top : Block
  top = block_at image part.head

  top-bad : IsTopSound part area areas low top → (n : ℕ) (rule : Rule)
      → IsBadTop part area areas low image n rule → ⊥
  top-bad sound n rule bad = sound rule
      (subst (λ (m : ℕ). LinkBreaks part area areas low (block_at image m) rule) bad.block
      bad.rule_is.broken)

  -- it isn't both
  pub sound-bad : IsKeyedAreaSound part area areas low image → (n : ℕ) (rule : Rule)
      → IsKeyedAreaBad part area areas low image n rule → ⊥
  sound-bad sound n rule (inl bad) = top-bad sound.head n rule bad
  sound-bad sound n rule (inr bad) = bad-holds part top image n rule bad.interval
      (sound.intervals bad.interval.number
      (got-within (entries_of top) bad.interval.number bad.interval.entry bad.interval.is))

  -- and it is one of them
  pub sound-or-bad : (IsGoodTop part area areas low top
      → IsKeyedAreaSound part area areas low image → ⊥)
      → ((n : ℕ) (rule : Rule) → IsKeyedAreaBad part area areas low image n rule → ⊥) → ⊥
  sound-or-bad not none =
      good_or_broken part area areas low top
      (λ good.
      let sound : IsTopSound part area areas low top = good_sound part area areas low top good in
      each-or-bad part top image
      (λ n rule bad. none n rule (inr (record { head = sound; interval = bad })))
      (length (entries_of top))
      (λ each. not good (record { head = sound; intervals = each })))
      (λ rule broken. none part.head rule (inl (record { block = refl; rule_is = broken })))

  -- one block and one rule at most
  pub one-bad : (n m : ℕ) (rule other : Rule)
      → IsKeyedAreaBad part area areas low image n rule
      → IsKeyedAreaBad part area areas low image m other
      → (n ≡ m) × (rule_number rule ≡ rule_number other)
  one-bad n m rule other (inl first) (inl second) =
      let same : n ≡ m = first.block ∙ sym second.block in (
        same,
        one_least (LinkBreaks part area areas low (block_at image m)) rule other
            (subst (λ (b : ℕ). IsLeastBroken (LinkBreaks part area areas low (block_at image b))
            rule) same first.rule_is) second.rule_is,
      )
  one-bad n m rule other (inl first) (inr second) = absurd (top-bad second.head n rule first)
  one-bad n m rule other (inr first) (inl second) = absurd (top-bad first.head m other second)
  one-bad n m rule other (inr first) (inr second) =
      one-interval part top image n m rule other first.interval second.interval
