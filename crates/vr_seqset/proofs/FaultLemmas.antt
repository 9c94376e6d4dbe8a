-- The block of a record breaks no rule, and a block that breaks none is that of the record in it.
use Rattle.std.proofs.Common.{◌≡◌, ℕ, ◌-◌, ◌<◌, Bool, true, false, cond, List, [], ◌∷◌, ◌++◌}
use Rattle.std.proofs.Common.{length, get_or, take, drop, map, refl, sym, ap, subst, ◌∙◌, arith}
use Rattle.std.proofs.Common.{replicate}
use Rattle.std.specs.List.{flat_map}
use Rattle.std.specs.List.Sorted.{IsStrictlySortedBy}
use Rattle.std.specs.Ordering.{nat_cmp}
use Rattle.std.specs.Cmp.Lexicographic.{slice_cmp}
use Rattle.std.proofs.lemmas.List.Elements.{All-replicate}
use Rattle.vr_seqset.specs.declared.fault.SeqFault.{SeqFault}
use Rattle.vr_seqset.specs.declared.fault.SeqFault.TheVariants as faults
use Rattle.vr_types.specs.Fields.{four_at, AreZeros}
use Rattle.vr_seqset.specs.Numbers.{intervals_used}
use Rattle.vr_seqset.specs.Entry.{Entry}
use Rattle.vr_seqset.specs.Numbers.{AreOnceBelow}
use Rattle.vr_seqset.specs.SequenceSet.{SequenceSet, spelling, block_of_record, bounds_of}
use Rattle.vr_seqset.specs.SequenceSet.{HasLengths, HasFields, HasIntervals, Ascends, KeepsChain}
use Rattle.vr_seqset.specs.SequenceSet.{IsSequenceSet}
use Rattle.vr_seqset.specs.Reading.{record_in}
use Rattle.vr_seqset.specs.Faults.{CanBeCut, HasZeros, Keeps}
use Rattle.vr_types.specs.Fields.{IsBytes}
use Rattle.vr_types.proofs.CallerLemmas.{four_below}
use Rattle.vr_types.proofs.CallerLemmas.{IsArea-area_of, zeros_after}
use Rattle.vr_seqset.proofs.RecordLemmas.{record_again, record_is, kind_back, first_back, gap_back}
use Rattle.vr_seqset.proofs.RecordLemmas.{second_gap_back}

flag_below : (b : Bool) → cond b 1 0 < 2
flag_below true = omega arith
flag_below false = omega arith

keeps_zeros : (cis : ℕ) (block : List ℕ) (s : SequenceSet) → IsSequenceSet cis block s
    → HasZeros block
keeps_zeros cis block s is =
    let zeros = replicate (length block - length (spelling s)) 0 in
    let same = record_is cis block s is in
    record {
      flag = subst (λ (x : List ℕ). get_or x 1 0 < 2) (sym is.spelled)
          (subst (λ (n : ℕ). n < 2) (sym (first_back s zeros)) (flag_below s.first));
      gap = subst (λ (x : List ℕ). AreZeros (take 2 (drop 4 x))) (sym is.spelled)
          (subst AreZeros (sym (gap_back s zeros)) (All-replicate (λ (b : ℕ). b ≡ 0) 2 0 refl));
      second_gap = subst (λ (x : List ℕ). AreZeros (take 8 (drop 24 x))) (sym is.spelled)
          (subst AreZeros (sym (second_gap_back s zeros))
          (All-replicate (λ (b : ℕ). b ≡ 0) 8 0 refl));
      chain = subst KeepsChain (sym same) is.rules.chain;
      rest = subst (λ (x : List ℕ). AreZeros (drop (length (spelling (record_in block))) x))
          (sym is.spelled) (subst (λ (t : SequenceSet). AreZeros
          (drop (length (spelling t)) (block_of_record (length block) s))) (sym same)
          (zeros_after (length block) (spelling s)));
    }

-- a record's block keeps each rule
pub keeps : (cis : ℕ) (block : List ℕ) (s : SequenceSet) → IsSequenceSet cis block s
    → (f : SeqFault) → Keeps cis block f
keeps cis block s is faults.Kind = ap (λ (x : List ℕ). get_or x 0 0) is.spelled
    ∙ kind_back s (replicate (length block - length (spelling s)) 0)
keeps cis block s is faults.Lengths = record {
  lengths = subst (HasLengths (length block)) (sym (record_is cis block s is)) is.rules.lengths;
  some = subst (λ (t : SequenceSet). 0 < length t.entries) (sym (record_is cis block s is)) is.some;
}
keeps cis block s is faults.Intervals =
    subst (HasIntervals cis (length block)) (sym (record_is cis block s is)) is.rules.numbers
keeps cis block s is faults.Places = subst Ascends (sym (record_is cis block s is)) is.rules.ascends
keeps cis block s is faults.Zeros = keeps_zeros cis block s is

fields_fit : (block : List ℕ) → IsBytes block → HasFields (record_in block)
unfolding record_in
fields_fit block fits = record {
  part = four_below 8 block fits;
  next = IsArea-area_of (four_at 12 block) (four_below 12 block fits);
  top = four_below 16 block fits;
  index_area = IsArea-area_of (four_at 20 block) (four_below 20 block fits);
}

-- a block that keeps each rule is that of a record
pub is_record : (cis : ℕ) (block : List ℕ) → IsBytes block → get_or block 0 0 ≡ 83 → CanBeCut block
    → HasIntervals cis (length block) (record_in block) → Ascends (record_in block)
    → HasZeros block → IsSequenceSet cis block (record_in block)
is_record cis block fits kind cut numbers ascends zeros = record {
  rules = record {
    lengths = cut.lengths;
    fields = fields_fit block fits;
    numbers =
        numbers;
    ascends = ascends;
    chain = zeros.chain;
  };
  some = cut.some;
  spelled = record_again block fits kind cut zeros;
}

-- ---- rules, as the code tests them on the parts that it read

module _ (cis : ℕ) (block : List ℕ) (limit : ℕ) (low : List ℕ) (entries : List Entry)
    (low_was : low ≡ (record_in block).low)
    (limit_was : limit ≡ intervals_used cis (length block) (length low))
    (entries_was : entries ≡ (record_in block).entries) where
  used_is : AreOnceBelow limit (flat_map (λ e. e.intervals) entries) ≡ HasIntervals cis
      (length block) (record_in block)
  used_is =
      ap (λ (n : ℕ). AreOnceBelow n (flat_map (λ (e : Entry). e.intervals) entries))
      (limit_was ∙ ap (λ (x : List ℕ). intervals_used cis (length block) (length x)) low_was)
      ∙ ap (λ (es : List Entry). AreOnceBelow
      (intervals_used cis (length block) (length (record_in block).low))
      (flat_map (λ (e : Entry). e.intervals) es)) entries_was

  pub used_to : AreOnceBelow limit (flat_map (λ e. e.intervals) entries)
      → HasIntervals cis (length block) (record_in block)
  used_to once = subst (λ (P : Type 0). P) used_is once

  pub used_from : HasIntervals cis (length block) (record_in block)
      → AreOnceBelow limit (flat_map (λ e. e.intervals) entries)
  used_from h = subst (λ (P : Type 0). P) (sym used_is) h

module _ (block : List ℕ) (first : Bool) (low : List ℕ) (entries : List Entry)
    (first_was : first ≡ (record_in block).first) (low_was : low ≡ (record_in block).low)
    (entries_was : entries ≡ (record_in block).entries) where
  bounds_are : cond first [] (low ∷ []) ++ map (λ e. e.high) entries ≡ bounds_of (record_in block)
  bounds_are =
      ap (λ (b : Bool). cond b [] (low ∷ []) ++ map (λ (e : Entry). e.high) entries) first_was
      ∙ ap (λ (x : List ℕ). cond (record_in block).first [] (x ∷ [])
      ++ map (λ (e : Entry). e.high) entries) low_was
      ∙ ap (λ (es : List Entry). cond (record_in block).first [] ((record_in block).low ∷ [])
      ++ map (λ (e : Entry). e.high) es) entries_was

  pub ascends_to : IsStrictlySortedBy (slice_cmp nat_cmp)
      (cond first [] (low ∷ []) ++ map (λ e. e.high) entries) → Ascends (record_in block)
  ascends_to sorted = subst (IsStrictlySortedBy (slice_cmp nat_cmp)) bounds_are sorted

  pub ascends_from : Ascends (record_in block)
      → IsStrictlySortedBy (slice_cmp nat_cmp)
      (cond first [] (low ∷ []) ++ map (λ e. e.high) entries)
  ascends_from h = subst (IsStrictlySortedBy (slice_cmp nat_cmp)) (sym bounds_are) h
