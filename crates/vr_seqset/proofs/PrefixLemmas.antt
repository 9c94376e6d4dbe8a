-- A record without its last entries.
use Rattle.std.proofs.Common.{◌≡◌, ℕ, cond, List, [], ◌∷◌, ◌++◌, length, map, sym, ap, subst, ◌∙◌}
use Rattle.std.proofs.Common.{arith, append_assoc}
use Rattle.std.specs.List.{flat_map, AllByRecursion}
use Rattle.std.specs.List.Sorted.{IsStrictlySortedBy}
use Rattle.std.specs.declared.cmp.Ordering.TheVariants.{Less}
use Rattle.std.specs.Ordering.{nat_cmp}
use Rattle.std.specs.Cmp.Lexicographic.{slice_cmp}
use Rattle.std.proofs.lemmas.List.{length-append, map-append}
use Rattle.std.proofs.lemmas.Grind.{flat_map-append}
use Rattle.vr_seqset.specs.Numbers.{intervals_used}
use Rattle.vr_seqset.specs.Entry.{Entry, entry_bytes, IsWhole}
use Rattle.vr_seqset.specs.Numbers.{AreOnceBelow}
use Rattle.vr_seqset.specs.SequenceSet.{SequenceSet, KeepsRules}
use Rattle.vr_seqset.proofs.ListLemmas.{All-left}
use Rattle.vr_seqset.proofs.RecordLemmas.{length-spelling}
use Rattle.vr_seqset.proofs.NumberLemmas.{once_left}
use Rattle.vr_seqset.proofs.PlaceLemmas.{Sorted}

below_left : (p : List ℕ) (xs ys : List (List ℕ))
    → AllByRecursion (λ y. slice_cmp nat_cmp p y ≡ Less) (xs ++ ys)
    → AllByRecursion (λ y. slice_cmp nat_cmp p y ≡ Less) xs
below_left p [] ys all = tt
below_left p (x ∷ xs) ys all = (all.0, below_left p xs ys all.1)

sorted_left : (xs ys : List (List ℕ)) → Sorted (xs ++ ys) → Sorted xs
unfolding IsStrictlySortedBy
sorted_left [] ys sorted = tt
sorted_left (x ∷ xs) ys sorted = (below_left x xs ys sorted.0, sorted_left xs ys sorted.1)

pub earlier_keep : (cis size : ℕ) (s : SequenceSet) (es fs : List Entry)
    → KeepsRules cis size (record s { entries = es ++ fs })
    → KeepsRules cis size (record s { entries = es })
earlier_keep cis size s es fs rules =
    let bounds = cond s.first [] (s.low ∷ []) in
    let highs : bounds ++ map (λ (e : Entry). e.high) (es ++ fs) ≡
    (bounds ++ map (λ (e : Entry). e.high) es) ++ map (λ (e : Entry). e.high) fs =
    ap (λ (x : List (List ℕ)). bounds ++ x) (map-append (λ (e : Entry). e.high) es fs)
    ∙ sym (append_assoc bounds (map (λ (e : Entry). e.high) es)
    (map (λ (e : Entry). e.high) fs)) in
    record {
      lengths = record {
        block = rules.lengths.block;
        place = rules.lengths.place;
        whole = All-left (IsWhole (length s.low)) es fs rules.lengths.whole;
        room = omega (
          arith,
          length-spelling (record s { entries = es ++ fs }),
          length-spelling (record s { entries = es }),
          rules.lengths.room,
          ap (λ (x : List ℕ). length x) (flat_map-append entry_bytes es fs),
          length-append (flat_map entry_bytes es) (flat_map entry_bytes fs),
        );
      };
      fields = record {
        part = rules.fields.part;
        next = rules.fields.next;
        top =
            rules.fields.top;
        index_area = rules.fields.index_area;
      };
      numbers = once_left (intervals_used cis size (length s.low))
          (flat_map (λ (e : Entry). e.intervals) es) (flat_map (λ (e : Entry). e.intervals) fs)
          (subst (AreOnceBelow (intervals_used cis size (length s.low)))
          (flat_map-append (λ (e : Entry). e.intervals) es fs) rules.numbers);
      ascends = sorted_left (bounds ++ map (λ (e : Entry). e.high) es)
          (map (λ (e : Entry). e.high) fs) (subst Sorted highs rules.ascends);
      chain = rules.chain;
    }
