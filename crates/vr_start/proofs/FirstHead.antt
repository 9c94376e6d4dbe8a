-- That the head of the first area of a part keeps the rules of one, as it is written.
use Rattle.std.proofs.Common.{◌≡◌, ◌<◌, ◌≤◌, ◌+◌, ◌-◌, ◌*◌, ◌/◌, ℕ, Bool, true, List, [], ◌∷◌}
use Rattle.std.proofs.Common.{length, refl, sym, ap, subst, ◌∙◌, arith, All, None}
use Rattle.std.specs.Prelude.{replicate, min}
use Rattle.std.specs.List.{IsDistinct, flat_map}
use Rattle.std.specs.List.Sorted.{IsStrictlySortedBy}
use Rattle.std.proofs.lemmas.List.{length-append, length-replicate}
use Rattle.std.proofs.lemmas.List.Elements.{All-cons, All-nil, All-replicate}
use Rattle.std.proofs.Math.Nat.{mul-le-mul_right}
use Rattle.std.proofs.lemmas.Nat.{div-add-mod'}
use Rattle.vr_types.specs.Content.{place_cmp}
use Rattle.vr_types.specs.Fields.{two}
use Rattle.vr_types.specs.Image.{Block}
use Rattle.vr_types.proofs.CallerLemmas.{length-two}
use Rattle.vr_seqset.specs.Entry.{Entry, IsWhole, entry_bytes}
use Rattle.vr_seqset.specs.Numbers.{intervals_used}
use Rattle.vr_seqset.specs.Reading.{record_in}
use Rattle.vr_seqset.specs.SequenceSet.{IsSequenceSet, KeepsRules, SequenceSet, spelling}
use Rattle.vr_seqset.proofs.CallerLemmas.{length-entry_bytes, length-spelling, record_is}
use Rattle.vr_seqset.specs.Writing.{with_entry}
use Rattle.vr_seqset.proofs.CallerLemmas.{earlier_keep}
use Rattle.vr_space.specs.Keyed.{IsHead, Keyed}
use Rattle.vr_start.specs.FirstHead.{MayBegin, all_places, first_record}

-- an area of which an interval is used has room for its entry
room-of : (area size key : ℕ) → 0 < min area ((size - 32 - key) / (4 + key))
    → 36 + key + key ≤ size
room-of area size key used =
    let some : 1 * (4 + key) ≤ (size - 32 - key) / (4 + key) * (4 + key) =
    mul-le-mul_right (4 + key) (omega (arith, used)) in
    omega (arith, some, div-add-mod' (size - 32 - key) (4 + key))

one_whole : (key : ℕ) → IsWhole key (all_places key)
one_whole key = record { some = omega arith; high = length-replicate {A = ℕ} key 255 }

one_length : (part : Keyed) → length (spelling (first_record part)) ≡ 36 + part.key + part.key
one_length part =
    let entries : length (flat_map entry_bytes (first_record part).entries)
    ≡ length (entry_bytes (all_places part.key)) + 0 =
    length-append (entry_bytes (all_places part.key)) [] in
    let numbers : length (flat_map two (all_places part.key).intervals) ≡ length (two 0) + 0 =
    length-append (two 0) [] in
    omega (
      arith,
      entries,
      numbers,
      length-spelling (first_record part),
      length-entry_bytes (all_places part.key),
      length-two 0,
      length-replicate {A = ℕ} part.key 0,
      length-replicate {A = ℕ} part.key 255,
    )

sorted-one : (place : List ℕ) → IsStrictlySortedBy place_cmp (place ∷ [])
unfolding IsStrictlySortedBy
sorted-one place = (tt, tt)

distinct-one : (eq : ℕ → ℕ → Bool) (n : ℕ) → IsDistinct eq (n ∷ [])
unfolding IsDistinct
distinct-one eq n = (tt, tt)

-- the record keeps the rules
pub one_rules : (part : Keyed) → MayBegin part → KeepsRules part.area part.size (first_record part)
one_rules part has = record {
  lengths = record {
    block = has.size;
    place = omega (arith, length-replicate {A = ℕ} part.key 0, has.key);
    whole = All-cons (IsWhole (length (first_record part).low)) (all_places part.key) []
        (subst (λ (k : ℕ). IsWhole k (all_places part.key))
        (sym (length-replicate {A = ℕ} part.key 0))
        (one_whole part.key))
        (All-nil (IsWhole (length (first_record part).low)));
    room = omega (
      arith,
      one_length part,
      room-of part.area part.size part.key has.used,
    );
  };
  fields = record {
    part = has.number;
    next = tt;
    top = omega arith;
    index_area = tt;
  };
  numbers = record {
    below = All-cons
        (λ n. n < intervals_used part.area part.size (length (first_record part).low)) 0 []
        (subst (λ (k : ℕ). 0 < intervals_used part.area part.size k)
        (sym (length-replicate {A = ℕ} part.key 0)) has.used)
        (All-nil (λ n. n < intervals_used part.area part.size (length (first_record part).low)));
    once = distinct-one Rattle.std.specs.Prelude.nat_eq 0;
  };
  ascends = sorted-one (replicate part.key 255);
  chain = All-replicate (λ (b : ℕ). b ≡ 0) part.key 0 refl;
}

-- with no entry yet it does too
pub begun_rules : (part : Keyed) → MayBegin part
    → KeepsRules part.area part.size (record (first_record part) { entries = [] })
begun_rules part has = earlier_keep part.area part.size (first_record part) []
    (all_places part.key ∷ []) (one_rules part has)

-- the record as it is begun
abbrev pub begun_head : ℕ → List ℕ → SequenceSet
begun_head number low = record {
  first = true;
  part = number;
  next = None;
  top = 0;
  index_area = None;
  low = low;
  entries = [];
}

pub begun_keeps : (part : Keyed) (cis size number : ℕ) (low : List ℕ) → MayBegin part
    → cis ≡ part.area → size ≡ part.size → number ≡ part.part → low ≡ replicate part.key 0
    → KeepsRules cis size (begun_head number low)
begun_keeps part cis size number low has cis-is size-is number-is low-is =
    subst (λ (c : ℕ). KeepsRules c size (begun_head number low)) (sym cis-is)
    (subst (λ (s : ℕ). KeepsRules part.area s (begun_head number low)) (sym size-is)
    (subst (λ (n : ℕ). KeepsRules part.area part.size (begun_head n low)) (sym number-is)
    (subst (λ (l : List ℕ). KeepsRules part.area part.size (begun_head part.part l)) (sym low-is)
    (begun_rules part has))))

-- with its entry it is the whole
pub added_is : (part : Keyed) (number : ℕ) (s : SequenceSet) (low high : List ℕ)
    → number ≡ part.part → low ≡ replicate part.key 0 → high ≡ replicate part.key 255
    → s ≡ begun_head number low → with_entry s (0 ∷ []) high ≡ first_record part
added_is part number s low high number-is low-is high-is is =
    ap (λ (x : SequenceSet). with_entry x (0 ∷ []) high) is
    ∙ ap (λ (n : ℕ). with_entry (begun_head n low) (0 ∷ []) high) number-is
    ∙ ap (λ (l : List ℕ). with_entry (begun_head part.part l) (0 ∷ []) high) low-is
    ∙ ap (λ (h : List ℕ). with_entry (begun_head part.part (replicate part.key 0)) (0 ∷ []) h)
    high-is

-- and keeps the rules
pub added_keeps : (part : Keyed) (cis size number : ℕ) (s : SequenceSet) (low high : List ℕ)
    → MayBegin part → cis ≡ part.area → size ≡ part.size → number ≡ part.part
    → low ≡ replicate part.key 0 → high ≡ replicate part.key 255 → s ≡ begun_head number low
    → KeepsRules cis size (with_entry s (0 ∷ []) high)
added_keeps part cis size number s low high has cis-is size-is number-is low-is high-is is =
    subst (λ (c : ℕ). KeepsRules c size (with_entry s (0 ∷ []) high)) (sym cis-is)
    (subst (λ (n : ℕ). KeepsRules part.area n (with_entry s (0 ∷ []) high)) (sym size-is)
    (subst (KeepsRules part.area part.size) (sym (added_is part number s low high number-is low-is
    high-is is)) (one_rules part has)))

-- A block that is the record's is a head of the part.
pub first-head : (part : Keyed) (block : Block) → length block ≡ part.size
    → IsSequenceSet part.area block (first_record part) → IsHead part block
first-head part block size is = record {
  spelled = subst (IsSequenceSet part.area block) (sym same) is;
  size = size;
  number = ap (λ (s : SequenceSet). s.part) same;
  key = ap (λ (s : SequenceSet). length s.low) same ∙ length-replicate {A = ℕ} part.key 0;
  index = ap (λ (s : SequenceSet). s.top) same;
  index_area = ap (λ (s : SequenceSet). s.index_area) same;
  single = subst (λ (s : SequenceSet). All (λ (entry : Entry). length entry.intervals ≡ 1)
      s.entries) (sym same)
      (All-cons (λ (entry : Entry). length entry.intervals ≡ 1) (all_places part.key) [] refl
      (All-nil (λ (entry : Entry). length entry.intervals ≡ 1)));
}
  where
    same : record_in block ≡ first_record part
    same = record_is part.area block (first_record part) is
