-- A block that is read is spelled so, and a record that is spelled is read.
use Rattle.std.proofs.Common.{◌≡◌, ℕ, zero, suc, ◌+◌, ◌-◌, ◌^◌, ◌<◌, ◌≤◌, Bool, true, false, cond}
use Rattle.std.proofs.Common.{List, [], ◌∷◌, ◌++◌, length, get_or, take, drop, All, Option, Some}
use Rattle.std.proofs.Common.{None, refl, sym, ap, subst, ◌∙◌, arith, append_assoc, replicate, eqb}
use Rattle.std.proofs.Common.{inl, inr}
use Rattle.std.specs.List.{flat_map, slice_get}
use Rattle.std.proofs.lemmas.Option.{get_or_from_slice_get}
use Rattle.std.specs.Prelude.{IfSome, IfNone}
use Rattle.std.proofs.lemmas.Bool.{cases_lt}
use Rattle.std.proofs.lemmas.List.{take-append-drop, drop-drop, drop_all, length-drop, length-take}
use Rattle.std.proofs.lemmas.List.{length-append, length-replicate, take_at, drop_at, take_rest}
use Rattle.std.proofs.lemmas.List.Elements.{All-tail, All-head, All-cons, All-nil, All-weaker}
use Rattle.std.proofs.lemmas.Nat.{from_be_bytes-to_be_bytes_2, from_be_bytes-to_be_bytes_4}
use Rattle.vr_types.specs.BlockSize.{IsBlockSize}
use Rattle.vr_seqset.specs.Numbers.{intervals_used}
use Rattle.vr_types.specs.Fields.{two, four, two_at, four_at, area_field, area_of, AreZeros}
use Rattle.vr_seqset.specs.Entry.{Entry, entry_bytes, IsWhole, entries_in}
use Rattle.vr_seqset.specs.SequenceSet.{SequenceSet, head_bytes, spelling, block_of_record, used_by}
use Rattle.vr_seqset.specs.SequenceSet.{HasFields, KeepsRules, IsSequenceSet}
use Rattle.vr_seqset.specs.Reading.{record_in, entry_of}
use Rattle.vr_seqset.specs.Faults.{CanBeCut, HasZeros}
use Rattle.vr_types.specs.Fields.{IsBytes}
use Rattle.vr_types.proofs.CallerLemmas.{IsBytes-drop, cut_one, cut_two, cut_four, zeros_are}
use Rattle.vr_types.proofs.CallerLemmas.{cut_zeros}
use Rattle.vr_seqset.proofs.EntryLemmas.{CanBeSpelled, entries_again, entries_back}
use Rattle.vr_seqset.proofs.EntryLemmas.{length-entries_in, length-numbers_in, length-entry_bytes}
use Rattle.vr_seqset.proofs.EntryLemmas.{length-twos, first_whole, some_within, whole_fewer}
use Rattle.vr_seqset.proofs.EntryLemmas.{get_fewer}
use Rattle.vr_types.proofs.CallerLemmas.{block_size_least, area_of-area_field, area_field-area_of}
use Rattle.vr_types.proofs.CallerLemmas.{area_field-below, length-padded}
use Rattle.vr_seqset.proofs.NumberLemmas.{used_below}
use Rattle.vr_seqset.proofs.ListLemmas.{All-left, All-right}

-- ---- lengths

pub length-head_bytes : (s : SequenceSet) → length (head_bytes s) ≡ 32
unfolding head_bytes two four
length-head_bytes s = refl

pub length-spelling : (s : SequenceSet)
    → length (spelling s) ≡ 32 + length s.low + length (flat_map entry_bytes s.entries)
unfolding spelling
length-spelling s =
    omega (
      arith,
      length-append (head_bytes s ++ s.low) (flat_map entry_bytes s.entries),
      length-append (head_bytes s) s.low,
      length-head_bytes s,
    )

-- ---- what is in a block

same_record : (s t : SequenceSet) → s.first ≡ t.first → s.part ≡ t.part → s.next ≡ t.next
    → s.top ≡ t.top → s.index_area ≡ t.index_area → s.low ≡ t.low → s.entries ≡ t.entries → s ≡ t
same_record s t first part next top index_area low entries = λ i. record {
  first = first i;
  part = part i;
  next = next i;
  top = top i;
  index_area = index_area i;
  low = low i;
  entries = entries i;
}

two_at-nil : two_at 0 [] ≡ 0
unfolding two_at
two_at-nil = refl

-- the low place lies in the block
pub place_within : (block : List ℕ) → CanBeCut block → 32 + two_at 6 block ≤ length block
unfolding record_in
place_within block cut =
    let behind = drop (32 + two_at 6 block) block in
    let count : 0 < two_at 2 block = omega
    (arith, cut.some, length-entries_in (two_at 2 block) (two_at 6 block) behind) in
    let whole = first_whole (two_at 2 block) (length (take (two_at 6 block) (drop 32 block)))
    (two_at 6 block) behind count cut.lengths.whole in
    let some = some_within (length (take (two_at 6 block) (drop 32 block)))
    (two_at 6 block) behind whole in
    elim (cases_lt (length block) (32 + two_at 6 block)) [
      | inl lt ↦ let none : drop (32 + two_at 6 block) block ≡ [] =
          drop_all (32 + two_at 6 block) block (omega arith) in
          absurd (omega (arith, some, ap (two_at 0) none, two_at-nil))
      | inr le ↦ le
    ]

-- places have the length that the block says
pub place_is : (block : List ℕ) → CanBeCut block → length (record_in block).low ≡ two_at 6 block
unfolding record_in
place_is block cut =
    omega (
      arith,
      place_within block cut,
      length-take (two_at 6 block) (drop 32 block),
      length-drop 32 block,
    )

pub place_some : (block : List ℕ) → CanBeCut block → 0 < two_at 6 block
place_some block cut = omega (arith, place_is block cut, cut.lengths.place)

pub count_some : (block : List ℕ) → CanBeCut block → 0 < two_at 2 block
unfolding record_in
count_some block cut =
    omega (
      arith,
      cut.some,
      length-entries_in (two_at 2 block) (two_at 6 block)
          (drop (32 + two_at 6 block) block),
    )

pub all_whole : (block : List ℕ) → CanBeCut block
    → All (IsWhole (two_at 6 block)) (entries_in (two_at 2 block) (two_at 6 block)
    (drop (32 + two_at 6 block) block))
unfolding record_in
all_whole block cut =
    subst (λ (n : ℕ). All (IsWhole n) (entries_in (two_at 2 block) (two_at 6 block)
    (drop (32 + two_at 6 block) block))) (place_is block cut) cut.lengths.whole

-- a block whose lengths and counts were tested one by one
pub can_be_cut : (block : List ℕ) → IsBytes block → IsBlockSize (length block) → 0 < two_at 2 block
    → 0 < two_at 6 block → 32 + two_at 6 block ≤ length block
    → All (IsWhole (two_at 6 block)) (entries_in (two_at 2 block) (two_at 6 block)
    (drop (32 + two_at 6 block) block)) → CanBeCut block
unfolding record_in
can_be_cut block fits size count place within whole =
    let k = two_at 6 block in
    let entries = entries_in (two_at 2 block) (two_at 6 block) (drop (32 + two_at 6 block) block) in
    let low : length (take (two_at 6 block) (drop 32 block)) ≡ two_at 6 block =
    omega (arith, length-take (two_at 6 block) (drop 32 block), length-drop 32 block) in
    let parts = entries_again (two_at 2 block) (two_at 6 block) (drop (32 + two_at 6 block) block)
    (IsBytes-drop (32 + two_at 6 block) block fits) place whole in
    let room : length (flat_map entry_bytes entries) ≤ length block - (32 + two_at 6 block) =
    omega (
      arith,
      ap (λ (x : List ℕ). length x) parts.1,
      length-append (flat_map entry_bytes entries) parts.0,
      length-drop (32 + two_at 6 block) block,
    ) in
    record {
      lengths = record {
        block = size;
        place = omega (arith, low);
        whole = subst (λ (n : ℕ). All (IsWhole n) entries) (sym low) whole;
        room = omega (arith, length-spelling (record_in block), low, room);
      };
      some = omega (
        arith,
        length-entries_in (two_at 2 block) (two_at 6 block)
            (drop (32 + two_at 6 block) block),
      );
    }

-- ---- what is read is spelled so

flag_again : (b : ℕ) → b < 2 → b ≡ cond (eqb b 1) 1 0
flag_again zero lt = refl
flag_again (suc zero) lt = refl
flag_again (suc (suc b)) lt = absurd (omega arith)

-- the fields of a spelling, one after another
spelling_parts : (s : SequenceSet) (rest : List ℕ) → spelling s ++ rest
    ≡ 83 ∷ cond s.first 1 0 ∷ (two (length s.entries)
    ++ (0 ∷ 0 ∷ (two (length s.low) ++ (four s.part
    ++ (four (area_field s.next) ++ (four s.top
    ++ (four (area_field s.index_area) ++ (replicate 8 0
    ++ (s.low ++ (flat_map entry_bytes s.entries ++ rest))))))))))
unfolding spelling head_bytes
spelling_parts s rest = simp append_assoc

-- the entries and the zeros after them
entries_cut : (block : List ℕ) → IsBytes block → CanBeCut block
    → AreZeros (drop (length (spelling (record_in block))) block)
    → drop 32 block ≡ (record_in block).low
    ++ (flat_map entry_bytes (record_in block).entries
    ++ replicate (length block - length (spelling (record_in block))) 0)
unfolding record_in
entries_cut block fits cut zeros =
    let k = two_at 6 block in
    let behind = drop (32 + two_at 6 block) block in
    let entries = entries_in (two_at 2 block) (two_at 6 block) behind in
    let parts = entries_again (two_at 2 block) (two_at 6 block) behind
    (IsBytes-drop (32 + two_at 6 block) block fits) (place_some block cut)
    (all_whole block cut) in
    let len : length (spelling (record_in block)) ≡ 32 + two_at 6 block + length
    (flat_map entry_bytes entries) = omega
    (arith, length-spelling (record_in block), place_is block cut) in
    let rest-is : parts.0 ≡ drop (length (spelling (record_in block))) block =
    sym (drop_at (flat_map entry_bytes entries) parts.0
    (length (flat_map entry_bytes entries)) refl)
    ∙ ap (drop (length (flat_map entry_bytes entries))) (sym parts.1)
    ∙ drop-drop (length (flat_map entry_bytes entries)) (32 + two_at 6 block) block
    ∙ ap (λ (n : ℕ). drop n block) (sym len) in
    let zeros-are : parts.0 ≡ replicate (length block - length (spelling (record_in block))) 0 =
    rest-is ∙ zeros_are (drop (length (spelling (record_in block))) block) zeros
    ∙ ap (λ (n : ℕ). replicate n 0) (length-drop (length (spelling (record_in block))) block) in
    sym (take-append-drop (two_at 6 block) (drop 32 block))
    ∙ ap (λ (x : List ℕ). take (two_at 6 block) (drop 32 block) ++ x)
    (drop-drop (two_at 6 block) 32 block ∙ parts.1
    ∙ ap (λ (x : List ℕ). flat_map entry_bytes entries ++ x) zeros-are)

pub record_again : (block : List ℕ) → IsBytes block → get_or block 0 0 ≡ 83 → CanBeCut block
    → HasZeros block → block ≡ block_of_record (length block) (record_in block)
unfolding record_in
record_again block fits kind cut zeros =
    let s = record_in block in
    let size = block_size_least (length block) cut.lengths.block in
    let last = entries_cut block fits cut zeros.rest in
    let at24 = cut_zeros 8 24 block (omega arith) zeros.second_gap
    ∙ ap (λ (x : List ℕ). replicate 8 0 ++ x) last in
    let at20 = cut_four 20 block fits (omega arith)
    ∙ ap (λ (n : ℕ). four n ++ drop 24 block) (sym (area_field-area_of (four_at 20 block)))
    ∙ ap (λ (x : List ℕ). four (area_field (area_of (four_at 20 block))) ++ x) at24 in
    let at16 = cut_four 16 block fits (omega arith)
    ∙ ap (λ (x : List ℕ). four (four_at 16 block) ++ x) at20 in
    let at12 = cut_four 12 block fits (omega arith)
    ∙ ap (λ (n : ℕ). four n ++ drop 16 block) (sym (area_field-area_of (four_at 12 block)))
    ∙ ap (λ (x : List ℕ). four (area_field (area_of (four_at 12 block))) ++ x) at16 in
    let at8 = cut_four 8 block fits (omega arith)
    ∙ ap (λ (x : List ℕ). four (four_at 8 block) ++ x) at12 in
    let at6 = cut_two 6 block fits (omega arith)
    ∙ ap (λ (n : ℕ). two n ++ drop 8 block) (sym (place_is block cut))
    ∙ ap (λ (x : List ℕ). two (length (take (two_at 6 block) (drop 32 block))) ++ x) at8 in
    let at4 = cut_zeros 2 4 block (omega arith) zeros.gap ∙ ap (λ (x : List ℕ). 0 ∷ 0 ∷ x) at6 in
    let at2 = cut_two 2 block fits (omega arith)
    ∙ ap (λ (n : ℕ). two n ++ drop 4 block)
    (sym (length-entries_in (two_at 2 block) (two_at 6 block)
    (drop (32 + two_at 6 block) block))) ∙ ap
    (λ (x : List ℕ). two (length (entries_in (two_at 2 block) (two_at 6 block)
    (drop (32 + two_at 6 block) block))) ++ x) at4 in
    let at1 = cut_one 1 block (omega arith)
    ∙ ap (λ (b : ℕ). b ∷ drop 2 block) (flag_again (get_or block 1 0) zeros.flag)
    ∙ ap (λ (x : List ℕ). cond (eqb (get_or block 1 0) 1) 1 0 ∷ x) at2 in
    let at0 = cut_one 0 block (omega arith) ∙ ap (λ (b : ℕ). b ∷ drop 1 block) kind
    ∙ ap (λ (x : List ℕ). 83 ∷ x) at1 in
    at0 ∙ sym (spelling_parts (record_in block)
    (replicate (length block - length (spelling (record_in block))) 0))

-- ---- what is spelled is read

-- each entry of a block has a spelling
entries_fit : (place : ℕ) (es : List Entry) → length (flat_map entry_bytes es) < 2 ^ 16
    → All (IsWhole place) es → All (λ n. n < 2 ^ 16) (flat_map (λ e. e.intervals) es)
    → All (CanBeSpelled place) es
entries_fit place [] short whole numbers = All-nil (CanBeSpelled place)
entries_fit place (e ∷ es) short whole numbers =
    let len = length-append (entry_bytes e) (flat_map entry_bytes es) in
    All-cons (CanBeSpelled place) e es
    (record {
      count = omega (arith, len, length-entry_bytes e, length-twos e.intervals);
      numbers = All-left (λ (n : ℕ). n < 2 ^ 16) e.intervals
          (flat_map (λ (x : Entry). x.intervals) es) numbers;
      high = (All-head (IsWhole place) e es whole).high;
    })
    (entries_fit place es (omega (arith, len)) (All-tail (IsWhole place) e es whole)
    (All-right (λ (n : ℕ). n < 2 ^ 16) e.intervals
    (flat_map (λ (x : Entry). x.intervals) es) numbers))

pub count_within : (es : List Entry) → length es ≤ length (flat_map entry_bytes es)
count_within [] = omega arith
count_within (e ∷ es) =
    omega (
      arith,
      length-append (entry_bytes e) (flat_map entry_bytes es),
      length-entry_bytes e,
      count_within es,
    )

-- what a block has room for, and each number in its field
pub record HasSpelling (s : SequenceSet) : Type 0 where
  pub count : length s.entries < 2 ^ 16
  pub place : length s.low < 2 ^ 16
  pub entries : All (CanBeSpelled (length s.low)) s.entries
  pub fields : HasFields s

pub has_spelling : (cis size : ℕ) (s : SequenceSet) → KeepsRules cis size s → HasSpelling s
has_spelling cis size s rules =
    let len = length-spelling s in
    let most = rules.lengths.block.most in
    let room = rules.lengths.room in
    record {
      count = omega (arith, len, most, room, count_within s.entries);
      place = omega (arith, len, most, room);
      entries = entries_fit (length s.low) s.entries
          (omega (arith, len, most, room)) rules.lengths.whole
          (All-weaker (λ (n : ℕ). n < intervals_used cis size (length s.low))
          (λ (n : ℕ). n < 2 ^ 16) (λ n lt. omega
          (arith, lt, used_below cis size (length s.low), most)) (used_by s) rules.numbers.below);
      fields = rules.fields;
    }

flag_back : (b : Bool) → eqb (cond b 1 0) 1 ≡ b
flag_back true = refl
flag_back false = refl

behind_head : (s : SequenceSet) (rest : List ℕ)
    → drop 32 (spelling s ++ rest) ≡ s.low ++ (flat_map entry_bytes s.entries ++ rest)
unfolding spelling
behind_head s rest =
    ap (drop 32) (append_assoc (head_bytes s ++ s.low) (flat_map entry_bytes s.entries) rest
    ∙ append_assoc (head_bytes s) s.low (flat_map entry_bytes s.entries ++ rest))
    ∙ drop_at (head_bytes s) (s.low ++ (flat_map entry_bytes s.entries ++ rest)) 32
    (length-head_bytes s)

module _ (s : SequenceSet) (rest : List ℕ) where
  pub kind_back : get_or (spelling s ++ rest) 0 0 ≡ 83
  unfolding spelling head_bytes
  kind_back = refl

  pub first_back : get_or (spelling s ++ rest) 1 0 ≡ cond s.first 1 0
  unfolding spelling head_bytes
  first_back = refl

  count_field : length s.entries < 2 ^ 16 → two_at 2 (spelling s ++ rest) ≡ length s.entries
  unfolding spelling head_bytes two two_at
  count_field lt = from_be_bytes-to_be_bytes_2 (length s.entries) lt

  pub gap_back : take 2 (drop 4 (spelling s ++ rest)) ≡ 0 ∷ 0 ∷ []
  unfolding spelling head_bytes two
  gap_back = refl

  place_field : length s.low < 2 ^ 16 → two_at 6 (spelling s ++ rest) ≡ length s.low
  unfolding spelling head_bytes two two_at
  place_field lt = from_be_bytes-to_be_bytes_2 (length s.low) lt

  part_field : s.part < 2 ^ 32 → four_at 8 (spelling s ++ rest) ≡ s.part
  unfolding spelling head_bytes two four four_at
  part_field lt = from_be_bytes-to_be_bytes_4 s.part lt

  next_field : area_field s.next < 2 ^ 32 → four_at 12 (spelling s ++ rest) ≡ area_field s.next
  unfolding spelling head_bytes two four four_at
  next_field lt = from_be_bytes-to_be_bytes_4 (area_field s.next) lt

  top_field : s.top < 2 ^ 32 → four_at 16 (spelling s ++ rest) ≡ s.top
  unfolding spelling head_bytes two four four_at
  top_field lt = from_be_bytes-to_be_bytes_4 s.top lt

  index_field : area_field s.index_area < 2 ^ 32
      → four_at 20 (spelling s ++ rest) ≡ area_field s.index_area
  unfolding spelling head_bytes two four four_at
  index_field lt = from_be_bytes-to_be_bytes_4 (area_field s.index_area) lt

  pub second_gap_back : take 8 (drop 24 (spelling s ++ rest)) ≡ replicate 8 0
  unfolding spelling head_bytes two four
  second_gap_back = refl

  pub record_back : HasSpelling s → record_in (spelling s ++ rest) ≡ s
  unfolding record_in
  record_back fits =
      let block = spelling s ++ rest in
      let place : two_at 6 (spelling s ++ rest) ≡ length s.low = place_field fits.place in
      let low : take (two_at 6 (spelling s ++ rest)) (drop 32 (spelling s ++ rest)) ≡ s.low =
      ap (λ (n : ℕ). take n (drop 32 (spelling s ++ rest))) place
      ∙ ap (take (length s.low)) (behind_head s rest)
      ∙ take_at s.low (flat_map entry_bytes s.entries ++ rest) (length s.low) refl in
      let behind : drop (32 + two_at 6 (spelling s ++ rest))
      (spelling s ++ rest) ≡ flat_map entry_bytes s.entries ++ rest =
      ap (λ (n : ℕ). drop (32 + n) (spelling s ++ rest)) place
      ∙ sym (drop-drop (length s.low) 32 (spelling s ++ rest))
      ∙ ap (drop (length s.low)) (behind_head s rest)
      ∙ drop_at s.low (flat_map entry_bytes s.entries ++ rest) (length s.low) refl in
      let entries : entries_in (two_at 2 (spelling s ++ rest)) (two_at 6 (spelling s ++ rest))
      (drop (32 + two_at 6 (spelling s ++ rest)) (spelling s ++ rest)) ≡ s.entries =
      ap (λ (n : ℕ). entries_in n (two_at 6 (spelling s ++ rest))
      (drop (32 + two_at 6 (spelling s ++ rest)) (spelling s ++ rest))) (count_field fits.count)
      ∙ ap (λ (n : ℕ). entries_in (length s.entries) n
      (drop (32 + two_at 6 (spelling s ++ rest)) (spelling s ++ rest))) place
      ∙ ap (entries_in (length s.entries) (length s.low)) behind
      ∙ entries_back (length s.low) s.entries rest fits.entries in
      same_record (record_in (spelling s ++ rest)) s
      (ap (λ (b : ℕ). eqb b 1) first_back ∙ flag_back s.first)
      (part_field fits.fields.part)
      (ap area_of (next_field (area_field-below s.next fits.fields.next))
      ∙ area_of-area_field s.next)
      (top_field fits.fields.top)
      (ap area_of (index_field (area_field-below s.index_area fits.fields.index_area))
      ∙ area_of-area_field s.index_area)
      low
      entries

-- ---- the laws

pub record_of_block : (cis size : ℕ) (s : SequenceSet) → KeepsRules cis size s
    → record_in (block_of_record size s) ≡ s
record_of_block cis size s rules = record_back s (replicate (size - length (spelling s)) 0)
    (has_spelling cis size s rules)

pub record_is : (cis : ℕ) (block : List ℕ) (s : SequenceSet) → IsSequenceSet cis block s
    → record_in block ≡ s
record_is cis block s is = ap record_in is.spelled ∙ record_of_block cis (length block) s is.rules

pub length-block_of_record : (cis size : ℕ) (s : SequenceSet) → KeepsRules cis size s
    → length (block_of_record size s) ≡ size
length-block_of_record cis size s rules = length-padded size (spelling s) rules.lengths.room

-- ---- what the readers need

pub size_of : (block : List ℕ) → CanBeCut block → 512 ≤ length block
size_of block cut = block_size_least (length block) cut.lengths.block

pub ruleset reads = (size_of, place_within, place_some, all_whole, length-entries_in, take_rest)

-- ---- lengths and counts, as the code tests them

module _ (block behind : List ℕ) (count place : ℕ) (count_was : count ≡ two_at 2 block)
    (place_was : place ≡ two_at 6 block) (behind_was : behind ≡ drop (32 + place) block) where
  at_fields : (P : ℕ → ℕ → List ℕ → Type 0)
      → P (two_at 2 block) (two_at 6 block) (drop (32 + two_at 6 block) block)
      → P count place behind
  at_fields P h =
      subst (λ (x : List ℕ). P count place x)
      (sym (behind_was ∙ ap (λ (n : ℕ). drop (32 + n) block) place_was))
      (subst (λ (n : ℕ). P count n (drop (32 + two_at 6 block) block)) (sym place_was)
      (subst (λ (n : ℕ). P n (two_at 6 block) (drop (32 + two_at 6 block) block))
      (sym count_was) h))

  from_fields : (P : ℕ → ℕ → List ℕ → Type 0) → P count place behind
      → P (two_at 2 block) (two_at 6 block) (drop (32 + two_at 6 block) block)
  from_fields P h =
      subst (λ (x : List ℕ). P (two_at 2 block) (two_at 6 block) x)
      (behind_was ∙ ap (λ (n : ℕ). drop (32 + n) block) place_was)
      (subst (λ (n : ℕ). P (two_at 2 block) n behind) place_was
      (subst (λ (n : ℕ). P n place behind) count_was h))

  pub cut_from : IsBytes block → IsBlockSize (length block) → 0 < count → 0 < place
      → 32 + place ≤ length block → All (IsWhole place) (entries_in count place behind)
      → CanBeCut block
  cut_from fits size some place_some within whole =
      can_be_cut block fits size (omega arith) (omega arith) (omega arith)
      (from_fields (λ (n k : ℕ) (x : List ℕ). All (IsWhole k) (entries_in n k x)) whole)

  pub whole_from : CanBeCut block → All (IsWhole place) (entries_in count place behind)
  whole_from cut = at_fields (λ (n k : ℕ) (x : List ℕ). All (IsWhole k) (entries_in n k x))
      (all_whole block cut)

  pub rest_from : CanBeCut block → drop (length
      (flat_map entry_bytes (entries_in count place behind))) behind ≡ drop
      (length (spelling (record_in block))) block
  unfolding record_in
  rest_from cut =
      let entries = entries_in (two_at 2 block) (two_at 6 block)
      (drop (32 + two_at 6 block) block) in
      let len : length (spelling (record_in block)) ≡ 32 + two_at 6 block + length
      (flat_map entry_bytes entries) = omega
      (arith, length-spelling (record_in block), place_is block cut) in
      at_fields (λ (n k : ℕ) (x : List ℕ). drop
      (length (flat_map entry_bytes (entries_in n k x))) x ≡ drop
      (length (spelling (record_in block))) block)
      (drop-drop (length (flat_map entry_bytes entries)) (32 + two_at 6 block) block
      ∙ ap (λ (n : ℕ). drop n block) (sym len))

pub both_some : {X : Type 0} (r : Option X) (P Q R : X → Type 0) → IfSome r P → IfSome r Q
    → ((x : X) → P x → Q x → R x) → IfSome r R
both_some None P Q R some some_is each = tt
both_some (Some x) P Q R some some_is each = each x some some_is

pub IfNone-then : {X : Type 0} (r : Option X) (P Q : Type 0) → IfNone r P → (P → Q) → IfNone r Q
IfNone-then None P Q p each = each p
IfNone-then (Some x) P Q p each = tt

pub ruleset cuts = (count_some, place_some, place_within)

-- entry i of a block, as the code finds it
module _ (block behind : List ℕ) (place i : ℕ) (cut : CanBeCut block)
    (place_was : place ≡ two_at 6 block) (behind_was : behind ≡ drop (32 + place) block)
    (lt : i < length (record_in block).entries) where
  lt_count : i < two_at 2 block
  unfolding record_in
  lt_count = omega (
    arith,
    lt,
    length-entries_in (two_at 2 block) (two_at 6 block)
        (drop (32 + two_at 6 block) block),
  )

  pub whole_up_to : All (IsWhole place) (entries_in (i + 1) place behind)
  whole_up_to =
      whole_fewer (i + 1) (two_at 2 block) place behind (omega (arith, lt_count))
      (whole_from block behind (two_at 2 block) place refl place_was behind_was cut)

  pub entry_found : (e : Entry) → slice_get (entries_in (i + 1) place behind) i ≡ Some e
      → e ≡ entry_of (record_in block) i
  unfolding record_in
  entry_found e same =
      let one : i + 1 ≡ suc i = omega arith in
      let got : slice_get (entries_in (two_at 2 block) place behind) i ≡ Some e =
      sym (get_fewer i (two_at 2 block) place behind lt_count)
      ∙ ap (λ (n : ℕ). slice_get (entries_in n place behind) i) (sym one) ∙ same in
      let fields : entries_in (two_at 2 block) (two_at 6 block)
      (drop (32 + two_at 6 block) block) ≡ entries_in (two_at 2 block) place behind =
      ap (λ (n : ℕ). entries_in (two_at 2 block) n (drop (32 + n) block)) (sym place_was)
      ∙ ap (entries_in (two_at 2 block) place) (sym behind_was) in
      sym (ap (λ (es : List Entry). get_or es i (record { intervals = []; high = [] })) fields
      ∙ get_or_from_slice_get (entries_in (two_at 2 block) place behind) i e
      (record { intervals = []; high = [] }) got)
