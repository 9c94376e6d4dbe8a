-- Writing fields and entries.
use Rattle.std.proofs.Common.{◌≡◌, ℕ, cond, ◌+◌, ◌-◌, ◌*◌, ◌<◌, ◌≤◌, List, [], ◌∷◌, ◌++◌, length}
use Rattle.std.proofs.Common.{get_or, set, take, drop, refl, sym, ap, subst, ◌∙◌, arith}
use Rattle.std.proofs.Common.{append_assoc, replicate}
use Rattle.std.specs.List.{flat_map}
use Rattle.std.specs.Int.{w16, w32, to_be_bytes}
use Rattle.std.proofs.lemmas.List.{take_more_set, take_more, length-set, append-nil, drop-drop}
use Rattle.std.proofs.lemmas.List.{length-append, length_push, take_at, drop_at, drop-replicate}
use Rattle.std.proofs.lemmas.Grind.{flat_map-append}
use Rattle.vr_types.specs.Fields.{two, four, two_at, area_field}
use Rattle.vr_seqset.specs.Entry.{Entry, entry_bytes}
use Rattle.vr_seqset.specs.SequenceSet.{SequenceSet, head_bytes, spelling, block_of_record}
use Rattle.vr_seqset.specs.SequenceSet.{KeepsRules}
use Rattle.vr_seqset.specs.Reading.{record_in}
use Rattle.vr_seqset.specs.Writing.{with_entry, IsBegun}
use Rattle.vr_seqset.proofs.EntryLemmas.{length-entry_bytes, length-twos, length-entries_in}
use Rattle.vr_seqset.proofs.RecordLemmas.{length-spelling, length-head_bytes, count_within}
use Rattle.vr_seqset.proofs.RecordLemmas.{record_of_block, length-block_of_record}

-- ---- numbers one after another

pub one_number : (out ns : List ℕ) (bytes : List ℕ) (n i : ℕ) → length out ≡ 2 * length ns
    → i < length ns → n ≡ get_or ns i 0 → bytes ≡ to_be_bytes w16 n
    → take (2 * i) out ≡ flat_map two (take i ns)
    → take (2 * (i + 1)) (set (set out (2 * i) (get_or bytes 0 0)) (2 * i + 1) (get_or bytes 1 0))
    ≡ flat_map two (take (i + 1) ns)
unfolding two
one_number out ns bytes n i len lt n-is bytes-is so_far =
    let a = get_or bytes 0 0 in
    let b = get_or bytes 1 0 in
    let size : 2 * i + 1 < length (set out (2 * i) a) = omega (arith, length-set out (2 * i) a) in
    let place : 2 * (i + 1) ≡ 2 * i + 1 + 1 = omega arith in
    let last : take (2 * i + 1 + 1) (set (set out (2 * i) a) (2 * i + 1) b) ≡ take (2 * i + 1)
    (set out (2 * i) a) ++ b ∷ [] = take_more_set (set out (2 * i) a) (2 * i + 1) b size in
    let first : take (2 * i + 1) (set out (2 * i) a) ≡ take (2 * i) out ++ a ∷ [] =
    take_more_set out (2 * i) a (omega arith) in
    let cells : (take (2 * i) out ++ a ∷ []) ++ b ∷ [] ≡ take (2 * i) out ++ (a ∷ b ∷ []) =
    append_assoc (take (2 * i) out) (a ∷ []) (b ∷ []) in
    let pair : a ∷ b ∷ [] ≡ two (get_or ns i 0) = rw (bytes-is, n-is) refl in
    let more : flat_map two (take (i + 1) ns) ≡ flat_map two (take i ns) ++ two (get_or ns i 0) =
    ap (flat_map two) (take_more ns i 0 lt) ∙ flat_map-append two (take i ns) (get_or ns i 0 ∷ [])
    ∙ ap (λ (x : List ℕ). flat_map two (take i ns) ++ x) (append-nil (two (get_or ns i 0))) in
    ap (λ (m : ℕ). take m (set (set out (2 * i) a) (2 * i + 1) b)) place ∙ last
    ∙ ap (λ (x : List ℕ). x ++ b ∷ []) first ∙ cells
    ∙ ap (λ (x : List ℕ). x ++ (a ∷ b ∷ [])) so_far
    ∙ ap (λ (x : List ℕ). flat_map two (take i ns) ++ x) pair ∙ sym more

-- ---- an entry

pub entry_put : (e : Entry) (free count numbers place last : List ℕ)
    → count ≡ to_be_bytes w16 (length e.intervals) → numbers ≡ flat_map two e.intervals
    → place ≡ e.high
    → last ≡ drop (length e.high) (drop (2 * length e.intervals) (drop 2 free))
    → count ++ (numbers ++ (place ++ last)) ≡ entry_bytes e
    ++ drop (2 + 2 * length e.intervals + length e.high) free
unfolding entry_bytes two
entry_put e free count numbers place last count-is numbers-is place-is last-is =
    let end : last ≡ drop (2 + 2 * length e.intervals + length e.high) free =
    last-is ∙ ap (drop (length e.high)) (drop-drop (2 * length e.intervals) 2 free)
    ∙ drop-drop (length e.high) (2 + 2 * length e.intervals) free in
    ap (λ (x : List ℕ). x ++ (numbers ++ (place ++ last))) count-is
    ∙ ap (λ (x : List ℕ). two (length e.intervals) ++ (x ++ (place ++ last))) numbers-is
    ∙ ap (λ (x : List ℕ). two (length e.intervals)
    ++ (flat_map two e.intervals ++ (x ++ last))) place-is
    ∙ ap (λ (x : List ℕ). two (length e.intervals)
    ++ (flat_map two e.intervals ++ (e.high ++ x))) end
    ∙ sym (append_assoc (two (length e.intervals) ++ flat_map two e.intervals) e.high
    (drop (2 + 2 * length e.intervals + length e.high) free)
    ∙ append_assoc (two (length e.intervals)) (flat_map two e.intervals)
    (e.high ++ drop (2 + 2 * length e.intervals + length e.high) free))

pub entry_length : (e : Entry) → 2 + 2 * length e.intervals + length e.high ≡ length (entry_bytes e)
entry_length e = omega (arith, length-entry_bytes e, length-twos e.intervals)

-- ---- the head

pub head_cells : (s : SequenceSet) (flag : ℕ) (k p n t x : List ℕ) → s.entries ≡ []
    → flag ≡ cond s.first 1 0 → k ≡ to_be_bytes w16 (length s.low) → p ≡ to_be_bytes w32 s.part
    → n ≡ to_be_bytes w32 (area_field s.next) → t ≡ to_be_bytes w32 s.top
    → x ≡ to_be_bytes w32 (area_field s.index_area)
    → 83 ∷ flag ∷ 0 ∷ 0 ∷ 0 ∷ 0 ∷ get_or k 0 0 ∷ get_or k 1 0 ∷ get_or p 0 0 ∷ get_or p 1
    0 ∷ get_or p 2 0 ∷ get_or p 3 0 ∷ get_or n 0 0 ∷ get_or n 1 0 ∷ get_or n 2 0 ∷ get_or n 3 0
    ∷ get_or t 0 0 ∷ get_or t 1 0 ∷ get_or t 2 0 ∷ get_or t 3 0 ∷ get_or x 0 0 ∷ get_or x 1
    0 ∷ get_or x 2 0 ∷ get_or x 3 0 ∷ 0 ∷ 0 ∷ 0 ∷ 0 ∷ 0 ∷ 0 ∷ 0 ∷ 0 ∷ [] ≡ head_bytes s
unfolding head_bytes two four
head_cells s flag k p n t x none flag-is k-is p-is n-is t-is x-is =
    rw (none, flag-is, k-is, p-is, n-is, t-is, x-is) refl

spelling_head : (s : SequenceSet) → s.entries ≡ [] → spelling s ≡ head_bytes s ++ s.low
unfolding spelling
spelling_head s none =
    ap (λ (es : List Entry). head_bytes s ++ s.low ++ flat_map entry_bytes es) none
    ∙ append-nil (head_bytes s ++ s.low)

pub length-spelling_head : (s : SequenceSet) → s.entries ≡ []
    → length (spelling s) ≡ 32 + length s.low
length-spelling_head s none =
    omega (
      arith,
      length-spelling s,
      ap (λ (es : List Entry). length (flat_map entry_bytes es))
          none,
    )

pub head_put : (size : ℕ) (s : SequenceSet) (front low free : List ℕ) → s.entries ≡ []
    → front ≡ head_bytes s → low ≡ s.low → free ≡ replicate (size - (32 + length s.low)) 0
    → front ++ (low ++ free) ≡ block_of_record size s
head_put size s front low free none front-is low-is free-is =
    ap (λ (x : List ℕ). x ++ (low ++ free)) front-is
    ∙ ap (λ (x : List ℕ). head_bytes s ++ (x ++ free)) low-is
    ∙ sym (append_assoc (head_bytes s) s.low free)
    ∙ ap (λ (x : List ℕ). x ++ free) (sym (spelling_head s none))
    ∙ ap (λ (x : List ℕ). spelling s ++ x)
    (free-is ∙ ap (λ (n : ℕ). replicate (size - n) 0) (sym (length-spelling_head s none)))

-- ---- one more entry

module _ (s : SequenceSet) (intervals high : List ℕ) where
  pub flat_more : flat_map entry_bytes (with_entry s intervals high).entries
      ≡ flat_map entry_bytes s.entries ++ entry_bytes
      (record { intervals = intervals; high = high })
  flat_more =
      flat_map-append entry_bytes s.entries (record { intervals = intervals; high = high } ∷ [])
      ∙ ap (λ (x : List ℕ). flat_map entry_bytes s.entries ++ x)
      (append-nil (entry_bytes (record { intervals = intervals; high = high })))

  pub length-spelling_more : length (spelling (with_entry s intervals high)) ≡ length
      (spelling s) + length (entry_bytes (record { intervals = intervals; high = high }))
  length-spelling_more =
      omega (
        arith,
        length-spelling (with_entry s intervals high),
        length-spelling s,
        ap (λ (x : List ℕ). length x) flat_more,
        length-append (flat_map entry_bytes s.entries)
            (entry_bytes (record { intervals = intervals; high = high })),
      )

  pub length-entries_more : length (with_entry s intervals high).entries ≡ length s.entries + 1
  length-entries_more = length_push s.entries (record { intervals = intervals; high = high })

  -- the bytes before the new entry
  front_of : List ℕ
  front_of = head_bytes (with_entry s intervals high) ++ s.low ++ flat_map entry_bytes s.entries

  length-front_of : length front_of ≡ length (spelling s)
  unfolding front_of
  length-front_of =
      omega (
        arith,
        length-spelling s,
        length-append
            (head_bytes (with_entry s intervals high) ++ s.low) (flat_map entry_bytes s.entries),
        length-append (head_bytes (with_entry s intervals high)) s.low,
        length-head_bytes (with_entry s intervals high),
      )

  recount : (rest c : List ℕ) → c ≡ two (length (with_entry s intervals high).entries)
      → set (set (spelling s ++ rest) 2 (get_or c 0 0)) 3 (get_or c 1 0) ≡ front_of ++ rest
  unfolding front_of spelling head_bytes two
  recount rest c c-is = rw c-is refl

  spelling_more : spelling (with_entry s intervals high) ≡ front_of
      ++ entry_bytes (record { intervals = intervals; high = high })
  unfolding front_of spelling
  spelling_more =
      ap (λ (x : List ℕ). head_bytes (with_entry s intervals high) ++ s.low ++ x) flat_more
      ∙ sym (append_assoc (head_bytes (with_entry s intervals high) ++ s.low)
      (flat_map entry_bytes s.entries) (entry_bytes
      (record { intervals = intervals; high = high })))

  pub entry_added : (size end : ℕ) (block front free c : List ℕ) → block ≡ block_of_record size s
      → end ≡ length (spelling s) → length (spelling (with_entry s intervals high)) ≤ size
      → c ≡ two (length (with_entry s intervals high).entries)
      → front ≡ take end (set (set block 2 (get_or c 0 0)) 3 (get_or c 1 0))
      → free ≡ entry_bytes (record { intervals = intervals; high = high })
      ++ drop (length (entry_bytes (record { intervals = intervals; high = high })))
      (drop end (set (set block 2 (get_or c 0 0)) 3 (get_or c 1 0)))
      → front ++ free ≡ block_of_record size (with_entry s intervals high)
  entry_added size end block front free c block-is end-is room c-is front-is free-is =
      let e = entry_bytes (record { intervals = intervals; high = high }) in
      let whole : set (set block 2 (get_or c 0 0)) 3 (get_or c 1 0) ≡ front_of
      ++ replicate (size - length (spelling s)) 0 =
      ap (λ (x : List ℕ). set (set x 2 (get_or c 0 0)) 3 (get_or c 1 0)) block-is
      ∙ recount (replicate (size - length (spelling s)) 0) c c-is in
      let place : length front_of ≡ end = length-front_of ∙ sym end-is in
      let first : front ≡ front_of = front-is ∙ ap (take end) whole
      ∙ take_at front_of (replicate (size - length (spelling s)) 0) end place in
      let rest : drop end (set (set block 2 (get_or c 0 0)) 3 (get_or c 1 0)) ≡ replicate
      (size - length (spelling s)) 0 = ap (drop end) whole
      ∙ drop_at front_of (replicate (size - length (spelling s)) 0) end place in
      let left : drop (length e) (drop end (set (set block 2 (get_or c 0 0)) 3 (get_or c 1 0)))
      ≡ replicate (size - length (spelling (with_entry s intervals high))) 0 =
      ap (drop (length e)) rest ∙ drop-replicate (length e) (size - length (spelling s)) 0
      ∙ ap (λ (n : ℕ). replicate n 0) (omega (arith, length-spelling_more)) in
      ap (λ (x : List ℕ). x ++ free) first ∙ ap (λ (x : List ℕ). front_of ++ x)
      (free-is ∙ ap (λ (x : List ℕ). e ++ x) left)
      ∙ sym (append_assoc front_of e (replicate
      (size - length (spelling (with_entry s intervals high))) 0))
      ∙ ap (λ (x : List ℕ). x ++ replicate (size - length (spelling (with_entry s intervals high)))
      0) (sym spelling_more)

-- what is in the count's field
pub count_is : (block : List ℕ) → length (record_in block).entries ≡ two_at 2 block
unfolding record_in
count_is block = length-entries_in (two_at 2 block) (two_at 6 block)
    (drop (32 + two_at 6 block) block)

-- a block with room for one more entry has a head, and room for the count
pub has_head : (s : SequenceSet) (intervals high : List ℕ) (size : ℕ)
    → length (spelling (with_entry s intervals high)) ≤ size → 32 ≤ size
has_head s intervals high size room = omega
    (arith, length-spelling_more s intervals high, length-spelling s)

pub count_below : (s : SequenceSet) (intervals high : List ℕ) (size : ℕ)
    → length (spelling (with_entry s intervals high)) ≤ size → size ≤ 32768
    → length s.entries + 1 ≤ 32768
count_below s intervals high size room most =
    omega (
      arith,
      length-spelling (with_entry s intervals high),
      count_within (with_entry s intervals high).entries,
      length-entries_more s intervals high,
    )

-- where one more entry would end
pub end_after : (cis : ℕ) (block : List ℕ) (end : ℕ) (intervals high : List ℕ)
    → IsBegun cis block end → length (spelling (with_entry (record_in block) intervals high))
    ≡ end + (2 + 2 * length intervals + length high)
end_after cis block end intervals high begun =
    omega (
      arith,
      length-spelling_more (record_in block) intervals high,
      entry_length (record { intervals = intervals; high = high }),
      begun.ends,
    )

-- ---- what a writer keeps

pub begun_of : (cis size : ℕ) (s : SequenceSet) (block : List ℕ) (end : ℕ) → KeepsRules cis size s
    → block ≡ block_of_record size s → end ≡ length (spelling s)
    → IsBegun cis block end × (record_in block ≡ s)
begun_of cis size s block end rules block-is end-is =
    let same : record_in block ≡ s = ap record_in block-is ∙ record_of_block cis size s rules in
    let len : length block ≡ size = ap (λ (x : List ℕ). length x) block-is
    ∙ length-block_of_record cis size s rules in (
      record {
        rules = subst (λ (n : ℕ). KeepsRules cis n (record_in block)) (sym len)
            (subst (KeepsRules cis size) (sym same) rules);
        spelled = block-is ∙ ap (λ (n : ℕ). block_of_record n s) (sym len)
            ∙ ap (block_of_record (length block)) (sym same);
        ends = end-is ∙ ap (λ (t : SequenceSet). length (spelling t)) (sym same);
      },
      same,
    )
