-- The heads of both areas of a split keep the rules of a sequence-set record.
use Rattle.std.proofs.Common.{◌≡◌, ◌<◌, ◌≤◌, ◌+◌, ◌-◌, ◌^◌, ℕ, zero, suc, Bool, true, false, List}
use Rattle.std.proofs.Common.{[], ◌∷◌, ◌++◌, length, take, drop, refl, sym, ap, subst, ◌∙◌, arith}
use Rattle.std.proofs.Common.{All, eqb, true≢false, cond, Some, inl, inr, get_or}
use Rattle.std.specs.Prelude.{map}
use Rattle.std.specs.List.{AllByRecursion, IsDistinct, flat_map, list_any}
use Rattle.std.specs.List.Sorted.{IsStrictlySortedBy}
use Rattle.std.proofs.lemmas.Bool.{eqb-true, ne_eqb, or_cases}
use Rattle.std.proofs.lemmas.Grind.{flat_map-append}
use Rattle.std.proofs.lemmas.List.{length-append, length-drop, take-append-drop}
use Rattle.std.proofs.lemmas.List.Elements.{All-cons, All-drop, All-head, All-nil, All-tail}
use Rattle.std.proofs.lemmas.Map.Keys.{IsDistinct-cons, sorted_tail}
use Rattle.std.proofs.lemmas.Map.Steps.{length-le_from_distinct_below}
use Rattle.vr_types.specs.Content.{place_cmp}
use Rattle.vr_types.specs.Fields.{IsArea, two}
use Rattle.vr_types.proofs.CallerLemmas.{length-two}
use Rattle.vr_seqset.specs.Entry.{Entry, IsWhole, entry_bytes}
use Rattle.vr_seqset.specs.Numbers.{AreOnceBelow, intervals_used}
use Rattle.vr_seqset.specs.Reading.{entry_of}
use Rattle.vr_seqset.specs.SequenceSet.{KeepsRules, SequenceSet, bounds_of, used_by}
use Rattle.vr_seqset.proofs.CallerLemmas.{count_within, earlier_keep}
use Rattle.vr_seqset.proofs.CallerLemmas.{length-entry_bytes, length-spelling}
use Rattle.vr_space.specs.Moves.{cut_of, end_from, lower_record, numbered_from, upper_record}

-- ---- how many entries there are

-- the numbers are below the limit, each once: so they are no more
numbers-most : (limit : ℕ) (numbers : List ℕ) → IsDistinct eqb numbers
    → All (λ n. n < limit) numbers → length numbers ≤ limit
numbers-most limit numbers once below = length-le_from_distinct_below numbers limit once
    (λ n there. below-any numbers n below there)
  where
    below-any : (numbers : List ℕ) (n : ℕ) → All (λ m. m < limit) numbers
        → list_any (eqb n) numbers ≡ true → n < limit
    below-any [] n all there = absurd (true≢false (sym there))
    below-any (m ∷ numbers) n all there =
        elim (or_cases (eqb n m) (list_any (eqb n) numbers) there) [
          | inl first ↦ subst (λ (k : ℕ). k < limit) (sym (eqb-true n m first))
              (All-head (λ k. k < limit) m numbers all)
          | inr others ↦ below-any numbers n (All-tail (λ k. k < limit) m numbers all) others
        ]

-- each entry has a number at least
entries-most : (place : ℕ) (entries : List Entry) → All (IsWhole place) entries
    → length entries ≤ length (flat_map (λ (entry : Entry). entry.intervals) entries)
entries-most place [] whole = omega arith
entries-most place (entry ∷ entries) whole =
    let one : IsWhole place entry = All-head (IsWhole place) entry entries whole in
    omega (
      arith,
      one.some,
      length-append entry.intervals
          (flat_map (λ (other : Entry). other.intervals) entries),
      entries-most place entries (All-tail (IsWhole place) entry entries whole),
    )

-- A record has no more entries than intervals are used under it.
pub entries-below : (cis size : ℕ) (s : SequenceSet) → KeepsRules cis size s
    → length s.entries ≤ intervals_used cis size (length s.low)
entries-below cis size s rules = omega (
  arith,
  entries-most (length s.low) s.entries rules.lengths.whole,
  numbers-most (intervals_used cis size (length s.low)) (used_by s) rules.numbers.once
      rules.numbers.below,
)

-- So their count, and each number of theirs, has a field.
pub entries-field : (cis size : ℕ) (s : SequenceSet) → KeepsRules cis size s
    → length s.entries < 2 ^ 16
entries-field cis size s rules = omega (
  arith,
  length-spelling s,
  rules.lengths.block.most,
  rules.lengths.room,
  count_within s.entries,
)

-- ---- entries numbered anew

pub length-numbered : (n : ℕ) (entries : List Entry)
    → length (numbered_from n entries) ≡ length entries
length-numbered n [] = refl
length-numbered n (entry ∷ entries) = omega (arith, length-numbered (suc n) entries)

highs-numbered : (n : ℕ) (entries : List Entry)
    → map (λ (entry : Entry). entry.high) (numbered_from n entries)
    ≡ map (λ (entry : Entry). entry.high) entries
highs-numbered n [] = refl
highs-numbered n (entry ∷ entries) =
    ap (λ (highs : List (List ℕ)). entry.high ∷ highs) (highs-numbered (suc n) entries)

whole-numbered : (place n : ℕ) (entries : List Entry) → All (IsWhole place) entries
    → All (IsWhole place) (numbered_from n entries)
whole-numbered place n [] whole = All-nil (IsWhole place)
whole-numbered place n (entry ∷ entries) whole =
    All-cons (IsWhole place) (record { intervals = n ∷ []; high = entry.high })
    (numbered_from (suc n) entries)
    (record {
      some = omega arith;
      high = (All-head (IsWhole place) entry entries whole).high;
    })
    (whole-numbered place (suc n) entries (All-tail (IsWhole place) entry entries whole))

-- each with one interval is no longer
bytes-numbered : (place n : ℕ) (entries : List Entry) → All (IsWhole place) entries
    → length (flat_map entry_bytes (numbered_from n entries))
    ≤ length (flat_map entry_bytes entries)
bytes-numbered place n [] whole = omega arith
bytes-numbered place n (entry ∷ entries) whole =
    let numbered : Entry = record { intervals = n ∷ []; high = entry.high } in
    omega (
      arith,
      length-append (entry_bytes entry) (flat_map entry_bytes entries),
      length-append (entry_bytes numbered)
          (flat_map entry_bytes (numbered_from (suc n) entries)),
      length-entry_bytes entry,
      length-entry_bytes numbered,
      length-append (two n) [],
      length-two n,
      twos entry.intervals (All-head (IsWhole place) entry entries whole).some,
      bytes-numbered place (suc n) entries (All-tail (IsWhole place) entry entries whole),
    )
  where
    twos : (numbers : List ℕ) → 0 < length numbers → 2 ≤ length (flat_map two numbers)
    twos [] some = absurd (omega (arith, some))
    twos (m ∷ numbers) some =
        omega (arith, length-append (two m) (flat_map two numbers), length-two m)

numbers-below : (n limit : ℕ) (entries : List Entry) → n + length entries ≤ limit
    → All (λ m. m < limit)
    (flat_map (λ (entry : Entry). entry.intervals) (numbered_from n entries))
numbers-below n limit [] fits = All-nil (λ m. m < limit)
numbers-below n limit (entry ∷ entries) fits =
    All-cons (λ m. m < limit) n
    (flat_map (λ (other : Entry). other.intervals) (numbered_from (suc n) entries))
    (omega (arith, fits)) (numbers-below (suc n) limit entries (omega (arith, fits)))

numbers-once : (n : ℕ) (entries : List Entry)
    → IsDistinct eqb (flat_map (λ (entry : Entry). entry.intervals) (numbered_from n entries))
unfolding IsDistinct
numbers-once n [] = tt
numbers-once n (entry ∷ entries) =
    IsDistinct-cons eqb n
    (flat_map (λ (other : Entry). other.intervals) (numbered_from (suc n) entries))
    (others n (suc n) entries (omega arith)) (numbers-once (suc n) entries)
  where
    others : (n from : ℕ) (entries : List Entry) → n < from
        → AllByRecursion (λ m. eqb n m ≡ false)
        (flat_map (λ (other : Entry). other.intervals) (numbered_from from entries))
    others n from [] less = tt
    others n from (entry ∷ entries) less = (
      ne_eqb n from (λ same. omega (arith, less, same)),
      others n (suc from) entries (omega (arith, less)),
    )

pub numbered-append : (n : ℕ) (entries others : List Entry)
    → numbered_from n (entries ++ others)
    ≡ numbered_from n entries ++ numbered_from (n + length entries) others
numbered-append n [] others =
    ap (λ (m : ℕ). numbered_from m others) (omega arith)
numbered-append n (entry ∷ entries) others =
    let one : Entry = record { intervals = n ∷ []; high = entry.high } in
    ap (λ (more : List Entry). one ∷ more) (numbered-append (suc n) entries others
    ∙ ap (λ (m : ℕ). numbered_from (suc n) entries ++ numbered_from m others) (omega arith))

-- ---- where those end that stay

-- the others are past that
ends-sorted : (stay : ℕ) (low : List ℕ) (entries : List Entry)
    → IsStrictlySortedBy place_cmp (low ∷ map (λ (entry : Entry). entry.high) entries)
    → IsStrictlySortedBy place_cmp (end_from low (take stay entries)
    ∷ map (λ (entry : Entry). entry.high) (drop stay entries))
ends-sorted zero low entries sorted = sorted
ends-sorted (suc stay) low [] sorted = sorted
ends-sorted (suc stay) low (entry ∷ entries) sorted = ends-sorted stay entry.high entries
    (sorted_tail place_cmp low (map (λ (other : Entry). other.high) (entry ∷ entries)) sorted)

ends-whole : (place stay : ℕ) (low : List ℕ) (entries : List Entry) → length low ≡ place
    → All (IsWhole place) entries → length (end_from low (take stay entries)) ≡ place
ends-whole place zero low entries long whole = long
ends-whole place (suc stay) low [] long whole = long
ends-whole place (suc stay) low (entry ∷ entries) long whole = ends-whole place stay entry.high
    entries (All-head (IsWhole place) entry entries whole).high
    (All-tail (IsWhole place) entry entries whole)

-- at the high place of the last of them
ends-last : (last : ℕ) (low : List ℕ) (entries : List Entry) (other : Entry)
    → last < length entries
    → (get_or entries last other).high ≡ end_from low (take (suc last) entries)
ends-last last low [] other within = absurd (omega (arith, within))
ends-last zero low (entry ∷ entries) other within = refl
ends-last (suc last) low (entry ∷ entries) other within =
    ends-last last entry.high entries other (omega (arith, within))

pub cut-last : (stay : ℕ) (s : SequenceSet) → 0 < stay → stay < length s.entries
    → (entry_of s (stay - 1)).high ≡ cut_of stay s
cut-last stay s some fewer =
    let again : suc (stay - 1) ≡ stay = omega (arith, some) in
    ends-last (stay - 1) s.low s.entries (record { intervals = []; high = [] })
    (omega (arith, fewer))
    ∙ ap (λ (count : ℕ). end_from s.low (take count s.entries)) again

-- ---- the upper head

-- where some entries stay, the high places of the others rise from where those end
upper-ascends : (stay : ℕ) (s : SequenceSet) → 0 < stay → stay < length s.entries
    → IsStrictlySortedBy place_cmp (bounds_of s)
    → IsStrictlySortedBy place_cmp (bounds_of (upper_record stay s))
upper-ascends stay s some fewer sorted = subst
    (λ (places : List (List ℕ)). IsStrictlySortedBy place_cmp (cut_of stay s ∷ places))
    (sym (highs-numbered 0 (drop stay s.entries)))
    (by_first s.first sorted)
  where
    from-first : (count : ℕ) (entries : List Entry) → 0 < count → 0 < length entries
        → IsStrictlySortedBy place_cmp (map (λ (entry : Entry). entry.high) entries)
        → IsStrictlySortedBy place_cmp (end_from s.low (take count entries)
        ∷ map (λ (entry : Entry). entry.high) (drop count entries))
    from-first zero entries some any rises = absurd (omega (arith, some))
    from-first (suc count) [] some any rises = absurd (omega (arith, any))
    from-first (suc count) (entry ∷ entries) some any rises =
        ends-sorted count entry.high entries rises

    by_first : (first : Bool)
        → IsStrictlySortedBy place_cmp (cond first [] (s.low ∷ [])
        ++ map (λ (entry : Entry). entry.high) s.entries)
        → IsStrictlySortedBy place_cmp (cut_of stay s
        ∷ map (λ (entry : Entry). entry.high) (drop stay s.entries))
    by_first true rises = from-first stay s.entries some (omega (arith, fewer)) rises
    by_first false rises = ends-sorted stay s.low s.entries rises

pub upper-rules : (cis size stay : ℕ) (s : SequenceSet) → KeepsRules cis size s → 0 < stay
    → stay < length s.entries → KeepsRules cis size (upper_record stay s)
upper-rules cis size stay s rules some fewer =
    let place : ℕ = length s.low in
    let moved : List Entry = drop stay s.entries in
    let whole : All (IsWhole place) moved = All-drop (IsWhole place) stay s.entries
    rules.lengths.whole in
    let cut : length (cut_of stay s) ≡ place =
    ends-whole place stay s.low s.entries refl rules.lengths.whole in
    let below : length moved ≤ intervals_used cis size place =
    omega (arith, length-drop stay s.entries, entries-below cis size s rules) in
    record {
      lengths = record {
        block = rules.lengths.block;
        place = omega (arith, cut, rules.lengths.place);
        whole = subst (λ (n : ℕ). All (IsWhole n) (numbered_from 0 moved)) (sym cut)
            (whole-numbered place 0 moved whole);
        room = omega (
          arith,
          rules.lengths.room,
          cut,
          length-spelling s,
          length-spelling (upper_record stay s),
          bytes-numbered place 0 moved whole,
          length-append (flat_map entry_bytes (take stay s.entries)) (flat_map entry_bytes moved),
          ap (λ (bytes : List ℕ). length bytes)
              (flat_map-append entry_bytes (take stay s.entries) moved),
          ap (λ (entries : List Entry). length (flat_map entry_bytes entries))
              (take-append-drop stay s.entries),
        );
      };
      fields = record {
        part = rules.fields.part;
        next = rules.fields.next;
        top = omega arith;
        index_area = tt;
      };
      numbers = subst (λ (n : ℕ). AreOnceBelow
          (intervals_used cis size n)
          (flat_map (λ (entry : Entry). entry.intervals) (numbered_from 0 moved))) (sym cut)
          (record {
            below = numbers-below 0 (intervals_used cis size place) moved (omega (arith, below));
            once = numbers-once 0 moved;
          });
      ascends = upper-ascends stay s some fewer rules.ascends;
      chain = (refl, refl);
    }

-- ---- the lower head

pub lower-rules : (cis size stay into : ℕ) (s : SequenceSet) → KeepsRules cis size s
    → IsArea (Some into) → KeepsRules cis size (lower_record stay into s)
lower-rules cis size stay into s rules named =
    let fewer : KeepsRules cis size (record s { entries = take stay s.entries }) =
    earlier_keep cis size s (take stay s.entries) (drop stay s.entries)
    (subst (λ (entries : List Entry). KeepsRules cis size (record s { entries = entries }))
    (sym (take-append-drop stay s.entries)) rules) in
    record {
      lengths = record {
        block = fewer.lengths.block;
        place = fewer.lengths.place;
        whole = fewer.lengths.whole;
        room = omega (
          arith,
          fewer.lengths.room,
          length-spelling (record s { entries = take stay s.entries }),
          length-spelling (lower_record stay into s),
        );
      };
      fields = record {
        part = fewer.fields.part;
        next = named;
        top = fewer.fields.top;
        index_area = fewer.fields.index_area;
      };
      numbers = fewer.numbers;
      ascends = fewer.ascends;
      chain = fewer.chain;
    }
