-- A sequence-set record keeps the rules as the entry of one interval becomes two.
use Rattle.std.proofs.Common.{◌≡◌, ◌≢◌, inl, inr, ⊎_elim, ◌<◌, ◌≤◌, ◌+◌, ◌-◌, ◌*◌, ◌/◌, ℕ, Bool}
use Rattle.std.proofs.Common.{true, false, List, [], ◌∷◌, ◌++◌, length, Option, Some, None, refl}
use Rattle.std.proofs.Common.{sym}
use Rattle.std.proofs.Common.{ap, subst, ◌∙◌, arith, All, eqb, true≢false, cond}
use Rattle.std.specs.Prelude.{map}
use Rattle.std.specs.List.{flat_map, list_any, IsDistinct, AllByRecursion}
use Rattle.std.specs.List.Sorted.{IsStrictlySortedBy}
use Rattle.std.specs.declared.cmp.Ordering.TheVariants.{Less}
use Rattle.std.proofs.lemmas.Bool.{cases_eq, eqb-true, eq-eqb, ne_eqb, or_cases}
use Rattle.std.proofs.lemmas.Cmp.{nat_list_cmp_total}
use Rattle.std.proofs.lemmas.List.{length-append}
use Rattle.std.proofs.lemmas.List.Elements.{All-head, All-tail, All-cons, All-nil}
use Rattle.std.proofs.lemmas.Map.Keys.{IsDistinct-cons, sorted_head, sorted_tail}
use Rattle.std.proofs.lemmas.Map.Steps.{length-le_from_distinct_below}
use Rattle.std.proofs.lemmas.Nat.{div-add-mod'}
use Rattle.std.proofs.Math.Nat.{mul_comm, mul-le-mul_right}
use Rattle.vr_types.specs.Content.{place_cmp}
use Rattle.vr_types.specs.Fields.{two}
use Rattle.vr_types.proofs.CallerLemmas.{length-two}
use Rattle.vr_seqset.specs.Entry.{Entry, entry_bytes, IsWhole}
use Rattle.vr_seqset.specs.Numbers.{intervals_used}
use Rattle.vr_seqset.specs.SequenceSet.{SequenceSet, KeepsRules, bounds_of}
use Rattle.vr_seqset.proofs.CallerLemmas.{length-spelling, length-entry_bytes}
use Rattle.vr_space.specs.Room.{Range, is_above}
use Rattle.vr_space.specs.Keyed.{entry_for, low_in}
use Rattle.vr_space.proofs.CallerLemmas.{IsFoundAbove, found-above, is_past, lt_from_test}
use Rattle.vr_split.specs.Halves.{one_entry, halves, halved_record, CanHalve}
use Rattle.vr_split.proofs.Leading.{slot, OtherThan, AreApart, AreSingle, used, led}
use Rattle.vr_split.proofs.Leading.{without-found, are-apart, used-more, without-unused}
use Rattle.vr_split.proofs.Leading.{single-numbers, none-some}

module _ (old into : ℕ) (cut : List ℕ) where
  abbrev pub two_entries : Entry → List Entry
  two_entries entry = one_entry old cut ∷ one_entry into entry.high ∷ []

  pub halves-both : (entry : Entry) (entries : List Entry) → slot entry ≡ old
      → halves old into cut (entry ∷ entries) ≡ two_entries entry
      ++ halves old into cut entries
  halves-both entry entries is =
      ap (λ (b : Bool). cond b (two_entries entry) (entry ∷ []) ++ halves old into cut entries)
      (eq-eqb (slot entry) old is)

  pub halves-one : (entry : Entry) (entries : List Entry) → slot entry ≢ old
      → halves old into cut (entry ∷ entries) ≡ entry ∷ halves old into cut entries
  halves-one entry entries other =
      ap (λ (b : Bool). cond b (two_entries entry) (entry ∷ []) ++ halves old into cut entries)
      (ne_eqb (slot entry) old other)

  -- where no entry has the interval, nothing changes
  pub halves-none : (entries : List Entry) → OtherThan old entries
      → halves old into cut entries ≡ entries
  halves-none [] none = refl
  halves-none (entry ∷ entries) none =
      halves-one entry entries none.0
      ∙ ap (λ (es : List Entry). entry ∷ es) (halves-none entries none.1)

  -- what holds of each entry, and of both halves of one, holds of all
  all-halves : (P : Entry → Type 0) → ((entry : Entry) → P entry → P (one_entry old cut))
      → ((entry : Entry) → P entry → P (one_entry into entry.high))
      → (entries : List Entry) → All P entries → All P (halves old into cut entries)
  all-halves P lower upper [] all = All-nil P
  all-halves P lower upper (entry ∷ entries) all =
      let first : P entry = All-head P entry entries all in
      let more : All P (halves old into cut entries) =
      all-halves P lower upper entries (All-tail P entry entries all) in
      ⊎_elim
      (λ same. subst (All P) (sym (halves-both entry entries same))
      (All-cons P (one_entry old cut) (one_entry into entry.high ∷ halves old into cut entries)
      (lower entry first)
      (All-cons P (one_entry into entry.high) (halves old into cut entries) (upper entry first)
      more)))
      (λ other. subst (All P) (sym (halves-one entry entries other))
      (All-cons P entry (halves old into cut entries) first more))
      (cases_eq (slot entry) old)

  pub single-halves : (entries : List Entry) → AreSingle entries
      → AreSingle (halves old into cut entries)
  single-halves entries single =
      all-halves (λ entry. length entry.intervals ≡ 1) (λ entry one. refl) (λ entry one. refl)
      entries single

  -- ---- interval numbers

  without-halves : (n : ℕ) (entries : List Entry) → n ≢ into → OtherThan n entries
      → OtherThan n (halves old into cut entries)
  without-halves n [] apart none = tt
  without-halves n (entry ∷ entries) apart none =
      let more : OtherThan n (halves old into cut entries) =
      without-halves n entries apart none.1 in
      ⊎_elim
      (λ same. subst (OtherThan n) (sym (halves-both entry entries same))
      (λ here. none.0 (same ∙ here), (λ here. apart (sym here), more)))
      (λ other. subst (OtherThan n) (sym (halves-one entry entries other)) (none.0, more))
      (cases_eq (slot entry) old)

  once-halves : (entries : List Entry) → AreApart entries → OtherThan into entries
      → AreApart (halves old into cut entries)
  once-halves [] once none = tt
  once-halves (entry ∷ entries) once none = ⊎_elim
      (λ same.
      let others : OtherThan old entries =
      subst (λ (n : ℕ). OtherThan n entries) same once.0 in
      subst AreApart (sym (halves-both entry entries same
      ∙ ap (λ (es : List Entry). two_entries entry ++ es) (halves-none entries others)))
      ((λ here. none.0 (same ∙ sym here), others), (none.1, once.1)))
      (λ other. subst AreApart (sym (halves-one entry entries other)) (
        without-halves (slot entry) entries none.0 once.0,
        once-halves entries once.1 none.1,
      ))
      (cases_eq (slot entry) old)

apart-of : (n : ℕ) (entries : List Entry) → AreSingle entries → OtherThan n entries
    → AllByRecursion (λ m. eqb n m ≡ false) (used entries)
apart-of n [] single none = tt
apart-of n (entry ∷ entries) single none =
    subst (AllByRecursion (λ m. eqb n m ≡ false))
    (sym (used-more entry entries
    (All-head (λ (e : Entry). length e.intervals ≡ 1) entry entries single))) (
      ne_eqb n (slot entry) (λ same. none.0 (sym same)),
      apart-of n entries
          (All-tail (λ (e : Entry). length e.intervals ≡ 1) entry entries single) none.1,
    )

-- entries of one interval each, none of which comes twice
pub distinct-of : (entries : List Entry) → AreSingle entries → AreApart entries
    → IsDistinct eqb (used entries)
unfolding IsDistinct
distinct-of [] single once = tt
distinct-of (entry ∷ entries) single once =
    let others : AreSingle entries =
    All-tail (λ (e : Entry). length e.intervals ≡ 1) entry entries single in
    subst (IsDistinct eqb)
    (sym (used-more entry entries
    (All-head (λ (e : Entry). length e.intervals ≡ 1) entry entries single)))
    (IsDistinct-cons eqb (slot entry) (used entries)
    (apart-of (slot entry) entries others once.0)
    (distinct-of entries others once.1))

-- all numbers are below, as each entry's is
abbrev AreBelow : ℕ → List Entry → Type 0
AreBelow limit entries = All (λ (entry : Entry). slot entry < limit) entries

below-of : (limit : ℕ) (entries : List Entry) → AreSingle entries
    → All (λ n. n < limit) (used entries) → AreBelow limit entries
below-of limit [] single below = All-nil (λ (entry : Entry). slot entry < limit)
below-of limit (entry ∷ entries) single below =
    let all : All (λ n. n < limit) (slot entry ∷ used entries) =
    subst (All (λ n. n < limit)) (used-more entry entries
    (All-head (λ (e : Entry). length e.intervals ≡ 1) entry entries single)) below in
    All-cons (λ (e : Entry). slot e < limit) entry entries
    (All-head (λ n. n < limit) (slot entry) (used entries) all)
    (below-of limit entries
    (All-tail (λ (e : Entry). length e.intervals ≡ 1) entry entries single)
    (All-tail (λ n. n < limit) (slot entry) (used entries) all))

below-all : (limit : ℕ) (entries : List Entry) → AreSingle entries → AreBelow limit entries
    → All (λ n. n < limit) (used entries)
below-all limit [] single below = All-nil (λ n. n < limit)
below-all limit (entry ∷ entries) single below =
    subst (All (λ n. n < limit)) (sym (used-more entry entries
    (All-head (λ (e : Entry). length e.intervals ≡ 1) entry entries single)))
    (All-cons (λ n. n < limit) (slot entry) (used entries)
    (All-head (λ (e : Entry). slot e < limit) entry entries below)
    (below-all limit entries
    (All-tail (λ (e : Entry). length e.intervals ≡ 1) entry entries single)
    (All-tail (λ (e : Entry). slot e < limit) entry entries below)))

-- ---- lengths

length-used : (entries : List Entry) → AreSingle entries → length (used entries) ≡ length entries
length-used [] single = refl
length-used (entry ∷ entries) single =
    omega (
      arith,
      ap (λ (ns : List ℕ). length ns) (used-more entry entries
          (All-head (λ (e : Entry). length e.intervals ≡ 1) entry entries single)),
      length-used entries
          (All-tail (λ (e : Entry). length e.intervals ≡ 1) entry entries single),
    )

length-single : (place : ℕ) (entry : Entry) → length entry.intervals ≡ 1 → IsWhole place entry
    → length (entry_bytes entry) ≡ 4 + place
length-single place entry one whole =
    omega (
      arith,
      length-entry_bytes entry,
      ap (λ (ns : List ℕ). length (flat_map two ns)) (single-numbers entry one),
      length-append (two (slot entry)) [],
      length-two (slot entry),
      whole.high,
    )

length-entries : (place : ℕ) (entries : List Entry) → AreSingle entries
    → All (IsWhole place) entries
    → length (flat_map entry_bytes entries) ≡ (4 + place) * length entries
length-entries place [] single whole = omega arith
length-entries place (entry ∷ entries) single whole =
    omega (
      arith,
      length-append (entry_bytes entry) (flat_map entry_bytes entries),
      length-single place entry
          (All-head (λ (e : Entry). length e.intervals ≡ 1) entry entries single)
          (All-head (IsWhole place) entry entries whole),
      length-entries place entries
          (All-tail (λ (e : Entry). length e.intervals ≡ 1) entry entries single)
          (All-tail (IsWhole place) entry entries whole),
    )

-- ---- high places

sorted-one : (place : List ℕ) (places : List (List ℕ))
    → AllByRecursion (λ y. place_cmp place y ≡ Less) places → IsStrictlySortedBy place_cmp places
    → IsStrictlySortedBy place_cmp (place ∷ places)
unfolding IsStrictlySortedBy
sorted-one place places past sorted = (past, sorted)

abbrev highs : List Entry → List (List ℕ)
highs entries = map (λ (entry : Entry). entry.high) entries

past-trans : (place other : List ℕ) (places : List (List ℕ)) → place_cmp place other ≡ Less
    → AllByRecursion (λ y. place_cmp other y ≡ Less) places
    → AllByRecursion (λ y. place_cmp place y ≡ Less) places
past-trans place other [] less past = tt
past-trans place other (q ∷ places) less past = (
  nat_list_cmp_total.trans place other q less past.0,
  past-trans place other places less past.1,
)

past-halves : (old into : ℕ) (cut place : List ℕ) (entries : List Entry)
    → place_cmp place cut ≡ Less → AllByRecursion (λ y. place_cmp place y ≡ Less) (highs entries)
    → AllByRecursion (λ y. place_cmp place y ≡ Less) (highs (halves old into cut entries))
past-halves old into cut place [] less past = tt
past-halves old into cut place (entry ∷ entries) less past =
    let Past : List Entry → Type 0 =
    λ es. AllByRecursion (λ y. place_cmp place y ≡ Less) (highs es) in
    let more : Past (halves old into cut entries) =
    past-halves old into cut place entries less past.1 in
    ⊎_elim
    (λ same. subst Past (sym (halves-both old into cut entry entries same))
    (less, (past.0, more)))
    (λ other. subst Past (sym (halves-one old into cut entry entries other)) (past.0, more))
    (cases_eq (slot entry) old)

-- the cut is between the entry's high place and the one before it
pub sorted-halves : (old into : ℕ) (cut : List ℕ) (low : Option (List ℕ)) (entries : List Entry)
    (at : Range × Entry) → AreApart entries → entry_for low entries cut ≡ Some at
    → slot at.1 ≡ old → place_cmp cut at.1.high ≡ Less
    → IsStrictlySortedBy place_cmp (highs entries)
    → IsStrictlySortedBy place_cmp (highs (halves old into cut entries))
sorted-halves old into cut low [] at once leads is less sorted = sorted
sorted-halves old into cut low (entry ∷ entries) at once leads is less sorted =
    let Sorted : List Entry → Type 0 = λ es. IsStrictlySortedBy place_cmp (highs es) in
    let past : AllByRecursion (λ y. place_cmp entry.high y ≡ Less) (highs entries) =
    sorted_head place_cmp entry.high (highs entries) sorted in
    let others : Sorted entries = sorted_tail place_cmp entry.high (highs entries) sorted in
    ⊎_elim
    (λ here.
    let same : slot entry ≡ old = ap slot (sym here.is_it) ∙ is in
    let below : place_cmp cut entry.high ≡ Less =
    subst (λ (e : Entry). place_cmp cut e.high ≡ Less) here.is_it less in
    subst Sorted (sym (halves-both old into cut entry entries same
    ∙ ap (λ (es : List Entry). two_entries old into cut entry ++ es)
    (halves-none old into cut entries (subst (λ (n : ℕ). OtherThan n entries) same once.0))))
    (sorted-one cut (entry.high ∷ highs entries)
    (below, past-trans cut entry.high (highs entries) below past)
    (sorted-one entry.high (highs entries) past others)))
    (λ on.
    let other : slot entry ≢ old = λ here.
    without-found (slot entry) (Some entry.high) entries cut at once.0 on.further
    (is ∙ sym here) in
    subst Sorted (sym (halves-one old into cut entry entries other))
    (sorted-one entry.high (highs (halves old into cut entries))
    (past-halves old into cut entry.high entries (is_past cut entry.high on.past) past)
    (sorted-halves old into cut (Some entry.high) entries at once.1 on.further is less others)))
    (led low entry entries cut at leads)

-- and where the record has a low place, above it
bounds-halves : (old into : ℕ) (cut : List ℕ) (s : SequenceSet) (at : Range × Entry)
    → AreApart s.entries → IsFoundAbove (low_in s) s.entries cut at → slot at.1 ≡ old
    → place_cmp cut at.1.high ≡ Less → IsStrictlySortedBy place_cmp (bounds_of s)
    → IsStrictlySortedBy place_cmp (bounds_of (halved_record old into cut s))
bounds-halves old into cut s at once found is less = by_first s.first found.above
  where
    both : List Entry
    both = halves old into cut s.entries

    rises : IsStrictlySortedBy place_cmp (highs s.entries)
        → IsStrictlySortedBy place_cmp (highs both)
    rises = sorted-halves old into cut (low_in s) s.entries at once found.leads is less

    by_first : (b : Bool) → is_above (cond b None (Some s.low)) cut ≡ true
        → IsStrictlySortedBy place_cmp (cond b [] (s.low ∷ []) ++ highs s.entries)
        → IsStrictlySortedBy place_cmp (cond b [] (s.low ∷ []) ++ highs both)
    by_first true above sorted = rises sorted
    by_first false above sorted = sorted-one s.low (highs both)
        (past-halves old into cut s.low s.entries (lt_from_test (place_cmp s.low cut) above)
        (sorted_head place_cmp s.low (highs s.entries) sorted))
        (rises (sorted_tail place_cmp s.low (highs s.entries) sorted))

-- ---- all rules

numbers-fit : (cis size place count : ℕ) → 0 < count → count ≤ intervals_used cis size place
    → 32 + place + (4 + place) * count ≤ size
numbers-fit cis size place count some most =
    let each : ℕ = (size - 32 - place) / (4 + place) in
    let within : count ≤ each = omega (arith, most) in
    let whole : each * (4 + place) ≤ size - 32 - place =
    omega (arith, div-add-mod' (size - 32 - place) (4 + place)) in
    let times : count * (4 + place) ≤ each * (4 + place) =
    mul-le-mul_right (4 + place) within in
    let one : 1 * (4 + place) ≤ count * (4 + place) =
    mul-le-mul_right (4 + place) some in
    omega (arith, times, whole, one, mul_comm count (4 + place))

some-of : (low : Option (List ℕ)) (entries : List Entry) (place : List ℕ) (at : Range × Entry)
    → entry_for low entries place ≡ Some at → 0 < length entries
some-of low [] place at is = absurd (none-some place low at is)
some-of low (entry ∷ entries) place at is = omega arith

pub more-entries : (old into : ℕ) (cut : List ℕ) (entries : List Entry)
    → length entries ≤ length (halves old into cut entries)
more-entries old into cut [] = omega arith
more-entries old into cut (entry ∷ entries) =
    ⊎_elim
    (λ same. omega (
      arith,
      ap (λ (es : List Entry). length es) (halves-both old into cut entry entries same),
      more-entries old into cut entries,
    ))
    (λ other. omega (
      arith,
      ap (λ (es : List Entry). length es) (halves-one old into cut entry entries other),
      more-entries old into cut entries,
    ))
    (cases_eq (slot entry) old)

-- one more, where one entry has the interval
one-more : (old into : ℕ) (cut : List ℕ) (low : Option (List ℕ)) (entries : List Entry)
    (at : Range × Entry) → AreApart entries → entry_for low entries cut ≡ Some at
    → slot at.1 ≡ old → length (halves old into cut entries) ≡ length entries + 1
one-more old into cut low [] at once leads is = absurd (none-some cut low at leads)
one-more old into cut low (entry ∷ entries) at once leads is = ⊎_elim
    (λ here.
    let same : slot entry ≡ old = ap slot (sym here.is_it) ∙ is in
    omega (
      arith,
      ap (λ (es : List Entry). length es) (halves-both old into cut entry entries same),
      ap (λ (es : List Entry). length es) (halves-none old into cut entries
          (subst (λ (n : ℕ). OtherThan n entries) same once.0)),
    ))
    (λ on.
    let other : slot entry ≢ old = λ here.
    without-found (slot entry) (Some entry.high) entries cut at once.0 on.further
    (is ∙ sym here) in
    omega (
      arith,
      ap (λ (es : List Entry). length es) (halves-one old into cut entry entries other),
      one-more old into cut (Some entry.high) entries at once.1 on.further is,
    ))
    (led low entry entries cut at leads)

pub halved-count : (cis size old into : ℕ) (cut : List ℕ) (s : SequenceSet)
    → KeepsRules cis size s → CanHalve cis size old into cut s
    → length (halves old into cut s.entries) ≡ length s.entries + 1
halved-count cis size old into cut s rules can =
    one-more old into cut (low_in s) s.entries can.place.at
    (are-apart s.entries can.others.single rules.numbers.once)
    (found-above (low_in s) s.entries cut can.place.at can.place.leads).leads can.place.is_old

pub halves-some : (old into : ℕ) (cut : List ℕ) (low : Option (List ℕ)) (entries : List Entry)
    (at : Range × Entry) → entry_for low entries cut ≡ Some at
    → 0 < length (halves old into cut entries)
halves-some old into cut low entries at is =
    omega (arith, some-of low entries cut at is, more-entries old into cut entries)

pub halved-rules : (cis size old into : ℕ) (cut : List ℕ) (s : SequenceSet)
    → KeepsRules cis size s → CanHalve cis size old into cut s
    → KeepsRules cis size (halved_record old into cut s)
halved-rules cis size old into cut s rules can =
    let both : List Entry = halves old into cut s.entries in
    let limit : ℕ = intervals_used cis size (length s.low) in
    let single : AreSingle both = single-halves old into cut s.entries can.others.single in
    let found : IsFoundAbove (low_in s) s.entries cut can.place.at =
    found-above (low_in s) s.entries cut can.place.at can.place.leads in
    let once : AreApart s.entries = are-apart s.entries can.others.single rules.numbers.once in
    let distinct : IsDistinct eqb (used both) =
    distinct-of both single (once-halves old into cut s.entries once
    (without-unused into s.entries can.others.single can.others.unused)) in
    let is_below : old < limit = subst (λ (n : ℕ). n < limit) can.place.is_old
    (slot-below limit (low_in s) s.entries can.place.at
    (below-of limit s.entries can.others.single rules.numbers.below) found.leads) in
    let below : All (λ n. n < limit) (used both) =
    below-all limit both single (all-halves old into cut (λ entry. slot entry < limit)
    (λ entry within. is_below) (λ entry within. can.below) s.entries
    (below-of limit s.entries can.others.single rules.numbers.below)) in
    let whole : All (IsWhole (length s.low)) both =
    all-halves old into cut (IsWhole (length s.low))
    (λ entry fits. record { some = omega arith; high = can.key })
    (λ entry fits. record { some = omega arith; high = fits.high }) s.entries
    rules.lengths.whole in
    let count : length both ≤ limit =
    omega (
      arith,
      length-used both single,
      length-le_from_distinct_below (used both) limit distinct
          (λ q there. below-any limit (used both) q below there),
    ) in
    record {
      lengths = record {
        block = rules.lengths.block;
        place = rules.lengths.place;
        whole = whole;
        room = omega (
          arith,
          length-spelling (halved_record old into cut s),
          length-entries (length s.low) both single whole,
          numbers-fit cis size (length s.low) (length both)
              (halves-some old into cut (low_in s) s.entries can.place.at found.leads) count,
        );
      };
      fields = record {
        part = rules.fields.part;
        next = rules.fields.next;
        top = rules.fields.top;
        index_area = rules.fields.index_area;
      };
      numbers = record { below = below; once = distinct };
      ascends = bounds-halves old into cut s can.place.at once found can.place.is_old
          can.place.less rules.ascends;
      chain = rules.chain;
    }
  where
    below-any : (limit : ℕ) (ns : List ℕ) (q : ℕ) → All (λ n. n < limit) ns
        → list_any (eqb q) ns ≡ true → q < limit
    below-any limit [] q all there = absurd (true≢false (sym there))
    below-any limit (n ∷ ns) q all there =
        elim (or_cases (eqb q n) (list_any (eqb q) ns) there) [
          | inl first ↦ subst (λ (m : ℕ). m < limit) (sym (eqb-true q n first))
              (All-head (λ m. m < limit) n ns all)
          | inr others ↦ below-any limit ns q (All-tail (λ m. m < limit) n ns all) others
        ]

    slot-below : (limit : ℕ) (low : Option (List ℕ)) (entries : List Entry) (at : Range × Entry)
        → AreBelow limit entries → entry_for low entries cut ≡ Some at → slot at.1 < limit
    slot-below limit low [] at below is = absurd (none-some cut low at is)
    slot-below limit low (entry ∷ entries) at below is = ⊎_elim
        (λ here. subst (λ (e : Entry). slot e < limit) (sym here.is_it)
        (All-head (λ (e : Entry). slot e < limit) entry entries below))
        (λ on. slot-below limit (Some entry.high) entries at
        (All-tail (λ (e : Entry). slot e < limit) entry entries below) on.further)
        (led low entry entries cut at is)
