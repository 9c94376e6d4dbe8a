-- A head whose entry of one interval became two: it is a head of the part, and each place is found
-- in the interval that it was in, or in the one that got the upper records.
use Rattle.std.proofs.Common.{◌≡◌, ◌≢◌, ◌⊎◌, inl, inr, ⊎_elim, ℕ, Bool, true, false, List}
use Rattle.std.proofs.Common.{[], ◌∷◌, ◌++◌, length, map, Option, Some, None, refl, sym, ap, subst}
use Rattle.std.proofs.Common.{◌∙◌, true≢false, cond}
use Rattle.std.specs.List.{last_or}
use Rattle.std.specs.Ordering.{is_le, ordering_reverse}
use Rattle.std.specs.declared.cmp.Ordering.{Ordering}
use Rattle.std.specs.declared.cmp.Ordering.TheVariants.{Less, Equal, Greater}
use Rattle.std.proofs.lemmas.Bool.{cases_eq}
use Rattle.std.proofs.lemmas.Cmp.{nat_list_cmp_total}
use Rattle.vr_types.specs.Content.{place_cmp}
use Rattle.vr_types.specs.Image.{Block}
use Rattle.vr_types.specs.Seen.{Seen, Only}
use Rattle.vr_types.proofs.CallerLemmas.{same_place}
use Rattle.vr_seqset.specs.Entry.{Entry}
use Rattle.vr_seqset.specs.SequenceSet.{SequenceSet, IsSequenceSet}
use Rattle.vr_seqset.specs.Reading.{record_in}
use Rattle.vr_seqset.proofs.CallerLemmas.{record_is}
use Rattle.vr_space.specs.Room.{Range, is_above}
use Rattle.vr_space.specs.Keyed.{EachMayLeave, HasEnds, IsHead, Keyed, entries_of, entry_above}
use Rattle.vr_space.specs.Keyed.{entry_for, last_high, range_of, way_in}
use Rattle.vr_space.specs.UnderWay.{interval_block, above_cut}
use Rattle.vr_space.proofs.CallerLemmas.{not_past}
use Rattle.vr_split.specs.Halves.{one_entry, halves, halved_record}
use Rattle.vr_split.proofs.Leading.{slot, OtherThan, AreApart, AreSingle, led, leads-here}
use Rattle.vr_split.proofs.Leading.{leads-on, none-some, without-found}
use Rattle.vr_split.proofs.HalvedRules.{halves-both, halves-one, halves-none, two_entries}
use Rattle.vr_split.proofs.HalvedRules.{single-halves}

-- ---- order

le-by : (o : Ordering) (place cut high : List ℕ) → place_cmp place cut ≡ o → is_le o ≡ true
    → is_le (place_cmp cut high) ≡ true → is_le (place_cmp place high) ≡ true
le-by Less place cut high is le more = by (place_cmp cut high) refl more
  where
    by : (p : Ordering) → place_cmp cut high ≡ p → is_le p ≡ true
        → is_le (place_cmp place high) ≡ true
    by Less less le = ap is_le (nat_list_cmp_total.trans place cut high is less)
    by Equal same le =
        ap (λ (q : List ℕ). is_le (place_cmp place q)) (sym (same_place cut high same))
        ∙ ap is_le is
    by Greater over le = absurd (true≢false (sym le))
le-by Equal place cut high is le more =
    ap (λ (q : List ℕ). is_le (place_cmp q high)) (same_place place cut is) ∙ more
le-by Greater place cut high is le more = absurd (true≢false (sym le))

pub le-trans : (place cut high : List ℕ) → is_le (place_cmp place cut) ≡ true
    → is_le (place_cmp cut high) ≡ true → is_le (place_cmp place high) ≡ true
le-trans place cut high = le-by (place_cmp place cut) place cut high refl

le-itself : (place : List ℕ) → is_le (place_cmp place place) ≡ true
le-itself place = by (place_cmp place place) refl
  where
    by : (o : Ordering) → place_cmp place place ≡ o → is_le o ≡ true
    by Less is = refl
    by Equal is = refl
    by Greater is = absurd (not_past place place
        (ap is_le (nat_list_cmp_total.antisymm place place ∙ ap ordering_reverse is))
        (nat_list_cmp_total.antisymm place place ∙ ap ordering_reverse is))

-- ---- where places are found

-- a place is found in the interval of the upper records, and was in the range that is split
pub record IsMoved (into : ℕ) (cut : List ℕ) (at : Range × Entry)
    (was now : Option (Range × Entry)) : Type 0 where
  pub to : Range × Entry
  pub was_at : was ≡ Some at
  pub now_at : now ≡ Some to
  pub interval : slot to.1 ≡ into
  pub its_range : to.0 ≡ above_cut at.0 cut

module _ (part : Keyed) (old into : ℕ) (cut : List ℕ) where
  -- where the first entry is split
  found-first : (low : Option (List ℕ)) (entry : Entry) (entries : List Entry) (place : List ℕ)
      → slot entry ≡ old → is_le (place_cmp cut entry.high) ≡ true
      → (way_in part place (entry_for low (two_entries old into cut entry ++ entries) place)
      ≡ way_in part place (entry_for low (entry ∷ entries) place))
      ⊎ IsMoved into cut (range_of low entry, entry) (entry_for low (entry ∷ entries) place)
      (entry_for low (two_entries old into cut entry ++ entries) place)
  found-first low entry entries place same reach =
      by-cut (is_le (place_cmp place cut)) refl
    where
      upper : Entry
      upper = one_entry into entry.high

      by-high : is_le (place_cmp place cut) ≡ false → (b : Bool)
          → is_le (place_cmp place entry.high) ≡ b
          → (way_in part place (entry_for low (two_entries old into cut entry ++ entries) place)
          ≡ way_in part place (entry_for low (entry ∷ entries) place))
          ⊎ IsMoved into cut (range_of low entry, entry) (entry_for low (entry ∷ entries) place)
          (entry_for low (two_entries old into cut entry ++ entries) place)
      by-high past true within = inr (record {
        to = (range_of (Some cut) (one_entry into entry.high), one_entry into entry.high);
        was_at = leads-here low entry entries place within;
        now_at = leads-on low (one_entry old cut) (one_entry into entry.high ∷ entries) place past
            ∙ leads-here (Some cut) (one_entry into entry.high) entries place within;
        interval = refl;
        its_range = refl;
      })
      by-high past false beyond = inl (ap (way_in part place)
          (leads-on low (one_entry old cut) (one_entry into entry.high ∷ entries) place past
          ∙ leads-on (Some cut) (one_entry into entry.high) entries place beyond
          ∙ sym (leads-on low entry entries place beyond)))

      by-cut : (b : Bool) → is_le (place_cmp place cut) ≡ b
          → (way_in part place (entry_for low (two_entries old into cut entry ++ entries) place)
          ≡ way_in part place (entry_for low (entry ∷ entries) place))
          ⊎ IsMoved into cut (range_of low entry, entry) (entry_for low (entry ∷ entries) place)
          (entry_for low (two_entries old into cut entry ++ entries) place)
      by-cut true within = inl (ap (way_in part place)
          (leads-here low (one_entry old cut) (one_entry into entry.high ∷ entries) place within)
          ∙ ap (λ (n : ℕ).
          way_in part place (Some (range_of low (one_entry n cut), one_entry n cut)))
          (sym same)
          ∙ sym (ap (way_in part place)
          (leads-here low entry entries place (le-trans place cut entry.high within reach))))
      by-cut false past = by-high past (is_le (place_cmp place entry.high)) refl

  pub found-halves : (low : Option (List ℕ)) (entries : List Entry) (at : Range × Entry)
      (place : List ℕ) → AreApart entries → entry_for low entries cut ≡ Some at
      → slot at.1 ≡ old
      → (way_in part place (entry_for low (halves old into cut entries) place)
      ≡ way_in part place (entry_for low entries place))
      ⊎ IsMoved into cut at (entry_for low entries place)
      (entry_for low (halves old into cut entries) place)
  found-halves low [] at place once leads is = absurd (none-some cut low at leads)
  found-halves low (entry ∷ entries) at place once leads is = ⊎_elim
      (λ here.
      let same : slot entry ≡ old = ap slot (sym here.is_it) ∙ is in
      let whole : (let pair : Range × Entry = (range_of low entry, entry) in pair) ≡ at =
      sym (pair-is at (range_of low entry) entry here.its_range here.is_it) in
      let both : halves old into cut (entry ∷ entries) ≡ two_entries old into cut entry ++ entries =
      halves-both old into cut entry entries same
      ∙ ap (λ (es : List Entry). two_entries old into cut entry ++ es)
      (halves-none old into cut entries (subst (λ (n : ℕ). OtherThan n entries) same once.0)) in
      subst (λ (es : List Entry).
      (way_in part place (entry_for low es place)
      ≡ way_in part place (entry_for low (entry ∷ entries) place))
      ⊎ IsMoved into cut at (entry_for low (entry ∷ entries) place) (entry_for low es place))
      (sym both)
      (subst (λ (a : Range × Entry).
      (way_in part place (entry_for low (two_entries old into cut entry ++ entries) place)
      ≡ way_in part place (entry_for low (entry ∷ entries) place))
      ⊎ IsMoved into cut a (entry_for low (entry ∷ entries) place)
      (entry_for low (two_entries old into cut entry ++ entries) place)) whole
      (found-first low entry entries place same here.reaches)))
      (λ on.
      let other : slot entry ≢ old = λ here.
      without-found (slot entry) (Some entry.high) entries cut at once.0 on.further
      (is ∙ sym here) in
      subst (λ (es : List Entry).
      (way_in part place (entry_for low es place)
      ≡ way_in part place (entry_for low (entry ∷ entries) place))
      ⊎ IsMoved into cut at (entry_for low (entry ∷ entries) place) (entry_for low es place))
      (sym (halves-one old into cut entry entries other))
      (later low entry entries place at (is_le (place_cmp place entry.high)) refl
      (found-halves (Some entry.high) entries at place once.1 on.further is)))
      (led low entry entries cut at leads)
    where
      pair-is : (a : Range × Entry) (r : Range) (e : Entry) → a.0 ≡ r → a.1 ≡ e
          → a ≡ (let pair : Range × Entry = (r, e) in pair)
      pair-is a r e first second = λ i. (first i, second i)

      later : (low : Option (List ℕ)) (entry : Entry) (entries : List Entry) (place : List ℕ)
          (at : Range × Entry) (b : Bool) → is_le (place_cmp place entry.high) ≡ b
          → (way_in part place (entry_for (Some entry.high) (halves old into cut entries) place)
          ≡ way_in part place (entry_for (Some entry.high) entries place))
          ⊎ IsMoved into cut at (entry_for (Some entry.high) entries place)
          (entry_for (Some entry.high) (halves old into cut entries) place)
          → (way_in part place (entry_for low (entry ∷ halves old into cut entries) place)
          ≡ way_in part place (entry_for low (entry ∷ entries) place))
          ⊎ IsMoved into cut at (entry_for low (entry ∷ entries) place)
          (entry_for low (entry ∷ halves old into cut entries) place)
      later low entry entries place at true within more = inl (ap (way_in part place)
          (leads-here low entry (halves old into cut entries) place within
          ∙ sym (leads-here low entry entries place within)))
      later low entry entries place at false past more = ⊎_elim
          (λ same. inl (ap (way_in part place)
          (leads-on low entry (halves old into cut entries) place past)
          ∙ same
          ∙ sym (ap (way_in part place) (leads-on low entry entries place past))))
          (λ moved. inr (record {
            to = moved.to;
            was_at = leads-on low entry entries place past ∙ moved.was_at;
            now_at = leads-on low entry (halves old into cut entries) place past
                ∙ moved.now_at;
            interval = moved.interval;
            its_range = moved.its_range;
          }))
          more

  -- the same of places above the low one
  pub above-halves : (low : Option (List ℕ)) (entries : List Entry) (at : Range × Entry)
      (place : List ℕ) → AreApart entries → entry_for low entries cut ≡ Some at
      → slot at.1 ≡ old
      → (way_in part place (entry_above low (halves old into cut entries) place)
      ≡ way_in part place (entry_above low entries place))
      ⊎ IsMoved into cut at (entry_above low entries place)
      (entry_above low (halves old into cut entries) place)
  above-halves low entries at place once leads is = by_test (is_above low place)
    where
      new : Option (Range × Entry)
      new = entry_for low (halves old into cut entries) place

      was : Option (Range × Entry)
      was = entry_for low entries place

      by_test : (b : Bool)
          → (way_in part place (cond b new None) ≡ way_in part place (cond b was None))
          ⊎ IsMoved into cut at (cond b was None) (cond b new None)
      by_test true = found-halves low entries at place once leads is
      by_test false = inl refl

  -- the cut is found in the old interval, whose range ends there
  pub cut-halves : (low : Option (List ℕ)) (entries : List Entry) (at : Range × Entry)
      → AreApart entries → entry_for low entries cut ≡ Some at → slot at.1 ≡ old
      → (to : Range × Entry) × (entry_for low (halves old into cut entries) cut ≡ Some to)
      × (slot to.1 ≡ old) × (to.0.high ≡ cut)
  cut-halves low [] at once leads is = absurd (none-some cut low at leads)
  cut-halves low (entry ∷ entries) at once leads is = ⊎_elim
      (λ here. (
        (range_of low (one_entry old cut), one_entry old cut),
        ap (λ (es : List Entry). entry_for low es cut)
            (halves-both old into cut entry entries (ap slot (sym here.is_it) ∙ is))
            ∙ leads-here low (one_entry old cut)
            (one_entry into entry.high ∷ halves old into cut entries) cut (le-itself cut),
        refl,
        refl,
      ))
      (λ on.
      let other : slot entry ≢ old = λ here.
      without-found (slot entry) (Some entry.high) entries cut at once.0 on.further
      (is ∙ sym here) in
      let more = cut-halves (Some entry.high) entries at once.1 on.further is in (
        more.0,
        ap (λ (es : List Entry). entry_for low es cut)
            (halves-one old into cut entry entries other)
            ∙ leads-on low entry (halves old into cut entries) cut on.past ∙ more.1,
        more.2,
        more.3,
      ))
      (led low entry entries cut at leads)

  -- what holds of each interval, and of the two halves of the range, holds of each again
  pub each-halves : (now : Seen) (Q : Range → Block → Type 0) (low : Option (List ℕ))
      (entries : List Entry) (at : Range × Entry) → AreApart entries
      → entry_for low entries cut ≡ Some at → slot at.1 ≡ old
      → Only now (interval_block part old) (Q (record { low = at.0.low; high = cut }))
      → Only now (interval_block part into) (Q (above_cut at.0 cut))
      → EachMayLeave part now low entries Q
      → EachMayLeave part now low (halves old into cut entries) Q
  each-halves now Q low [] at once leads is lower upper left = tt
  each-halves now Q low (entry ∷ entries) at once leads is lower upper left = ⊎_elim
      (λ here.
      let same : slot entry ≡ old = ap slot (sym here.is_it) ∙ is in
      let both : halves old into cut (entry ∷ entries) ≡ two_entries old into cut entry ++ entries =
      halves-both old into cut entry entries same
      ∙ ap (λ (es : List Entry). two_entries old into cut entry ++ es)
      (halves-none old into cut entries (subst (λ (n : ℕ). OtherThan n entries) same once.0)) in
      subst (λ (es : List Entry). EachMayLeave part now low es Q) (sym both) (
        subst (λ (r : Range). Only now (interval_block part old)
            (Q (record { low = r.low; high = cut }))) here.its_range lower,
        (
          subst (λ (r : Range). Only now (interval_block part into) (Q (above_cut r cut)))
              here.its_range upper,
          left.1,
        ),
      ))
      (λ on.
      let other : slot entry ≢ old = λ here.
      without-found (slot entry) (Some entry.high) entries cut at once.0 on.further
      (is ∙ sym here) in
      subst (λ (es : List Entry). EachMayLeave part now low es Q)
      (sym (halves-one old into cut entry entries other)) (
        left.0,
        each-halves now Q (Some entry.high) entries at once.1 on.further is lower upper left.1,
      ))
      (led low entry entries cut at leads)

-- ---- the last high place

high-halves : (other : Option (List ℕ)) (old into : ℕ) (cut : List ℕ) (entries : List Entry)
    → last_or other (map (λ (entry : Entry). entry.high) (halves old into cut entries))
    ≡ last_or other (map (λ (entry : Entry). entry.high) entries)
high-halves other old into cut [] = refl
high-halves other old into cut (entry ∷ entries) =
    let Last : List Entry → Type 0 =
    λ es. last_or other (map (λ (e : Entry). e.high) es)
    ≡ last_or other (map (λ (e : Entry). e.high) (entry ∷ entries)) in
    let more = high-halves (Some entry.high) old into cut entries in
    ⊎_elim
    (λ same. subst Last (sym (halves-both old into cut entry entries same)) more)
    (λ apart. subst Last (sym (halves-one old into cut entry entries apart)) more)
    (cases_eq (slot entry) old)

-- ---- the head

-- the block with both entries is a head
pub halved-head : (part : Keyed) (top bytes : Block) (old into : ℕ) (cut : List ℕ)
    → IsHead part top → length bytes ≡ length top
    → IsSequenceSet part.area bytes (halved_record old into cut (record_in top))
    → IsHead part bytes
halved-head part top bytes old into cut head long spelled =
    let said : record_in bytes ≡ halved_record old into cut (record_in top) =
    record_is part.area bytes (halved_record old into cut (record_in top)) spelled in
    let entries : entries_of bytes ≡ halves old into cut (entries_of top) =
    ap (λ (s : SequenceSet). s.entries) said in
    record {
      spelled = subst (IsSequenceSet part.area bytes) (sym said) spelled;
      size = long ∙ head.size;
      number = ap (λ (s : SequenceSet). s.part) said ∙ head.number;
      key = ap (λ (s : SequenceSet). length s.low) said ∙ head.key;
      index = ap (λ (s : SequenceSet). s.top) said ∙ head.index;
      index_area = ap (λ (s : SequenceSet). s.index_area) said ∙ head.index_area;
      single = subst AreSingle (sym entries)
          (single-halves old into cut (entries_of top) head.single);
    }

-- and has the ends of the other
pub halved-ends : (area : ℕ) (top bytes : Block) (old into : ℕ) (cut : List ℕ)
    → IsSequenceSet area bytes (halved_record old into cut (record_in top))
    → HasEnds top bytes
halved-ends area top bytes old into cut spelled =
    let said : record_in bytes ≡ halved_record old into cut (record_in top) =
    record_is area bytes (halved_record old into cut (record_in top)) spelled in
    record {
      first = ap (λ (s : SequenceSet). s.first) said;
      low = ap (λ (s : SequenceSet). s.low) said;
      next = ap (λ (s : SequenceSet). s.next) said;
      last = ap (λ (s : SequenceSet). last_high s.entries) said
          ∙ high-halves None old into cut (entries_of top);
    }
