-- The two heads that an area split writes: the old one, shortened, and that of the area that gets
-- the others. Each is a head of the part, and both lead a place to where the old one led it.
use Rattle.std.proofs.Common.{◌≡◌, ℕ, ◌<◌, ◌≤◌, Bool, true, false, List, Option, Some}
use Rattle.std.proofs.Common.{None, length, take, drop, refl, sym, ap, subst, ◌∙◌, arith, All}
use Rattle.std.specs.Prelude.{cond}
use Rattle.std.proofs.lemmas.List.{length-drop, length-take}
use Rattle.std.proofs.lemmas.List.Elements.{All-take}
use Rattle.vr_types.specs.Content.{Item}
use Rattle.vr_types.specs.Image.{Block}
use Rattle.vr_types.specs.Seen.{Seen}
use Rattle.vr_seqset.specs.Entry.{Entry, IsWhole}
use Rattle.vr_seqset.specs.Reading.{record_in}
use Rattle.vr_seqset.specs.SequenceSet.{IsSequenceSet, SequenceSet}
use Rattle.vr_seqset.proofs.CallerLemmas.{record_is}
use Rattle.vr_space.specs.Areas.{IsFollowed, KeyedChain, area_of, end_of, is_upto, reaches}
use Rattle.vr_space.specs.Keyed.{EachMayLeave, IsHead, entries_of, entry_for, entry_in}
use Rattle.vr_space.specs.Keyed.{last_high, low_in, low_of, way_in, way_under}
use Rattle.vr_space.specs.Room.{Range, is_above}
use Rattle.vr_space.specs.Way.{MayFind}
use Rattle.vr_space.proofs.CallerLemmas.{AscendFrom, above-end, head-ascends, leads-above}
use Rattle.vr_space.proofs.CallerLemmas.{past-above}
use Rattle.vr_space.proofs.CallerLemmas.{reached-below}
use Rattle.vr_space.specs.Moves.{IsLower, IsUpper, cut_of, lower_record, numbered_from}
use Rattle.vr_space.specs.Moves.{upper_record}
use Rattle.vr_casplit.proofs.Upper.{AreCopied, ascend-dropped, ascend-taken, dropped-end}
use Rattle.vr_casplit.proofs.Upper.{each-dropped}
use Rattle.vr_casplit.proofs.Upper.{each-taken, end-is, end-length, found-lower, found-upper}
use Rattle.vr_casplit.proofs.Upper.{moved-each, moved-way, numbered-end, numbered-single}

-- The head of an area, with entries that stay and entries that move, and the two that are written.
pub record AreHeads (part : KeyedChain) (area into stay : ℕ) (top lower upper : Block) : Type 0
  where
    pub head : IsHead (area_of part area) top
    pub some : 0 < stay
    pub fewer : stay < length (entries_of top)
    pub is_lower : IsLower (area_of part area) stay into top lower
    pub is_upper : IsUpper (area_of part area) stay top upper

module _ (part : KeyedChain) (area into stay : ℕ) (top lower upper : Block)
    (heads : AreHeads part area into stay top lower upper) where
  abbrev pub entries : List Entry
  entries = entries_of top

  most : stay ≤ length entries
  most = omega (arith, heads.fewer)

  rising : AscendFrom (low_of top) entries
  rising = head-ascends (area_of part area) top heads.head

  abbrev pub cut : List ℕ
  cut = cut_of stay (record_in top)

  -- ---- their records

  pub lower-is : record_in lower ≡ lower_record stay into (record_in top)
  lower-is = record_is (area_of part area).area lower (lower_record stay into (record_in top))
      heads.is_lower.spelled

  pub upper-is : record_in upper ≡ upper_record stay (record_in top)
  upper-is = record_is (area_of part area).area upper (upper_record stay (record_in top))
      heads.is_upper.spelled

  -- where the ranges of each begin, and end
  pub lower-low : low_of lower ≡ low_of top
  lower-low = ap low_in lower-is

  pub upper-low : low_of upper ≡ Some cut
  upper-low = ap low_in upper-is

  pub lower-entries : entries_of lower ≡ take stay entries
  lower-entries = ap (λ (s : SequenceSet). s.entries) lower-is

  pub upper-entries : entries_of upper ≡ numbered_from 0 (drop stay entries)
  upper-entries = ap (λ (s : SequenceSet). s.entries) upper-is

  taken-end : last_high (take stay entries) ≡ Some cut
  taken-end = end-is (record_in top).low (take stay entries)
      (omega (arith, heads.some, heads.fewer, length-take stay entries))

  pub lower-end : end_of lower ≡ Some cut
  lower-end = ap last_high lower-entries ∙ taken-end

  pub upper-end : end_of upper ≡ end_of top
  upper-end = ap last_high upper-entries ∙ numbered-end 0 (drop stay entries)
      ∙ dropped-end stay entries heads.fewer

  -- and what comes after
  pub lower-next : (record_in lower).next ≡ Some into
  lower-next = ap (λ (s : SequenceSet). s.next) lower-is

  pub upper-next : (record_in upper).next ≡ (record_in top).next
  upper-next = ap (λ (s : SequenceSet). s.next) upper-is

  -- the chain goes on from the upper one as it did from the old one
  pub upper-followed : (After : ℕ → Option (List ℕ) → Type 0)
      → IsFollowed part After top (record_in top).next
      → IsFollowed part After upper (record_in upper).next
  upper-followed After is = subst (IsFollowed part After upper) (sym upper-next)
      (by_next (record_in top).next is)
    where
      by_next : (next : Option ℕ) → IsFollowed part After top next
          → IsFollowed part After upper next
      by_next None last = upper-end ∙ last
      by_next (Some further) goes = subst (After further) (sym upper-end) goes

  -- ---- both are heads

  pub lower-head : IsHead (area_of part area) lower
  lower-head = record {
    spelled = subst (IsSequenceSet (area_of part area).area lower) (sym lower-is)
        heads.is_lower.spelled;
    size = heads.is_lower.size;
    number = ap (λ (s : SequenceSet). s.part) lower-is ∙ heads.head.number;
    key = ap (λ (s : SequenceSet). length s.low) lower-is ∙ heads.head.key;
    index = ap (λ (s : SequenceSet). s.top) lower-is ∙ heads.head.index;
    index_area = ap (λ (s : SequenceSet). s.index_area) lower-is ∙ heads.head.index_area;
    single = subst (All (λ (entry : Entry). length entry.intervals ≡ 1)) (sym lower-entries)
        (All-take (λ (entry : Entry). length entry.intervals ≡ 1) stay entries heads.head.single);
  }

  cut-length : length cut ≡ part.key
  cut-length = end-length part.key (record_in top).low (take stay entries) heads.head.key
      (All-take (IsWhole part.key) stay entries
      (subst (λ (key : ℕ). All (IsWhole key) entries) heads.head.key
      heads.head.spelled.rules.lengths.whole))

  pub upper-head : IsHead (area_of part into) upper
  upper-head = record {
    spelled = subst (IsSequenceSet (area_of part into).area upper) (sym upper-is)
        heads.is_upper.spelled;
    size = heads.is_upper.size;
    number = ap (λ (s : SequenceSet). s.part) upper-is ∙ heads.head.number;
    key = ap (λ (s : SequenceSet). length s.low) upper-is ∙ cut-length;
    index = ap (λ (s : SequenceSet). s.top) upper-is;
    index_area = ap (λ (s : SequenceSet). s.index_area) upper-is;
    single = subst (All (λ (entry : Entry). length entry.intervals ≡ 1)) (sym upper-entries)
        (numbered-single 0 (drop stay entries));
  }

  -- ---- what a crash may leave of their intervals

  -- It is as under the old head,
  pub lower-each : (now : Seen) (Q : Range → Block → Type 0)
      → EachMayLeave (area_of part area) now (low_of top) entries Q
      → EachMayLeave (area_of part area) now (low_of lower) (entries_of lower) Q
  lower-each now Q each =
      subst (λ (low : Option (List ℕ)).
      EachMayLeave (area_of part area) now low (entries_of lower) Q) (sym lower-low)
      (subst (λ (es : List Entry). EachMayLeave (area_of part area) now (low_of top) es Q)
      (sym lower-entries) (each-taken (area_of part area) now Q stay (low_of top) entries each))

  -- of the copies too.
  pub upper-each : (old now : Seen) (Q R : Range → Block → Type 0)
      → ((range : Range) (block : Block) → Q range block → R range block)
      → AreCopied part area into now.may old.may 0 (drop stay entries)
      → EachMayLeave (area_of part area) old (low_of top) entries Q
      → EachMayLeave (area_of part into) now (low_of upper) (entries_of upper) R
  upper-each old now Q R wider copied each =
      subst (λ (low : Option (List ℕ)).
      EachMayLeave (area_of part into) now low (entries_of upper) R) (sym upper-low)
      (subst (λ (es : List Entry). EachMayLeave (area_of part into) now (Some cut) es R)
      (sym upper-entries)
      (moved-each part area into old now Q R wider (Some cut) 0 (drop stay entries) copied
      (each-dropped (area_of part area) old Q stay (low_of top) (record_in top).low entries
      heads.some most each)))

  -- ---- the way to a place

  -- A place up to the cut goes the way that it went,
  pub lower-reached : (place : List ℕ) → reaches lower place ≡ true → reaches top place ≡ true
  lower-reached place upto = by_test (reaches top place) refl
    where
      by_test : (b : Bool) → reaches top place ≡ b → reaches top place ≡ true
      by_test true reached = reached
      by_test false past = absurd (reached-below (Some cut) place
          (sym (ap (λ (end : Option (List ℕ)). is_upto end place) lower-end) ∙ upto)
          (above-end (Some cut) (drop stay entries) place
          (omega (arith, heads.fewer, length-drop stay entries))
          (ascend-dropped stay (low_of top) (record_in top).low entries heads.some most rising)
          (subst (λ (end : Option (List ℕ)). is_above end place ≡ true)
          (sym (dropped-end stay entries heads.fewer)) (past-above (end_of top) place past))))

  pub lower-way : (place : List ℕ) → reaches lower place ≡ true
      → way_under (area_of part area) place lower ≡ way_under (area_of part area) place top
  lower-way place upto =
      ap (λ (es : List Entry). way_in (area_of part area) place
      (cond (is_above (low_of lower) place) (entry_for (low_of lower) es place) None))
      lower-entries
      ∙ ap (λ (low : Option (List ℕ)). way_in (area_of part area) place
      (cond (is_above low place) (entry_for low (take stay entries) place) None)) lower-low
      ∙ ap (λ (found : Option (Range × Entry)). way_in (area_of part area) place
      (cond (is_above (low_of top) place) found None))
      (found-lower stay (low_of top) entries place
      (sym (ap (λ (end : Option (List ℕ)). is_upto end place) (lower-end ∙ sym taken-end)) ∙ upto))

  -- and one past it is found by way of the upper one as it was.
  pub upper-reach : (place : List ℕ) → reaches upper place ≡ reaches top place
  upper-reach place = ap (λ (end : Option (List ℕ)). is_upto end place) upper-end

  pub upper-way : (may less : ℕ → Block → Type 0) (place : List ℕ) (item : Option Item)
      → AreCopied part area into may less 0 (drop stay entries) → reaches lower place ≡ false
      → MayFind may item (way_under (area_of part into) place upper)
      → MayFind less item (way_under (area_of part area) place top)
  upper-way may less place item copied past found =
      let beyond : is_above (Some cut) place ≡ true =
      subst (λ (end : Option (List ℕ)). is_above end place ≡ true) lower-end
      (past-above (end_of lower) place past) in
      let above : is_above (low_of top) place ≡ true =
      above-end (low_of top) (take stay entries) place
      (omega (arith, heads.some, heads.fewer, length-take stay entries))
      (ascend-taken stay (low_of top) entries rising)
      (subst (λ (end : Option (List ℕ)). is_above end place ≡ true) (sym taken-end) beyond) in
      let here : entry_in upper place
      ≡ entry_for (Some cut) (numbered_from 0 (drop stay entries)) place =
      ap (λ (low : Option (List ℕ)).
      cond (is_above low place) (entry_for low (entries_of upper) place) None) upper-low
      ∙ leads-above (Some cut) (entries_of upper) place beyond
      ∙ ap (λ (es : List Entry). entry_for (Some cut) es place) upper-entries in
      let there : entry_in top place ≡ entry_for (Some cut) (drop stay entries) place =
      leads-above (low_of top) entries place above
      ∙ found-upper stay (low_of top) (record_in top).low entries place heads.some most rising
      (sym (ap (λ (end : Option (List ℕ)). is_upto end place) (lower-end ∙ sym taken-end)) ∙ past)
      in
      subst (λ (o : Option (Range × Entry)). MayFind less item (way_in (area_of part area) place o))
      (sym there)
      (moved-way part area into may less place item (Some cut) 0 (drop stay entries) copied
      (subst (λ (o : Option (Range × Entry)).
      MayFind may item (way_in (area_of part into) place o)) here found))
