-- What a search finds among files in order, and what an edit there does.
use Rattle.std.proofs.Common.{◌≡◌, ℕ, zero, suc, ◌+◌, ◌-◌, ◌<◌, ◌≤◌, Bool, true, false, eqb, ltb}
use Rattle.std.proofs.Common.{leb, ◌&&◌, cond, List, [], ◌∷◌, length, get_or, set, map, ◌⊎◌, Some}
use Rattle.std.proofs.Common.{None, Result, Ok, Err, MatchResult, inl, inr, refl, sym, ap, ◌∙◌}
use Rattle.std.proofs.Common.{subst, arith}
use Rattle.std.specs.List.{insert}
use Rattle.std.specs.List.Sorted.{IsSearchInRange, IsBinarySearchResult, IsNonDecreasingBy}
use Rattle.std.specs.List.Sorted.{IsPartitionPoint, IsPartitionedBy}
use Rattle.std.specs.Ordering.{nat_cmp, ordering_then, ordering_index, MatchOrdering}
use Rattle.std.specs.declared.cmp.Ordering.{Ordering}
use Rattle.std.proofs.lemmas.List.{places, same_lists, ext_get_or, length-set, length-map}
use Rattle.std.proofs.lemmas.List.{get_or-map}
use Rattle.std.proofs.lemmas.List.Sorted.{IsNonDecreasingBy-from_default}
use Rattle.std.proofs.lemmas.List.Sorted.{IsPartitionPoint-from_clause, IsPartitionedBy-ltb}
use Rattle.std.proofs.lemmas.List.Sorted.{IsPartitionedBy-leb}
use Rattle.std.proofs.lemmas.List.Edits.{length-insert, get_or-insert_below, get_or-insert_at}
use Rattle.std.proofs.lemmas.List.Edits.{get_or-insert_above}
use Rattle.std.proofs.lemmas.Bool.{cases_lt}
use Rattle.std.proofs.lemmas.Bool.Decides.{nat_tests}
use Rattle.std.proofs.lemmas.Grind.{common_steps}
use Rattle.std.specs.Fn.{Called, ComputesKey}
use denote.Param.Members.{Mut}
use denote.Ref.{Bor}
use borrow.Rule.Slice.PartMut.{put_mid, mid_of}
use Rattle.vr_types.specs.declared.position.Position.{Position}
use Rattle.vr_browse.specs.declared.positions.FilePosition.{FilePosition}
use Rattle.vr_browse.specs.Positions.{no_file, is_file, position_at, SetsOnly, dropped_by}
use Rattle.vr_browse.specs.Positions.{without_held, without_deck, deck_at, slot_at, IsBelow}
use Rattle.vr_browse.specs.Positions.{AreInOrder, IsAt, IsGapFor}

-- the file at a place
abbrev file_at : List FilePosition → ℕ → FilePosition
file_at l i = get_or l i no_file

-- no place before n has the file
abbrev NoneBefore : List FilePosition → ℕ → ℕ → ℕ → Type 0
NoneBefore l deck slot n = (j : ℕ) → j < n → is_file deck slot (file_at l j) ≡ false

-- `position_at` answers `to` at the file, and as on old at any other
abbrev AnswersAfterSet : List FilePosition → List FilePosition → ℕ → ℕ → Position → Type 0
AnswersAfterSet old new deck slot to =
    (d s : ℕ) → position_at new d s
    ≡ cond (eqb deck d && eqb slot s) (Some to) (position_at old d s)

-- in the tail, a file is one place lower
none_before_tail : (x : FilePosition) (l : List FilePosition) (deck slot n : ℕ)
    → NoneBefore (x ∷ l) deck slot (suc n) → NoneBefore l deck slot n
none_before_tail x l deck slot n none j lt = none (suc j) (omega arith)

is_at_tail : (x : FilePosition) (l : List FilePosition) (deck slot i : ℕ)
    → IsAt (x ∷ l) deck slot (suc i) → IsAt l deck slot i
is_at_tail x l deck slot i is_at =
    record {
      in_range = omega
          (arith, is_at.in_range);
      same_deck = is_at.same_deck;
      same_slot = is_at.same_slot;
    }

-- a file that no place has is not found
absent : (l : List FilePosition) (deck slot : ℕ) → NoneBefore l deck slot (length l)
    → position_at l deck slot ≡ None
absent [] deck slot none = refl
absent (x ∷ l) deck slot none =
    grind (arith, none 0 (omega arith), absent l deck slot (none_before_tail x l deck slot _ none))

-- the first place that has the file gives its position
present : (l : List FilePosition) (deck slot i : ℕ) → IsAt l deck slot i → NoneBefore l deck slot i
    → position_at l deck slot ≡ Some (file_at l i).position
present [] deck slot i is_at none = absurd (omega (arith, is_at.in_range))
present (x ∷ l) deck slot zero is_at none =
    grind (arith, nat_tests, is_at.same_deck, is_at.same_slot)
present (x ∷ l) deck slot (suc i) is_at none =
    grind (
      arith,
      none 0 (omega arith),
      present l deck slot i (is_at_tail x l deck slot i is_at)
          (none_before_tail x l deck slot i none),
    )

-- writing over it sets its position
answers_set : (l : List FilePosition) (deck slot i : ℕ) (to : Position) → IsAt l deck slot i
    → NoneBefore l deck slot i
    → AnswersAfterSet l (set l i (record { deck = deck; slot = slot; position = to })) deck slot to
answers_set [] deck slot i to is_at none d s = absurd (omega (arith, is_at.in_range))
answers_set (x ∷ l) deck slot zero to is_at none d s =
    grind (arith, nat_tests, is_at.same_deck, is_at.same_slot)
answers_set (x ∷ l) deck slot (suc i) to is_at none d s =
    grind (
      arith,
      nat_tests,
      none 0 (omega arith),
      answers_set l deck slot i to
          (is_at_tail x l deck slot i is_at) (none_before_tail x l deck slot i none) d s,
    )

-- so does a new file before any place that has it
answers_insert : (l : List FilePosition) (deck slot i : ℕ) (to : Position)
    → NoneBefore l deck slot i
    → AnswersAfterSet l
    (insert l i (record { deck = deck; slot = slot; position = to })) deck slot to
answers_insert l deck slot zero to none d s = refl
answers_insert [] deck slot (suc i) to none d s = refl
answers_insert (x ∷ l) deck slot (suc i) to none d s =
    grind (
      arith,
      nat_tests,
      none 0 (omega arith),
      answers_insert l deck slot i to
          (none_before_tail x l deck slot i none) d s,
    )

-- one equation for every file gives the contract's two facts
sets_only_from_answers : (old new : List FilePosition) (deck slot : ℕ) (to : Position)
    → AnswersAfterSet old new deck slot to → SetsOnly old new deck slot to
sets_only_from_answers old new deck slot to answers = record {
  this_file = grind (arith, nat_tests, answers deck slot);
  other_files = λ d s differs. grind (arith, nat_tests, answers d s, differs);
}

-- the order is that of the decks and slots alone
same_order : (old new : List FilePosition) → length new ≡ length old
    → ((i : ℕ) → i < length old → (deck_at new i ≡ deck_at old i) × (slot_at new i ≡ slot_at old i))
    → AreInOrder old → AreInOrder new
same_order old new same_length same ordered i j lt in_range =
    grind (arith, same i, same j, ordered i j)

pub ordered_deck : (l : List FilePosition) → AreInOrder l → (deck : ℕ)
    → AreInOrder (without_deck deck l)
ordered_deck l ordered deck =
    same_order l _ (length-map l _)
    (λ i lt. grind (
      arith,
      nat_tests,
      get_or-map
          (λ file. dropped_by (eqb file.deck deck) file) l i no_file no_file lt,
    )) ordered

-- what a comparison with a file answers, and that it rises with the files
ranked_file : (d s deck slot : ℕ) (o : Ordering)
    → o ≡ ordering_then (nat_cmp d deck) (nat_cmp s slot)
    → MatchOrdering o (IsBelow d s deck slot) ((d ≡ deck) × (s ≡ slot)) (IsBelow deck slot d s)
ranked_file d s deck slot o is = grind (arith, nat_tests)

rises : (a b c d deck slot : ℕ) → IsBelow a b c d ⊎ ((a ≡ c) × (b ≡ d))
    → ordering_index (ordering_then (nat_cmp a deck) (nat_cmp b slot)) ≤ ordering_index
    (ordering_then (nat_cmp c deck) (nat_cmp d slot))
rises a b c d deck slot below = grind (arith, nat_tests)

module _ (l : List FilePosition) (ordered : AreInOrder l) (deck slot : ℕ) where
  comparisons_rise : IsNonDecreasingBy
      (λ file. ordering_index (ordering_then (nat_cmp file.deck deck) (nat_cmp file.slot slot))) l
  comparisons_rise =
      IsNonDecreasingBy-from_default
      (λ file. ordering_index (ordering_then (nat_cmp file.deck deck) (nat_cmp file.slot slot))) l
      no_file (λ i j le in_range.
      rises (deck_at l i) (slot_at l i) (deck_at l j) (slot_at l j) deck slot
      (grind (arith, ordered i j, λ (same : i ≡ j). ap (file_at l) same)))

  -- a binary search ends at the file, or at the gap for it
  pub searched : (r : Result ℕ ℕ) → IsSearchInRange r (length l)
      → IsBinarySearchResult
      (λ file. ordering_then (nat_cmp file.deck deck) (nat_cmp file.slot slot)) l r
      → MatchResult r (IsAt l deck slot) (IsGapFor l deck slot)
  searched (Ok at) in_range equal =
      let same : (deck_at l at ≡ deck) × (slot_at l at ≡ slot) =
      ranked_file (deck_at l at) (slot_at l at) deck slot _ (sym (equal no_file)) in
      record { in_range = in_range; same_deck = same.0; same_slot = same.1 }
  searched (Err at) in_range separated = record {
    in_range = in_range;
    lower_before = λ i lt. ranked_file _ _ deck slot _
        (sym ((separated comparisons_rise).0 i no_file (omega arith) lt));
    higher_after = λ i le lt. ranked_file _ _ deck slot _
        (sym ((separated comparisons_rise).1 i no_file le lt));
  }

module _ (l : List FilePosition) (ordered : AreInOrder l) (deck slot at : ℕ)
    (is_at : IsAt l deck slot at) where
  none_before : NoneBefore l deck slot at
  none_before j lt =
      grind (arith, nat_tests, ordered j at lt is_at.in_range, is_at.same_deck, is_at.same_slot)

  -- the file is found at its place
  pub found_at : position_at l deck slot ≡ Some (file_at l at).position
  found_at = present l deck slot at is_at none_before

  -- a new position there changes that file's alone, and keeps the order
  pub sets_only_there : (to : Position)
      → SetsOnly l (set l at (record { deck = deck; slot = slot; position = to })) deck slot to
  sets_only_there to =
      sets_only_from_answers _ _ deck slot to (answers_set l deck slot at to is_at none_before)

  pub ordered_set : (to : Position)
      → AreInOrder (set l at (record { deck = deck; slot = slot; position = to }))
  ordered_set to =
      same_order l _ (length-set l at _)
      (λ i lt. grind (arith, common_steps, is_at.in_range, is_at.same_deck, is_at.same_slot))
      ordered

  -- it is the one file that holds nothing once its place does
  pub without_there : set l at (dropped_by true (file_at l at)) ≡ without_held deck slot l
  without_there = ext_get_or no_file _ _ (length-set l at _ ∙ sym (length-map l _)) (λ j lt.
      let told = get_or-map (λ file. dropped_by (is_file deck slot file) file) l j no_file no_file
      (omega (arith, length-set l at (dropped_by true (file_at l at)))) in
      grind (
        arith,
        nat_tests,
        common_steps,
        told,
        ordered j at,
        ordered at
            j,
        is_at.in_range,
        is_at.same_deck,
        is_at.same_slot,
      ))

-- what a closure's partition point parts by a test
abbrev IsPointOf : {F : Type 0} → Mut F (Bor FilePosition × Unit {0}) Bool → F → List FilePosition
    → ℕ → Type 0
IsPointOf g f l i =
    (q : FilePosition → Bool) → ComputesKey g q f → IsPartitionedBy q l
    → IsPartitionPoint (λ file. q file ≡ true) (λ file. q file ≡ false) l i

abbrev Tests : {F : Type 0} → Mut F (Bor FilePosition × Unit {0}) Bool → F → (FilePosition → Bool)
    → Type 0
Tests {F} g f q =
    (a : Bor FilePosition × Unit {0}) (r : Bool) (f' : F) → Called g f a r f'
    → (r ≡ q a.0.now) × (f' ≡ f)

-- the files below the deck end where its own begin, and those up to it where they end
abbrev pub Below : List FilePosition → ℕ → ℕ → Type 0
Below l deck first =
    IsPartitionPoint (λ file. ltb file.deck deck ≡ true)
    (λ file. ltb file.deck deck ≡ false) l first

abbrev pub UpTo : List FilePosition → ℕ → ℕ → Type 0
UpTo l deck end =
    IsPartitionPoint (λ file. leb file.deck deck ≡ true) (λ file. leb file.deck deck ≡ false) l end

module _ (l : List FilePosition) (ordered : AreInOrder l) (deck : ℕ) where
  decks_rise : IsNonDecreasingBy (λ file. file.deck) l
  decks_rise = IsNonDecreasingBy-from_default (λ file. file.deck) l no_file
      (λ i j le in_range. grind (arith, ordered i j, λ (same : i ≡ j). ap (deck_at l) same))

  pub below_point : {F : Type 0} {g : Mut F (Bor FilePosition × Unit {0}) Bool} {f : F} (i : ℕ)
      → IsPointOf g f l i → Tests g f (λ file. ltb file.deck deck) → Below l deck i
  below_point i point tests =
      IsPartitionPoint-from_clause (λ file. ltb file.deck deck) l i point
      (IsPartitionedBy-ltb (λ file. file.deck) l deck decks_rise) tests

  pub upto_point : {F : Type 0} {g : Mut F (Bor FilePosition × Unit {0}) Bool} {f : F} (i : ℕ)
      → IsPointOf g f l i → Tests g f (λ file. leb file.deck deck) → UpTo l deck i
  upto_point i point tests =
      IsPartitionPoint-from_clause (λ file. leb file.deck deck) l i point
      (IsPartitionedBy-leb (λ file. file.deck) l deck decks_rise) tests

module _ (l : List FilePosition) (deck first end : ℕ) (first_in_range : first ≤ length l)
    (below : Below l deck first) (upto : UpTo l deck end) where
  pub first_le_end : first ≤ end
  first_le_end = elim (cases_lt end first) [
    | inl lt ↦ absurd
        (grind (
          arith,
          nat_tests,
          below.0 end no_file (omega arith) lt,
          upto.1 end no_file
              (omega arith) (omega arith),
        ))
    | inr le ↦ le
  ]

  pub without_part : put_mid first (end - first) l
      (map (dropped_by true) (mid_of first (end - first) l)) ≡ without_deck deck l
  without_part =
      let mid = mid_of first (end - first) l in
      let same_length : length (put_mid first (end - first) l (map (dropped_by true) mid))
      ≡ length l = grind (arith, places, length-map) in
      same_lists _ _ (same_length ∙ sym (length-map l _)) (λ j d lt.
      let in_range : j < length l = omega arith in
      let told = get_or-map (λ file. dropped_by (eqb file.deck deck) file) l j d d in_range in
      let own = get_or-map (dropped_by true) mid (j - first) d d in
      grind (
        arith,
        nat_tests,
        places,
        length-map,
        told,
        own,
        first_le_end,
        below.0 j d
            (omega arith),
        below.1 j d,
        upto.0 j d (omega arith),
        upto.1 j d,
      ))

module _ (l : List FilePosition) (deck slot at : ℕ) (gap : IsGapFor l deck slot at) where
  none_is : NoneBefore l deck slot (length l)
  none_is j lt = grind (arith, nat_tests, gap.lower_before j, gap.higher_after j)

  -- a file that has a gap has no position
  pub absent_in_gap : position_at l deck slot ≡ None
  absent_in_gap = absent l deck slot none_is

  pub without_gap : l ≡ without_held deck slot l
  without_gap = ext_get_or no_file l _ (sym (length-map l _)) (λ j lt.
      grind (
        arith,
        none_is j lt,
        get_or-map
            (λ file. dropped_by (is_file deck slot file) file) l j no_file no_file lt,
      ))

  -- a new file in the gap sets that file's position alone
  pub sets_only_insert : (to : Position)
      → SetsOnly l (insert l at (record { deck = deck; slot = slot; position = to })) deck slot to
  sets_only_insert to =
      sets_only_from_answers _ _ deck slot to
      (answers_insert l deck slot at to (λ j lt. none_is j (omega (arith, gap.in_range))))

  -- it keeps the order: each new file is an old one below the gap, this one at it, or an old one
  -- moved up by one
  pub ordered_insert : (to : Position) → AreInOrder l
      → AreInOrder (insert l at (record { deck = deck; slot = slot; position = to }))
  ordered_insert to ordered i j lt in_range =
      let file : FilePosition = record { deck = deck; slot = slot; position = to } in
      let new = insert l at file in
      let length_new = length-insert l at file gap.in_range in
      let below : (i : ℕ) → i < at → file_at new i ≡ file_at l i =
      λ i lower. get_or-insert_below l at file no_file i lower gap.in_range in
      let here : (i : ℕ) → i ≡ at → file_at new i ≡ file =
      λ i same. rw same (get_or-insert_at l at file no_file gap.in_range) in
      let above : (i : ℕ) → at < i → file_at new i ≡ file_at l (i - 1) =
      λ i higher. subst (λ q. file_at new q ≡ file_at l (i - 1)) {x = i - 1 + 1} (omega arith)
      (get_or-insert_above l at file no_file (i - 1) (omega arith) gap.in_range) in
      grind (
        arith,
        below i,
        here i,
        above i,
        below j,
        here j,
        above j,
        ordered i j,
        ordered i
            (j - 1),
        ordered (i - 1) (j - 1),
        gap.lower_before i,
        gap.higher_after (j - 1),
      )
