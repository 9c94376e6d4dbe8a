-- The merged history of several volumes.
use Rattle.std.proofs.Common.{◌≡◌, ℕ, ◌<◌, ◌≤◌, ◌==◌, ◌||◌, ◌&&◌, Bool, true, false, cond, not}
use Rattle.std.proofs.Common.{nat_lt, List, [], ◌∷◌, ◌++◌, map, refl, sym, ap, ◌∙◌, subst, arith}
use Rattle.std.specs.List.{filter}
use Rattle.std.specs.List.Sorted.{IsPermutation, ties}
use Rattle.std.proofs.lemmas.Bool.Decides.{nat_tests}
use Rattle.std.proofs.lemmas.Grind.{flat_map-append}
use Rattle.std.proofs.lemmas.List.{append-nil, map-append}
use Rattle.std.proofs.lemmas.List.Elements.{filter-append}
use Rattle.std.proofs.lemmas.List.Sorted.{IsPermutation-refl, IsPermutation-cons, IsPermutation-sym}
use Rattle.std.proofs.lemmas.List.Sorted.{IsPermutation-trans, IsPermutation-middle}
use Rattle.vr_history.specs.declared.entry.Entry.{Entry}
use Rattle.vr_history.specs.Merged.{Numbered, IsStamped, comes_before, entered, in_order, merged}
use Rattle.vr_history.specs.Merged.{asked_by, numbered_from, part_of_deck}
use Rattle.vr_trace.specs.Laws.{is_on, entry_of, entries_on, is_of, of_deck, deck_entries}
use Rattle.vr_trace.specs.Laws.{history_at, AreRising, Grew, deck_after}
use Rattle.vr_trace.specs.Numbering.{with_volume}
use Rattle.vr_trace.proofs.Filters.{filters, filter_cond, filter_mapped}
use Rattle.vr_trace.proofs.Orders.{less, less_order, less_tests, in_order_is}
use Rattle.vr_trace.proofs.Sorting.{Up, Above, up_kept, up_in_rank, stable_in_rank, one_order}
use Rattle.vr_trace.proofs.Volumes.{on_one, on_volume_of_all, entries_again, renumbered}
use Rattle.vr_trace.proofs.Volumes.{deck_numbered, parts_at, requests_of_deck}

-- entries of one stamp and one volume tie
tied_numbers : (s t v w : ℕ) → (not (nat_lt s t || (s == t && nat_lt v w))
    && not (nat_lt t s || (t == s && nat_lt w v))) ≡ true → (w == v) ≡ true
tied_numbers s t v w tied = grind (arith, nat_tests, tied)

same_volume : (t this : Numbered) → ties less t this ≡ true → is_on t.volume this ≡ true
same_volume t this tied = tied_numbers t.entry.stamp this.entry.stamp t.volume this.volume
    (sym (ap (λ b. not b && not (less this t)) (less_tests t this)
    ∙ ap (λ b. not (nat_lt t.entry.stamp this.entry.stamp
    || (t.entry.stamp == this.entry.stamp && nat_lt t.volume this.volume)) && not b)
    (less_tests this t)) ∙ tied)

absorbed : {X : Type 0} (b c : Bool) (x : X) (r : List X) → (b ≡ true → c ≡ true)
    → cond b (x ∷ r) r ≡ cond c (cond b (x ∷ r) r) r
absorbed true true x r then = refl
absorbed true false x r then = absurd (let no = then refl in (cc))
absorbed false true x r then = refl
absorbed false false x r then = refl

of_volume : (t : Numbered) (entries : List Numbered) → filter (ties less t) entries
    ≡ filter (ties less t) (filter (is_on t.volume) entries)
of_volume t [] = refl
of_volume t (this ∷ entries) =
    let rest = filter (ties less t) (filter (is_on t.volume) entries) in
    ap (λ l. cond (ties less t this) (this ∷ l) l) (of_volume t entries)
    ∙ absorbed (ties less t this) (is_on t.volume this) this rest (same_volume t this)
    ∙ sym (filter_cond (ties less t) (is_on t.volume this) this
    (filter (is_on t.volume) entries))

-- lists in order are one where each volume's parts are
one_by_volumes : (xs ys : List Numbered) → Up less xs → Up less ys
    → ((volume : ℕ) → filter (is_on volume) xs ≡ filter (is_on volume) ys) → xs ≡ ys
one_by_volumes xs ys up up' same = one_order less less_order xs ys up up'
    (λ t. of_volume t xs ∙ ap (filter (ties less t)) (same t.volume) ∙ sym (of_volume t ys))

up_merged : (entries : List Numbered) → Up less (in_order entries)
up_merged entries = subst (Up less) (in_order_is entries) (up_in_rank less less_order entries)

ties_merged : (t : Numbered) (entries : List Numbered)
    → filter (ties less t) (in_order entries) ≡ filter (ties less t) entries
ties_merged t entries = ap (filter (ties less t)) (sym (in_order_is entries))
    ∙ stable_in_rank less less_order entries t

-- what is left out before is left out after
kept_in_order : (p : Numbered → Bool) (entries : List Numbered)
    → filter p (in_order entries) ≡ in_order (filter p entries)
kept_in_order p entries = one_order less less_order (filter p (in_order entries))
    (in_order (filter p entries)) (up_kept less p (in_order entries) (up_merged entries))
    (up_merged (filter p entries))
    (λ t. filters (ties less t) p (in_order entries)
    ∙ ap (filter p) (ties_merged t entries)
    ∙ filters p (ties less t) entries
    ∙ sym (ties_merged t (filter p entries)))

-- what is in order stays
order_itself : (entries : List Numbered) → Up less entries → in_order entries ≡ entries
order_itself entries up = one_order less less_order (in_order entries) entries
    (up_merged entries) up (λ t. ties_merged t entries)

later_tests : (s t v w : ℕ) → s < t → (nat_lt t s || (t == s && nat_lt w v)) ≡ false
later_tests s t v w later = grind (arith, nat_tests, later)

stamped_below : (low high : ℕ) (entries : List Entry) → low ≤ high → IsStamped high entries
    → IsStamped low entries
stamped_below low high [] below stamped = tt
stamped_below low high (entry ∷ entries) below stamped = (omega (arith, stamped.0), stamped.1)

above_rising : (this : Numbered) (entries : List Numbered)
    → IsStamped this.entry.stamp (map entry_of entries) → Above less this entries
above_rising this [] stamped = tt
above_rising this (other ∷ entries) stamped = (
  less_tests other this
      ∙ later_tests this.entry.stamp other.entry.stamp this.volume other.volume stamped.0,
  above_rising this entries (stamped_below this.entry.stamp other.entry.stamp
      (map entry_of entries) (omega (arith, stamped.0)) stamped.1),
)

-- entries whose stamps rise are in order
rising_up : (before : ℕ) (entries : List Numbered) → IsStamped before (map entry_of entries)
    → Up less entries
rising_up before [] stamped = tt
rising_up before (this ∷ entries) stamped =
    (above_rising this entries stamped.1, rising_up this.entry.stamp entries stamped.1)

merged_on : (volume : ℕ) (histories : List (List Entry))
    → filter (is_on volume) (merged histories)
    ≡ in_order (map (with_volume volume) (history_at histories volume))
merged_on volume histories = kept_in_order (is_on volume) (numbered_from 0 histories)
    ∙ ap in_order (on_volume_of_all volume histories)

-- a volume's part is its history
pub volume_part : (histories : List (List Entry)) (volume : ℕ)
    → IsStamped 0 (history_at histories volume)
    → entries_on volume (merged histories) ≡ history_at histories volume
volume_part histories volume stamped =
    let entries = history_at histories volume in
    let again = entries_again volume entries in
    ap (map entry_of) (merged_on volume histories
    ∙ order_itself (map (with_volume volume) entries) (rising_up 0
    (map (with_volume volume) entries) (subst (IsStamped 0) (sym again) stamped)))
    ∙ again

-- a deck's part is the merge of its parts
pub deck_part : (deck : ℕ) (histories : List (List Entry))
    → of_deck deck (merged histories) ≡ merged (map (deck_entries deck) histories)
deck_part deck histories = kept_in_order (is_of deck) (numbered_from 0 histories)
    ∙ ap in_order (deck_numbered deck 0 histories)

-- a deck's part is what the deck asked, in its order
pub deck_asked : (deck : ℕ) (histories : List (List Entry)) (asked : List Numbered)
    → AreRising asked
    → ((volume : ℕ) → entries_on volume asked ≡ deck_entries deck (history_at histories volume))
    → of_deck deck (merged histories) ≡ asked
deck_asked deck histories asked rising parts =
    let up = rising_up 0 asked rising in
    deck_part deck histories
    ∙ one_by_volumes (merged (map (deck_entries deck) histories)) asked
    (up_merged (numbered_from 0 (map (deck_entries deck) histories))) up
    (λ volume. merged_on volume (map (deck_entries deck) histories)
    ∙ ap (λ entries. in_order (map (with_volume volume) entries))
    (parts_at deck histories volume ∙ sym (parts volume))
    ∙ ap in_order (renumbered volume asked)
    ∙ order_itself (filter (is_on volume) asked) (up_kept less (is_on volume) asked up))

stamped_kept : (p : Entry → Bool) (before : ℕ) (entries : List Entry) → IsStamped before entries
    → IsStamped before (filter p entries)
stamped_kept p before [] stamped = tt
stamped_kept p before (entry ∷ entries) stamped =
    by_test (p entry) (stamped_kept p entry.stamp entries stamped.1)
  where
    by_test : (b : Bool) → IsStamped entry.stamp (filter p entries)
        → IsStamped before (cond b (entry ∷ filter p entries) (filter p entries))
    by_test true rest = (stamped.0, rest)
    by_test false rest =
        stamped_below before entry.stamp (filter p entries) (omega (arith, stamped.0)) rest

-- the deck's entries on a volume are those of its history
deck_on : (deck : ℕ) (histories : List (List Entry)) (volume : ℕ)
    → IsStamped 0 (history_at histories volume)
    → entries_on volume (of_deck deck (merged histories))
    ≡ deck_entries deck (history_at histories volume)
deck_on deck histories volume stamped =
    let parts = map (deck_entries deck) histories in
    let at = parts_at deck histories volume in
    ap (entries_on volume) (deck_part deck histories)
    ∙ volume_part parts volume (subst (IsStamped 0) (sym at) (stamped_kept
    (λ (entry : Entry). entry.unit.deck == deck) 0 (history_at histories volume) stamped))
    ∙ at

made_on : (deck volume other : ℕ) (made : List Entry)
    → entries_on other (map (with_volume volume) (deck_entries deck made))
    ≡ deck_entries deck (cond (volume == other) made [])
made_on deck volume other made = ap (map entry_of) (on_one other volume (deck_entries deck made))
    ∙ by_test (volume == other)
  where
    by_test : (b : Bool) → map entry_of (cond b (map (with_volume volume) (deck_entries deck made))
        []) ≡ deck_entries deck (cond b made [])
    by_test true = entries_again volume (deck_entries deck made)
    by_test false = refl

-- a deck's part grows where a volume's history does
pub deck_grows : (deck volume : ℕ) (before after : List (List Entry)) (made : List Entry)
    → Grew before after volume made → ((other : ℕ) → IsStamped 0 (history_at before other))
    → AreRising (deck_after deck before volume made)
    → of_deck deck (merged after) ≡ deck_after deck before volume made
deck_grows deck volume before after made grew stamped rising =
    let old = of_deck deck (merged before) in
    let new = map (with_volume volume) (deck_entries deck made) in
    deck_asked deck after (old ++ new) rising (λ other.
    ap (map entry_of) (filter-append (is_on other) old new)
    ∙ map-append entry_of (filter (is_on other) old) (filter (is_on other) new)
    ∙ ap (λ l. l ++ entries_on other new) (deck_on deck before other (stamped other))
    ∙ ap (λ l. deck_entries deck (history_at before other) ++ l) (made_on deck volume other made)
    ∙ sym (ap (deck_entries deck) (grew other)
    ∙ filter-append (λ (entry : Entry). entry.unit.deck == deck) (history_at before other)
    (cond (volume == other) made [])))

-- so do its requests
pub requests_grow : (deck volume : ℕ) (before after : List (List Entry)) (made : List Entry)
    → Grew before after volume made → ((other : ℕ) → IsStamped 0 (history_at before other))
    → AreRising (deck_after deck before volume made)
    → part_of_deck deck (merged after) ≡ part_of_deck deck (merged before)
    ++ part_of_deck deck (map (with_volume volume) made)
requests_grow deck volume before after made grew stamped rising =
    let old = of_deck deck (merged before) in
    let new = map (with_volume volume) (deck_entries deck made) in
    requests_of_deck deck (merged after)
    ∙ ap (part_of_deck deck) (deck_grows deck volume before after made grew stamped rising)
    ∙ flat_map-append (asked_by deck) old new
    ∙ ap (λ l. l ++ part_of_deck deck new) (sym (requests_of_deck deck (merged before)))
    ∙ ap (λ l. part_of_deck deck (merged before) ++ l)
    (ap (part_of_deck deck) (sym (filter_mapped (is_of deck) (with_volume volume) made))
    ∙ sym (requests_of_deck deck (map (with_volume volume) made)))

-- and stays where it has no entry there
pub deck_stays : (deck volume : ℕ) (before after : List (List Entry)) (made : List Entry)
    → Grew before after volume made → deck_entries deck made ≡ []
    → of_deck deck (merged after) ≡ of_deck deck (merged before)
deck_stays deck volume before after made grew none =
    let parts = map (deck_entries deck) in
    deck_part deck after
    ∙ one_by_volumes (merged (parts after)) (merged (parts before))
    (up_merged (numbered_from 0 (parts after))) (up_merged (numbered_from 0 (parts before)))
    (λ other. merged_on other (parts after)
    ∙ ap (λ entries. in_order (map (with_volume other) entries))
    (parts_at deck after other ∙ ap (deck_entries deck) (grew other)
    ∙ filter-append (λ (entry : Entry). entry.unit.deck == deck) (history_at before other)
    (cond (volume == other) made [])
    ∙ none_made (volume == other) (deck_entries deck (history_at before other))
    ∙ sym (parts_at deck before other))
    ∙ sym (merged_on other (parts before)))
    ∙ sym (deck_part deck before)
  where
    none_made : (b : Bool) (entries : List Entry)
        → entries ++ deck_entries deck (cond b made []) ≡ entries
    none_made true entries = ap (λ l. entries ++ l) none ∙ append-nil entries
    none_made false entries = append-nil entries

swap_first : (x y : Numbered) (ys : List Numbered) → IsPermutation (x ∷ y ∷ ys) (y ∷ x ∷ ys)
swap_first x y ys =
    IsPermutation-sym (y ∷ x ∷ ys) (x ∷ y ∷ ys) (IsPermutation-middle (y ∷ []) x ys)

entered_once : (x : Numbered) (ys : List Numbered) → IsPermutation (x ∷ ys) (entered x ys)
entered_once x [] = IsPermutation-refl (x ∷ [])
entered_once x (y ∷ ys) = by_test (comes_before x y) (entered_once x ys)
  where
    by_test : (b : Bool) → IsPermutation (x ∷ ys) (entered x ys)
        → IsPermutation (x ∷ y ∷ ys) (cond b (x ∷ y ∷ ys) (y ∷ entered x ys))
    by_test true rest = IsPermutation-refl (x ∷ y ∷ ys)
    by_test false rest = IsPermutation-trans (x ∷ y ∷ ys) (y ∷ x ∷ ys) (y ∷ entered x ys)
        (swap_first x y ys) (IsPermutation-cons y (x ∷ ys) (entered x ys) rest)

-- each entry comes once
pub each_once : (entries : List Numbered) → IsPermutation entries (in_order entries)
each_once [] = IsPermutation-refl []
each_once (x ∷ entries) = IsPermutation-trans (x ∷ entries) (x ∷ in_order entries)
    (entered x (in_order entries))
    (IsPermutation-cons x entries (in_order entries) (each_once entries))
    (entered_once x (in_order entries))
