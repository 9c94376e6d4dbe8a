-- The parts of a deck and of a volume, over entries that come one list after another.
use Rattle.std.proofs.Common.{◌≡◌, ◌∙◌, ℕ, ◌==◌, true, false, cond, List, [], ◌++◌, map, ap}
use Rattle.std.specs.List.{filter}
use Rattle.std.proofs.lemmas.Grind.{flat_map-append}
use Rattle.std.proofs.lemmas.List.{map-append}
use Rattle.std.proofs.lemmas.List.Elements.{filter-append}
use Rattle.vr_history.specs.declared.entry.Entry.{Entry}
use Rattle.vr_history.specs.Merged.{Numbered, asked_by, part_of_deck}
use Rattle.vr_trace.specs.Laws.{entries_on, entry_of, is_on}
use Rattle.vr_trace.specs.Numbering.{with_volume}
use Rattle.vr_trace.proofs.CallerLemmas.{entries_again, on_one}

-- a deck's part of both
pub part-both : (deck : ℕ) (one more : List Numbered)
    → part_of_deck deck (one ++ more) ≡ part_of_deck deck one ++ part_of_deck deck more
part-both deck one more = flat_map-append (asked_by deck) one more

-- a deck's part of entries that were made on one volume, and then others
pub part-then : (deck volume : ℕ) (one more : List Entry)
    → part_of_deck deck (map (with_volume volume) (one ++ more))
    ≡ part_of_deck deck (map (with_volume volume) one)
    ++ part_of_deck deck (map (with_volume volume) more)
part-then deck volume one more =
    ap (part_of_deck deck) (map-append (with_volume volume) one more)
    ∙ part-both deck (map (with_volume volume) one) (map (with_volume volume) more)

-- a volume's part of both
pub on-both : (volume : ℕ) (one more : List Numbered)
    → entries_on volume (one ++ more) ≡ entries_on volume one ++ entries_on volume more
on-both volume one more =
    ap (map entry_of) (filter-append (is_on volume) one more)
    ∙ map-append entry_of (filter (is_on volume) one) (filter (is_on volume) more)

-- what was made on a volume is all on that one
pub on-same : (volume other : ℕ) (made : List Entry) → (volume == other) ≡ true
    → entries_on other (map (with_volume volume) made) ≡ made
on-same volume other made same =
    ap (map entry_of) (on_one other volume made
    ∙ ap (λ b. cond b (map (with_volume volume) made) []) same)
    ∙ entries_again volume made

-- and none of it on another
pub on-other : (volume other : ℕ) (made : List Entry) → (volume == other) ≡ false
    → entries_on other (map (with_volume volume) made) ≡ []
on-other volume other made differ =
    ap (map entry_of) (on_one other volume made
    ∙ ap (λ b. cond b (map (with_volume volume) made) []) differ)
