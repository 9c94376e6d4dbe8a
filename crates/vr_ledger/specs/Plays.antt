-- What each step shows the thread that makes it: of the step, the seat before, the number found,
-- and the seat after. They are this project's own.
use Rattle.std.specs.Prelude.{◌≡◌, ℕ, List, []}
use mathlib.Core.Option as maybe
use mathlib.Core.Option.{some, none}
use Rattle.atomic_table.specs.Table.{Me, Step}
use Rattle.vr_history.specs.declared.entry.Entry.{Entry}
use Rattle.vr_ledger.specs.declared.view.Said.{Said}
use Rattle.vr_ledger.specs.declared.view.Said.TheVariants.{Enters, Grows as GrowsTo}
use Rattle.vr_ledger.specs.declared.view.Whole.{Whole}
use Rattle.vr_ledger.specs.declared.view.View.{View}
use Rattle.vr_ledger.specs.declared.view.View.TheVariants.{OfLedger}
use Rattle.vr_ledger.specs.Decks.{times}
use Rattle.vr_ledger.specs.Views.{IsAllOf, HasTurnIn, part_joined, whole_in}
use Rattle.vr_ledger.specs.Views.{admitted, grown, settled}

-- the deck and the history that a step announces
abbrev pub deck_in : Said → ℕ
deck_in (Enters deck) = deck
deck_in (GrowsTo history) = 0

abbrev pub history_in : Said → List Entry
history_in (Enters deck) = []
history_in (GrowsTo history) = history.value.entries

abbrev pub deck_said : maybe.Option Said → ℕ
deck_said none = 0
deck_said (some said) = deck_in said

abbrev pub history_said : maybe.Option Said → List Entry
history_said none = []
history_said (some said) = history_in said

-- the turn that is in knows all that the history has of its deck
abbrev pub TellsAll : Whole → Type 0
TellsAll now = HasTurnIn now → IsAllOf now.history (part_joined now)

-- the deck's turn begins, with all that the history has of the deck
abbrev pub Admits : Step Said → Me Said View → ℕ → Me Said View → Type 0
Admits made old found new =
    new ≡ (OfLedger (admitted (deck_said made.said) (whole_in old.0)), old.1)

-- the history goes on as the one announced
abbrev pub Grows : Step Said → Me Said View → ℕ → Me Said View → Type 0
Grows made old found new =
    (new ≡ (OfLedger (grown (history_said made.said) (whole_in old.0)), old.1))
    × TellsAll (whole_in old.0)

-- the turn that is in shows what it knows, and nothing changes
abbrev pub Looks : Step Said → Me Said View → ℕ → Me Said View → Type 0
Looks made old found new = (new ≡ old) × TellsAll (whole_in old.0)

-- the turn that is in ends
abbrev pub Settles : Step Said → Me Said View → ℕ → Me Said View → Type 0
Settles made old found new =
    (new ≡ (OfLedger (settled (whole_in old.0)), old.1)) × TellsAll (whole_in old.0)

-- a turn that is in isn't out
abbrev pub IsIn : Whole → Type 0
IsIn now = HasTurnIn now → times (part_joined now).deck now.out ≡ 0

-- the turn that is in shows that it isn't out, and nothing changes
abbrev pub Refutes : Step Said → Me Said View → ℕ → Me Said View → Type 0
Refutes made old found new = (new ≡ old) × IsIn (whole_in old.0)
