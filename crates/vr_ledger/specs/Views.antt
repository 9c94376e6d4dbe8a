-- What the seats at a ledger's table know, and how each step changes it. These rules are this
-- project's own.
use Rattle.std.specs.Prelude.{◌≡◌, ℕ, List, [], ◌∷◌, Option, Some, None}
use Rattle.vr_history.specs.declared.entry.Entry.{Entry}
use Rattle.vr_ledger.specs.declared.view.Part.{Part}
use Rattle.vr_ledger.specs.declared.view.Whole.{Whole}
use Rattle.vr_ledger.specs.declared.view.View.{View}
use Rattle.vr_ledger.specs.declared.view.View.TheVariants.{OfLedger, OfTurn, Spent}
use Rattle.vr_ledger.specs.Decks.{without}
use Rattle.vr_ledger.specs.Entries.{HasGrown, entries_of}

abbrev pub part : ℕ → List Entry → List Entry → Part
part deck entries history = record { deck = deck; entries = entries; history = history }

abbrev pub whole : List Entry → List ℕ → Option Part → Whole
whole history out joined = record { history = history; out = out; joined = joined }

-- what is known of a deck is all that the history has of it, and the history went on from the one
-- that the deck saw
abbrev pub IsAllOf : List Entry → Part → Type 0
IsAllOf history known = (known.entries ≡ entries_of known.deck history)
    × HasGrown known.history history

abbrev pub all_of : ℕ → List Entry → Part
all_of deck history = part deck (entries_of deck history) history

-- the view of the ledger's seat as the table begins: no turn is out
abbrev pub first_view : List Entry → View
first_view history = OfLedger (whole history [] None)

-- what a view has, where it is of a ledger's seat, and where it is of a turn's
abbrev pub whole_in : View → Whole
whole_in (OfLedger now) = now
whole_in (OfTurn known) = whole [] [] None
whole_in Spent = whole [] [] None

abbrev pub part_in : View → Part
part_in (OfLedger now) = part 0 [] []
part_in (OfTurn known) = known
part_in Spent = part 0 [] []

-- what a badge has, where it is of a turn's seat
abbrev pub known_in : List View → Part
known_in [] = part 0 [] []
known_in (view ∷ views) = part_in view

abbrev pub IsOfTurn : List View → Type 0
IsOfTurn views = views ≡ OfTurn (known_in views) ∷ []

-- what the turn knows that is in, where one is
abbrev pub part_within : Option Part → Part
part_within None = part 0 [] []
part_within (Some known) = known

abbrev pub part_joined : Whole → Part
part_joined now = part_within now.joined

abbrev pub HasTurnIn : Whole → Type 0
HasTurnIn now = now.joined ≡ Some (part_joined now)

-- the deck's turn begins, and is in
abbrev pub admitted : ℕ → Whole → Whole
admitted deck now = whole now.history now.out (Some (all_of deck now.history))

-- the turn comes in
abbrev pub taken_in : Part → Whole → Whole
taken_in known now = whole now.history (without known.deck now.out) (Some known)

-- the history goes on as this one, with entries of the deck whose turn is in
abbrev pub grown : List Entry → Whole → Whole
grown history now = whole history now.out (Some (all_of (part_joined now).deck history))

-- the turn that is in ends
abbrev pub settled : Whole → Whole
settled now = whole now.history now.out None

-- the turn that is in goes out
abbrev pub handed_out : Whole → Whole
handed_out now = whole now.history ((part_joined now).deck ∷ now.out) None

-- the views of both seats where a turn comes in, and where it goes out
abbrev pub with_turn : View → View → View
with_turn view turn = OfLedger (taken_in (part_in turn) (whole_in view))

abbrev pub without_turn : View → View
without_turn view = OfLedger (handed_out (whole_in view))

abbrev pub turn_of : View → View
turn_of view = OfTurn (part_joined (whole_in view))

-- What the ledger's seat would know once a second seat that knows the whole came in: a turn that is
-- both in and out, which no seat knows. So there is no second one.
abbrev pub met_whole : Whole → Whole
met_whole now = whole now.history (0 ∷ now.out) (Some (all_of 0 now.history))

abbrev pub met : View → View → View
met view twin = OfLedger (met_whole (whole_in view))
