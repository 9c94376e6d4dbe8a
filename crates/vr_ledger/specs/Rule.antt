-- The rule of a ledger's table: what each turn knows is all that the history has of its deck. It
-- holds between any two steps of any threads, and is this project's own.
use Rattle.std.specs.Prelude.{◌≡◌, ℕ, ◌<◌, [], ◌∷◌, length}
use mathlib.Core.Option.{some}
use lib.ListN.{get_elem?}
use Rattle.atomic_table.specs.Table.{State}
use Rattle.vr_ledger.specs.declared.view.Said.{Said}
use Rattle.vr_ledger.specs.declared.view.Part.{Part}
use Rattle.vr_ledger.specs.declared.view.Whole.{Whole}
use Rattle.vr_ledger.specs.declared.view.View.{View}
use Rattle.vr_ledger.specs.declared.view.View.TheVariants.{OfLedger, OfTurn}
use Rattle.vr_ledger.specs.Decks.{times}
use Rattle.vr_ledger.specs.Views.{IsAllOf, HasTurnIn, part_joined}

-- the view of the seat of this number
abbrev pub HasView : State Said View → ℕ → View → Type 0
HasView state seat view = get_elem? state.views seat ≡ some view

-- the seat of this number is the ledger's own, and knows this
pub record IsKeptAt (state : State Said View) (seat : ℕ) (now : Whole) : Type 0 where
  pub there : HasView state seat (OfLedger now)
  -- no other seat knows the whole
  pub alone : (other : ℕ) (whole : Whole) → HasView state other (OfLedger whole) → other ≡ seat
  -- the one word is the number of the entries
  pub word : state.words ≡ length now.history ∷ []
  -- each turn that is out
  pub turns : (turn : ℕ) (known : Part) → HasView state turn (OfTurn known)
      → IsAllOf now.history known × (0 < times known.deck now.out)
  -- no two of them are of one deck
  pub once : (turn other : ℕ) (known more : Part) → HasView state turn (OfTurn known)
      → HasView state other (OfTurn more) → known.deck ≡ more.deck → turn ≡ other
  -- and the turn that is in, if one is
  pub joined : HasTurnIn now
      → IsAllOf now.history (part_joined now) × (times (part_joined now).deck now.out ≡ 0)

abbrev pub IsKept : State Said View → Type 0
IsKept state = (seat : ℕ) × (now : Whole) × IsKeptAt state seat now
