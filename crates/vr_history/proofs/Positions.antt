-- One file's position changes, and no other's.
use Rattle.std.proofs.Common.{◌≡◌, ℕ, Bool, true, false, ◌==◌, ◌&&◌, eq-eqb, ne_eqb, refl, ap, ◌∙◌}
use Rattle.std.proofs.Common.{subst, Some, None}
use Rattle.std.specs.Prelude.{Option, if◌then◌else◌}
use mathlib.Core.Logic.{dite}
use native.Mathlib.Decide.{ℕ_discrete}
use Rattle.vr_types.specs.Position.{unheld}
use Rattle.vr_types.specs.declared.position.Position.{Position}
use Rattle.vr_types.specs.declared.position.Stand.{Stand}
use Rattle.vr_types.specs.declared.reply.Refusal.{Refusal}
use Rattle.vr_types.specs.declared.request.FileRef.{FileRef}
use Rattle.vr_history.specs.Case.{Case, file_of}
use Rattle.vr_history.specs.Effects.{drops_held, moves_file, standing}
use Rattle.vr_history.specs.Laws.{OnlyRefused, SameButPositions, stand_or}
use Rattle.vr_history.specs.State.{State}
use Rattle.vr_history.specs.Step.{stand_refused, stands_in}

is_both : (deck slot : ℕ) → (deck == deck && slot == slot) ≡ true
is_both deck slot = ap (λ (same : Bool). same && slot == slot) (eq-eqb deck deck refl)
    ∙ eq-eqb slot slot refl

isnt_both : (d s deck slot : ℕ) → (d ≡ deck → s ≡ slot → ⊥) → (d == deck && s == slot) ≡ false
isnt_both d s deck slot other = dite (ℕ_discrete d deck)
    (λ same_deck. ap (λ (same : Bool). same && s == slot) (eq-eqb d deck same_deck)
    ∙ ne_eqb s slot (other same_deck))
    (λ other_deck. ap (λ (same : Bool). same && s == slot) (ne_eqb d deck other_deck))

-- the file itself
pub moves-here : (deck slot : ℕ) (to : Position → Position) (state : State)
    → (moves_file deck slot to state).positions deck slot ≡ to (state.positions deck slot)
moves-here deck slot to state =
    ap (λ (same : Bool). if same then to (state.positions deck slot) else state.positions deck slot)
    (is_both deck slot)

-- another file
pub moves-elsewhere : (deck slot : ℕ) (to : Position → Position) (state : State) (d s : ℕ)
    → (d ≡ deck → s ≡ slot → ⊥)
    → (moves_file deck slot to state).positions d s ≡ state.positions d s
moves-elsewhere deck slot to state d s other =
    ap (λ (same : Bool). if same then to (state.positions d s) else state.positions d s)
    (isnt_both d s deck slot other)

-- where nothing but a position was changed
rest_same : (deck : ℕ) (file : Option FileRef) (stand : Option Stand) (state : State)
    → SameButPositions state (stands_in deck file stand (drops_held deck file state))
rest_same deck None stand state =
    record {
      contents = refl;
      locks = refl;
      befores = refl;
      logged = refl;
      used = refl;
      numbers =
          refl;
      owned = refl;
      stopped = refl;
    }
rest_same deck (Some file) None state =
    record {
      contents = refl;
      locks = refl;
      befores = refl;
      logged = refl;
      used = refl;
      numbers =
          refl;
      owned = refl;
      stopped = refl;
    }
rest_same deck (Some file) (Some stand) state =
    record {
      contents = refl;
      locks = refl;
      befores = refl;
      logged = refl;
      used = refl;
      numbers =
          refl;
      owned = refl;
      stopped = refl;
    }

abbrev after_refusal : Option Stand → Position → Position
after_refusal stand position = record { stand = stand_or stand position.stand; held = None }

file_here : (deck : ℕ) (file : FileRef) (stand : Option Stand) (state : State)
    → (stands_in deck (Some file) stand (drops_held deck (Some file) state)).positions deck
    file.slot ≡ after_refusal stand (state.positions deck file.slot)
file_here deck file None state = moves-here deck file.slot unheld state
file_here deck file (Some stand) state =
    moves-here deck file.slot (standing stand) (moves_file deck file.slot unheld state)
    ∙ ap (standing stand) (moves-here deck file.slot unheld state)

file_elsewhere : (deck : ℕ) (file : FileRef) (stand : Option Stand) (state : State) (d s : ℕ)
    → (d ≡ deck → s ≡ file.slot → ⊥)
    → (stands_in deck (Some file) stand (drops_held deck (Some file) state)).positions d s ≡
    state.positions d s
file_elsewhere deck file None state d s other =
    moves-elsewhere deck file.slot unheld state d s other
file_elsewhere deck file (Some stand) state d s other =
    moves-elsewhere deck file.slot (standing stand) (moves_file deck file.slot unheld state) d s
    other ∙ moves-elsewhere deck file.slot unheld state d s other

some_file : (file this : FileRef) → Some file ≡ Some this → file ≡ this
some_file file this same = cc

-- the file of a request, whichever it is
at_file : (deck : ℕ) (file : Option FileRef) (stand : Option Stand) (state : State) (this : FileRef)
    → file ≡ Some this
    → (stands_in deck file stand (drops_held deck file state)).positions deck this.slot ≡
    after_refusal stand (state.positions deck this.slot)
at_file deck None stand state this same = absurd cc
at_file deck (Some file) stand state this same =
    let P : FileRef → Type 0 =
    λ shown. (stands_in deck (Some file) stand (drops_held deck (Some file) state)).positions
    deck shown.slot ≡ after_refusal stand (state.positions deck shown.slot) in
    subst P (some_file file this same) (file_here deck file stand state)

at_others : (deck : ℕ) (file : Option FileRef) (stand : Option Stand) (state : State)
    (this : FileRef) (d s : ℕ) → file ≡ Some this → (d ≡ deck → s ≡ this.slot → ⊥)
    → (stands_in deck file stand (drops_held deck file state)).positions d s ≡ state.positions d s
at_others deck None stand state this d s same other = absurd cc
at_others deck (Some file) stand state this d s same other =
    let slots : file.slot ≡ this.slot =
    ap (λ (shown : FileRef). shown.slot) (some_file file this same) in
    file_elsewhere deck file stand state d s (λ same_deck same_slot. other same_deck (same_slot
    ∙ slots))

at_none : (deck : ℕ) (file : Option FileRef) (stand : Option Stand) (state : State) → file ≡ None
    → (stands_in deck file stand (drops_held deck file state)).positions ≡ state.positions
at_none deck None stand state same = refl
at_none deck (Some file) stand state same = absurd cc

pub only_refused : (case : Case) (refusal : Refusal)
    → OnlyRefused case refusal
    (stands_in case.unit.deck (file_of case.request) (stand_refused case.request refusal)
    (drops_held case.unit.deck (file_of case.request) case.state))
only_refused case refusal = record {
  rest = rest_same case.unit.deck (file_of case.request) (stand_refused case.request refusal)
      case.state;
  file = λ this same. at_file case.unit.deck (file_of case.request)
      (stand_refused case.request refusal) case.state this same;
  other_files = λ this deck slot same other. at_others case.unit.deck (file_of case.request)
      (stand_refused case.request refusal) case.state this deck slot same other;
  no_file = λ same. at_none case.unit.deck (file_of case.request)
      (stand_refused case.request refusal) case.state same;
}
