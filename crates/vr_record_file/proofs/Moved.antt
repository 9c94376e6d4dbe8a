-- What is left of what is in memory where a request moves its file.
use Rattle.std.proofs.Common.{◌≡◌, ℕ, ◌==◌, ◌&&◌, Bool, true, false, if◌then◌else◌, List, Option}
use Rattle.std.proofs.Common.{Some, None, refl, sym, ap, ◌∙◌, arith}
use Rattle.std.specs.Option.{unwrap_or}
use Rattle.std.proofs.lemmas.Bool.{true≢false}
use Rattle.std.proofs.lemmas.Bool.Decides.{nat_tests}
use Rattle.vr_browse.specs.Positions.{SetsOnly, position_of}
use Rattle.vr_browse.specs.declared.positions.FilePosition.{FilePosition}
use Rattle.vr_types.specs.Position.{first_position, unheld}
use Rattle.vr_types.specs.declared.position.Position.{Position}
use Rattle.vr_types.specs.declared.position.Stand.{Stand}
use Rattle.vr_types.specs.declared.request.FileRef.{FileRef}
use Rattle.vr_history.specs.Effects.{drops_held, standing}
use Rattle.vr_history.specs.State.{State}
use Rattle.vr_history.specs.Step.{stands_in}
use Rattle.vr_history.proofs.Same.{first_holds, nat_same, second_holds}
use Rattle.vr_record_file.specs.Now.{FileNow, IsOf}

-- a file's position is set
module _ (old new : List FilePosition) (deck slot : ℕ) (to : Position)
    (sets : SetsOnly old new deck slot to) (d s : ℕ) where
  set_here : d ≡ deck → s ≡ slot → position_of new d s ≡ to
  set_here same_deck same_slot =
      ap (λ (n : ℕ). position_of new n s) same_deck
      ∙ ap (λ (n : ℕ). position_of new deck n) same_slot
      ∙ ap (λ (o : Option Position). unwrap_or o first_position) sets.this_file

  set_there : (d ≡ deck → s ≡ slot → ⊥) → position_of new d s ≡ position_of old d s
  set_there other =
      ap (λ (o : Option Position). unwrap_or o first_position) (sets.other_files d s other)

-- The state moves this file, whatever it does to its position, and no other.
module _ (file : FileNow) (state : State) (deck slot : ℕ) (to : Position) (new : List FilePosition)
    (room : ℕ) (over : Bool → Position → Position) (sets : SetsOnly file.files new deck slot to)
    (is : IsOf file state) (moved : to ≡ over true (state.positions deck slot))
    (stays : (position : Position) → over false position ≡ position) where
  set_at : (d s : ℕ) (here : Bool) → (d == deck && s == slot) ≡ here
      → position_of new d s ≡ over here (state.positions d s)
  set_at d s true test =
      let same_deck = nat_same d deck (first_holds (d == deck) (s == slot) test) in
      let same_slot = nat_same s slot (second_holds (d == deck) (s == slot) test) in
      set_here file.files new deck slot to sets d s same_deck same_slot ∙ moved
      ∙ ap (λ (n : ℕ). over true (state.positions n slot)) (sym same_deck)
      ∙ ap (λ (n : ℕ). over true (state.positions d n)) (sym same_slot)
  set_at d s false test =
      set_there file.files new deck slot to sets d s (λ same_deck same_slot.
      absurd (true≢false (sym (both_same same_deck same_slot) ∙ test)))
      ∙ is.positions d s ∙ sym (stays (state.positions d s))
    where
      both_same : d ≡ deck → s ≡ slot → (d == deck && s == slot) ≡ true
      both_same same_deck same_slot = grind (arith, nat_tests, same_deck, same_slot)

  pub placed_is : IsOf (record file { files = new; files_room = room }) (record state {
    positions = λ d s. over (d == deck && s == slot) (state.positions d s);
  })
  placed_is = record {
    catalog = is.catalog;
    locks = is.locks;
    positions = λ d s. set_at d s (d == deck && s == slot) refl;
    numbers = is.numbers;
    stopped = is.stopped;
    unbuilt = is.unbuilt;
    owned = is.owned;
    locked = is.locked;
    of_decks = is.of_decks;
    of_clusters = is.of_clusters;
    kept_by_decks = is.kept_by_decks;
    deck_clusters = is.deck_clusters;
  }

-- what a file holds is dropped, where it is this one
abbrev dropping : Bool → Position → Position
dropping here position = if here then unheld position else position

-- The file lets go what it held, keeps what its request keeps, and stands where it is moved, or
-- where it stood.
module _ (file : FileNow) (state : State) (deck : ℕ) (on : FileRef) (stand : Stand)
    (held : Option (List ℕ)) (new : List FilePosition) (room : ℕ)
    (keep : Bool → Position → Position)
    (keeps : (stood : Stand)
    → keep true (record { stand = stood; held = None }) ≡ record { stand = stood; held = held })
    (stays : (position : Position) → keep false position ≡ position)
    (sets : SetsOnly file.files new deck on.slot (record { stand = stand; held = held }))
    (is : IsOf file state) where
  abbrev stood : Stand
  stood = (state.positions deck on.slot).stand

  abbrev kept_state : State
  kept_state = record state {
    positions = λ d s. keep (d == deck && s == on.slot) (dropping (d == deck && s == on.slot)
        (state.positions d s));
  }

  pub moves_is : (moved : Option Stand) → stand ≡ unwrap_or moved stood
      → IsOf (record file { files = new; files_room = room })
      (stands_in deck (Some on) moved kept_state)
  moves_is None stands =
      placed_is file state deck on.slot (record { stand = stand; held = held }) new room
      (λ here position. keep here (dropping here position)) sets is
      (ap (λ (s : Stand). record { stand = s; held = held }) stands ∙ sym (keeps stood)) stays
  moves_is (Some to) stands =
      placed_is file state deck on.slot (record { stand = stand; held = held }) new room
      (λ here position. if here then standing to (keep here (dropping here position)) else
      keep here (dropping here position)) sets is
      (ap (λ (s : Stand). record { stand = s; held = held }) stands
      ∙ sym (ap (standing to) (keeps stood))) stays

-- A file that holds nothing afterwards.
module _ (file : FileNow) (state : State) (deck : ℕ) (on : FileRef) (stand : Stand)
    (new : List FilePosition) (room : ℕ)
    (sets : SetsOnly file.files new deck on.slot (record { stand = stand; held = None }))
    (is : IsOf file state) (moved : Option Stand)
    (stands : stand ≡ unwrap_or moved (state.positions deck on.slot).stand) where
  pub lets_go_is : IsOf (record file { files = new; files_room = room })
      (stands_in deck (Some on) moved (drops_held deck (Some on) state))
  lets_go_is =
      moves_is file state deck on stand None new room (λ here position. position) (λ stood. refl)
      (λ position. refl) sets is moved stands
