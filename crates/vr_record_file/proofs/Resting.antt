-- What is in memory where no event was entered: at the opening, with more room, with a deck more.
use Rattle.std.proofs.Common.{◌≡◌, ℕ, ◌==◌, ◌&&◌, ◌||◌, Bool, true, false, not, List, [], ◌∷◌, ◌++◌}
use Rattle.std.proofs.Common.{Option, Some, None, refl, sym, ap, ◌∙◌, subst, find, cond}
use Rattle.std.specs.List.{AllByRecursion, list_any}
use Rattle.std.specs.Option.{is_none, option_and_then, option_copied, option_map, option_map_or}
use Rattle.std.specs.Option.{unwrap_or}
use Rattle.vr_browse.specs.Positions.{position_at, position_of}
use Rattle.vr_browse.specs.declared.positions.FilePosition.{FilePosition}
use Rattle.vr_catalog.specs.Catalog.{entries_in}
use Rattle.vr_types.specs.Content.{Content}
use Rattle.vr_types.specs.Locks.{Lock}
use Rattle.vr_types.specs.Position.{first_position}
use Rattle.vr_types.specs.declared.position.Position.{Position}
use Rattle.vr_types.specs.declared.position.Stand.{Stand}
use Rattle.vr_types.specs.declared.request.FileRef.{FileRef}
use Rattle.vr_history.specs.declared.entry.Entry.{Entry}
use Rattle.vr_history.specs.Case.{file_of}
use Rattle.vr_history.specs.Effects.{has_part, parts_laid}
use Rattle.vr_history.specs.Legal.{IsLegal, state_of}
use Rattle.vr_history.specs.RefusedFile.{changed_catalog}
use Rattle.vr_history.specs.RefusedRoom.{free_areas}
use Rattle.vr_history.specs.State.{Logged, Owned, State, opening_state}
use Rattle.vr_history.specs.Step.{case_of}
use Rattle.vr_answer.specs.Here.{or_start}
use Rattle.vr_answer.specs.InHand.{IsCaseOf, IsFileOf}
use Rattle.vr_answer.specs.Numbered.{AreNumbersOf}
use Rattle.vr_answer.specs.Scope.{AreUnbuilt, AreKeyedClusters, HasKeyedAlone}
use Rattle.vr_answer.specs.declared.case.Case.{Case as CaseInHand}
use Rattle.vr_record_file.specs.Now.{FileNow, IsOf, IsOfDeck, IsStateOf, has_deck, held_in}
use Rattle.vr_record_file.specs.Now.{is_of_deck, number_of, stand_in, state_now}
use Rattle.vr_record_file.specs.declared.numbers.DeckNumber.{DeckNumber}
use Rattle.vr_record_file.proofs.Legal.{NoUtilityUndoes}

-- the opening
pub new_state : (file : FileNow) → file.locks ≡ [] → file.files ≡ [] → file.numbers ≡ []
    → file.stopped ≡ None → file.entries ≡ [] → (contents : ℕ → Content) (owned : List Owned)
    → file.catalog ≡ entries_in (contents 0) → AreUnbuilt file.catalog
    → AllByRecursion (λ area. has_part (parts_laid file.catalog) area.part ≡ true) owned
    → IsStateOf (opening_state contents owned) file
new_state file locks files numbers stopped entries contents owned catalog unbuilt laid =
    let opening : State = opening_state contents owned in
    let none : IsLegal file.geometry opening [] =
    record { steps = tt; backs_out = tt; stops = tt } in
    let now : IsOf file opening = record {
      catalog = catalog;
      locks = λ going. locks;
      positions = λ d s. ap (λ (l : List FilePosition). position_of l d s) files;
      numbers = λ d. ap (λ (l : List DeckNumber). number_of l d) numbers;
      stopped = stopped;
      unbuilt = subst AreUnbuilt catalog unbuilt;
      owned = λ going. laid;
      locked = tt;
      of_decks = λ going. tt;
      of_clusters = λ going. tt;
      kept_by_decks = λ going. tt;
      deck_clusters = tt;
    } in
    record {
      legal = subst (λ (l : List Entry). IsLegal file.geometry opening l) (sym entries) none;
      now = subst (λ (l : List Entry). IsOf file (state_of file.geometry opening l)) (sym entries)
          now;
      utilities = subst NoUtilityUndoes (sym entries) (λ unit utility. refl);
    }

-- more room
pub roomy_state : (opening : State) (file : FileNow) (room files_room : ℕ)
    → IsStateOf opening file
    → IsStateOf opening (record file { room = room; files_room = files_room })
roomy_state opening file room files_room is = let now = is.now in record {
  legal = is.legal;
  now = record {
    catalog = now.catalog;
    locks = now.locks;
    positions = now.positions;
    numbers = now.numbers;
    stopped = now.stopped;
    unbuilt = now.unbuilt;
    owned = now.owned;
    locked = now.locked;
    of_decks = now.of_decks;
    of_clusters = now.of_clusters;
    kept_by_decks = now.kept_by_decks;
    deck_clusters = now.deck_clusters;
  };
  utilities = is.utilities;
}

-- other numbers that say the same
pub numbered_state : (opening : State) (file : FileNow) (numbers : List DeckNumber)
    → ((deck : ℕ) → number_of numbers deck ≡ number_of file.numbers deck)
    → IsStateOf opening file → IsStateOf opening (record file { numbers = numbers })
numbered_state opening file numbers same is = let now = is.now in record {
  legal = is.legal;
  now = record {
    catalog = now.catalog;
    locks = now.locks;
    positions = now.positions;
    numbers = λ deck. same deck ∙ now.numbers deck;
    stopped = now.stopped;
    unbuilt = now.unbuilt;
    owned = now.owned;
    locked = now.locked;
    of_decks = now.of_decks;
    of_clusters = now.of_clusters;
    kept_by_decks = now.kept_by_decks;
    deck_clusters = now.deck_clusters;
  };
  utilities = is.utilities;
}

-- a deck more
abbrev first_unit : ℕ → DeckNumber
first_unit deck = record { deck = deck; number = 1 }

number_by : (b : Bool) (number : DeckNumber) (rest more : Option DeckNumber)
    → option_map_or (λ (n : DeckNumber). n.number) more 1
    ≡ option_map_or (λ (n : DeckNumber). n.number) rest 1
    → option_map_or (λ (n : DeckNumber). n.number) (cond b (Some number) more) 1
    ≡ option_map_or (λ (n : DeckNumber). n.number) (cond b (Some number) rest) 1
number_by true number rest more same = refl
number_by false number rest more same = same

last_by : (b : Bool) (deck : ℕ)
    → option_map_or (λ (n : DeckNumber). n.number) (cond b (Some (first_unit deck)) None) 1 ≡ 1
last_by true deck = refl
last_by false deck = refl

pub number_of_more : (numbers : List DeckNumber) (deck other : ℕ)
    → number_of (numbers ++ first_unit deck ∷ []) other ≡ number_of numbers other
number_of_more [] deck other = last_by (deck == other) deck
number_of_more (number ∷ numbers) deck other =
    number_by (number.deck == other) number (find (is_of_deck other) numbers)
    (find (is_of_deck other) (numbers ++ first_unit deck ∷ [])) (number_of_more numbers deck other)

pub or_later : (a b c : Bool) → (b ≡ true → c ≡ true) → (a || b) ≡ true → (a || c) ≡ true
or_later true b c so is = refl
or_later false b c so is = so is

pub has_deck_more : (numbers : List DeckNumber) (deck other : ℕ)
    → has_deck other numbers ≡ true → has_deck other (numbers ++ first_unit deck ∷ []) ≡ true
has_deck_more [] deck other is = absurd (cc)
has_deck_more (number ∷ numbers) deck other is =
    or_later (number.deck == other) (has_deck other numbers)
    (has_deck other (numbers ++ first_unit deck ∷ [])) (has_deck_more numbers deck other) is

-- no unit of the utilities changes the catalog, as long as the volume goes on
none_of_two : (a b c : Bool) → a ≡ false → c ≡ false → (a && b || c) ≡ false
none_of_two true b c first second = absurd (cc)
none_of_two false b c first second = second

none_changes : (logged : List Logged) → AllByRecursion IsOfDeck logged
    → list_any changed_catalog logged ≡ false
none_changes [] are = refl
none_changes (one ∷ logged) are =
    none_of_two (one.unit.deck == 0) (one.part == 0) (list_any changed_catalog logged) are.0.0
    (none_changes logged are.1)

and_false : (a b : Bool) → b ≡ false → (a && b) ≡ false
and_false true b is = is
and_false false b is = refl

changing_none : (logged : List Logged) (stopped : Option ℕ)
    → (stopped ≡ None → AllByRecursion IsOfDeck logged)
    → (is_none stopped && list_any changed_catalog logged) ≡ false
changing_none logged None are = none_changes logged (are refl)
changing_none logged (Some stamp) are = refl

-- a file that was never set stands at its start
start_unset : (o : Option Position)
    → or_start (option_map (λ position. position.stand) o) ≡ (unwrap_or o first_position).stand
start_unset None = refl
start_unset (Some position) = refl

-- a request with what is in memory of its file
module _ (opening : State) (file : FileNow) (is : IsStateOf opening file) (case : CaseInHand)
    (catalog : case.catalog.now ≡ file.catalog)
    (held : option_copied case.held ≡ held_in file.files case.unit.deck (file_of case.request.now))
    (stand : option_copied case.stand
    ≡ stand_in file.files case.unit.deck (file_of case.request.now))
    (stopped : case.stopped ≡ file.stopped) (changing : case.catalog_changing ≡ false) where
  abbrev state : State
  state = state_now opening file

  held_is : (deck : ℕ) (o : Option FileRef)
      → held_in file.files deck o
      ≡ option_and_then (λ (on : FileRef). (state.positions deck on.slot).held) o
  held_is deck None = refl
  held_is deck (Some on) = ap (λ (p : Position). p.held) (is.now.positions deck on.slot)

  stand_is : (deck : ℕ) (o : Option FileRef) (given : Option Stand)
      → given ≡ stand_in file.files deck o
      → option_map (λ (on : FileRef). or_start given) o
      ≡ option_map (λ (on : FileRef). (state.positions deck on.slot).stand) o
  stand_is deck None given is_given = refl
  stand_is deck (Some on) given is_given =
      ap (λ (s : Stand). Some s) (ap or_start is_given
      ∙ start_unset (position_at file.files deck on.slot)
      ∙ ap (λ (p : Position). p.stand) (is.now.positions deck on.slot))

  pub file_is : IsFileOf case state
  file_is = record {
    catalog = catalog ∙ is.now.catalog;
    held = held ∙ held_is case.unit.deck (file_of case.request.now);
    stand = stand_is case.unit.deck (file_of case.request.now) (option_copied case.stand) stand;
    stopped = stopped ∙ is.now.stopped;
    changing = changing ∙ sym (and_false (not (case.unit.deck == 0)) _
        (changing_none state.logged state.stopped
        (λ going. is.now.of_decks (is.now.stopped ∙ going))));
    unbuilt = is.now.unbuilt;
  }

  -- and of all else
  module _ (locks : case.locks.now ≡ file.locks) (geometry : case.geometry ≡ file.geometry)
      (used : case.used ≡ state.used)
      (free : case.free ≡ free_areas (case_of file.geometry state case.unit case.request.now))
      (numbers : AreNumbersOf (option_copied case.address) case.areas
      (case_of file.geometry state case.unit case.request.now)) where
    numbers_are : AreNumbersOf (option_copied case.address) case.areas
        (case_of case.geometry state case.unit case.request.now)
    numbers_are = subst (λ g. AreNumbersOf (option_copied case.address) case.areas
        (case_of g state case.unit case.request.now)) (sym geometry) numbers

    pub case_is : IsCaseOf case (record state { locks = file.locks })
    case_is = record {
      file = record {
        catalog = file_is.catalog;
        held = file_is.held;
        stand = file_is.stand;
        stopped = file_is.stopped;
        changing = file_is.changing;
        unbuilt = file_is.unbuilt;
      };
      locks = locks;
      free =
          free ∙ sym (ap (λ g. free_areas (case_of g state case.unit case.request.now)) geometry);
      used = used;
      numbers = record { address = numbers_are.address; areas = numbers_are.areas };
    }

    pub case_is_going : file.stopped ≡ None → IsCaseOf case state
    case_is_going going = subst (λ (l : List Lock). IsCaseOf case (record state { locks = l }))
        (is.now.locks going) case_is

-- the catalog in memory is that of the state, whose clusters are all key-sequenced where its are
pub keyed_now : (opening : State) (file : FileNow) → IsStateOf opening file
    → AreKeyedClusters file.catalog → HasKeyedAlone (state_now opening file)
keyed_now opening file is keyed = subst AreKeyedClusters is.now.catalog keyed
