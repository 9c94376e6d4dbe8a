-- What an edit of the catalog leaves of the state, and of what is in memory.
use Rattle.std.proofs.Common.{◌≡◌, ◌≢◌, ℕ, ◌+◌, ◌-◌, ◌<◌, ◌^◌, ◌==◌, Bool, true, false}
use Rattle.std.proofs.Common.{if◌then◌else◌, cond, List, [], ◌∷◌, ◌++◌, filter, map, Some}
use Rattle.std.proofs.Common.{None, refl, sym, ap, ◌∙◌, subst}
use Rattle.std.proofs.lemmas.Bool.{true≢false}
use Rattle.std.proofs.lemmas.List.{append-nil}
use Rattle.std.proofs.lemmas.List.Elements.{filter-append}
use Rattle.std.proofs.lemmas.Option.{none-some}
use Rattle.std.specs.Prelude.{◌≤◌, ◌&&◌, bytes_eq}
use Rattle.std.specs.List.{AllByRecursion, list_any}
use Rattle.vr_browse.specs.Positions.{position_of}
use Rattle.vr_catalog.specs.Catalog.{entries_in, parts_in}
use Rattle.vr_catalog.specs.declared.entry.CatEntry.{CatEntry}
use Rattle.vr_types.specs.Content.{Content}
use Rattle.vr_types.specs.Locks.{Lock, first_conflict, same_unit}
use Rattle.vr_types.specs.LogSpace.{log_size}
use Rattle.vr_types.specs.Position.{unheld}
use Rattle.vr_types.specs.declared.position.Position.{Position}
use Rattle.vr_types.specs.declared.reply.Reply.TheVariants.{Done}
use Rattle.vr_types.specs.declared.request.Request.{Request}
use Rattle.vr_types.specs.declared.unit.Mode.TheVariants.{Exclusive}
use Rattle.vr_types.specs.declared.unit.Unit.{Unit as UnitOfRecovery}
use Rattle.vr_history.specs.declared.entry.What.TheVariants.{Asked}
use Rattle.vr_history.specs.Effects.{drops_held, ends_unit, has_part, is_other, parts_laid, stops}
use Rattle.vr_history.specs.Effects.{used_after}
use Rattle.vr_history.specs.Names.{with_lock, with_locks}
use Rattle.vr_history.specs.State.{BeforeImage, Logged, Owned, State, is_kept, is_live, is_logged}
use Rattle.vr_answer.specs.Scope.{AreUnbuilt}
use Rattle.vr_answer.proofs.CallerLemmas.{kept_with, taken}
use Rattle.vr_record_file.specs.CatalogEdit.{IsCatalogEdited, IsEditInDoubt, MayEditCatalog}
use Rattle.vr_record_file.specs.CatalogEdit.{RecordChange, image_of, logged_of, name_of}
use Rattle.vr_record_file.specs.CatalogEdit.{need_to_edit}
use Rattle.vr_record_file.specs.Now.{FileNow, IsKeptByDeck, IsLockedIn, IsOf, IsOfCluster}
use Rattle.vr_record_file.specs.Now.{IsOfClusterByDeck, IsOfDeck, IsStateOf, ended, raised_for}
use Rattle.vr_record_file.specs.Now.{has_deck, number_of, state_now, with_event}
use Rattle.vr_record_file.specs.declared.entry_step.EntryStep.{EntryStep}
use Rattle.vr_record_file.specs.declared.numbers.DeckNumber.{DeckNumber}
use Rattle.vr_record_file.proofs.Defined.{kept_else, unheld_all}
use Rattle.vr_record_file.proofs.Ends.{given_back, gives_back_if, number_raised}
use Rattle.vr_record_file.proofs.Left.{all_pass, all_passed, left_with_lock, none_any, own_other}
use Rattle.vr_record_file.proofs.Legal.{utility_other}
use Rattle.vr_record_file.proofs.RecordsApart.{MaySteps, need_after, need_first}
use Rattle.vr_record_file.proofs.RecordsMade.{AreStepsMade, positions_left}
use Rattle.vr_record_file.proofs.Steps.{without_deck-of}

-- ---- what is of the unit

-- none of what a unit adds to a list is left once it has ended
own_left : {X : Type 0} (unit_of : X → UnitOfRecovery) (unit : UnitOfRecovery)
    (make : RecordChange → X) → ((change : RecordChange) → unit_of (make change) ≡ unit)
    → (changes : List RecordChange)
    → filter (λ x. is_other unit (unit_of x)) (map make changes) ≡ []
own_left unit_of unit make own [] = refl
own_left {X} unit_of unit make own (change ∷ changes) =
    let rest : List X = filter (λ x. is_other unit (unit_of x)) (map make changes) in
    ap (λ (u : UnitOfRecovery). cond (is_other unit u) (make change ∷ rest) rest) (own change)
    ∙ ap (λ (b : Bool). cond b (make change ∷ rest) rest) (own_other unit)
    ∙ own_left unit_of unit make own changes

-- nor are the locks that it took
locks_left : (unit : UnitOfRecovery) (changes : List RecordChange) (locks : List Lock)
    → filter (λ (lock : Lock). is_other unit lock.unit)
    (with_locks unit Exclusive (map name_of changes) locks)
    ≡ filter (λ (lock : Lock). is_other unit lock.unit) locks
locks_left unit [] locks = refl
locks_left unit (change ∷ changes) locks =
    locks_left unit changes (with_lock unit Exclusive (name_of change) locks)
    ∙ left_with_lock unit (name_of change) Exclusive locks

-- what it logged is under them
logged_locked : (unit : UnitOfRecovery) (changes : List RecordChange) (locks : List Lock)
    → AllByRecursion (IsLockedIn (with_locks unit Exclusive (map name_of changes) locks))
    (map (logged_of unit) changes)
logged_locked unit [] locks = tt
logged_locked unit (change ∷ changes) locks = (
  kept_with unit Exclusive (map name_of changes) unit (name_of change)
      (with_lock unit Exclusive (name_of change) locks) (taken unit (name_of change) locks),
  logged_locked unit changes (with_lock unit Exclusive (name_of change) locks),
)

-- and the before-images are of no deck
all_and : {X : Type 0} (P : X → Type 0) (xs ys : List X) → AllByRecursion P xs
    → AllByRecursion P ys → AllByRecursion P (xs ++ ys)
all_and P [] ys are more = more
all_and P (x ∷ xs) ys are more = (are.0, all_and P xs ys are.1 more)

images_by_none : (unit : UnitOfRecovery) (changes : List RecordChange) → unit.deck ≡ 0
    → AllByRecursion IsOfClusterByDeck (map (image_of unit) changes)
images_by_none unit [] utility = tt
images_by_none unit (change ∷ changes) utility = (
  λ deck. absurd (true≢false (sym (zero_is unit.deck utility) ∙ deck)),
  images_by_none unit changes utility,
)
  where
    zero_is : (n : ℕ) → n ≡ 0 → (n == 0) ≡ true
    zero_is n zero = ap (λ (k : ℕ). k == 0) zero

module _ (opening : State) (file : FileNow) (unit : UnitOfRecovery) (steps : List EntryStep)
    (changes : List RecordChange) (commit : Request) (catalog : List CatEntry)
    (is : IsStateOf opening file)
    (may : MayEditCatalog opening file unit steps changes commit catalog) where
  abbrev old : State
  old = state_now opening file

  -- ---- each of them may be made

  none_logged : (place : List ℕ) → is_logged old unit 0 place ≡ false
  none_logged place = ap (list_any (λ (logged : Logged). same_unit unit logged.unit
      && (logged.part == 0 && bytes_eq place logged.place))) may.idle

  none_kept : (place : List ℕ) → is_kept old unit 0 place ≡ false
  none_kept place = none_any IsKeptByDeck (λ kept. same_unit unit kept.unit
      && (kept.part == 0 && bytes_eq place kept.place))
      (λ kept of_deck. ap (λ (b : Bool). b && (kept.part == 0 && bytes_eq place kept.place))
      (utility_other unit kept.unit may.of_utilities of_deck)) old.befores
      (is.now.kept_by_decks may.going)

  not_live : is_live old unit ≡ false
  not_live = ap (list_any (λ (logged : Logged). same_unit unit logged.unit)) may.idle

  each : (P : RecordChange → Type 0) → ((change : RecordChange) → P change)
      → (some : List RecordChange) → AllByRecursion P some
  each P holds [] = tt
  each P holds (change ∷ some) = (holds change, each P holds some)

  pub may_steps : MaySteps file.geometry old unit may.on changes
  may_steps = record {
    going = sym is.now.stopped ∙ may.going;
    of_utilities = may.of_utilities;
    on_catalog = may.on_catalog;
    known = may.known;
    no_path = may.no_path;
    unbuilt = is.now.unbuilt;
    gives = may.unbuilt;
    apart = may.apart;
    not_logged = each (λ (change : RecordChange). is_logged old unit 0 change.place ≡ false)
        (λ change. none_logged change.place) changes;
    not_kept = each (λ (change : RecordChange). is_kept old unit 0 change.place ≡ false)
        (λ change. none_kept change.place) changes;
    stand = may.stand;
    unlocked = subst (λ (l : List Lock). AllByRecursion (λ (change : RecordChange).
        first_conflict l unit Exclusive (name_of change) ≡ None) changes)
        (is.now.locks may.going) may.unlocked;
    room = subst (λ (b : Bool). old.used + need_after b changes ≤ log_size file.geometry)
        (sym not_live) (subst (λ (n : ℕ). old.used + n ≤ log_size file.geometry)
        (sym (need_first changes may.some)) may.room);
  }

  module _ (made : State) (are : AreStepsMade unit may.on changes old made) where
    abbrev IsLaid : Owned → Type 0
    IsLaid owned = has_part (parts_laid catalog) owned.part ≡ true

    catalog_with : entries_in (made.contents 0) ≡ catalog
    catalog_with = ap (λ (c : ℕ → Content). entries_in (c 0)) are.contents ∙ may.catalog_is

    logged_with : made.logged ≡ map (logged_of unit) changes
    logged_with = are.logged
        ∙ ap (λ (l : List Logged). l ++ map (logged_of unit) changes) may.idle

    used_with : made.used ≡ old.used + need_to_edit changes
    used_with = are.used ∙ ap (λ (b : Bool). old.used + need_after b changes) not_live
        ∙ ap (λ (n : ℕ). old.used + n) (need_first changes may.some)

    some_dropped : (some : List RecordChange) → some ≢ [] → (d s : ℕ)
        → positions_left unit.deck may.on some old d s
        ≡ (drops_held unit.deck (Some may.on) old).positions d s
    some_dropped [] there d s = absurd (there refl)
    some_dropped (change ∷ some) there d s = refl

    positions_with : (d s : ℕ) → made.positions d s
        ≡ (drops_held unit.deck (Some may.on) old).positions d s
    positions_with d s = are.positions d s ∙ some_dropped changes may.some d s

    -- ---- the end of its unit

    logged_left : filter (λ (one : Logged). is_other unit one.unit) made.logged ≡ []
    logged_left = ap (filter (λ (one : Logged). is_other unit one.unit)) logged_with
        ∙ own_left (λ (one : Logged). one.unit) unit (logged_of unit) (λ change. refl) changes

    befores_left : filter (λ (kept : BeforeImage). is_other unit kept.unit) made.befores
        ≡ old.befores
    befores_left =
        let other : BeforeImage → Bool = λ kept. is_other unit kept.unit in
        ap (filter other) are.befores
        ∙ filter-append other old.befores (map (image_of unit) changes)
        ∙ ap (λ (l : List BeforeImage). filter other old.befores ++ l)
        (own_left (λ (kept : BeforeImage). kept.unit) unit (image_of unit) (λ change. refl) changes)
        ∙ append-nil (filter other old.befores)
        ∙ all_pass IsKeptByDeck other (kept_else unit may.of_utilities) old.befores
        (is.now.kept_by_decks may.going)

    gives : ends_unit unit made ≡ given_back unit made
    gives = gives_back_if unit made
        (ap (list_any (λ (logged : Logged). logged.unit.deck == 0)) logged_left)

    ended_given : IsCatalogEdited unit changes catalog old (given_back unit made)
    ended_given = record {
      contents = λ part. ap (λ (c : List CatEntry).
          if has_part (parts_in c) part then made.contents part else []) catalog_with
          ∙ ap (λ (contents : ℕ → Content). if has_part (parts_in catalog) part
          then contents part else []) are.contents;
      befores = befores_left;
      logged = logged_left;
      used = ap (λ (l : List Logged). used_after l made.used) logged_left;
      numbers = λ deck. ap (λ (n : ℕ → ℕ). if deck == unit.deck then n deck + 1 else n deck)
          are.numbers;
      owned = ap (λ (c : List CatEntry).
          filter (λ (o : Owned). has_part (parts_laid c) o.part) made.owned) catalog_with
          ∙ ap (filter (λ (o : Owned). has_part (parts_laid catalog) o.part)) are.owned;
      stopped = are.stopped ∙ sym may.going ∙ is.now.stopped;
      positions = λ d s. ap (λ (p : Position). if d == unit.deck then unheld p else p)
          (positions_with d s) ∙ unheld_all old unit.deck (Some may.on) d s;
      locks = ap (filter (λ (lock : Lock). is_other unit lock.unit)) are.locks
          ∙ locks_left unit changes old.locks;
    }

    pub ended_is : IsCatalogEdited unit changes catalog old (ends_unit unit made)
    ended_is = subst (IsCatalogEdited unit changes catalog old) (sym gives) ended_given

    -- what is in memory then, of a record file that was ended with this catalog, and the files of
    -- which are those of the state
    module _ (to : FileNow) (catalogs : to.catalog ≡ catalog) (locks : to.locks ≡ file.locks)
        (numbers : to.numbers ≡ file.numbers) (stopped : to.stopped ≡ file.stopped)
        (files : (d s : ℕ) → position_of to.files d s ≡ made.positions d s) where
      module _ (has : has_deck unit.deck file.numbers ≡ true)
          (less : number_of file.numbers unit.deck < 2 ^ 32 - 1) (new : State)
          (done : IsCatalogEdited unit changes catalog old new) (line : ℕ) where
        catalog_is : to.catalog ≡ entries_in (new.contents 0)
        catalog_is = catalogs ∙ sym (ap entries_in (done.contents 0) ∙ may.catalog_is)

        pub edited_now : IsOf (with_event 0 unit line (Asked commit (Done 0 None None))
            (ended unit to)) new
        edited_now = record {
          catalog = catalog_is;
          locks = λ going. ap (filter (λ (lock : Lock). is_other unit lock.unit))
              (locks ∙ is.now.locks may.going) ∙ sym done.locks;
          positions = λ d s. without_deck-of unit.deck to.files d s
              ∙ ap (λ (p : Position). if d == unit.deck then unheld p else p)
              (files d s ∙ positions_with d s)
              ∙ unheld_all old unit.deck (Some may.on) d s ∙ sym (done.positions d s);
          numbers = λ d. ap (λ (l : List DeckNumber). number_of (map (raised_for unit.deck) l) d)
              numbers
              ∙ number_raised unit.deck file.numbers has less d
              ∙ ap (λ (n : ℕ). if d == unit.deck then n + 1 else n) (is.now.numbers d)
              ∙ sym (done.numbers d);
          stopped = stopped ∙ is.now.stopped ∙ sym done.stopped;
          unbuilt = subst AreUnbuilt (catalog_with ∙ sym catalogs ∙ catalog_is) are.unbuilt;
          owned = λ going. subst (λ (c : List CatEntry). AllByRecursion (λ (o : Owned).
              has_part (parts_laid c) o.part ≡ true) new.owned) (sym catalogs)
              (subst (AllByRecursion IsLaid) (sym done.owned)
              (all_passed (λ (o : Owned). has_part (parts_laid catalog) o.part) old.owned));
          locked = subst (AllByRecursion (IsLockedIn new.locks)) (sym done.logged) tt;
          of_decks = λ going. subst (AllByRecursion IsOfDeck) (sym done.logged) tt;
          of_clusters = λ going. subst (AllByRecursion IsOfCluster) (sym done.befores)
              (is.now.of_clusters may.going);
          kept_by_decks = λ going. subst (AllByRecursion IsKeptByDeck) (sym done.befores)
              (is.now.kept_by_decks may.going);
          deck_clusters = subst (AllByRecursion IsOfClusterByDeck) (sym done.befores)
              is.now.deck_clusters;
        }

    -- ---- a fault of a write

    pub doubt_is : (stamp : ℕ) → IsEditInDoubt unit may.on changes stamp old (stops stamp made)
    doubt_is stamp = record {
      contents = λ part. ap (λ (c : ℕ → Content). c part) are.contents;
      befores = are.befores;
      logged = logged_with;
      used = used_with;
      numbers = are.numbers;
      owned = are.owned;
      stopped = refl;
      positions = positions_with;
      locks = are.locks;
    }

    locked_too : AllByRecursion (IsLockedIn made.locks) made.logged
    locked_too =
        subst (λ (l : List Lock). AllByRecursion (IsLockedIn l) made.logged) (sym are.locks)
        (subst (AllByRecursion (IsLockedIn
        (with_locks unit Exclusive (map name_of changes) old.locks))) (sym logged_with)
        (logged_locked unit changes old.locks))

    -- and what is in memory then
    pub doubt_now : (stamp : ℕ) (to : FileNow) → to.catalog ≡ catalog → to.stopped ≡ Some stamp
        → to.numbers ≡ file.numbers
        → ((d s : ℕ) → position_of to.files d s ≡ made.positions d s)
        → IsOf to (stops stamp made)
    doubt_now stamp to catalogs stops numbers files =
        let never : to.stopped ≡ None → ⊥ = λ none. none-some stamp (sym none ∙ stops) in
        record {
          catalog = catalogs ∙ sym catalog_with;
          locks = λ none. absurd (never none);
          positions = files;
          numbers = λ d. ap (λ (l : List DeckNumber). number_of l d) numbers ∙ is.now.numbers d
              ∙ ap (λ (n : ℕ → ℕ). n d) (sym are.numbers);
          stopped = stops;
          unbuilt = are.unbuilt;
          owned = λ none. absurd (never none);
          locked = locked_too;
          of_decks = λ none. absurd (never none);
          of_clusters = λ none. absurd (never none);
          kept_by_decks = λ none. absurd (never none);
          deck_clusters = subst (AllByRecursion IsOfClusterByDeck) (sym are.befores)
              (all_and IsOfClusterByDeck old.befores (map (image_of unit) changes)
              is.now.deck_clusters (images_by_none unit changes may.of_utilities));
        }
