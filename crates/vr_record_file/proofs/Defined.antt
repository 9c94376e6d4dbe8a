-- What a definition leaves of the state, and of what is in memory.
use Rattle.std.proofs.Common.{◌≡◌, ℕ, ◌+◌, ◌-◌, ◌<◌, ◌^◌, ◌==◌, ◌&&◌, Bool, true, false, not}
use Rattle.std.proofs.Common.{if◌then◌else◌, List, [], ◌∷◌, ◌++◌, filter, Option, Some, None}
use Rattle.std.proofs.Common.{refl, sym, ap, ◌∙◌, subst, arith}
use Rattle.std.proofs.lemmas.Bool.{false_from_ne_true, true≢false}
use Rattle.std.proofs.lemmas.Bool.Decides.{nat_tests}
use Rattle.std.proofs.lemmas.Option.{none-some}
use Rattle.std.specs.List.{AllByRecursion, list_any}
use Rattle.vr_browse.specs.Positions.{position_of}
use Rattle.vr_browse.specs.declared.positions.FilePosition.{FilePosition}
use Rattle.vr_catalog.specs.Catalog.{entries_in, parts_in}
use Rattle.vr_catalog.specs.declared.entry.CatEntry.{CatEntry}
use Rattle.vr_types.specs.Content.{Standing}
use Rattle.vr_types.specs.Locks.{Lock}
use Rattle.vr_types.specs.Position.{unheld}
use Rattle.vr_types.specs.declared.position.Position.{Position}
use Rattle.vr_types.specs.declared.request.FileRef.{FileRef}
use Rattle.vr_types.specs.declared.request.Request.{Request}
use Rattle.vr_types.specs.declared.unit.AreaNo.{AreaNo}
use Rattle.vr_types.specs.declared.unit.Mode.TheVariants.{Exclusive}
use Rattle.vr_types.specs.declared.unit.PartNo.{PartNo}
use Rattle.vr_types.specs.declared.unit.Unit.{Unit as UnitOfRecovery}
use Rattle.vr_history.specs.Case.{file_of}
use Rattle.vr_history.specs.Effects.{drops_held, ends_unit, has_part, is_other, parts_laid, stops}
use Rattle.vr_history.specs.Effects.{placed_in, used_after, with_change}
use Rattle.vr_history.specs.State.{BeforeImage, Logged, Owned, State}
use Rattle.vr_answer.specs.Scope.{AreUnbuilt}
use Rattle.vr_answer.proofs.CallerLemmas.{taken}
use Rattle.vr_record_file.specs.Defining.{IsDefined, IsInDoubt, MayDefine, defined, entry_change}
use Rattle.vr_record_file.specs.Defining.{entry_image, entry_logged, entry_name}
use Rattle.vr_record_file.specs.Now.{FileNow, IsKeptByDeck, IsLockedIn, IsOf, IsOfCluster}
use Rattle.vr_record_file.specs.Now.{IsOfClusterByDeck}
use Rattle.vr_record_file.specs.Now.{IsOfDeck, IsStateOf, files_let_go, has_deck, number_of}
use Rattle.vr_record_file.specs.Now.{state_now}
use Rattle.vr_record_file.specs.declared.numbers.DeckNumber.{DeckNumber}
use Rattle.vr_record_file.proofs.Added.{IsAdded, added_is, with_record}
use Rattle.vr_record_file.proofs.Changes.{all_append, locked_with}
use Rattle.vr_record_file.proofs.Ends.{given_back, gives_back_if, locked_left, none_live}
use Rattle.vr_record_file.proofs.Ends.{number_raised}
use Rattle.vr_record_file.proofs.Left.{all_but_last, all_pass, left_with_lock, own_other}
use Rattle.vr_record_file.proofs.Legal.{utility_other}
use Rattle.vr_record_file.proofs.MoreEntries.{has_part_more, is_laid_more}
use Rattle.vr_record_file.proofs.Steps.{let_go_is, without_deck-of}

-- ---- what isn't of a unit of the utilities

module _ (unit : UnitOfRecovery) (utility : unit.deck ≡ 0) where
  logged_else : (logged : Logged) → IsOfDeck logged → is_other unit logged.unit ≡ true
  logged_else logged of_deck = ap not (utility_other unit logged.unit utility of_deck.0)

  pub kept_else : (kept : BeforeImage) → IsKeptByDeck kept → is_other unit kept.unit ≡ true
  kept_else kept of_deck = ap not (utility_other unit kept.unit utility of_deck)

-- the files of its deck hold nothing, whichever let go before
unheld_by : (b c : Bool) (position : Position)
    → (if b then unheld (if b && c then unheld position else position) else
    if b && c then unheld position else position) ≡ (if b then unheld position else position)
unheld_by true true position = refl
unheld_by true false position = refl
unheld_by false c position = refl

pub unheld_all : (state : State) (deck : ℕ) (o : Option FileRef) (d s : ℕ)
    → (if d == deck then unheld ((drops_held deck o state).positions d s) else
    (drops_held deck o state).positions d s)
    ≡ (if d == deck then unheld (state.positions d s) else state.positions d s)
unheld_all state deck None d s = refl
unheld_all state deck (Some on) d s = unheld_by (d == deck) (s == on.slot) (state.positions d s)

all_more : {X : Type 0} (P Q : X → Type 0) → ((x : X) → P x → Q x) → (xs : List X)
    → AllByRecursion P xs → AllByRecursion Q xs
all_more P Q so [] are = tt
all_more P Q so (x ∷ xs) are = (so x are.0, all_more P Q so xs are.1)

zero_same : (n : ℕ) → (n == 0) ≡ true → n ≡ 0
zero_same n same = grind (arith, nat_tests, same)

module _ (opening : State) (file : FileNow) (unit : UnitOfRecovery) (part : PartNo) (area : AreaNo)
    (add : Request) (place bytes : List ℕ) (commit : Request) (catalog : List CatEntry)
    (is : IsStateOf opening file)
    (may : MayDefine opening file unit part area add place bytes commit catalog) where
  abbrev old : State
  old = state_now opening file

  abbrev recorded : State
  recorded = with_record file.geometry old unit part area add place

  adds : IsAdded file.geometry old unit part area add place bytes recorded
  adds = added_is opening file unit part area add place bytes commit catalog is may

  abbrev given : Owned
  given = record { area = area.0; part = part.0 }

  decks : AllByRecursion IsOfDeck old.logged
  decks = is.now.of_decks may.going

  -- ---- the catalog with the record

  abbrev Has : (List CatEntry → List ℕ) → List CatEntry → ℕ → Type 0
  Has parts entries other = has_part (parts entries) other ≡ true

  more_parts : (other : ℕ) → Has parts_in file.catalog other → Has parts_in catalog other
  more_parts other had =
      subst (λ (c : List CatEntry). Has parts_in c other) may.catalog_is
      (has_part_more (old.contents 0) place (Standing bytes) may.absent other
      (subst (λ (c : List CatEntry). Has parts_in c other) is.now.catalog had))

  more_laid : (other : ℕ) → Has parts_laid file.catalog other → Has parts_laid catalog other
  more_laid other had =
      subst (λ (c : List CatEntry). Has parts_laid c other) may.catalog_is
      (is_laid_more (old.contents 0) place (Standing bytes) may.absent other
      (subst (λ (c : List CatEntry). Has parts_laid c other) is.now.catalog had))

  all_laid : AllByRecursion (λ (o : Owned). Has parts_laid catalog o.part) (old.owned ++ given ∷ [])
  all_laid =
      all_append (λ (o : Owned). Has parts_laid catalog o.part) old.owned given
      (all_more (λ (o : Owned). Has parts_laid file.catalog o.part)
      (λ (o : Owned). Has parts_laid catalog o.part) (λ o had. more_laid o.part had) old.owned
      (is.now.owned may.going)) may.laid

  catalog_with : entries_in (recorded.contents 0) ≡ catalog
  catalog_with = ap entries_in (adds.contents 0) ∙ may.catalog_is

  -- ---- the end of its unit

  logged_left : filter (λ (one : Logged). is_other unit one.unit) recorded.logged ≡ old.logged
  logged_left =
      ap (filter (λ (one : Logged). is_other unit one.unit)) adds.logged
      ∙ all_but_last IsOfDeck (λ (one : Logged). is_other unit one.unit)
      (logged_else unit may.of_utilities) old.logged (entry_logged unit place) decks
      (own_other unit)

  befores_left : filter (λ (kept : BeforeImage). is_other unit kept.unit) recorded.befores
      ≡ old.befores
  befores_left =
      ap (filter (λ (kept : BeforeImage). is_other unit kept.unit)) adds.befores
      ∙ all_but_last IsKeptByDeck (λ (kept : BeforeImage). is_other unit kept.unit)
      (kept_else unit may.of_utilities) old.befores (entry_image unit place)
      (is.now.kept_by_decks may.going) (own_other unit)

  gives : ends_unit unit recorded ≡ given_back unit recorded
  gives = gives_back_if unit recorded
      (ap (list_any (λ (logged : Logged). logged.unit.deck == 0)) logged_left
      ∙ none_live old.logged decks)

  -- a part that the catalog lacks has no content
  lacking : (other : ℕ) → has_part (parts_in catalog) other ≡ false
      → with_change (entry_change place bytes) old.contents other ≡ []
  lacking other lacks =
      let beside : (other == 0) ≡ false = false_from_ne_true (other == 0) (λ same.
      true≢false (sym (ap (has_part (parts_in catalog)) (zero_same other same)) ∙ lacks)) in
      let lacked : has_part (parts_in file.catalog) other ≡ false =
      false_from_ne_true (has_part (parts_in file.catalog) other)
      (λ had. true≢false (sym (more_parts other had) ∙ lacks)) in
      ap (λ (b : Bool). if b then placed_in place (Some (Standing bytes)) (old.contents other) else
      old.contents other) beside ∙ may.empty other lacked

  contents_left_at : (other : ℕ) (b : Bool) → has_part (parts_in catalog) other ≡ b
      → (if b then recorded.contents other else [])
      ≡ with_change (entry_change place bytes) old.contents other
  contents_left_at other true has = adds.contents other
  contents_left_at other false lacks = sym (lacking other lacks)

  ended_given : IsDefined unit part area place bytes old (given_back unit recorded)
  ended_given = record {
    contents = λ other. ap (λ (c : List CatEntry).
        if has_part (parts_in c) other then recorded.contents other else []) catalog_with
        ∙ contents_left_at other (has_part (parts_in catalog) other) refl;
    befores = befores_left;
    logged = logged_left;
    used = ap (used_after (filter (λ (one : Logged). is_other unit one.unit) recorded.logged))
        adds.used;
    numbers = λ deck. ap (λ (n : ℕ → ℕ). if deck == unit.deck then n deck + 1 else n deck)
        adds.numbers;
    owned = ap (λ (c : List CatEntry).
        filter (λ (o : Owned). has_part (parts_laid c) o.part) recorded.owned) catalog_with
        ∙ ap (filter (λ (o : Owned). has_part (parts_laid catalog) o.part)) adds.owned
        ∙ all_pass (λ (o : Owned). Has parts_laid catalog o.part)
        (λ (o : Owned). has_part (parts_laid catalog) o.part) (λ o has. has)
        (old.owned ++ given ∷ []) all_laid;
    stopped = adds.stopped ∙ sym may.going ∙ is.now.stopped;
    positions = λ deck slot. ap (λ (p : ℕ → ℕ → Position).
        if deck == unit.deck then unheld (p deck slot) else p deck slot) adds.positions
        ∙ unheld_all old unit.deck (file_of add) deck slot;
    locks = ap (filter (λ (lock : Lock). is_other unit lock.unit)) adds.locks
        ∙ left_with_lock unit (entry_name place) Exclusive old.locks;
  }

  pub ended_is : IsDefined unit part area place bytes old (ends_unit unit recorded)
  ended_is = subst (IsDefined unit part area place bytes old) (sym gives) ended_given

  -- what is in memory then
  module _ (after line : ℕ) (has : has_deck unit.deck file.numbers ≡ true)
      (less : number_of file.numbers unit.deck < 2 ^ 32 - 1) (new : State)
      (done : IsDefined unit part area place bytes old new) where
    locked_else : AllByRecursion (IsLockedIn (filter (λ (lock : Lock). is_other unit lock.unit)
        old.locks)) old.logged
    locked_else =
        subst (AllByRecursion (IsLockedIn (filter (λ (lock : Lock). is_other unit lock.unit)
        old.locks))) (all_pass IsOfDeck (λ (one : Logged). is_other unit one.unit)
        (logged_else unit may.of_utilities) old.logged decks)
        (locked_left unit old.locks old.logged is.now.locked)

    pub defined_now : IsOf (defined after unit line part area add place commit catalog file) new
    defined_now =
        let catalog_is : catalog ≡ entries_in (new.contents 0) =
        sym (ap entries_in (done.contents 0) ∙ may.catalog_is) in
        record {
          catalog = catalog_is;
          locks = λ going. ap (filter (λ (lock : Lock). is_other unit lock.unit))
              (is.now.locks going) ∙ sym done.locks;
          positions = λ d s. without_deck-of unit.deck
              (files_let_go unit.deck (file_of add) file.files) d s
              ∙ ap (λ (p : Position). if d == unit.deck then unheld p else p)
              ((let_go_is file old unit.deck (file_of add) is.now).positions d s)
              ∙ unheld_all old unit.deck (file_of add) d s ∙ sym (done.positions d s);
          numbers = λ d. number_raised unit.deck file.numbers has less d
              ∙ ap (λ (n : ℕ). if d == unit.deck then n + 1 else n) (is.now.numbers d)
              ∙ sym (done.numbers d);
          stopped = is.now.stopped ∙ sym done.stopped;
          unbuilt = subst AreUnbuilt catalog_is may.unbuilt;
          owned = λ going. subst (AllByRecursion (λ (o : Owned). Has parts_laid catalog o.part))
              (sym done.owned) all_laid;
          locked = subst (λ (l : List Lock). AllByRecursion (IsLockedIn l) new.logged)
              (sym done.locks) (subst (AllByRecursion (IsLockedIn
              (filter (λ (lock : Lock). is_other unit lock.unit) old.locks))) (sym done.logged)
              locked_else);
          of_decks = λ going. subst (AllByRecursion IsOfDeck) (sym done.logged) decks;
          of_clusters = λ going. subst (AllByRecursion IsOfCluster) (sym done.befores)
              (is.now.of_clusters may.going);
          kept_by_decks = λ going. subst (AllByRecursion IsKeptByDeck) (sym done.befores)
              (is.now.kept_by_decks may.going);
          deck_clusters = subst (AllByRecursion IsOfClusterByDeck) (sym done.befores)
              is.now.deck_clusters;
        }

  -- ---- a fault of a write

  module _ (stamp : ℕ) where
    abbrev in_doubt : State
    in_doubt = stops stamp recorded

    pub doubt_is : IsInDoubt unit part area add place bytes stamp old in_doubt
    doubt_is = record {
      contents = adds.contents;
      befores = adds.befores;
      logged = adds.logged;
      used = adds.used;
      numbers = adds.numbers;
      owned = adds.owned;
      stopped = refl;
      positions = adds.positions;
      locks = adds.locks;
    }

    locked_too : AllByRecursion (IsLockedIn recorded.locks) recorded.logged
    locked_too =
        let with_this = entry_name place ∷ [] in
        subst (λ (l : List Lock). AllByRecursion (IsLockedIn l) recorded.logged) (sym adds.locks)
        (subst (AllByRecursion (IsLockedIn _)) (sym adds.logged)
        (all_append (IsLockedIn _) old.logged (entry_logged unit place)
        (locked_with unit Exclusive with_this old.locks old.logged is.now.locked)
        (taken unit (entry_name place) old.locks)))

    -- and what is in memory then, of a record file with these catalog, positions and numbers
    pub doubt_now : (to : FileNow) → to.catalog ≡ catalog → to.stopped ≡ Some stamp
        → to.files ≡ files_let_go unit.deck (file_of add) file.files
        → to.numbers ≡ file.numbers → IsOf to in_doubt
    doubt_now to catalogs stops files numbers =
        let catalog_is : to.catalog ≡ entries_in (recorded.contents 0) =
        catalogs ∙ sym catalog_with in
        let never : to.stopped ≡ None → ⊥ = λ none. none-some stamp (sym none ∙ stops) in
        record {
          catalog = catalog_is;
          locks = λ none. absurd (never none);
          positions = λ d s. ap (λ (l : List FilePosition). position_of l d s) files
              ∙ (let_go_is file old unit.deck (file_of add) is.now).positions d s
              ∙ ap (λ (p : ℕ → ℕ → Position). p d s) (sym adds.positions);
          numbers = λ d. ap (λ (l : List DeckNumber). number_of l d) numbers ∙ is.now.numbers d
              ∙ ap (λ (n : ℕ → ℕ). n d) (sym adds.numbers);
          stopped = stops;
          unbuilt = subst AreUnbuilt (sym catalog_with) may.unbuilt;
          owned = λ none. absurd (never none);
          locked = locked_too;
          of_decks = λ none. absurd (never none);
          of_clusters = λ none. absurd (never none);
          kept_by_decks = λ none. absurd (never none);
          deck_clusters = subst (AllByRecursion IsOfClusterByDeck) (sym adds.befores)
              (all_append IsOfClusterByDeck old.befores (entry_image unit place)
              is.now.deck_clusters
              (λ deck. sym (ap (λ (n : ℕ). n == 0) may.of_utilities) ∙ deck));
        }
