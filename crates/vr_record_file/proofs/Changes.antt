-- What changes of records leave of what is in memory.
use Rattle.std.proofs.Common.{◌≡◌, ℕ, ◌==◌, Bool, true, false, cond, if◌then◌else◌, List, []}
use Rattle.std.proofs.Common.{◌∷◌, ◌++◌}
use Rattle.std.proofs.Common.{◌&&◌, not, filter, Option, Some, None, refl, sym, ap, ◌∙◌, subst}
use Rattle.std.proofs.Common.{arith}
use Rattle.std.proofs.lemmas.Bool.Decides.{nat_tests}
use Rattle.std.proofs.lemmas.Option.{none-some, same_Some}
use Rattle.std.specs.List.{AllByRecursion}
use Rattle.std.specs.Option.{option_map_or}
use Rattle.vr_catalog.specs.Catalog.{entries_in}
use Rattle.vr_types.specs.Content.{Content}
use Rattle.vr_types.specs.Locks.{Lock, same_unit}
use Rattle.vr_types.specs.declared.lock_name.LockName.{LockName}
use Rattle.vr_types.specs.declared.lock_name.LockName.TheVariants.{Record}
use Rattle.vr_types.specs.declared.reply.Reply.{Reply}
use Rattle.vr_types.specs.declared.reply.Reply.TheVariants.{Done}
use Rattle.vr_types.specs.declared.request.Request.{Request}
use Rattle.vr_types.specs.declared.request.Request.TheVariants.{Get, Point, Add, Update, Erase}
use Rattle.vr_types.specs.declared.request.Request.TheVariants.{EndReq, Commit, Backout}
use Rattle.vr_types.specs.declared.unit.Mode.{Mode}
use Rattle.vr_types.specs.declared.unit.Mode.TheVariants.{Exclusive}
use Rattle.vr_types.specs.declared.unit.AreaNo.{AreaNo}
use Rattle.vr_types.specs.declared.unit.PartNo.{PartNo}
use Rattle.vr_types.specs.declared.unit.Unit.{Unit as UnitOfRecovery}
use Rattle.vr_history.specs.declared.entry.What.TheVariants.{Asked, Claimed, Undone, Split}
use Rattle.vr_history.specs.Case.{Case, file_of}
use Rattle.vr_history.specs.Change.{Change, place_changed}
use Rattle.vr_history.specs.Effects.{changes, has_part, image_kept, keeps_other, last_of}
use Rattle.vr_history.specs.Effects.{parts_laid}
use Rattle.vr_history.specs.Effects.{placed_in, without_last, takes_out, with_change}
use Rattle.vr_history.specs.Names.{change_names, lock_names, record_name, with_lock, with_locks}
use Rattle.vr_history.specs.Opened.{base_of, catalog_of}
use Rattle.vr_history.specs.State.{BeforeImage, Logged, Owned, State}
use Rattle.vr_history.specs.Step.{IsLastKept, IsLeastFree, after_asked, case_of, change_back}
use Rattle.vr_history.proofs.Same.{unit_same}
use Rattle.vr_answer.specs.After.{IsChanged, change_at}
use Rattle.vr_answer.specs.Scope.{AreUnbuilt}
use Rattle.vr_answer.proofs.CallerLemmas.{after_change, kept_with, names_at, taken}
use Rattle.vr_record_file.specs.Now.{FileNow, IsLockedIn, IsOf, IsOfCluster, IsOfDeck, IsStateOf}
use Rattle.vr_record_file.specs.Now.{IsKeptByDeck, IsOfClusterByDeck, MayBeAsked}
use Rattle.vr_record_file.specs.Now.{lets_go, state_now, with_event}
use Rattle.vr_record_file.proofs.Ends.{all_left}
use Rattle.vr_record_file.proofs.Legal.{is_no_fault}
use Rattle.vr_record_file.proofs.Steps.{entered, let_go_is}

-- a change of another part leaves the catalog
turned : (n : ℕ) → (n == 0) ≡ false → (0 == n) ≡ false
turned n is = grind (arith, nat_tests, is)

catalog_stays : (change : Change) (contents : ℕ → Content) → (change.part == 0) ≡ false
    → with_change change contents 0 ≡ contents 0
catalog_stays change contents other =
    ap (λ (b : Bool). if b then placed_in change.place change.new (contents 0) else contents 0)
    (turned change.part other)

-- places under locks
pub locked_with : (unit : UnitOfRecovery) (mode : Mode) (names : List LockName)
    (locks : List Lock) (logged : List Logged) → AllByRecursion (IsLockedIn locks) logged
    → AllByRecursion (IsLockedIn (with_locks unit mode names locks)) logged
locked_with unit mode names locks [] are = tt
locked_with unit mode names locks (one ∷ logged) are = (
  kept_with unit mode names one.unit (Record (record { 0 = one.part }) one.place) locks are.0,
  locked_with unit mode names locks logged are.1,
)

pub all_append : {X : Type 0} (P : X → Type 0) (xs : List X) (x : X) → AllByRecursion P xs → P x
    → AllByRecursion P (xs ++ x ∷ [])
all_append P [] x are is = (is, tt)
all_append P (first ∷ xs) x are is = (are.0, all_append P xs x are.1 is)

append_nil : {X : Type 0} (P : X → Type 0) (xs : List X) → AllByRecursion P xs
    → AllByRecursion P (xs ++ [])
append_nil P [] are = tt
append_nil P (x ∷ xs) are = (are.0, append_nil P xs are.1)

all_unless : {X : Type 0} (P : X → Type 0) (xs : List X) (x : X) (b : Bool)
    → AllByRecursion P xs → P x → AllByRecursion P (xs ++ cond b [] (x ∷ []))
all_unless P xs x true are is = append_nil P xs are
all_unless P xs x false are is = all_append P xs x are is

all_kept : {X : Type 0} (P : X → Type 0) (xs : List X) (x : X) (b : Bool)
    → AllByRecursion P xs → P x → AllByRecursion P (cond b xs (xs ++ x ∷ []))
all_kept P xs x true are is = are
all_kept P xs x false are is = all_append P xs x are is

-- a change is made
module _ (file : FileNow) (before : List Lock) (state : State) (unit : UnitOfRecovery)
    (request : Request) (place : List ℕ) (is : IsOf (record file { locks = before }) state)
    (of_deck : (unit.deck == 0) ≡ false) where
  abbrev case : Case
  case = case_of file.geometry state unit request

  abbrev name : LockName
  name = record_name case place

  abbrev now_locks : List Lock
  now_locks = with_lock unit Exclusive name state.locks

  changed_is : (after : State) → IsChanged case place after
      → file.locks ≡ with_locks unit Exclusive (name ∷ []) before
      → (base_of case == 0) ≡ false → IsOf (lets_go unit.deck request file) after
  changed_is after made locked other =
      let catalog : catalog_of state ≡ catalog_of after =
      ap entries_in (sym (ap (λ (c : ℕ → Content). c 0) made.contents
      ∙ catalog_stays (change_at case place) state.contents other)) in
      let one : Logged = record { unit = unit; part = base_of case; place = place } in
      let old = let_go_is (record file { locks = before }) state unit.deck (file_of request) is in
      record {
        catalog = is.catalog ∙ catalog;
        locks = λ going. locked ∙ ap (with_locks unit Exclusive (name ∷ [])) (is.locks going)
            ∙ sym made.locks;
        positions = λ d s. old.positions d s ∙ ap (λ (p : ℕ → ℕ → _). p d s) (sym made.positions);
        numbers = λ d. is.numbers d ∙ ap (λ (n : ℕ → ℕ). n d) (sym made.numbers);
        stopped = is.stopped ∙ sym made.stopped;
        unbuilt = subst AreUnbuilt catalog is.unbuilt;
        owned = λ going. subst (λ (l : List Owned). AllByRecursion
            (λ owned. has_part (parts_laid file.catalog) owned.part ≡ true) l) (sym made.owned)
            (is.owned going);
        locked = subst (λ (l : List Lock). AllByRecursion (IsLockedIn l) after.logged)
            (sym made.locks)
            (subst (λ (l : List Logged). AllByRecursion (IsLockedIn now_locks) l)
            (sym made.logged) (all_unless (IsLockedIn now_locks) state.logged one _
            (locked_with unit Exclusive (name ∷ []) state.locks state.logged is.locked)
            (taken unit name state.locks)));
        of_decks = λ going. subst (λ (l : List Logged). AllByRecursion IsOfDeck l)
            (sym made.logged)
            (all_unless IsOfDeck state.logged one _ (is.of_decks going) (of_deck, other));
        of_clusters = λ going. subst (λ (l : List BeforeImage). AllByRecursion IsOfCluster l)
            (sym made.befores) (all_kept IsOfCluster state.befores
            (image_kept state unit (change_at case place)) _ (is.of_clusters going) other);
        kept_by_decks = λ going. subst (λ (l : List BeforeImage). AllByRecursion IsKeptByDeck l)
            (sym made.befores) (all_kept IsKeptByDeck state.befores
            (image_kept state unit (change_at case place)) _ (is.kept_by_decks going) of_deck);
        deck_clusters = subst (λ (l : List BeforeImage). AllByRecursion IsOfClusterByDeck l)
            (sym made.befores) (all_kept IsOfClusterByDeck state.befores
            (image_kept state unit (change_at case place)) _ is.deck_clusters (λ deck. other));
      }

-- the names of a change
names_of : (case : Case) (request : Request) (place : List ℕ) → case.request ≡ request
    → place_changed case ≡ Some place → lock_names case request ≡ change_names case
names_of case (Add on named bytes) place is at = refl
names_of case (Update on bytes) place is at = refl
names_of case (Erase on) place is at = refl
names_of case (Get on find update integrity) place is at = absurd (cc)
names_of case (Point on find) place is at = absurd (cc)
names_of case (EndReq on) place is at = absurd (cc)
names_of case Commit place is at = absurd (cc)
names_of case Backout place is at = absurd (cc)

pub changed_state : (opening : State) (file : FileNow) (after line : ℕ) (unit : UnitOfRecovery)
    (request : Request) (reply : Reply) (before : List Lock) (place : List ℕ) (feedback : ℕ)
    (shown bytes : Option (List ℕ)) → IsStateOf opening (record file { locks = before })
    → MayBeAsked opening (record file { locks = before }) unit request reply
    → reply ≡ Done feedback shown bytes
    → place_changed (case_of file.geometry (state_now opening (record file { locks = before })) unit
    request) ≡ Some place
    → file.locks ≡ with_locks unit Exclusive (lock_names (case_of file.geometry
    (state_now opening (record file { locks = before })) unit request) request) before
    → (base_of (case_of file.geometry (state_now opening (record file { locks = before })) unit
    request) == 0) ≡ false
    → IsStateOf opening (with_event after unit line (Asked request reply)
    (lets_go unit.deck request file))
changed_state opening file after line unit request reply before place feedback shown bytes is may
    done at locked other =
    let was : FileNow = record file { locks = before } in
    let state : State = state_now opening was in
    let case : Case = case_of file.geometry state unit request in
    let names : lock_names case request ≡ record_name case place ∷ [] =
    names_of case request place refl at ∙ names_at case place is.now.unbuilt at in
    entered opening was (lets_go unit.deck request file) after line unit (Asked request reply) is (
      may.current,
      may.reply_is,
    ) may.goes_on (no_refusal reply done)
    (changed_is file before state unit request place is.now may.of_deck
    (after_asked case reply)
    (subst (λ (r : Reply). IsChanged case place (after_asked case r)) (sym done)
    (after_change file.geometry state unit request place feedback shown bytes is.now.unbuilt at))
    (locked ∙ ap (λ (l : List LockName). with_locks unit Exclusive l before) names) other)
  where
    no_refusal : (reply : Reply) → reply ≡ Done feedback shown bytes
        → is_no_fault (Asked request reply) ≡ true
    no_refusal reply done = ap (λ (r : Reply). is_no_fault (Asked request r)) done

-- a before-image is put back
module _ (P : BeforeImage → Type 0) where
  less_if : (b : Bool) (kept : BeforeImage) (rest less : List BeforeImage) → P kept
      → AllByRecursion P rest → AllByRecursion P less → AllByRecursion P (cond b rest (kept ∷ less))
  less_if true kept rest less is are are_less = are
  less_if false kept rest less is are are_less = (is, are_less)

  all_less : (unit : UnitOfRecovery) (befores : List BeforeImage) → AllByRecursion P befores
      → AllByRecursion P (without_last unit befores)
  all_less unit [] are = tt
  all_less unit (kept ∷ befores) are =
      less_if (same_unit unit kept.unit && not (keeps_other unit befores)) kept befores
      (without_last unit befores) are.0 are.1 (all_less unit befores are.1)

  -- the last of some before-images is one of them
  last_one : (befores : List BeforeImage) → AllByRecursion P befores → (kept : BeforeImage)
      → last_of befores ≡ Some kept → P kept
  last_one [] are kept last = absurd (none-some kept last)
  last_one (one ∷ []) are kept last = subst P (same_Some one kept last) are.0
  last_one (one ∷ next ∷ rest) are kept last = last_one (next ∷ rest) are.1 kept last

  -- and of those that a unit keeps, one of that unit
  last_own : (unit : UnitOfRecovery) (befores : List BeforeImage) → AllByRecursion P befores
      → (kept : BeforeImage)
      → last_of (filter (λ kept. same_unit unit kept.unit) befores) ≡ Some kept → P kept
  last_own unit befores are =
      last_one (filter (λ kept. same_unit unit kept.unit) befores)
      (all_left P (λ kept. same_unit unit kept.unit) befores are)

-- a unit that keeps a before-image of a deck is of that deck
owned_if : (unit : UnitOfRecovery) (one : BeforeImage) (rest : List BeforeImage)
    → IsKeptByDeck one → AllByRecursion (λ kept. (unit.deck == 0) ≡ false) rest → (b : Bool)
    → same_unit unit one.unit ≡ b
    → AllByRecursion (λ (kept : BeforeImage). (unit.deck == 0) ≡ false) (cond b (one ∷ rest) rest)
owned_if unit one rest is are true same = (
  ap (λ (u : UnitOfRecovery). u.deck == 0) (unit_same unit one.unit same) ∙ is,
  are,
)
owned_if unit one rest is are false other = are

owned_by : (unit : UnitOfRecovery) (befores : List BeforeImage)
    → AllByRecursion IsKeptByDeck befores
    → AllByRecursion (λ (kept : BeforeImage). (unit.deck == 0) ≡ false)
    (filter (λ kept. same_unit unit kept.unit) befores)
owned_by unit [] are = tt
owned_by unit (one ∷ befores) are =
    owned_if unit one (filter (λ kept. same_unit unit kept.unit) befores) are.0
    (owned_by unit befores are.1) (same_unit unit one.unit) refl

module _ (file : FileNow) (state : State) (unit : UnitOfRecovery) (kept : BeforeImage)
    (is : IsOf file state) (other : (kept.part == 0) ≡ false) where
  abbrev put : State
  put = takes_out unit (changes (change_back state kept) state)

  put_is : IsOf file put
  put_is =
      let catalog : catalog_of state ≡ catalog_of put =
      ap entries_in (sym (catalog_stays (change_back state kept) state.contents other)) in
      record {
        catalog = is.catalog ∙ catalog;
        locks = is.locks;
        positions = is.positions;
        numbers = is.numbers;
        stopped = is.stopped;
        unbuilt = subst AreUnbuilt catalog is.unbuilt;
        owned = is.owned;
        locked = is.locked;
        of_decks = is.of_decks;
        of_clusters = λ going. all_less IsOfCluster unit state.befores (is.of_clusters going);
        kept_by_decks = λ going. all_less IsKeptByDeck unit state.befores (is.kept_by_decks going);
        deck_clusters = all_less IsOfClusterByDeck unit state.befores is.deck_clusters;
      }

pub undone_state : (opening : State) (file : FileNow) (after : ℕ) (unit : UnitOfRecovery)
    (line : ℕ) (part : PartNo) (place : List ℕ) → IsStateOf opening file → file.stopped ≡ None
    → IsLastKept (state_now opening file) unit part.0 place
    → IsStateOf opening (with_event after unit line (Undone part place) file)
undone_state opening file after unit line part place is going last =
    let state : State = state_now opening file in
    let of_deck : (unit.deck == 0) ≡ false = last_one (λ (kept : BeforeImage).
    (unit.deck == 0) ≡ false) (filter (λ kept. same_unit unit kept.unit) state.befores)
    (owned_by unit state.befores (is.now.kept_by_decks going)) last.0 last.1 in
    entered opening file file after line unit (Undone part place) is last of_deck refl
    (subst (λ (o : Option BeforeImage). IsOf file (option_map_or
    (λ this. takes_out unit (changes (change_back state this) state)) o state)) (sym last.1)
    (put_is file state unit last.0 is.now
    (last_own IsOfCluster unit state.befores (is.now.of_clusters going) last.0 last.1)))

-- a split moves nothing
pub split_state : (opening : State) (file : FileNow) (after : ℕ) (unit : UnitOfRecovery)
    (line : ℕ) (part : PartNo) → IsStateOf opening file
    → IsStateOf opening (with_event after unit line (Split part) file)
split_state opening file after unit line part is =
    entered opening file file after line unit (Split part) is tt tt refl is.now

-- an area is given to a part of the catalog
pub claimed_state : (opening : State) (file : FileNow) (after : ℕ) (unit : UnitOfRecovery)
    (line : ℕ) (part : PartNo) (area : AreaNo) → IsStateOf opening file
    → IsLeastFree file.geometry (state_now opening file) area.0
    → has_part (parts_laid file.catalog) part.0 ≡ true
    → IsStateOf opening (with_event after unit line (Claimed part area) file)
claimed_state opening file after unit line part area is free laid =
    let now = is.now in
    entered opening file file after line unit (Claimed part area) is free tt refl (record {
      catalog = now.catalog;
      locks = now.locks;
      positions = now.positions;
      numbers = now.numbers;
      stopped = now.stopped;
      unbuilt = now.unbuilt;
      owned = λ going. all_append
          (λ owned. has_part (parts_laid file.catalog) owned.part ≡ true)
          (state_now opening file).owned (record { area = area.0; part = part.0 })
          (now.owned going) laid;
      locked = now.locked;
      of_decks = now.of_decks;
      of_clusters = now.of_clusters;
      kept_by_decks = now.kept_by_decks;
      deck_clusters = now.deck_clusters;
    })
