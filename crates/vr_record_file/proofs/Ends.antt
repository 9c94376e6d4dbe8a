-- What the end of a unit leaves of what is in memory.
use Rattle.std.proofs.Common.{◌≡◌, inl, inr, ℕ, ◌+◌, ◌-◌, ◌<◌, ◌^◌, ◌==◌, ◌||◌, Bool, true}
use Rattle.std.proofs.Common.{false, cond, if◌then◌else◌, List, [], ◌∷◌}
use Rattle.std.proofs.Common.{Option, Some, None, refl, sym, ap, ◌∙◌, subst, arith, filter, map}
use Rattle.std.proofs.lemmas.Bool.Decides.{nat_tests}
use Rattle.std.proofs.lemmas.Option.{none-some}
use Rattle.std.specs.List.{AllByRecursion, list_any}
use Rattle.vr_types.specs.Locks.{Lock}
use Rattle.vr_types.specs.Position.{unheld}
use Rattle.vr_types.specs.declared.lock_name.LockName.TheVariants.{Record}
use Rattle.vr_types.specs.declared.position.Position.{Position}
use Rattle.vr_types.specs.declared.reply.Refusal.{Refusal}
use Rattle.vr_types.specs.declared.reply.Reply.{Reply}
use Rattle.vr_types.specs.declared.reply.Reply.TheVariants.{Done}
use Rattle.vr_types.specs.declared.request.Request.{Request}
use Rattle.vr_types.specs.declared.unit.Unit.{Unit as UnitOfRecovery}
use Rattle.vr_history.specs.declared.entry.What.TheVariants.{Asked}
use Rattle.vr_history.specs.Case.{Case}
use Rattle.vr_history.specs.Effects.{contents_left, ends_unit, has_part, is_other}
use Rattle.vr_history.specs.Effects.{is_utility_live, parts_laid, without_unit}
use Rattle.vr_history.specs.RefusedFile.{no_file}
use Rattle.vr_history.specs.Replies.{MayReply, all_refusals, done_by, first_of, refused_or}
use Rattle.vr_history.specs.Opened.{catalog_of}
use Rattle.vr_history.specs.State.{Logged, State}
use Rattle.vr_history.specs.Step.{after_asked, case_of}
use Rattle.vr_answer.specs.Kept.{is_under}
use Rattle.vr_answer.proofs.CallerLemmas.{any_left, other_held}
use Rattle.vr_record_file.specs.Now.{EndsUnit, FileNow, IsLockedIn, IsOf, IsOfCluster, IsOfDeck}
use Rattle.vr_record_file.specs.Now.{IsKeptByDeck, IsOfClusterByDeck, IsStateOf}
use Rattle.vr_record_file.specs.Now.{MayBeAsked, ended, has_deck, number_of}
use Rattle.vr_record_file.specs.Now.{raised_for, state_now, with_event}
use Rattle.vr_record_file.specs.declared.numbers.DeckNumber.{DeckNumber}
use Rattle.vr_record_file.proofs.Standing.{first_stopped}
use Rattle.vr_record_file.proofs.Steps.{entered, without_deck-of}

-- lists of which some is left
all_if : {X : Type 0} (P : X → Type 0) (x : X) (rest : List X) → P x → AllByRecursion P rest
    → (b : Bool) → AllByRecursion P (cond b (x ∷ rest) rest)
all_if P x rest is are true = (is, are)
all_if P x rest is are false = are

pub all_left : {X : Type 0} (P : X → Type 0) (test : X → Bool) (xs : List X) → AllByRecursion P xs
    → AllByRecursion P (filter test xs)
all_left P test [] are = tt
all_left P test (x ∷ xs) are =
    all_if P x (filter test xs) are.0 (all_left P test xs are.1) (test x)

-- the places that other units logged stay under their locks
module _ (unit : UnitOfRecovery) (locks : List Lock) where
  abbrev left : List Lock
  left = filter (λ lock. is_other unit lock.unit) locks

  locked_if : (logged : Logged) (rest : List Logged) → IsLockedIn locks logged
      → AllByRecursion (IsLockedIn left) rest → (b : Bool) → is_other unit logged.unit ≡ b
      → AllByRecursion (IsLockedIn left) (cond b (logged ∷ rest) rest)
  locked_if logged rest is are true other = (
    any_left (λ lock. is_other unit lock.unit)
        (is_under logged.unit (Record (record { 0 = logged.part }) logged.place))
        (other_held unit logged.unit (Record (record { 0 = logged.part }) logged.place) other)
        locks is,
    are,
  )
  locked_if logged rest is are false own = are

  pub locked_left : (logged : List Logged) → AllByRecursion (IsLockedIn locks) logged
      → AllByRecursion (IsLockedIn left) (filter (λ log. is_other unit log.unit) logged)
  locked_left [] are = tt
  locked_left (one ∷ logged) are =
      locked_if one (filter (λ log. is_other unit log.unit) logged) are.0
      (locked_left logged are.1) (is_other unit one.unit) refl

-- no unit of the utilities is live
pub none_live : (logged : List Logged) → AllByRecursion IsOfDeck logged
    → list_any (λ one. one.unit.deck == 0) logged ≡ false
none_live [] are = refl
none_live (one ∷ logged) are =
    ap (λ (b : Bool). b || list_any (λ one. one.unit.deck == 0) logged) are.0.0
    ∙ none_live logged are.1

-- the numbers of decks
raised_other : (deck other : ℕ) (numbers : List DeckNumber) → (other == deck) ≡ false
    → number_of (map (raised_for deck) numbers) other ≡ number_of numbers other
raised_other deck other [] apart = refl
raised_other deck other (number ∷ numbers) apart =
    grind (arith, nat_tests, raised_other deck other numbers apart)

raised_own : (deck : ℕ) (numbers : List DeckNumber) → has_deck deck numbers ≡ true
    → number_of numbers deck < 2 ^ 32 - 1
    → number_of (map (raised_for deck) numbers) deck ≡ number_of numbers deck + 1
raised_own deck [] has less = absurd (cc)
raised_own deck (number ∷ numbers) has less =
    grind (arith, nat_tests, raised_own deck numbers)

pub number_raised : (deck : ℕ) (numbers : List DeckNumber) → has_deck deck numbers ≡ true
    → number_of numbers deck < 2 ^ 32 - 1 → (other : ℕ)
    → number_of (map (raised_for deck) numbers) other
    ≡ (if other == deck then number_of numbers other + 1 else number_of numbers other)
number_raised deck numbers has less other = by_test (other == deck) refl
  where
    by_test : (b : Bool) → (other == deck) ≡ b
        → number_of (map (raised_for deck) numbers) other
        ≡ (if b then number_of numbers other + 1 else number_of numbers other)
    by_test true is = let same : other ≡ deck = grind (arith, nat_tests, is) in
        subst (λ (d : ℕ). number_of (map (raised_for deck) numbers) d ≡ number_of numbers d + 1)
        (sym same) (raised_own deck numbers has less)
    by_test false is = raised_other deck other numbers is

-- What the end of a unit leaves where no unit of the utilities is live then: what the catalog
-- hasn't goes.
abbrev pub given_back : UnitOfRecovery → State → State
given_back unit state =
    let alone = without_unit unit state in
    record alone {
      contents = contents_left alone;
      owned = filter (λ owned. has_part (parts_laid (catalog_of alone)) owned.part) alone.owned;
    }

pub gives_back_if : (unit : UnitOfRecovery) (state : State)
    → is_utility_live (without_unit unit state) ≡ false
    → ends_unit unit state ≡ given_back unit state
gives_back_if unit state none =
    ap (λ (b : Bool). cond b (without_unit unit state) (given_back unit state)) none

-- the end of a unit
module _ (file : FileNow) (state : State) (unit : UnitOfRecovery) (is : IsOf file state)
    (going : file.stopped ≡ None) (has : has_deck unit.deck file.numbers ≡ true)
    (less : number_of file.numbers unit.deck < 2 ^ 32 - 1) where
  gives : ends_unit unit state ≡ given_back unit state
  gives = gives_back_if unit state (none_live (without_unit unit state).logged
      (all_left IsOfDeck (λ log. is_other unit log.unit) state.logged (is.of_decks going)))

  ended_given : IsOf (ended unit file) (given_back unit state)
  ended_given = record {
    catalog = is.catalog;
    locks = λ going. ap (filter (λ lock. is_other unit lock.unit)) (is.locks going);
    positions = λ d s. without_deck-of unit.deck file.files d s
        ∙ ap (λ (p : Position). if d == unit.deck then unheld p else p) (is.positions d s);
    numbers = λ d. number_raised unit.deck file.numbers has less d
        ∙ ap (λ (n : ℕ). if d == unit.deck then n + 1 else n) (is.numbers d);
    stopped = is.stopped;
    unbuilt = is.unbuilt;
    owned = λ on. all_left (λ owned. has_part (parts_laid file.catalog) owned.part ≡ true)
        (λ owned. has_part (parts_laid (catalog_of (without_unit unit state))) owned.part)
        state.owned (is.owned on);
    locked = locked_left unit state.locks state.logged is.locked;
    of_decks = λ on. all_left IsOfDeck (λ log. is_other unit log.unit) state.logged
        (is.of_decks on);
    of_clusters = λ on. all_left IsOfCluster (λ kept. is_other unit kept.unit) state.befores
        (is.of_clusters on);
    kept_by_decks = λ on. all_left IsKeptByDeck (λ kept. is_other unit kept.unit) state.befores
        (is.kept_by_decks on);
    deck_clusters = all_left IsOfClusterByDeck (λ kept. is_other unit kept.unit) state.befores
        is.deck_clusters;
  }

  pub ended_is : IsOf (ended unit file) (ends_unit unit state)
  ended_is = subst (λ (s : State). IsOf (ended unit file) s) (sym gives) ended_given

-- a request is done only where the volume hasn't stopped
no_refusal : (o : Option Refusal) (done : Reply) (feedback : ℕ) (place bytes : Option (List ℕ))
    → Done feedback place bytes ≡ refused_or o done → o ≡ None
no_refusal None done feedback place bytes is = refl
no_refusal (Some refusal) done feedback place bytes is = absurd (cc)

not_stopped : (case : Case) (stopped : Option ℕ) → case.state.stopped ≡ stopped
    → first_of (all_refusals case) ≡ None → stopped ≡ None
not_stopped case None is none = refl
not_stopped case (Some stamp) is none =
    absurd (none-some _ (sym none
    ∙ first_stopped (no_file case) case.state.stopped stamp _ is))

pub done_going : (case : Case) (feedback : ℕ) (place bytes : Option (List ℕ))
    → MayReply case (Done feedback place bytes) → case.state.stopped ≡ None
done_going case feedback place bytes (inl answered) =
    not_stopped case case.state.stopped refl
    (no_refusal (first_of (all_refusals case)) (done_by case case.request) feedback place bytes
    answered.0)
done_going case feedback place bytes (inr (inl lacks)) = absurd (cc)
done_going case feedback place bytes (inr (inr (inl lacks))) = absurd (cc)
done_going case feedback place bytes (inr (inr (inr meets))) =
    absurd (elim meets.1 as (λ _. ⊥) [ inl refused ↦ cc | inr refused ↦ cc ])

pub ended_state : (opening : State) (file : FileNow) (after line : ℕ) (unit : UnitOfRecovery)
    (request : Request) → EndsUnit request → IsStateOf opening file
    → MayBeAsked opening file unit request (Done 0 None None)
    → has_deck unit.deck file.numbers ≡ true → number_of file.numbers unit.deck < 2 ^ 32 - 1
    → IsStateOf opening (with_event after unit line (Asked request (Done 0 None None))
    (ended unit file))
ended_state opening file after line unit request ends is may has less =
    entered opening file (ended unit file) after line unit (Asked request (Done 0 None None)) is (
      may.current,
      may.reply_is,
    ) may.goes_on refl (by_request ends)
  where
    going : file.stopped ≡ None
    going = is.now.stopped
        ∙ done_going (case_of file.geometry (state_now opening file) unit request) 0 None None
        may.reply_is

    by_request : EndsUnit request
        → IsOf (ended unit file)
        (after_asked (case_of file.geometry (state_now opening file) unit request)
        (Done 0 None None))
    by_request (inl commit) =
        subst (λ (r : Request). IsOf (ended unit file)
        (after_asked (case_of file.geometry (state_now opening file) unit r)
        (Done 0 None None))) (sym commit)
        (ended_is file (state_now opening file) unit is.now going has less)
    by_request (inr backout) =
        subst (λ (r : Request). IsOf (ended unit file)
        (after_asked (case_of file.geometry (state_now opening file) unit r)
        (Done 0 None None))) (sym backout)
        (ended_is file (state_now opening file) unit is.now going has less)
