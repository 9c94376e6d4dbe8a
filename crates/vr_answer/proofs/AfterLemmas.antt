-- What the entry of a request leaves of the state.
use Rattle.std.proofs.Common.{◌≡◌, ℕ, Bool, true, false, not, cond, List, [], ◌∷◌, ◌++◌, Option}
use Rattle.std.proofs.Common.{Some, None, refl, sym, ap, ◌∙◌, subst, filter, map}
use Rattle.std.proofs.lemmas.Option.{none-some}
use Rattle.std.specs.Prelude.{flat_map}
use Rattle.std.specs.Option.{option_and_then, option_map, option_map_or, option_to_list}
use Rattle.vr_types.specs.declared.lock_name.LockName.{LockName}
use Rattle.vr_types.specs.declared.position.Position.{Position}
use Rattle.vr_types.specs.declared.position.Stand.{Stand}
use Rattle.vr_types.specs.declared.position.Stand.TheVariants.{At, After, End}
use Rattle.vr_types.specs.declared.position.Stand.TheVariants.{None as Nowhere}
use Rattle.vr_types.specs.declared.geometry.Geometry.{Geometry}
use Rattle.vr_types.specs.declared.reply.Refusal.{Refusal}
use Rattle.vr_types.specs.declared.reply.Refusal.TheVariants.{EndOfData, NoAddress, NotFound}
use Rattle.vr_types.specs.declared.reply.Reply.TheVariants.{Done, Refused}
use Rattle.vr_types.specs.declared.request.FileRef.{FileRef}
use Rattle.vr_types.specs.declared.request.Find.{Find}
use Rattle.vr_types.specs.declared.request.Find.TheVariants.{Next, Equal, AtLeast}
use Rattle.vr_types.specs.declared.request.Request.{Request}
use Rattle.vr_types.specs.declared.request.Request.TheVariants.{Get, Point, Add, Update, Erase}
use Rattle.vr_types.specs.declared.request.Request.TheVariants.{EndReq, Commit, Backout}
use Rattle.vr_types.specs.declared.unit.Integrity.TheVariants.{Nri, Cr, Cre}
use Rattle.vr_types.specs.declared.unit.Integrity.{Integrity}
use Rattle.vr_types.specs.declared.unit.Mode.TheVariants.{Exclusive, Shared}
use Rattle.vr_types.specs.declared.unit.Unit.{Unit as UnitOfRecovery}
use Rattle.vr_history.specs.Case.{Case, file_of}
use Rattle.vr_history.specs.Change.{Change, PairMove, change_of, place_changed}
use Rattle.vr_history.specs.Effects.{as_logged, drops_held, ends_unit, holding, locks, moves_file}
use Rattle.vr_history.specs.Found.{Candidate, found, place_read}
use Rattle.vr_history.specs.LogSpace.{Logging, base_logging, loggings_at, new_loggings}
use Rattle.vr_history.specs.LogSpace.{pair_loggings}
use Rattle.vr_history.specs.Names.{change_names, keys_moved, lock_names, read_names, record_name}
use Rattle.vr_history.specs.Names.{with_locks}
use Rattle.vr_history.specs.Opened.{base_of}
use Rattle.vr_history.specs.State.{Logged, State, is_logged}
use Rattle.vr_history.specs.Step.{after_asked, case_of, keeps_read, makes, makes_change, read_on}
use Rattle.vr_history.specs.Step.{stand_refused, stands_after, stands_in}
use Rattle.vr_answer.specs.After.{IsChanged, IsMade, change_at, let_go, logging_at, read_leaves}
use Rattle.vr_answer.specs.After.{stands_as, stands_nowhere}
use Rattle.vr_answer.specs.Least.{found_at}
use Rattle.vr_answer.specs.Scope.{HasNoneBuilt}
use Rattle.vr_answer.proofs.OpeningLemmas.{moves_none}
use Rattle.vr_answer.proofs.PlaceLemmas.{append_none}

-- what a file held is dropped, and the rest stays
only_positions : (deck : ℕ) (o : Option FileRef) (state : State)
    → drops_held deck o state ≡ record state { positions = (drops_held deck o state).positions }
only_positions deck None state = refl
only_positions deck (Some on) state = refl

-- A change is made.
module _ (case : Case) (place : List ℕ) (alone : HasNoneBuilt case.state)
    (at : place_changed case ≡ Some place) where
  pub names_at : change_names case ≡ record_name case place ∷ []
  names_at =
      ap (λ (moves : List PairMove). map (record_name case) (option_to_list (place_changed case))
      ++ flat_map keys_moved (filter (λ move. move.alternate.unique) moves))
      (moves_none case alone)
      ∙ append_none (map (record_name case) (option_to_list (place_changed case)))
      ∙ ap (λ (o : Option (List ℕ)). map (record_name case) (option_to_list o)) at

  abbrev is_known : Bool
  is_known = is_logged case.state case.unit (base_of case) place

  one_logged : (b : Bool) (logging : Logging)
      → cond (not b) (logging ∷ []) [] ≡ cond b [] (logging ∷ [])
  one_logged true logging = refl
  one_logged false logging = refl

  logged_at : new_loggings case ≡ cond is_known [] (logging_at case place ∷ [])
  logged_at =
      ap (λ (o : Option (List ℕ)).
      filter (λ logging. not (is_logged case.state case.unit logging.part logging.place))
      (option_map_or (loggings_at case) o [])) at
      ∙ ap (λ (moves : List PairMove).
      filter (λ logging. not (is_logged case.state case.unit logging.part logging.place))
      (base_logging case place ∷ flat_map pair_loggings moves)) (moves_none case alone)
      ∙ one_logged is_known (base_logging case place)

  as_logged_at : (b : Bool) (logging : Logging)
      → map (as_logged case.unit) (cond b [] (logging ∷ []))
      ≡ cond b [] (as_logged case.unit logging ∷ [])
  as_logged_at true logging = refl
  as_logged_at false logging = refl

  change_is : change_of case ≡ Some (change_at case place)
  change_is = ap (λ (o : Option (List ℕ)). option_map (change_at case) o) at

  -- over any state that differs in where files stand alone
  made_over : (positions : ℕ → ℕ → Position) → lock_names case case.request ≡ change_names case
      → IsMade case place positions (makes case (change_at case place) (record case.state {
        positions = positions;
      }))
  made_over positions names = record {
    contents = refl;
    locks = ap (λ (l : List LockName). with_locks case.unit Exclusive l case.state.locks)
        (names ∙ names_at);
    befores = refl;
    logged = ap (λ (l : List Logging). case.state.logged ++ map (as_logged case.unit) l) logged_at
        ∙ ap (λ (l : List Logged). case.state.logged ++ l)
        (as_logged_at is_known (logging_at case place));
    used = refl;
    positions = refl;
    numbers = refl;
    owned = refl;
    stopped = refl;
  }

  pub made : lock_names case case.request ≡ change_names case
      → IsChanged case place (makes_change case (let_go case))
  made names =
      let here = (let_go case).positions in
      let is : makes_change case (let_go case)
      ≡ makes case (change_at case place) (record case.state { positions = here }) =
      ap (λ (o : Option Change). option_map_or (λ change. makes case change (let_go case)) o
      (let_go case)) change_is
      ∙ ap (λ (s : State). makes case (change_at case place) s)
      (only_positions case.unit.deck (file_of case.request) case.state) in
      subst (λ (s : State). IsMade case place here s) (sym is) (made_over here names)

-- a request that changes
pub after_change : (geometry : Geometry) (state : State) (unit : UnitOfRecovery)
    (request : Request) (place : List ℕ) (feedback : ℕ) (shown bytes : Option (List ℕ))
    → HasNoneBuilt state
    → place_changed (case_of geometry state unit request) ≡ Some place
    → IsChanged (case_of geometry state unit request) place
    (after_asked (case_of geometry state unit request) (Done feedback shown bytes))
after_change geometry state unit (Add on named new) place feedback shown bytes alone at =
    made (case_of geometry state unit (Add on named new)) place alone at refl
after_change geometry state unit (Update on new) place feedback shown bytes alone at =
    made (case_of geometry state unit (Update on new)) place alone at refl
after_change geometry state unit (Erase on) place feedback shown bytes alone at =
    made (case_of geometry state unit (Erase on)) place alone at refl
after_change geometry state unit (Get on find update keeps) place feedback shown bytes alone at =
    absurd (none-some place at)
after_change geometry state unit (Point on find) place feedback shown bytes alone at =
    absurd (none-some place at)
after_change geometry state unit (EndReq on) place feedback shown bytes alone at =
    absurd (none-some place at)
after_change geometry state unit Commit place feedback shown bytes alone at =
    absurd (none-some place at)
after_change geometry state unit Backout place feedback shown bytes alone at =
    absurd (none-some place at)

-- a read by a key moves its file nowhere, and a sequential one after the record that it found
unmoved_equal : (key : List ℕ) (o : Option Candidate)
    → option_and_then (λ candidate. read_on (Equal key) candidate.at) o ≡ None
unmoved_equal key None = refl
unmoved_equal key (Some candidate) = refl

unmoved_least : (key : List ℕ) (o : Option Candidate)
    → option_and_then (λ candidate. read_on (AtLeast key) candidate.at) o ≡ None
unmoved_least key None = refl
unmoved_least key (Some candidate) = refl

module _ (place : List ℕ) where
  abbrev IsAt : Option Candidate → Type 0
  IsAt o = option_map (λ candidate. candidate.at) o ≡ Some place

  moved_on : (o : Option Candidate) → IsAt o
      → option_and_then (λ candidate. read_on Next candidate.at) o ≡ Some (After place)
  moved_on None at = absurd (none-some place at)
  moved_on (Some candidate) at = ap (option_map After) at

  moved_to : (o : Option Candidate) → IsAt o
      → option_map (λ candidate. At candidate.at) o ≡ Some (At place)
  moved_to None at = absurd (none-some place at)
  moved_to (Some candidate) at = ap (option_map At) at

module _ (geometry : Geometry) (state : State) (unit : UnitOfRecovery) (on : FileRef)
    (place : List ℕ) where
  abbrev read : Find → Bool → Integrity → Case
  read find update integrity = case_of geometry state unit (Get on find update integrity)

  one_name : (find : Find) (update : Bool) (integrity : Integrity)
      → place_read (read find update integrity) ≡ Some place
      → read_names (read find update integrity)
      ≡ record_name (read find update integrity) place ∷ []
  one_name find update integrity at =
      ap (λ (o : Option (List ℕ)). map (record_name (read find update integrity))
      (option_to_list o)) at

  -- the lock that a read keeps, and the place that it holds
  kept_read : (find : Find) (update : Bool) (integrity : Integrity)
      → place_read (read find update integrity) ≡ Some place
      → keeps_read (read find update integrity) update integrity
      (let_go (read find update integrity))
      ≡ read_leaves (read find update integrity) on place update integrity
  kept_read find false Nri at = refl
  kept_read find false Cr at = refl
  kept_read find false Cre at =
      ap (λ (names : List LockName). locks unit Shared names (let_go (read find false Cre)))
      (one_name find false Cre at)
  kept_read find true integrity at =
      let case = read find true integrity in
      let locked : List LockName → State = λ names. locks unit Exclusive names (let_go case) in
      ap (λ (o : Option (List ℕ)). option_map_or
      (λ held. moves_file unit.deck on.slot (holding held) (locked (read_names case))) o
      (locked (read_names case))) at
      ∙ ap (λ (names : List LockName). moves_file unit.deck on.slot (holding place)
      (locked names)) (one_name find true integrity at)

  -- and where its file stands then
  reads_to : (find : Find) (update : Bool) (integrity : Integrity) (stand : Option Stand)
      → place_read (read find update integrity) ≡ Some place
      → option_and_then (λ candidate. read_on find candidate.at)
      (found (read find update integrity)) ≡ stand
      → (feedback : ℕ) (shown bytes : Option (List ℕ))
      → after_asked (read find update integrity) (Done feedback shown bytes)
      ≡ stands_in unit.deck (Some on) stand
      (read_leaves (read find update integrity) on place update integrity)
  reads_to find update integrity stand at moves feedback shown bytes =
      let case = read find update integrity in
      ap (λ (o : Option Stand). stands_in unit.deck (Some on) o
      (keeps_read case update integrity (let_go case))) moves
      ∙ ap (λ (s : State). stands_in unit.deck (Some on) stand s)
      (kept_read find update integrity at)

  pub after_read : (update : Bool) (integrity : Integrity) (feedback : ℕ)
      (shown bytes : Option (List ℕ))
      → place_read (read (Equal place) update integrity) ≡ Some place
      → after_asked (read (Equal place) update integrity) (Done feedback shown bytes)
      ≡ read_leaves (read (Equal place) update integrity) on place update integrity
  after_read update integrity feedback shown bytes at =
      reads_to (Equal place) update integrity None at
      (unmoved_equal place (found (read (Equal place) update integrity))) feedback shown bytes

  pub after_least : (key : List ℕ) (update : Bool) (integrity : Integrity) (feedback : ℕ)
      (shown bytes : Option (List ℕ))
      → place_read (read (AtLeast key) update integrity) ≡ Some place
      → after_asked (read (AtLeast key) update integrity) (Done feedback shown bytes)
      ≡ read_leaves (read (AtLeast key) update integrity) on place update integrity
  after_least key update integrity feedback shown bytes at =
      reads_to (AtLeast key) update integrity None at
      (unmoved_least key (found (read (AtLeast key) update integrity))) feedback shown bytes

  pub after_next : (update : Bool) (integrity : Integrity) (feedback : ℕ)
      (shown bytes : Option (List ℕ)) → place_read (read Next update integrity) ≡ Some place
      → found_at (read Next update integrity) ≡ Some place
      → after_asked (read Next update integrity) (Done feedback shown bytes)
      ≡ stands_as (read Next update integrity) on (After place)
      (read_leaves (read Next update integrity) on place update integrity)
  after_next update integrity feedback shown bytes at found_there =
      reads_to Next update integrity (Some (After place)) at
      (moved_on place (found (read Next update integrity)) found_there) feedback shown bytes

  pub after_point : (find : Find) (feedback : ℕ) (shown bytes : Option (List ℕ))
      → found_at (case_of geometry state unit (Point on find)) ≡ Some place
      → after_asked (case_of geometry state unit (Point on find)) (Done feedback shown bytes)
      ≡ stands_as (case_of geometry state unit (Point on find)) on (At place)
      (let_go (case_of geometry state unit (Point on find)))
  after_point find feedback shown bytes found_there =
      let case = case_of geometry state unit (Point on find) in
      ap (λ (o : Option Stand). stands_in unit.deck (Some on) o (let_go case))
      (moved_to place (found case) found_there)

-- where no record is there, a sequential read leaves its file at the end, and a POINT nowhere
pub after_end : (geometry : Geometry) (state : State) (unit : UnitOfRecovery) (on : FileRef)
    (update : Bool) (integrity : Integrity)
    → after_asked (case_of geometry state unit (Get on Next update integrity)) (Refused EndOfData)
    ≡ stands_as (case_of geometry state unit (Get on Next update integrity)) on End
    (let_go (case_of geometry state unit (Get on Next update integrity)))
after_end geometry state unit on update integrity = refl

pub after_lost : (geometry : Geometry) (state : State) (unit : UnitOfRecovery) (on : FileRef)
    (find : Find) → after_asked (case_of geometry state unit (Point on find)) (Refused NotFound)
    ≡ stands_as (case_of geometry state unit (Point on find)) on Nowhere
    (let_go (case_of geometry state unit (Point on find)))
after_lost geometry state unit on find = refl

pub after_no_address : (geometry : Geometry) (state : State) (unit : UnitOfRecovery)
    (on : FileRef) (find : Find)
    → after_asked (case_of geometry state unit (Point on find)) (Refused NoAddress)
    ≡ stands_as (case_of geometry state unit (Point on find)) on Nowhere
    (let_go (case_of geometry state unit (Point on find)))
after_no_address geometry state unit on find = refl

-- a refused request drops what its file holds, and nothing else
stands_same : (deck : ℕ) (o : Option FileRef) (state : State) → stands_in deck o None state ≡ state
stands_same deck None state = refl
stands_same deck (Some on) state = refl

pub after_refused : (case : Case) (refusal : Refusal)
    → stand_refused case.request refusal ≡ None
    → after_asked case (Refused refusal) ≡ let_go case
after_refused case refusal stays =
    ap (λ (o : Option Stand). stands_after case o (let_go case)) stays
    ∙ stands_same case.unit.deck (file_of case.request) (let_go case)

-- an ENDREQ leaves its file nowhere, and the end of a unit what `ends_unit` says
pub after_endreq : (geometry : Geometry) (state : State) (unit : UnitOfRecovery) (on : FileRef)
    (feedback : ℕ) (shown bytes : Option (List ℕ))
    → after_asked (case_of geometry state unit (EndReq on)) (Done feedback shown bytes)
    ≡ stands_nowhere (case_of geometry state unit (EndReq on)) on
after_endreq geometry state unit on feedback shown bytes = refl

pub after_commit : (geometry : Geometry) (state : State) (unit : UnitOfRecovery)
    (feedback : ℕ) (shown bytes : Option (List ℕ))
    → after_asked (case_of geometry state unit Commit) (Done feedback shown bytes)
    ≡ ends_unit unit state
after_commit geometry state unit feedback shown bytes = refl

pub after_backout : (geometry : Geometry) (state : State) (unit : UnitOfRecovery)
    (feedback : ℕ) (shown bytes : Option (List ℕ))
    → after_asked (case_of geometry state unit Backout) (Done feedback shown bytes)
    ≡ ends_unit unit state
after_backout geometry state unit feedback shown bytes = refl
