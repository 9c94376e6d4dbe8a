-- What reads, POINT, ENDREQ and refusals leave of what is in memory.
use Rattle.std.proofs.Common.{◌≡◌, ℕ, Bool, true, false, not, cond, if◌then◌else◌, List, Option}
use Rattle.std.proofs.Common.{Some, None, refl, sym, ap, ◌∙◌, subst}
use Rattle.std.proofs.lemmas.Option.{none-some}
use Rattle.std.specs.Option.{option_and_then, option_map, option_map_or, unwrap_or}
use Rattle.vr_browse.specs.Positions.{SetsOnly}
use Rattle.vr_browse.specs.declared.positions.FilePosition.{FilePosition}
use Rattle.vr_types.specs.declared.lock_name.LockName.{LockName}
use Rattle.vr_types.specs.declared.position.Position.{Position}
use Rattle.vr_types.specs.declared.position.Stand.{Stand}
use Rattle.vr_types.specs.declared.position.Stand.TheVariants.{At, None as Nowhere}
use Rattle.vr_types.specs.declared.reply.Refusal.{Refusal}
use Rattle.vr_types.specs.declared.reply.Reply.{Reply}
use Rattle.vr_types.specs.declared.reply.Reply.TheVariants.{Done, Refused}
use Rattle.vr_types.specs.declared.request.FileRef.{FileRef}
use Rattle.vr_types.specs.declared.request.Find.{Find}
use Rattle.vr_types.specs.declared.request.Request.{Request}
use Rattle.vr_types.specs.declared.request.Request.TheVariants.{Get, Point, EndReq}
use Rattle.vr_types.specs.declared.unit.Integrity.{Integrity}
use Rattle.vr_types.specs.declared.unit.Integrity.TheVariants.{Nri, Cr, Cre}
use Rattle.vr_types.specs.declared.unit.Mode.{Mode}
use Rattle.vr_types.specs.declared.unit.Mode.TheVariants.{Shared, Exclusive}
use Rattle.vr_types.specs.declared.unit.Unit.{Unit as UnitOfRecovery}
use Rattle.vr_history.specs.declared.entry.What.TheVariants.{Asked}
use Rattle.vr_history.specs.Case.{Case, file_of}
use Rattle.vr_history.specs.Effects.{drops_held, holding, locks, moves_file}
use Rattle.vr_history.specs.Found.{Candidate, found, place_read}
use Rattle.vr_history.specs.Legal.{is_write_fault}
use Rattle.vr_history.specs.Names.{lock_names, with_locks}
use Rattle.vr_history.specs.State.{State}
use Rattle.vr_history.specs.Step.{after_asked, case_of, read_on, stand_refused, stands_in}
use Rattle.vr_answer.specs.Least.{found_at}
use Rattle.vr_record_file.specs.Now.{FileNow, IsOf, IsStateOf, MayBeAsked, files_let_go}
use Rattle.vr_record_file.specs.Now.{lets_go, locks_kept, mode_kept, stand_done, state_now}
use Rattle.vr_record_file.specs.Now.{with_event}
use Rattle.vr_record_file.proofs.Changes.{locked_with}
use Rattle.vr_record_file.proofs.Legal.{is_no_fault}
use Rattle.vr_record_file.proofs.Moved.{lets_go_is, moves_is}
use Rattle.vr_record_file.proofs.Steps.{entered, let_go_is}

-- locks are taken
pub locks_is : (file : FileNow) (state : State) (unit : UnitOfRecovery) (mode : Mode)
    (names : List LockName) → IsOf file state
    → IsOf (record file { locks = with_locks unit mode names file.locks })
    (locks unit mode names state)
locks_is file state unit mode names is = record {
  catalog = is.catalog;
  locks = λ going. ap (with_locks unit mode names) (is.locks going);
  positions = is.positions;
  numbers = is.numbers;
  stopped = is.stopped;
  unbuilt = is.unbuilt;
  owned = is.owned;
  locked = locked_with unit mode names state.locks state.logged is.locked;
  of_decks = is.of_decks;
  of_clusters = is.of_clusters;
  kept_by_decks = is.kept_by_decks;
  deck_clusters = is.deck_clusters;
}

roomy_is : (file : FileNow) (state : State) (room : ℕ) → IsOf file state
    → IsOf (record file { files_room = room }) state
roomy_is file state room is = record {
  catalog = is.catalog;
  locks = is.locks;
  positions = is.positions;
  numbers = is.numbers;
  stopped = is.stopped;
  unbuilt = is.unbuilt;
  owned = is.owned;
  locked = is.locked;
  of_decks = is.of_decks;
  of_clusters = is.of_clusters;
  kept_by_decks = is.kept_by_decks;
  deck_clusters = is.deck_clusters;
}

abbrev the-position : Stand → Option (List ℕ) → Position
the-position stand held = record { stand = stand; held = held }

-- a read
moved-read : (find : Find) (o : Option Candidate)
    → option_and_then (λ candidate. read_on find candidate.at) o
    ≡ option_and_then (read_on find) (option_map (λ candidate. candidate.at) o)
moved-read find None = refl
moved-read find (Some candidate) = refl

module _ (file : FileNow) (state : State) (unit : UnitOfRecovery) (on : FileRef) (find : Find)
    (stand : Stand) (new : List FilePosition) (room : ℕ) (is : IsOf file state) where
  abbrev get : Bool → Integrity → Request
  get update integrity = Get on find update integrity

  abbrev case : Bool → Integrity → Case
  case update integrity = case_of file.geometry state unit (get update integrity)

  abbrev moved : Bool → Integrity → Option Stand
  moved update integrity =
      option_and_then (λ candidate. read_on find candidate.at) (found (case update integrity))

  abbrev Reads : Bool → Integrity → Type 0
  Reads update integrity =
      (names : List LockName) → names ≡ lock_names (case update integrity) (get update integrity)
      → (held : Option (List ℕ)) (place : List ℕ) → held ≡ cond update (Some place) None
      → SetsOnly file.files new unit.deck on.slot (record { stand = stand; held = held })
      → stand ≡ unwrap_or (moved update integrity) (state.positions unit.deck on.slot).stand
      → place_read (case update integrity) ≡ Some place
      → (feedback : ℕ) (shown bytes : Option (List ℕ))
      → IsOf (record file {
        locks = locks_kept unit (mode_kept (get update integrity)) names file.locks;
        files = new;
        files_room = room;
      }) (after_asked (case update integrity) (Done feedback shown bytes))

  -- what the file holds is dropped
  abbrev let_go : State → State
  let_go locked = drops_held unit.deck (Some on) locked

  for_update : (integrity : Integrity) → Reads true integrity
  for_update integrity names are held place is_held sets stands at feedback shown bytes =
      let taken : List LockName → State = λ l. locks unit Exclusive l (let_go state) in
      let to : FileNow = record file {
        locks = with_locks unit Exclusive names file.locks;
        files = new;
        files_room = room;
      } in
      let whole : List LockName = lock_names (case true integrity) (get true integrity) in
      subst (λ (o : Option (List ℕ)). IsOf to (stands_in unit.deck (Some on)
      (moved true integrity) (option_map_or (λ (there : List ℕ). moves_file unit.deck on.slot
      (holding there) (taken whole)) o (taken whole)))) (sym at)
      (subst (λ (l : List LockName). IsOf to (stands_in unit.deck (Some on)
      (moved true integrity) (moves_file unit.deck on.slot (holding place) (taken l)))) are
      (moves_is (record file { locks = with_locks unit Exclusive names file.locks })
      (locks unit Exclusive names state) unit.deck on stand held new room
      (λ here position. if here then holding place position else position)
      (λ stood. ap (λ (o : Option (List ℕ)). the-position stood o) (sym is_held))
      (λ position. refl) sets (locks_is file state unit Exclusive names is)
      (moved true integrity) stands))

  nothing-held : (held : Option (List ℕ)) → held ≡ None
      → SetsOnly file.files new unit.deck on.slot (the-position stand held)
      → SetsOnly file.files new unit.deck on.slot (the-position stand None)
  nothing-held held none sets =
      subst (λ (o : Option (List ℕ)). SetsOnly file.files new unit.deck on.slot
      (the-position stand o)) none sets

  shared : Reads false Cre
  shared names are held place is_held sets stands at feedback shown bytes =
      subst (λ (l : List LockName). IsOf (record file {
        locks = with_locks unit Shared names file.locks;
        files = new;
        files_room = room;
      }) (stands_in unit.deck (Some on) (moved false Cre) (locks unit Shared l (let_go state)))) are
      (lets_go_is (record file { locks = with_locks unit Shared names file.locks })
      (locks unit Shared names state) unit.deck on stand new room (nothing-held held is_held sets)
      (locks_is file state unit Shared names is) (moved false Cre) stands)

  alone_nri : Reads false Nri
  alone_nri names are held place is_held sets stands at feedback shown bytes =
      lets_go_is file state unit.deck on stand new room (nothing-held held is_held sets) is
      (moved false Nri) stands

  alone_cr : Reads false Cr
  alone_cr names are held place is_held sets stands at feedback shown bytes =
      lets_go_is file state unit.deck on stand new room (nothing-held held is_held sets) is
      (moved false Cr) stands

  pub reads : (update : Bool) (integrity : Integrity) → Reads update integrity
  reads true integrity = for_update integrity
  reads false Nri = alone_nri
  reads false Cr = alone_cr
  reads false Cre = shared

pub read_state : (opening : State) (file to : FileNow) (after line : ℕ) (unit : UnitOfRecovery)
    (request : Request) (reply : Reply) (stand : Stand) (names : List LockName)
    (held : Option (List ℕ)) (new : List FilePosition) (room : ℕ)
    → to ≡ record file {
      locks = locks_kept unit (mode_kept request) names file.locks;
      files = new;
      files_room = room;
    }
    → ((file_ref : FileRef) → file_of request ≡ Some file_ref
    → SetsOnly file.files new unit.deck file_ref.slot (record { stand = stand; held = held }))
    → IsStateOf opening file → MayBeAsked opening file unit request reply
    → (on : FileRef) (find : Find) (place : List ℕ) (update : Bool) (integrity : Integrity)
    (feedback : ℕ) (shown bytes : Option (List ℕ))
    → request ≡ Get on find update integrity → reply ≡ Done feedback shown bytes
    → place_read (case_of file.geometry (state_now opening file) unit request) ≡ Some place
    → names ≡ lock_names (case_of file.geometry (state_now opening file) unit request) request
    → stand ≡ stand_done (case_of file.geometry (state_now opening file) unit request)
    → held ≡ cond update (Some place) None
    → IsStateOf opening (with_event after unit line (Asked request reply) to)
read_state opening file to after line unit request reply stand names held new room is_to put is may
    on find place update integrity feedback shown bytes get done at are stands is_held =
    let state : State = state_now opening file in
    let known : file_of request ≡ Some on = ap file_of get in
    let whole : FileNow = record file {
      locks = locks_kept unit (mode_kept request) names file.locks;
      files = new;
      files_room = room;
    } in
    let is_none : is_no_fault (Asked request reply) ≡ true =
    ap (λ (r : Reply). is_no_fault (Asked request r)) done in
    let After : Request → Type 0 = λ r. IsOf (record file {
      locks = locks_kept unit (mode_kept r) names file.locks;
      files = new;
      files_room = room;
    }) (after_asked (case_of file.geometry state unit r) reply) in
    let D : Reply → Type 0 = λ r. IsOf (record file {
      locks = locks_kept unit (mode_kept (Get on find update integrity)) names file.locks;
      files = new;
      files_room = room;
    }) (after_asked (case_of file.geometry state unit (Get on find update integrity)) r) in
    let P : Request → Type 0 = λ r. place_read (case_of file.geometry state unit r) ≡ Some place in
    let N : Request → Type 0 = λ r. names ≡ lock_names (case_of file.geometry state unit r) r in
    let S : Request → Type 0 = λ r. stand ≡ stand_done (case_of file.geometry state unit r) in
    subst (λ (f : FileNow). IsStateOf opening (with_event after unit line (Asked request reply) f))
    (sym is_to)
    (entered opening file whole after line unit (Asked request reply) is (
      may.current,
      may.reply_is,
    ) may.goes_on is_none (subst After (sym get) (subst D (sym done)
    (reads file state unit on find stand new room is.now update integrity names
    (subst N get are) held place is_held (put on known) (subst S get stands
    ∙ ap (λ (o : Option Stand). unwrap_or o (state.positions unit.deck on.slot).stand)
    (sym (moved-read find (found (case_of file.geometry state unit
    (Get on find update integrity)))))) (subst P get at) feedback shown bytes))))

-- a POINT
moved-point : (o : Option Candidate) (at : List ℕ)
    → option_map (λ candidate. candidate.at) o ≡ Some at
    → option_map (λ candidate. At candidate.at) o ≡ Some (At at)
moved-point o at is = by_found o is
  where
    by_found : (o : Option Candidate) → option_map (λ candidate. candidate.at) o ≡ Some at
        → option_map (λ candidate. At candidate.at) o ≡ Some (At at)
    by_found None none = absurd (none-some at none)
    by_found (Some candidate) some = ap (λ (o : Option (List ℕ)). option_map At o) some

pub pointed_state : (opening : State) (file to : FileNow) (after line : ℕ) (unit : UnitOfRecovery)
    (request : Request) (reply : Reply) (place : List ℕ) (new : List FilePosition) (room : ℕ)
    → to ≡ record file { files = new; files_room = room }
    → ((file_ref : FileRef) → file_of request ≡ Some file_ref
    → SetsOnly file.files new unit.deck file_ref.slot (record { stand = At place; held = None }))
    → IsStateOf opening file → MayBeAsked opening file unit request reply
    → (on : FileRef) (find : Find) (feedback : ℕ) (shown bytes : Option (List ℕ))
    → request ≡ Point on find → reply ≡ Done feedback shown bytes
    → found_at (case_of file.geometry (state_now opening file) unit request) ≡ Some place
    → IsStateOf opening (with_event after unit line (Asked request reply) to)
pointed_state opening file to after line unit request reply place new room is_to put is may on find
    feedback shown bytes asks done at =
    let state : State = state_now opening file in
    let whole : FileNow = record file { files = new; files_room = room } in
    let is_none : is_no_fault (Asked request reply) ≡ true =
    ap (λ (r : Reply). is_no_fault (Asked request r)) done in
    let After : Request → Type 0 = λ r. IsOf whole
    (after_asked (case_of file.geometry state unit r) reply) in
    let D : Reply → Type 0 = λ r. IsOf whole
    (after_asked (case_of file.geometry state unit (Point on find)) r) in
    let F : Request → Type 0 = λ r. found_at (case_of file.geometry state unit r) ≡ Some place in
    let point : Case = case_of file.geometry state unit (Point on find) in
    subst (λ (f : FileNow). IsStateOf opening (with_event after unit line (Asked request reply) f))
    (sym is_to)
    (entered opening file whole after line unit (Asked request reply) is (
      may.current,
      may.reply_is,
    ) may.goes_on is_none (subst After (sym asks) (subst D (sym done)
    (lets_go_is file state unit.deck on (At place) new room (put on (ap file_of asks)) is.now
    (option_map (λ candidate. At candidate.at) (found point))
    (sym (ap (λ (o : Option Stand). unwrap_or o (state.positions unit.deck on.slot).stand)
    (moved-point (found point) place (subst F asks at))))))))

-- an ENDREQ
pub ended_request_state : (opening : State) (file to : FileNow) (after line : ℕ)
    (unit : UnitOfRecovery) (request : Request) (new : List FilePosition) (room : ℕ)
    → to ≡ record file { files = new; files_room = room }
    → ((file_ref : FileRef) → file_of request ≡ Some file_ref
    → SetsOnly file.files new unit.deck file_ref.slot (record { stand = Nowhere; held = None }))
    → IsStateOf opening file → MayBeAsked opening file unit request (Done 0 None None)
    → (on : FileRef) → request ≡ EndReq on
    → IsStateOf opening (with_event after unit line (Asked request (Done 0 None None)) to)
ended_request_state opening file to after line unit request new room is_to put is may on asks =
    let state : State = state_now opening file in
    let whole : FileNow = record file { files = new; files_room = room } in
    let After : Request → Type 0 = λ r. IsOf whole
    (after_asked (case_of file.geometry state unit r) (Done 0 None None)) in
    subst (λ (f : FileNow). IsStateOf opening (with_event after unit line (Asked request
    (Done 0 None None)) f)) (sym is_to)
    (entered opening file whole after line unit (Asked request (Done 0 None None)) is (
      may.current,
      may.reply_is,
    ) may.goes_on refl (subst After (sym asks)
    (lets_go_is file state unit.deck on Nowhere new room (put on (ap file_of asks)) is.now
    (Some Nowhere) refl)))

-- a refusal
pub refused_state : (opening : State) (file to : FileNow) (after line : ℕ) (unit : UnitOfRecovery)
    (request : Request) (refusal : Refusal) (new : List FilePosition) (room : ℕ)
    → to ≡ record file { files = new; files_room = room }
    → (stand_refused request refusal ≡ None → to ≡ lets_go unit.deck request file)
    → ((stand : Stand) (on : FileRef) → stand_refused request refusal ≡ Some stand
    → file_of request ≡ Some on
    → SetsOnly file.files new unit.deck on.slot (record { stand = stand; held = None }))
    → (file_of request ≡ None → new ≡ file.files)
    → IsStateOf opening file → MayBeAsked opening file unit request (Refused refusal)
    → is_write_fault (Refused refusal) ≡ false
    → IsStateOf opening (with_event after unit line (Asked request (Refused refusal)) to)
refused_state opening file to after line unit request refusal new room is_to stays put rests is may
    none =
    subst (λ (f : FileNow). IsStateOf opening (with_event after unit line (Asked request
    (Refused refusal)) f)) (sym is_to)
    (entered opening file whole after line unit (Asked request (Refused refusal)) is (
      may.current,
      may.reply_is,
    ) may.goes_on (ap not none)
    (by_stand (stand_refused request refusal) refl (file_of request) refl))
  where
    state : State
    state = state_now opening file

    whole : FileNow
    whole = record file { files = new; files_room = room }

    stands_same : (there : Option FileRef)
        → IsOf (record file { files = files_let_go unit.deck there file.files })
        (stands_in unit.deck there None (drops_held unit.deck there state))
    stands_same None = let_go_is file state unit.deck None is.now
    stands_same (Some on) = let_go_is file state unit.deck (Some on) is.now

    by_stand : (moved : Option Stand) → stand_refused request refusal ≡ moved
        → (o : Option FileRef) → file_of request ≡ o
        → IsOf whole (stands_in unit.deck o moved (drops_held unit.deck o state))
    by_stand None still o known =
        subst (λ (f : FileNow). IsOf f (stands_in unit.deck o None (drops_held unit.deck o state)))
        (sym (sym is_to ∙ stays still ∙ ap (λ (there : Option FileRef). record file {
          files = files_let_go unit.deck there file.files;
        }) known)) (stands_same o)
    by_stand (Some stand) moves None known =
        subst (λ (l : List FilePosition). IsOf (record file { files = l; files_room = room }) state)
        (sym (rests known)) (roomy_is file state room is.now)
    by_stand (Some stand) moves (Some on) known =
        lets_go_is file state unit.deck on stand new room (put stand on moves known) is.now
        (Some stand) refl
