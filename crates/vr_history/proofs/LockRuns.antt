-- Locks over a history.
use Rattle.std.proofs.Common.{◌≡◌, ℕ, true, false, List, [], ◌∷◌, Some, None, refl, sym, ◌∙◌, subst}
use Rattle.std.specs.Prelude.{Option}
use Rattle.vr_types.specs.declared.geometry.Geometry.{Geometry}
use Rattle.vr_types.specs.declared.reply.Reply.{Reply}
use Rattle.vr_types.specs.declared.reply.Reply.TheVariants.{Done, Refused}
use Rattle.vr_types.specs.declared.position.Stand.{Stand}
use Rattle.vr_types.specs.declared.position.Stand.TheVariants.{None as Nowhere}
use Rattle.vr_types.specs.declared.request.FileRef.{FileRef}
use Rattle.vr_types.specs.declared.request.Find.{Find}
use Rattle.vr_types.specs.declared.request.Request.{Request}
use Rattle.vr_types.specs.declared.request.Request.TheVariants.{Get, Point, Add, Update, Erase}
use Rattle.vr_types.specs.declared.request.Request.TheVariants.{EndReq, Commit, Backout}
use Rattle.vr_types.specs.declared.unit.Integrity.TheVariants.{Nri, Cr, Cre}
use Rattle.vr_types.specs.declared.unit.Mode.{Mode}
use Rattle.vr_types.specs.declared.unit.Mode.TheVariants.{Shared, Exclusive}
use Rattle.vr_types.specs.declared.unit.Unit.{Unit as UnitOfRecovery}
use Rattle.vr_history.specs.declared.entry.Entry.{Entry}
use Rattle.vr_history.specs.declared.entry.What.{What}
use Rattle.vr_history.specs.declared.entry.What.TheVariants.{Asked, Undone, Claimed, Split, Faulted}
use Rattle.vr_history.specs.Case.{Case, file_of}
use Rattle.vr_history.specs.Change.{Change, change_of}
use Rattle.vr_history.specs.Effects.{changes, drops_held, holding, last_kept, moves_file, takes_out}
use Rattle.vr_history.specs.Effects.{without_unit}
use Rattle.vr_history.specs.Laws.{NoTwoConflict}
use Rattle.vr_history.specs.Legal.{AreSteps, state_of}
use Rattle.vr_history.specs.Names.{lock_names, mode_asked, with_locks}
use Rattle.vr_history.specs.Replies.{MayReply}
use Rattle.vr_history.specs.State.{BeforeImage, State}
use Rattle.vr_history.specs.Step.{MayEnter, after_asked, after_what, case_of, change_back}
use Rattle.vr_history.specs.Step.{done_effect, makes, reads_on, stands_in, state_after}
use Rattle.vr_history.specs.Found.{place_read}
use Rattle.std.specs.Option.{option_map_or}
use Rattle.vr_types.specs.Locks.{Lock, conflict_on}
use Rattle.vr_history.proofs.Endings.{gives_back_locks}
use Rattle.vr_history.proofs.LockLemmas.{all_free, all_taken, filtered_none}
use Rattle.vr_history.proofs.Replying.{done_free}

-- where a file stands has nothing to do with locks
pub stands_locks : (deck : ℕ) (file : Option FileRef) (stand : Option Stand) (state : State)
    → (stands_in deck file stand state).locks ≡ state.locks
stands_locks deck None stand state = refl
stands_locks deck (Some file) None state = refl
stands_locks deck (Some file) (Some stand) state = refl

drops_locks : (deck : ℕ) (file : Option FileRef) (state : State)
    → (drops_held deck file state).locks ≡ state.locks
drops_locks deck None state = refl
drops_locks deck (Some file) state = refl

-- the state in which a request is answered, its file holding nothing
abbrev dropped_state : Case → State
dropped_state case = drops_held case.unit.deck (file_of case.request) case.state

-- what is asked for is free where a request is done
abbrev Frees : Case → Mode → State → Type 0
Frees case mode state =
    NoTwoConflict (with_locks case.unit mode (lock_names case case.request) state.locks)

takes : (case : Case) (mode : Mode) (state : State) → state.locks ≡ case.state.locks
    → conflict_on case.state.locks case.unit mode (lock_names case case.request) ≡ None
    → NoTwoConflict case.state.locks → Frees case mode state
takes case mode state same free none =
    let P : List Lock → Type 0 =
    λ locks. NoTwoConflict (with_locks case.unit mode (lock_names case case.request) locks) in
    subst P (sym same)
    (all_taken case.unit mode (lock_names case case.request) case.state.locks
    (all_free case.state case.unit mode (lock_names case case.request) free) none)

reads_locks : (case : Case) (find : Find) (state : State)
    → (reads_on case find state).locks ≡ state.locks
reads_locks case find state = stands_locks case.unit.deck (file_of case.request) _ state

holds_at : (case : Case) (file : Option FileRef) (place : Option (List ℕ)) (state : State)
    → (option_map_or
    (λ this. option_map_or (λ at. moves_file case.unit.deck this.slot (holding at) state) place
    state) file state).locks ≡ state.locks
holds_at case None place state = refl
holds_at case (Some file) None state = refl
holds_at case (Some file) (Some place) state = refl

changed_locks : (case : Case) (change : Option Change) (state : State) → NoTwoConflict state.locks
    → Frees case Exclusive state
    → NoTwoConflict (option_map_or (λ this. makes case this state) change state).locks
changed_locks case None state none free = none
changed_locks case (Some change) state none free = free

-- each request that is done
done_none : (geometry : Geometry) (state : State) (unit : UnitOfRecovery) (request : Request)
    → let case : Case = case_of geometry state unit request in
    conflict_on state.locks unit (mode_asked request) (lock_names case request) ≡ None
    → NoTwoConflict state.locks
    → NoTwoConflict (done_effect case request (dropped_state case)).locks
done_none geometry state unit (Get file find true integrity) free none =
    let case : Case = case_of geometry state unit (Get file find true integrity) in
    let taken : Frees case Exclusive (dropped_state case) =
    takes case Exclusive (dropped_state case) (drops_locks unit.deck (Some file) state) free
    none in
    subst NoTwoConflict (sym (reads_locks case find _
    ∙ holds_at case (Some file) (place_read case) _)) taken
done_none geometry state unit (Get file find false Nri) free none =
    let case : Case = case_of geometry state unit (Get file find false Nri) in
    subst NoTwoConflict (sym (reads_locks case find _
    ∙ drops_locks unit.deck (Some file) state)) none
done_none geometry state unit (Get file find false Cr) free none =
    let case : Case = case_of geometry state unit (Get file find false Cr) in
    subst NoTwoConflict (sym (reads_locks case find _
    ∙ drops_locks unit.deck (Some file) state)) none
done_none geometry state unit (Get file find false Cre) free none =
    let case : Case = case_of geometry state unit (Get file find false Cre) in
    let taken : Frees case Shared (dropped_state case) =
    takes case Shared (dropped_state case) (drops_locks unit.deck (Some file) state) free none
    in
    subst NoTwoConflict (sym (reads_locks case find _)) taken
done_none geometry state unit (Point file find) free none =
    subst NoTwoConflict (sym (stands_locks unit.deck (Some file) _ _
    ∙ drops_locks unit.deck (Some file) state)) none
done_none geometry state unit (Add file place bytes) free none =
    let case : Case = case_of geometry state unit (Add file place bytes) in
    changed_locks case (change_of case) (dropped_state case) none
    (takes case Exclusive (dropped_state case) refl free none)
done_none geometry state unit (Update file bytes) free none =
    let case : Case = case_of geometry state unit (Update file bytes) in
    changed_locks case (change_of case) (dropped_state case) none
    (takes case Exclusive (dropped_state case) refl free none)
done_none geometry state unit (Erase file) free none =
    let case : Case = case_of geometry state unit (Erase file) in
    changed_locks case (change_of case) (dropped_state case) none
    (takes case Exclusive (dropped_state case) refl free none)
done_none geometry state unit (EndReq file) free none =
    subst NoTwoConflict
    (sym (stands_locks unit.deck (Some file) (Some Nowhere)
    (dropped_state (case_of geometry state unit (EndReq file)))
    ∙ drops_locks unit.deck (Some file) state)) none
done_none geometry state unit Commit free none =
    subst NoTwoConflict (sym (gives_back_locks (without_unit unit state)))
    (filtered_none _ state.locks none)
done_none geometry state unit Backout free none =
    subst NoTwoConflict (sym (gives_back_locks (without_unit unit state)))
    (filtered_none _ state.locks none)

asked_none : (geometry : Geometry) (state : State) (unit : UnitOfRecovery) (request : Request)
    (reply : Reply)
    → MayReply (case_of geometry state unit request) reply → NoTwoConflict state.locks
    → NoTwoConflict (after_asked (case_of geometry state unit request) reply).locks
asked_none geometry state unit request (Done feedback place bytes) may none =
    done_none geometry state unit request
    (done_free (case_of geometry state unit request) feedback place bytes may) none
asked_none geometry state unit request (Refused refusal) may none =
    subst NoTwoConflict (sym (stands_locks unit.deck (file_of request) _ _
    ∙ drops_locks unit.deck (file_of request) state)) none

back_locks : (unit : UnitOfRecovery) (kept : Option BeforeImage) (state : State)
    → (option_map_or (λ this. takes_out unit (changes (change_back state this) state)) kept
    state).locks ≡ state.locks
back_locks unit None state = refl
back_locks unit (Some kept) state = refl

entered_none : (geometry : Geometry) (state : State) (unit : UnitOfRecovery) (stamp : ℕ)
    (what : What) → MayEnter geometry state unit what → NoTwoConflict state.locks
    → NoTwoConflict (after_what geometry state unit stamp what).locks
entered_none geometry state unit stamp (Asked request reply) may none =
    asked_none geometry state unit request reply may.1 none
entered_none geometry state unit stamp (Undone part place) may none =
    subst NoTwoConflict (sym (back_locks unit (last_kept state unit) state)) none
entered_none geometry state unit stamp (Claimed part area) may none = none
entered_none geometry state unit stamp (Split part) may none = none
entered_none geometry state unit stamp (Faulted fault) may none = none

-- no two locks conflict after a run of steps from a state in which none do
pub none_conflict : (geometry : Geometry) (state : State) (entries : List Entry)
    → AreSteps geometry state entries → NoTwoConflict state.locks
    → NoTwoConflict (state_of geometry state entries).locks
none_conflict geometry state [] steps none = none
none_conflict geometry state (entry ∷ entries) steps none =
    none_conflict geometry (state_after geometry state entry) entries steps.1
    (entered_none geometry state entry.unit entry.stamp entry.what steps.0 none)
