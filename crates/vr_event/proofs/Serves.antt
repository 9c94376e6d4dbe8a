-- Which event a request is, and when it may be entered.
use Rattle.std.proofs.Common.{◌≡◌, ◌⊎◌, ⊎_elim, inl, Bool, true, false, IsTrue, Option, Some, None, refl}
use Rattle.std.proofs.Common.{ap, arith, sym, subst, ◌∙◌, ℕ, [], ◌∷◌}
use Rattle.std.specs.Option.{option_and_then}
use Rattle.vr_catalog.specs.declared.definition.Definition.{Definition}
use Rattle.vr_types.specs.Faults.{Faults}
use Rattle.vr_types.specs.declared.geometry.Geometry.{Geometry}
use Rattle.vr_types.specs.declared.reply.Refusal.TheVariants.{ReadFault, WriteFault}
use Rattle.vr_types.specs.declared.reply.Refusal.{Refusal}
use Rattle.vr_types.specs.declared.reply.Reply.{Reply}
use Rattle.vr_types.specs.declared.reply.Reply.TheVariants.{Done, Refused}
use Rattle.vr_types.specs.declared.request.FileRef.{FileRef}
use Rattle.vr_types.specs.declared.request.Request.{Request}
use Rattle.vr_types.specs.declared.request.Request.TheVariants.{Get, Point, Add, Update, Erase}
use Rattle.vr_types.specs.declared.request.Request.TheVariants.{EndReq, Commit, Backout}
use Rattle.vr_types.specs.declared.unit.Unit.{Unit as UnitOfRecovery}
use Rattle.vr_history.specs.Case.{Case}
use Rattle.vr_history.specs.Legal.{is_backout, is_write_fault}
use Rattle.vr_history.specs.Opened.{definition_in, opened}
use Rattle.vr_history.specs.RefusedRoom.{free_areas, lacks, no_space}
use Rattle.vr_history.specs.Replies.{MayReply, first_of}
use Rattle.vr_history.specs.State.{State}
use Rattle.vr_history.specs.Step.{case_of}
use Rattle.vr_answer.specs.Tried.{IsCalm, file_refusals, record_refusals}
use Rattle.vr_answer.proofs.CallerLemmas.{answered_by_file, answered_done}
use Rattle.vr_record_file.specs.Now.{FileNow, MayBeAsked, is_undoing, state_now}
use Rattle.vr_event.specs.Acting.{MayAct}
use Rattle.vr_event.specs.Cause.{HasReplyCause}
use Rattle.vr_event.specs.EndedFile.{IsEnding}
use Rattle.vr_event.specs.Getting.{IsAsked, IsRead}
use Rattle.vr_event.specs.Putting.{IsChange, IsChanging}
use Rattle.vr_event.specs.Serving.{IsEventOf}
use Rattle.vr_event.specs.declared.acting.Event.{Event}
use Rattle.vr_event.proofs.Ended.{read-elim}
use Rattle.vr_event.proofs.Faults.{write-is}

-- the event that is found is the request's
pub event-at : (event found : Event) (shown request : Request) → found ≡ event → shown ≡ request
    → IsEventOf found shown → IsEventOf event request
event-at event found shown request is same says =
    subst (λ (e : Event). IsEventOf e request) is
    (subst (λ (r : Request). IsEventOf found r) same says)

-- ---- what is no BACKOUT

read-goes : (request : Request) → IsRead request → is_backout request ≡ false
read-goes request read = read-elim (λ (r : Request). is_backout r ≡ false)
    (λ on find update integrity. refl) (λ on find. refl) request read

change-goes : (request : Request) → IsChange request → is_backout request ≡ false
change-goes (Add on place bytes) change = refl
change-goes (Update on bytes) change = refl
change-goes (Erase on) change = refl
change-goes (Get on find update integrity) change = absurd change
change-goes (Point on find) change = absurd change
change-goes (EndReq on) change = absurd change
change-goes Commit change = absurd change
change-goes Backout change = absurd change

-- nor is it a PUT or an ERASE
pub no-change-read : (request : Request) → IsRead request → IsChange request → ⊥
no-change-read request read change = read-elim (λ (r : Request). IsChange r → ⊥)
    (λ on find update integrity change. change) (λ on find change. change) request read change

pub no-change : (request other : Request) → request ≡ other → IsChange request → IsChange other
no-change request other is change = subst IsChange is change

goes-on : (undoing back : Bool) → (undoing ≡ false) ⊎ IsTrue back → back ≡ false → undoing ≡ false
goes-on undoing back either none = ⊎_elim (λ calm. calm)
    (λ backs. let no : true ≡ false = sym backs ∙ none in absurd cc) either

-- ---- what may be entered

-- an ENDREQ wants no room
no-room : (free : ℕ) (o : Option Definition)
    → option_and_then (lacks free) (option_and_then (λ (definition : Definition). None) o) ≡ None
no-room free None = refl
no-room free (Some definition) = refl

only-first : (o : Option Refusal) → first_of (o ∷ []) ≡ o
only-first None = refl
only-first (Some refusal) = refl

no-record : (geometry : Geometry) (state : State) (unit : UnitOfRecovery) (on : FileRef)
    → first_of (record_refusals (case_of geometry state unit (EndReq on))) ≡ None
no-record geometry state unit on =
    let case : Case = case_of geometry state unit (EndReq on) in
    only-first (no_space case) ∙ no-room (free_areas case) (definition_in (opened case))

-- a refusal that is calm is no fault of a write
pub calm-refusal : (refusal : Refusal) → IsCalm (Some refusal)
    → is_write_fault (Refused refusal) ≡ false
calm-refusal refusal calm = by_test (is_write_fault (Refused refusal)) refl
  where
    by_test : (test : Bool) → is_write_fault (Refused refusal) ≡ test → test ≡ false
    by_test false is = refl
    by_test true is = absurd (calm.write (ap (λ (r : Refusal). Some r) (write-is refusal is)))

pub calm-cause : (faults : Faults) (refusal : Refusal) → IsCalm (Some refusal)
    → HasReplyCause faults faults (Refused refusal)
calm-cause faults refusal calm = record {
  reads = omega arith;
  writes = omega arith;
  read = λ is. absurd (calm.read (let same : refusal ≡ ReadFault = cc in ap (λ (r : Refusal). Some r) same));
  write = λ is. absurd (calm.write (let same : refusal ≡ WriteFault = cc in ap (λ (r : Refusal). Some r) same));
  calm = λ given. refl;
  unwritten = λ given. refl;
}

module _ (opening : State) (file : FileNow) (unit : UnitOfRecovery) (request : Request)
    (may : MayAct opening file unit request) where
  abbrev case-now : Case
  case-now = case_of file.geometry (state_now opening file) unit request

  pub asked-with : (reply : Reply) → MayReply case-now reply
      → MayBeAsked opening file unit request reply
  asked-with reply is = record {
    current = may.current;
    of_deck = may.of_deck;
    reply_is = is;
    goes_on = may.goes_on;
  }

  pub refused-asked : (refusal : Refusal) → first_of (file_refusals case-now) ≡ Some refusal
      → MayBeAsked opening file unit request (Refused refusal)
  refused-asked refusal some =
      asked-with (Refused refusal) (inl (answered_by_file case-now refusal some))

  module _ (none : first_of (file_refusals case-now) ≡ None) where
    pub ending-of : IsEnding opening file unit request
    ending-of = record {
      current = may.current;
      of_deck = may.of_deck;
      goes_on = may.goes_on;
      unrefused = none;
    }

    pub read-of : IsRead request → IsAsked opening file unit request
    read-of read = record {
      current = may.current;
      of_deck = may.of_deck;
      goes_on = goes-on (is_undoing unit file.entries) (is_backout request) may.goes_on
          (read-goes request read);
      read = read;
      unrefused = none;
    }

    pub change-of : IsChange request → IsChanging opening file unit request
    change-of change = record {
      current = may.current;
      of_deck = may.of_deck;
      goes_on = goes-on (is_undoing unit file.entries) (is_backout request) may.goes_on
          (change-goes request change);
      unrefused = none;
    }

  -- an ENDREQ is done
  pub ended-of : (on : FileRef) → request ≡ EndReq on
      → first_of (file_refusals case-now) ≡ None
      → MayBeAsked opening file unit request (Done 0 None None)
  ended-of on is none = asked-with (Done 0 None None)
      (subst (λ (r : Request).
      first_of (file_refusals (case_of file.geometry (state_now opening file) unit r)) ≡ None
      → MayReply (case_of file.geometry (state_now opening file) unit r) (Done 0 None None))
      (sym is)
      (λ none. inl (answered_done (case_of file.geometry (state_now opening file) unit (EndReq on))
      none (no-record file.geometry (state_now opening file) unit on) refl tt)) none)
