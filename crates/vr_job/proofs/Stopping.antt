-- A COMMIT that was answered 0 leaves its volume going, and what a volume that stopped leaves is what
-- the event leaves in which it did.
use Rattle.std.proofs.Common.{◌≡◌, ◌⊎◌, inl, inr, ⊎_elim, ◌∙◌, ℕ, List, [], ◌∷◌, ◌++◌}
use Rattle.std.proofs.Common.{Option, Some, None, refl, sym, ap, subst, append_assoc, true}
use Rattle.std.specs.Prelude.{option_map}
use Rattle.std.proofs.lemmas.List.Elements.{All-cons, All-head, All-nil, All-tail}
use Rattle.vr_types.specs.Image.{Image}
use Rattle.vr_types.specs.Seen.{Left, Seen}
use Rattle.vr_types.specs.declared.fault.DeviceFault.{DeviceFault}
use Rattle.vr_types.specs.declared.fault.DeviceFault.TheVariants.{Write}
use Rattle.vr_types.specs.declared.geometry.Geometry.{Geometry}
use Rattle.vr_types.specs.declared.reply.Refusal.{Refusal}
use Rattle.vr_types.specs.declared.reply.Refusal.TheVariants.{Memory, NoSpace, Stopped, WriteFault}
use Rattle.vr_types.specs.declared.reply.Reply.{Reply}
use Rattle.vr_types.specs.declared.reply.Reply.TheVariants.{Done as DoneReply, Refused}
use Rattle.vr_types.specs.declared.request.Request.{Request}
use Rattle.vr_types.specs.declared.request.FileRef.{FileRef}
use Rattle.vr_types.specs.declared.request.Request.TheVariants.{Add, Commit}
use Rattle.vr_types.specs.declared.unit.AreaNo.{AreaNo}
use Rattle.vr_types.specs.declared.unit.PartNo.{PartNo}
use Rattle.vr_types.specs.declared.unit.Unit.{Unit as UnitOfRecovery}
use Rattle.vr_history.specs.Legal.{AreSteps, state_of}
use Rattle.vr_history.specs.Replies.{MayReply, first_of, refused_or}
use Rattle.vr_history.specs.State.{State}
use Rattle.vr_history.specs.Step.{MayEnter, Step, case_of, state_after}
use Rattle.vr_history.specs.declared.entry.Entry.{Entry}
use Rattle.vr_history.specs.declared.entry.What.{What}
use Rattle.vr_history.specs.declared.entry.What.TheVariants.{Asked, Claimed, Faulted, Split, Undone}
use Rattle.vr_record_file.specs.Now.{FileNow}
use Rattle.vr_event.specs.Made.{HasStopped as HasStoppedWith, IsStepFor, MadeBy}
use Rattle.vr_event.specs.declared.act.Act.{Act}
use Rattle.vr_event.specs.declared.act.Act.TheVariants.{Again, Done}
use Rattle.vr_job.specs.Crash.{HaveDoneCommit, IsCommit, IsDoneCommit, as_done}
use Rattle.vr_job.specs.Definitions.{AreBegun, IsRecorded}
use Rattle.vr_job.specs.Events.{FaultsFollow, HasStopped, IsStop, IsStopAfter}
use Rattle.vr_job.specs.Faultless.{AreFaultless, IsFaulted}
use Rattle.vr_job.proofs.EditEntries.{edit-later}

-- ---- a COMMIT that is answered 0 comes where its volume goes on

going-by : (stopped : Option ℕ) (refusals : List (Option Refusal)) (reply : Reply)
    → DoneReply 0 None None
    ≡ refused_or (first_of (None ∷ option_map Stopped stopped ∷ refusals)) reply → stopped ≡ None
going-by None refusals reply same = refl
going-by (Some stamp) refusals reply same = absurd cc

commit-going : (geometry : Geometry) (state : State) (unit : UnitOfRecovery)
    → MayReply (case_of geometry state unit Commit) (DoneReply 0 None None) → state.stopped ≡ None
commit-going geometry state unit is = ⊎_elim
    (λ answered. going-by state.stopped _ _ answered.0)
    (λ lacks. ⊎_elim (λ room. absurd (not-refused _ room.2))
    (λ further. ⊎_elim (λ memory. absurd (not-refused _ memory.2))
    (λ faults. ⊎_elim (λ write. absurd (not-refused _ write))
    (λ read. absurd (not-refused _ read.1)) faults.1) further) lacks) is
  where
    not-refused : (refusal : Refusal) → DoneReply 0 None None ≡ Refused refusal → ⊥
    not-refused refusal same = cc

-- ---- a COMMIT that a fault of a write refused might have been answered 0

never-refused : (stopped : Option ℕ) (refusals : List (Option Refusal)) → first_of refusals ≡ None
    → Refused WriteFault
    ≡ refused_or (first_of (None ∷ option_map Stopped stopped ∷ refusals)) (DoneReply 0 None None)
    → ⊥
never-refused None refusals none is = differ
    (is ∙ ap (λ (o : Option Refusal). refused_or o (DoneReply 0 None None)) none)
  where
    differ : Refused WriteFault ≡ DoneReply 0 None None → ⊥
    differ same = cc
never-refused (Some stamp) refusals none is = absurd cc

going-none : (stopped : Option ℕ) → first_of (None ∷ option_map Stopped stopped ∷ []) ≡ None
    → stopped ≡ None
going-none None none = refl
going-none (Some stamp) none = absurd cc

done-by : (stopped : Option ℕ) (refusals : List (Option Refusal)) → first_of refusals ≡ None
    → stopped ≡ None → DoneReply 0 None None
    ≡ refused_or (first_of (None ∷ option_map Stopped stopped ∷ refusals)) (DoneReply 0 None None)
done-by None refusals none going =
    sym (ap (λ (o : Option Refusal). refused_or o (DoneReply 0 None None)) none)
done-by (Some stamp) refusals none going = absurd cc

failed-may : (geometry : Geometry) (state : State) (unit : UnitOfRecovery)
    → MayReply (case_of geometry state unit Commit) (Refused WriteFault)
    → MayReply (case_of geometry state unit Commit) (DoneReply 0 None None)
failed-may geometry state unit may = inl (
  done-by state.stopped _ refl (⊎_elim
      (λ answered. absurd (never-refused state.stopped _ refl answered.0))
      (λ lacks. ⊎_elim (λ room. absurd (other-refused _ room.2))
      (λ further. ⊎_elim (λ memory. absurd (memory-refused memory.2))
      (λ faults. going-none state.stopped faults.0) further) lacks) may),
  λ none. tt,
)
  where
    other-refused : (need : ℕ) → Refused WriteFault ≡ Refused (NoSpace need 0) → ⊥
    other-refused need same = cc

    memory-refused : Refused WriteFault ≡ Refused Memory → ⊥
    memory-refused same = cc

-- so the step may be that it is done
pub commit-may : (geometry : Geometry) (state : State) (entry : Entry) → Step geometry state entry
    → IsCommit entry.what → Step geometry state (as_done entry)
commit-may geometry state entry step is = ⊎_elim
    (λ done. subst (λ (what : What). MayEnter geometry state entry.unit what) done step)
    (λ failed. answered (subst (λ (what : What). MayEnter geometry state entry.unit what) failed
    step)) is
  where
    answered : MayEnter geometry state entry.unit (Asked Commit (Refused WriteFault))
        → MayEnter geometry state entry.unit (Asked Commit (DoneReply 0 None None))
    answered may = (may.0, failed-may geometry state entry.unit may.1)

-- a step in the midst of others
pub step-at : (geometry : Geometry) (state : State) (before : List Entry) (entry : Entry)
    (rest : List Entry) → AreSteps geometry state (before ++ entry ∷ rest)
    → Step geometry (state_of geometry state before) entry
step-at geometry state [] entry rest steps = steps.0
step-at geometry state (first ∷ before) entry rest steps =
    step-at geometry (state_after geometry state first) before entry rest steps.1

-- so the volume went on before it
pub commit-went : (geometry : Geometry) (state : State) (before : List Entry) (entry : Entry)
    (rest : List Entry) → AreSteps geometry state (before ++ entry ∷ rest)
    → IsDoneCommit entry.what → (state_of geometry state before).stopped ≡ None
commit-went geometry state before entry rest steps is =
    commit-going geometry (state_of geometry state before) entry.unit
    (subst (λ (what : What). MayEnter geometry (state_of geometry state before) entry.unit what) is
    (step-at geometry state before entry rest steps)).1

-- ---- what an event does of faults

faulted-not-asked : (request : Request) (reply : Reply) → ¬ IsFaulted (Asked request reply)
faulted-not-asked request reply is = differ is.0 is.1
  where
    differ : (fault : DeviceFault) → Asked request reply ≡ Faulted fault → ⊥
    differ fault same = cc

faulted-not-split : (part : PartNo) → ¬ IsFaulted (Split part)
faulted-not-split part is = differ is.0 is.1
  where
    differ : (fault : DeviceFault) → Split part ≡ Faulted fault → ⊥
    differ fault same = cc

faulted-not-claimed : (part : PartNo) (area : AreaNo) → ¬ IsFaulted (Claimed part area)
faulted-not-claimed part area is = differ is.0 is.1
  where
    differ : (fault : DeviceFault) → Claimed part area ≡ Faulted fault → ⊥
    differ fault same = cc

faulted-not-undone : (part : PartNo) (place : List ℕ) → ¬ IsFaulted (Undone part place)
faulted-not-undone part place is = differ is.0 is.1
  where
    differ : (fault : DeviceFault) → Undone part place ≡ Faulted fault → ⊥
    differ fault same = cc

abbrev NoFault : Entry → Type 0
NoFault entry = ¬ IsFaulted entry.what

none-faultless : (made : List Entry) → made ≡ [] → AreFaultless made
none-faultless made none = subst AreFaultless (sym none) (All-nil NoFault)

one-faultless : (made : List Entry) (entry : Entry) → made ≡ entry ∷ [] → NoFault entry
    → AreFaultless made
one-faultless made entry one none =
    subst AreFaultless (sym one) (All-cons NoFault entry [] none (All-nil NoFault))

-- a fault comes after a request alone that was refused for it
pub faults-follow : (act : Act) (unit : UnitOfRecovery) (line : ℕ) (request : Request)
    (made : List Entry) → MadeBy act unit line request made → FaultsFollow made
faults-follow Done unit line request made is = ⊎_elim
    (λ none. inr (one-faultless made is.entry
    (is.is ∙ ap (λ (rest : List Entry). is.entry ∷ rest) none)
    (λ fault. faulted-not-asked request is.reply (subst IsFaulted is.what_is fault))))
    (λ faulted. inl (inl (record {
      before = [];
      begun = inl refl;
      request = request;
      failing = is.entry;
      fault = faulted.fault;
      made_are = is.is ∙ ap (λ (rest : List Entry). is.entry ∷ rest) faulted.is;
      failing_is = is.what_is ∙ ap (Asked request) faulted.refused;
      fault_is = faulted.what_is;
      unit_is = faulted.unit_is ∙ sym is.unit_is;
      line_is = faulted.line_is ∙ sym is.line_is;
    }))) is.follows
faults-follow (Again given) unit line request made is = inr (⊎_elim
    (λ none. none-faultless made none)
    (λ one. one-faultless made one.0 one.1 (⊎_elim
    (λ split fault. faulted-not-split split.0 (subst IsFaulted split.1 fault))
    (λ later. ⊎_elim
    (λ claim fault. faulted-not-claimed claim.0 claim.1 (subst IsFaulted claim.2 fault))
    (λ back fault. faulted-not-undone back.1 back.2 (subst IsFaulted back.3 fault)) later)
    one.2.2)) is)

refused-not-done : (request : Request)
    → Asked request (Refused WriteFault) ≡ Asked Commit (DoneReply 0 None None) → ⊥
refused-not-done request same = cc

faulted-not-done : Faulted Write ≡ Asked Commit (DoneReply 0 None None) → ⊥
faulted-not-done same = cc

claimed-not-done : (part : PartNo) (area : AreaNo) → IsDoneCommit (Claimed part area) → ⊥
claimed-not-done part area done = cc

add-not-done : (file : FileRef) (named : Option (List ℕ)) (bytes : List ℕ) (reply : Reply)
    → IsDoneCommit (Asked (Add file named bytes) reply) → ⊥
add-not-done file named bytes reply done = cc

-- nor among what a definition, or an edit of the catalog, begins with
begun-not-done : (first more : List Entry) → AreBegun first → HaveDoneCommit (first ++ more)
    → HaveDoneCommit more
begun-not-done first more begun done = ⊎_elim
    (λ none. subst (λ (them : List Entry). HaveDoneCommit (them ++ more)) none done)
    (λ begins. ⊎_elim
    (λ recorded. in-both recorded.0 recorded.1 recorded.2 recorded.3 recorded.4)
    (λ changed. edit-later changed.2.volume changed.1 first more changed.2.are done) begins) begun
  where
    in-both : (unit : UnitOfRecovery) (part : PartNo) (area : AreaNo) (bytes : List ℕ)
        → IsRecorded unit part area bytes first → HaveDoneCommit more
    in-both unit part area bytes is = ⊎_elim
        (λ claims. absurd (claimed-not-done part area (subst IsDoneCommit is.claim_is claims)))
        (λ rest. ⊎_elim
        (λ adds. absurd (add-not-done is.file None bytes _ (subst IsDoneCommit is.add_is adds)))
        (λ later. later) rest)
        (subst (λ (them : List Entry). HaveDoneCommit (them ++ more)) is.made_are done)

-- no COMMIT is answered 0 in an event in which the volume stops
pub stop-none : (made : List Entry) → IsStop made → HaveDoneCommit made → ⊥
stop-none made stop done = ⊎_elim
    (λ after. in-pair after (begun-not-done after.before (after.failing ∷ after.fault ∷ [])
    after.begun (subst HaveDoneCommit after.made_are done)))
    (λ alone. ⊎_elim (λ first. faulted alone.fault.what alone.fault_is first) (λ none. none)
    (subst HaveDoneCommit alone.made_are done)) stop
  where
    refused : (what : What) (request : Request) → what ≡ Asked request (Refused WriteFault)
        → IsDoneCommit what → ⊥
    refused what request is done = refused-not-done request (sym is ∙ done)

    faulted : (what : What) → what ≡ Faulted Write → IsDoneCommit what → ⊥
    faulted what is done = faulted-not-done (sym is ∙ done)

    in-pair : (after : IsStopAfter made) → HaveDoneCommit (after.failing ∷ after.fault ∷ []) → ⊥
    in-pair after is = ⊎_elim
        (λ first. refused after.failing.what after.request after.failing_is first)
        (λ rest. ⊎_elim (λ second. faulted after.fault.what after.fault_is second)
        (λ none. none) rest) is

-- ---- a COMMIT that was answered 0

-- as an event that goes on enters one entry at most, it is the first
pub commit-first : (act : Act) (unit : UnitOfRecovery) (line : ℕ) (request : Request)
    (made : List Entry) → MadeBy act unit line request made → HaveDoneCommit made
    → (entry : Entry) × (rest : List Entry) × (made ≡ entry ∷ rest) × IsDoneCommit entry.what
commit-first Done unit line request made is done = (
  is.entry,
  is.rest,
  is.is,
  ⊎_elim (λ first. first) (λ later. absurd (rest-none later)) (subst HaveDoneCommit is.is done),
)
  where
    faulted : (what : What) → what ≡ Faulted Write → IsDoneCommit what → ⊥
    faulted what is done = faulted-not-done (sym is ∙ done)

    rest-none : HaveDoneCommit is.rest → ⊥
    rest-none later = ⊎_elim
        (λ none. subst HaveDoneCommit none later)
        (λ fault. ⊎_elim (λ at. faulted fault.fault.what fault.what_is at) (λ none. none)
        (subst HaveDoneCommit fault.is later)) is.follows
commit-first (Again given) unit line request made is done = absurd (⊎_elim
    (λ none. subst HaveDoneCommit none done)
    (λ one. ⊎_elim (λ at. step-done one.0 one.2 at) (λ none. none)
    (subst HaveDoneCommit one.1 done)) is)
  where
    split-done : (part : PartNo) → IsDoneCommit (Split part) → ⊥
    split-done part done = cc

    undone-done : (part : PartNo) (place : List ℕ) → IsDoneCommit (Undone part place) → ⊥
    undone-done part place done = cc

    step-done : (entry : Entry) → IsStepFor unit line request entry → IsDoneCommit entry.what → ⊥
    step-done entry step done = ⊎_elim
        (λ split. split-done split.0 (subst IsDoneCommit split.1 done))
        (λ later. ⊎_elim
        (λ claim. claimed-not-done claim.0 claim.1 (subst IsDoneCommit claim.2 done))
        (λ back. undone-done back.1 back.2 (subst IsDoneCommit back.3 done)) later) step.2

second-faulted : (entry fault : Entry) → AreFaultless (entry ∷ fault ∷ []) → IsFaulted fault.what
    → ⊥
second-faulted entry fault none is =
    All-head NoFault fault [] (All-tail NoFault entry (fault ∷ []) none) is

-- where one is, the volume goes on as before
pub going-on : (old new : FileNow) (made : List Entry)
    → (new.stopped ≡ old.stopped) ⊎ HasStoppedWith made new → FaultsFollow made
    → HaveDoneCommit made → new.stopped ≡ old.stopped
going-on old new made stops faults done = ⊎_elim (λ same. same)
    (λ stopped. absurd (⊎_elim (λ stop. stop-none made stop done)
    (λ faultless. second-faulted stopped.entry stopped.fault
    (subst AreFaultless stopped.is faultless) (Write, stopped.what_is)) faults)) stops

-- the event in which a volume stops
pub stop-of : (old new : FileNow) (made : List Entry)
    → (new.stopped ≡ old.stopped) ⊎ HasStoppedWith made new → FaultsFollow made
    → (new.stopped ≡ old.stopped → ⊥) → IsStop made
stop-of old new made stops faults changes = ⊎_elim (λ same. absurd (changes same))
    (λ stopped. ⊎_elim (λ stop. stop)
    (λ faultless. absurd (second-faulted stopped.entry stopped.fault
    (subst AreFaultless stopped.is faultless) (Write, stopped.what_is))) faults) stops

-- ---- a volume that has stopped

-- more entries, while no block is touched
pub stopped-more : (geometry : Geometry) (number : ℕ) (opening : State) (entries more : List Entry)
    (now : Seen) → HasStopped geometry number opening entries now
    → HasStopped geometry number opening (entries ++ more) now
stopped-more geometry number opening entries more now is = record {
  before = is.before;
  made = is.made;
  later = is.later ++ more;
  entries_are = ap (λ (es : List Entry). es ++ more) is.entries_are
      ∙ append_assoc is.before (is.made ++ is.later) more
      ∙ ap (λ (es : List Entry). is.before ++ es) (append_assoc is.made is.later more);
  stop = is.stop;
  left = is.left;
}

-- less is left
pub stopped-fewer : (geometry : Geometry) (number : ℕ) (opening : State) (entries : List Entry)
    (now later : Seen) → ((image : Image) → Left later image → Left now image)
    → HasStopped geometry number opening entries now
    → HasStopped geometry number opening entries later
stopped-fewer geometry number opening entries now later fewer is = record {
  before = is.before;
  made = is.made;
  later = is.later;
  entries_are = is.entries_are;
  stop = is.stop;
  left = λ image left. is.left image (fewer image left);
}
