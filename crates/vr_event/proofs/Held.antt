-- What the entry of a read that is done leaves of a volume.
use Rattle.std.proofs.Common.{◌≡◌, ℕ, Bool, cond, List, Option, Some, None, ap, ◌∙◌}
use Rattle.std.specs.Prelude.{Err, Ok, OnOk, Result}
use Rattle.vr_browse.specs.declared.positions.FilePosition.{FilePosition}
use Rattle.vr_types.specs.Locks.{Lock}
use Rattle.vr_types.specs.Seen.{Seen}
use Rattle.vr_types.specs.declared.lock_name.LockName.{LockName}
use Rattle.vr_types.specs.declared.position.Stand.{Stand}
use Rattle.vr_types.specs.declared.reply.Reply.{Reply}
use Rattle.vr_types.specs.declared.reply.Reply.TheVariants as replies
use Rattle.vr_types.specs.declared.request.FileRef.{FileRef}
use Rattle.vr_types.specs.declared.request.Find.{Find}
use Rattle.vr_types.specs.declared.request.Request.{Request}
use Rattle.vr_types.specs.declared.request.Request.TheVariants.{Get, Point}
use Rattle.vr_types.specs.declared.unit.Integrity.{Integrity}
use Rattle.vr_types.specs.declared.unit.Unit.{Unit as UnitOfRecovery}
use Rattle.vr_history.specs.declared.entry.What.TheVariants.{Asked}
use Rattle.vr_history.specs.Case.{Case}
use Rattle.vr_history.specs.Found.{place_read}
use Rattle.vr_history.specs.Names.{lock_names}
use Rattle.vr_history.specs.RefusedRecord.{record_read}
use Rattle.vr_history.specs.Replies.{done_by, read_feedback}
use Rattle.vr_history.specs.State.{State}
use Rattle.vr_history.specs.Step.{case_of}
use Rattle.vr_answer.specs.Least.{found_at}
use Rattle.vr_record_file.specs.Now.{FileNow, IsStateOf, MayBeAsked, entry_next, stand_done}
use Rattle.vr_record_file.specs.Now.{state_now, with_event}
use Rattle.vr_event.specs.Getting.{IsAsked, MayEnd}
use Rattle.vr_event.specs.declared.getting.Outcome.TheVariants.{Done, Pointed}
use Rattle.vr_event.specs.Volume.{IsHeld, VolumeNow}
use Rattle.vr_event.proofs.Entries.{may-asked}
use Rattle.vr_event.proofs.Readings.{alike-point, alike-read, held-entered}

-- of what a call says where it succeeds
pub ok-both : {X E : Type 0} {A B C : Type 0} (result : Result X E) → OnOk result A
    → OnOk result B → (A → B → C) → OnOk result C
ok-both (Ok x) a b both = both a b
ok-both (Err e) a b both = tt

-- what the call that enters a GET says of its state
abbrev pub IsReadState : State → FileNow → FileNow → UnitOfRecovery → Request → Reply
    → List LockName → Stand → Option (List ℕ) → Type 0
IsReadState opening file to unit request reply names stand held =
    (on : FileRef) (find : Find) (place : List ℕ) (update : Bool) (integrity : Integrity)
    (feedback : ℕ) (shown bytes : Option (List ℕ))
    → let case = case_of file.geometry (state_now opening file) unit request in
    IsStateOf opening file → MayBeAsked opening file unit request reply
    → request ≡ Get on find update integrity → reply ≡ replies.Done feedback shown bytes
    → place_read case ≡ Some place → names ≡ lock_names case request → stand ≡ stand_done case
    → held ≡ cond update (Some place) None → IsStateOf opening to

-- and what the call that enters a POINT does
abbrev pub IsPointState : State → FileNow → FileNow → UnitOfRecovery → Request → Reply → List ℕ
    → Type 0
IsPointState opening file to unit request reply at =
    (on : FileRef) (find : Find) (feedback : ℕ) (shown bytes : Option (List ℕ))
    → let case = case_of file.geometry (state_now opening file) unit request in
    IsStateOf opening file → MayBeAsked opening file unit request reply
    → request ≡ Point on find → reply ≡ replies.Done feedback shown bytes
    → found_at case ≡ Some at → IsStateOf opening to

module _ {B : Type 0} (seen : B → Seen) (opening : State) (volume : VolumeNow B) (to : FileNow)
    (after : ℕ) (unit : UnitOfRecovery) (line : ℕ) (request : Request) (reply : Reply) where
  abbrev file : FileNow
  file = volume.file

  abbrev case : Case
  case = case_of file.geometry (state_now opening file) unit request

  pub held-read : (names : List LockName) (at : List ℕ) (stand : Stand) (held : Option (List ℕ))
      (locks : List Lock) (files : List FilePosition) (room : ℕ)
      → to ≡ with_event after unit line (Asked request reply)
      (record volume.file { locks = locks; files = files; files_room = room })
      → IsReadState opening volume.file to unit request reply names stand held
      → ((on : FileRef) (find : Find) (update : Bool) (integrity : Integrity)
      → IsStateOf opening volume.file → request ≡ Get on find update integrity
      → found_at case ≡ Some at → stand ≡ stand_done case)
      → IsAsked opening volume.file unit request → MayEnd case (Done reply names at held)
      → IsHeld seen opening volume → IsHeld seen opening (record volume { file = to })
  held-read names at stand held locks files room leaves read stands asked may is =
      let got = may.1 in
      let done : reply ≡ replies.Done (read_feedback case) (place_read case) (record_read case) =
      got.reply_is ∙ ap (λ (r : Request). done_by case r) got.is in
      held-entered seen opening volume to after unit line (Asked request reply) locks files room
      leaves
      (alike-read file.geometry opening file.entries
      (entry_next file.entries after unit line (Asked request reply)) request (read_feedback case)
      (place_read case) (record_read case) (ap (Asked request) done) got.on got.find got.update
      got.integrity got.is) is
      (read got.on got.find at got.update got.integrity (read_feedback case) (place_read case)
      (record_read case) is.file (may-asked opening file unit request reply asked may.0) got.is done
      got.read_at got.names_are
      (stands got.on got.find got.update got.integrity is.file got.is got.found_is) got.held_is)

  pub held-pointed : (at : List ℕ)
      → to ≡ with_event after unit line (Asked request reply)
      (record volume.file { files = to.files; files_room = to.files_room })
      → IsPointState opening volume.file to unit request reply at
      → IsAsked opening volume.file unit request → MayEnd case (Pointed reply at)
      → IsHeld seen opening volume → IsHeld seen opening (record volume { file = to })
  held-pointed at leaves point asked may is =
      let pointed = may.1 in
      let done : reply ≡ replies.Done 0 (place_read case) None =
      pointed.reply_is ∙ ap (λ (r : Request). done_by case r) pointed.is in
      held-entered seen opening volume to after unit line (Asked request reply) file.locks to.files
      to.files_room leaves
      (alike-point file.geometry opening file.entries
      (entry_next file.entries after unit line (Asked request reply)) request 0 (place_read case)
      None (ap (Asked request) done) pointed.on pointed.find pointed.is) is
      (point pointed.on pointed.find 0 (place_read case) None is.file
      (may-asked opening file unit request reply asked may.0) pointed.is done pointed.found_is)
