-- What a read may come to.
use Rattle.std.proofs.Common.{◌≡◌, ◌≢◌, ◌∷◌, ◌∙◌, [], ℕ, Bool, List, Option, Some, None, refl, sym}
use Rattle.std.proofs.Common.{ap, subst, inl, inr, cond, IsTrue}
use Rattle.std.specs.Prelude.{is_none}
use Rattle.std.specs.Option.{option_and_then, option_copied}
use Rattle.std.proofs.lemmas.Option.{none-some}
use Rattle.vr_types.specs.declared.fault.DeviceFault.TheVariants.{Read, Write}
use Rattle.vr_types.specs.declared.lock_name.LockName.{LockName}
use Rattle.vr_types.specs.declared.reply.Refusal.{Refusal}
use Rattle.vr_types.specs.declared.reply.Reply.{Reply}
use Rattle.vr_types.specs.declared.request.FileRef.{FileRef}
use Rattle.vr_types.specs.declared.request.Find.{Find}
use Rattle.vr_types.specs.declared.request.Request.{Request}
use Rattle.vr_types.specs.declared.request.Request.TheVariants.{Get, Point, Add, Update, Erase}
use Rattle.vr_types.specs.declared.request.Request.TheVariants.{EndReq, Commit, Backout}
use Rattle.vr_types.specs.declared.unit.Integrity.{Integrity}
use Rattle.vr_history.specs.Case.{Case}
use Rattle.vr_history.specs.Change.{record_held}
use Rattle.vr_history.specs.Names.{lock_names}
use Rattle.vr_history.specs.Opened.{opened}
use Rattle.vr_history.specs.RefusedFile.{refused_if}
use Rattle.vr_history.specs.RefusedRecord.{absent, absent_for, absent_to, duplicate, duplicate_key}
use Rattle.vr_history.specs.RefusedRecord.{gone, held, key_changed, length_changed, record_read}
use Rattle.vr_history.specs.RefusedRoom.{log_full, no_space}
use Rattle.vr_history.specs.Replies.{CanEnd, IsAnswered, MayReply, done_by, first_of, may_read}
use Rattle.vr_history.specs.Replies.{may_want}
use Rattle.vr_answer.specs.InHand.{IsLookedAt}
use Rattle.vr_answer.specs.Least.{found_at}
use Rattle.vr_answer.specs.declared.case.Looked.{Looked as LookedInHand}
use Rattle.vr_answer.specs.Tried.{file_refusals, record_refusals}
use Rattle.vr_answer.proofs.CallerLemmas.{answered_by_record, answered_done, lacks_memory}
use Rattle.vr_answer.proofs.CallerLemmas.{meets_read_fault, meets_write_fault}
use Rattle.vr_event.specs.Getting.{IsGet, IsRead, MayEnd, is_for_update, refusal_of}
use Rattle.vr_event.specs.Searching.{IsSought}
use Rattle.vr_event.specs.declared.getting.Outcome.TheVariants.{Done, Pointed, Refused}
use Rattle.vr_store.specs.declared.no.LookNo.{LookNo}
use Rattle.vr_store.specs.declared.no.LookNo.TheVariants.{Fault, Memory}

-- a read is a GET or a POINT
pub read-elim : (P : Request → Type 0)
    → ((on : FileRef) (find : Find) (update : Bool) (integrity : Integrity)
    → P (Get on find update integrity))
    → ((on : FileRef) (find : Find) → P (Point on find))
    → (request : Request) → IsRead request → P request
read-elim P got pointed (Get on find update integrity) read = got on find update integrity
read-elim P got pointed (Point on find) read = pointed on find
read-elim P got pointed (Add on place bytes) read = absurd read
read-elim P got pointed (Update on bytes) read = absurd read
read-elim P got pointed (Erase on) read = absurd read
read-elim P got pointed (EndReq on) read = absurd read
read-elim P got pointed Commit read = absurd read
read-elim P got pointed Backout read = absurd read

module _ (case : Case) (read : IsRead case.request)
    (none : first_of (file_refusals case) ≡ None) where
  no-log : log_full case ≡ None
  no-log = read-elim (λ (r : Request). log_full (record case { request = r }) ≡ None)
      (λ on find update integrity. refl) (λ on find. refl) case.request read

  ends : CanEnd case case.request
  ends = read-elim (CanEnd case) (λ on find update integrity. tt) (λ on find. tt) case.request read

  wants : IsTrue (may_want case.request)
  wants = read-elim (λ (r : Request). IsTrue (may_want r)) (λ on find update integrity. refl)
      (λ on find. refl) case.request read

  reads : IsTrue (may_read case.request)
  reads = read-elim (λ (r : Request). IsTrue (may_read r)) (λ on find update integrity. refl)
      (λ on find. refl) case.request read

  -- it is done where nothing refuses,
  pub may-done : (reply : Reply) → first_of (record_refusals case) ≡ None
      → reply ≡ done_by case case.request → MayReply case reply
  may-done reply no-record reply_is =
      inl (subst (IsAnswered case) (sym reply_is) (answered_done case none no-record no-log ends))

  -- refused by the record,
  pub may-refuse : (refusal : Refusal) → Some refusal ≡ first_of (record_refusals case)
      → MayEnd case (Refused refusal)
  may-refuse refusal is = inl (answered_by_record case refusal none (sym is))

  -- or refused where memory ran out or the device failed
  pub may-fail : (no : LookNo) → MayEnd case (Refused (refusal_of no))
  may-fail (Fault Read) = inr (inr (inr (meets_read_fault case none reads)))
  may-fail (Fault Write) = inr (inr (inr (meets_write_fault case none)))
  may-fail Memory = inr (inr (inl (lacks_memory case none wants)))

-- ---- a record is there

fifth-none : (a b c d e : Option Refusal) (rest : List (Option Refusal))
    → first_of (a ∷ b ∷ c ∷ d ∷ e ∷ rest) ≡ None → e ≡ None
fifth-none None None None None None rest none = refl
fifth-none None None None None (Some r) rest none = absurd (none-some r (sym none))
fifth-none None None None (Some r) e rest none = absurd (none-some r (sym none))
fifth-none None None (Some r) d e rest none = absurd (none-some r (sym none))
fifth-none None (Some r) c d e rest none = absurd (none-some r (sym none))
fifth-none (Some r) b c d e rest none = absurd (none-some r (sym none))

some-unless : (o : Option (List ℕ)) (refusal : Refusal) → refused_if (is_none o) refusal ≡ None
    → o ≢ None
some-unless None refusal none = absurd (none-some refusal (sym none))
some-unless (Some bytes) refusal none = λ is. none-some bytes (sym is)

-- where the record refuses no read, one stands at its place
record-there : (case : Case) → IsRead case.request → first_of (record_refusals case) ≡ None
    → record_read case ≢ None
record-there case read none =
    read-elim (λ (r : Request). absent_to case r ≡ None → record_read case ≢ None)
    (λ on find update integrity no. some-unless (record_read case) (absent_for (opened case) find) no)
    (λ on find no. some-unless (record_read case) (absent_for (opened case) find) no)
    case.request read
    (fifth-none (gone case) (key_changed case) (length_changed case) (held case) (absent case)
    (duplicate case ∷ duplicate_key case ∷ no_space case ∷ []) none)

-- so it is what the read finds
pub found-there : (case : Case) (at : List ℕ) → IsRead case.request
    → first_of (record_refusals case) ≡ None → IsSought case (Some at) → found_at case ≡ Some at
found-there case at read none sought = sought.found at refl
    (subst (λ (o : Option (List ℕ)). o ≢ None) sought.comes.bytes (record-there case read none))

record IsGetBy (request : Request) : Type 0 where
  pub on : FileRef
  pub find : Find
  pub update : Bool
  pub integrity : Integrity
  pub is : request ≡ Get on find update integrity

get-by : (request : Request) → IsGet request → IsGetBy request
get-by (Get on find update integrity) get =
    record { on = on; find = find; update = update; integrity = integrity; is = refl }
get-by (Point on find) get = absurd get
get-by (Add on place bytes) get = absurd get
get-by (Update on bytes) get = absurd get
get-by (Erase on) get = absurd get
get-by (EndReq on) get = absurd get
get-by Commit get = absurd get
get-by Backout get = absurd get

-- what a GET that is done comes to,
pub may-got : (case : Case) → IsGet case.request → first_of (file_refusals case) ≡ None
    → first_of (record_refusals case) ≡ None → (at : List ℕ) → IsSought case (Some at)
    → (reply : Reply) (names : List LockName) (held : Option (List ℕ))
    → reply ≡ done_by case case.request → names ≡ lock_names case case.request
    → held ≡ cond (is_for_update case.request) (Some at) None
    → MayEnd case (Done reply names at held)
may-got case get none no-record at sought reply names held reply_is names_are held_is =
    let by = get-by case.request get in
    let read = subst IsRead (sym by.is) tt in (
      may-done case read none reply no-record reply_is,
      record {
        on = by.on;
        find = by.find;
        update = by.update;
        integrity = by.integrity;
        is = by.is;
        reply_is = reply_is;
        names_are = names_are;
        read_at = sought.comes.place;
        found_is = found-there case at read no-record sought;
        held_is = held_is ∙ ap (λ (r : Request). cond (is_for_update r) (Some at) None) by.is;
      },
    )

-- and a POINT
pub may-point : (case : Case) (on : FileRef) (find : Find) → case.request ≡ Point on find
    → first_of (file_refusals case) ≡ None → first_of (record_refusals case) ≡ None
    → (at : List ℕ) → IsSought case (Some at) → (reply : Reply)
    → reply ≡ done_by case case.request → MayEnd case (Pointed reply at)
may-point case on find is none no-record at sought reply reply_is =
    let read = subst IsRead (sym is) tt in (
      may-done case read none reply no-record reply_is,
      record {
        on = on;
        find = find;
        is = is;
        reply_is = reply_is;
        found_is = found-there case at read no-record sought;
      },
    )

-- ---- what is in memory of a read

-- the place that it comes to, and the record there, are what is looked at
pub looked-sought : (looked : LookedInHand) (case : Case) (at : Option (List ℕ))
    → IsSought case at → option_copied looked.place ≡ at
    → option_copied looked.present ≡ option_and_then (record_held case) at
    → IsLookedAt looked case
looked-sought looked case at sought place present = record {
  place = place ∙ sym sought.comes.looked_at;
  present = present ∙ sym sought.comes.looked_bytes;
}
