-- How a change is refused.
use Rattle.std.proofs.Common.{◌≡◌, ◌⊎◌, ◌||◌, ℕ, Bool, true, false, List, [], Option}
use Rattle.std.proofs.Common.{Some, None, refl, sym, ap, subst, ◌∙◌, inl, inr, IsTrue}
use Rattle.std.specs.Option.{option_and_then, option_or}
use Rattle.vr_catalog.specs.declared.definition.Definition.{Definition}
use Rattle.vr_types.specs.declared.fault.DeviceFault.TheVariants.{Read, Write}
use Rattle.vr_types.specs.declared.reply.Refusal.{Refusal}
use Rattle.vr_types.specs.declared.reply.Refusal.TheVariants.{Memory as NoMemory, NoFile, NoSpace}
use Rattle.vr_types.specs.declared.reply.Reply.TheVariants.{Refused}
use Rattle.vr_types.specs.declared.request.FileRef.{FileRef}
use Rattle.vr_types.specs.declared.request.Find.{Find}
use Rattle.vr_types.specs.declared.request.Request.{Request}
use Rattle.vr_types.specs.declared.request.Request.TheVariants.{Get, Point, Add, Update, Erase}
use Rattle.vr_types.specs.declared.request.Request.TheVariants.{EndReq, Commit, Backout}
use Rattle.vr_history.specs.Case.{Case, file_of, find_of, new_record}
use Rattle.vr_history.specs.Change.{place_asked, place_changed}
use Rattle.vr_history.specs.Found.{found, place_in}
use Rattle.vr_history.specs.Opened.{ByPath, Cluster, Opened, Unknown, definition_in, opened}
use Rattle.vr_history.specs.RefusedFile.{is_catalog_changing, is_unknown, no_file, refused_if}
use Rattle.vr_history.specs.RefusedRecord.{absent, duplicate, duplicate_key, gone, held}
use Rattle.vr_history.specs.RefusedRecord.{key_changed, length_changed}
use Rattle.vr_history.specs.RefusedRoom.{log_full, no_space}
use Rattle.vr_history.specs.Replies.{before_room, first_of, may_read, may_want}
use Rattle.vr_history.specs.Step.{stand_refused}
use Rattle.vr_answer.specs.Looked.{place_looked_at}
use Rattle.vr_answer.specs.Scope.{IsDirect}
use Rattle.vr_answer.specs.Tried.{file_refusals, record_refusals}
use Rattle.vr_answer.proofs.CallerLemmas.{answered_by_log, answered_by_record, first_of-append}
use Rattle.vr_answer.proofs.CallerLemmas.{lacks_memory, meets_read_fault, meets_write_fault}
use Rattle.vr_event.specs.Getting.{refusal_of}
use Rattle.vr_event.specs.Putting.{IsChange, IsRefusedBy, LacksArea, MayRefuse}
use Rattle.vr_store.specs.declared.no.LookNo.{LookNo}
use Rattle.vr_store.specs.declared.no.LookNo.TheVariants.{Fault, Memory}
use Rattle.vr_event.proofs.Unrefused.{first-none, rest-none, unrefused-false}

module _ (case : Case) where
  -- by the record and by locks,
  pub refuse-record : (refusal : Refusal) → Some refusal ≡ first_of (record_refusals case)
      → option_and_then (stand_refused case.request) (Some refusal) ≡ None
      → MayRefuse case refusal
  refuse-record refusal is stays none =
      (inl (answered_by_record case refusal none (sym is)), stays)

  -- and by the log
  pub refuse-log : first_of (record_refusals case) ≡ None → (refused : Option Refusal)
      → refused ≡ log_full case
      → option_and_then (stand_refused case.request) refused ≡ None → IsRefusedBy case refused
  refuse-log no-record None is stays = (no-record, sym is)
  refuse-log no-record (Some refusal) is stays =
      λ none. (inl (answered_by_log case refusal none no-record (sym is)), stays)

-- ---- out of memory, a fault, or no room

none-some : {X : Type 0} {x : X} → None ≡ Some x → ⊥
none-some same = cc

-- a request that names a place to change
pub asks-change : (case : Case) (request : Request) (place : List ℕ)
    → place_asked case request ≡ Some place → IsChange request
asks-change case (Add on named bytes) place is = tt
asks-change case (Update on bytes) place is = tt
asks-change case (Erase on) place is = tt
asks-change case (Get on find update integrity) place is = none-some is
asks-change case (Point on find) place is = none-some is
asks-change case (EndReq on) place is = none-some is
asks-change case Commit place is = none-some is
asks-change case Backout place is = none-some is

change-wants : (request : Request) → IsChange request → IsTrue (may_want request)
change-wants (Add on named bytes) is = refl
change-wants (Update on bytes) is = refl
change-wants (Erase on) is = refl
change-wants (Get on find update integrity) is = refl
change-wants (Point on find) is = refl
change-wants (EndReq on) is = refl
change-wants Commit is = absurd is
change-wants Backout is = absurd is

change-reads : (request : Request) → IsChange request → IsTrue (may_read request)
change-reads (Add on named bytes) is = refl
change-reads (Update on bytes) is = refl
change-reads (Erase on) is = refl
change-reads (Get on find update integrity) is = refl
change-reads (Point on find) is = refl
change-reads (EndReq on) is = refl
change-reads Commit is = absurd is
change-reads Backout is = absurd is

-- a change is direct,
pub change-direct : (request : Request) → IsChange request → IsDirect request
change-direct (Add on named bytes) is = tt
change-direct (Update on bytes) is = tt
change-direct (Erase on) is = tt
change-direct (Get on find update integrity) is = absurd is
change-direct (Point on find) is = absurd is
change-direct (EndReq on) is = absurd is
change-direct Commit is = absurd is
change-direct Backout is = absurd is

-- changes a place, and reads none
pub change-looks : (case : Case) → IsChange case.request → place_looked_at case ≡ place_changed case
change-looks case is = by_request case.request is refl
  where
    unread : find_of case.request ≡ None → place_looked_at case ≡ place_changed case
    unread none = ap (λ (o : Option Find). option_or
        (option_and_then (λ (find : Find). place_in (opened case) find (found case)) o)
        (place_changed case)) none

    by_request : (request : Request) → IsChange request → case.request ≡ request
        → place_looked_at case ≡ place_changed case
    by_request (Add on named bytes) is same = unread (ap find_of same)
    by_request (Update on bytes) is same = unread (ap find_of same)
    by_request (Erase on) is same = unread (ap find_of same)
    by_request (Get on find update integrity) is same = absurd is
    by_request (Point on find) is same = absurd is
    by_request (EndReq on) is same = absurd is
    by_request Commit is same = absurd is
    by_request Backout is same = absurd is

module _ (case : Case) (change : IsChange case.request) where
  pub refuse-memory : MayRefuse case NoMemory
  refuse-memory none =
      (inr (inr (inl (lacks_memory case none (change-wants case.request change)))), refl)

  pub refuse-look : (no : LookNo) → MayRefuse case (refusal_of no)
  refuse-look (Fault Read) none =
      (inr (inr (inr (meets_read_fault case none (change-reads case.request change)))), refl)
  refuse-look (Fault Write) none = (inr (inr (inr (meets_write_fault case none))), refl)
  refuse-look Memory none = refuse-memory none

  pub refuse-unless : (refusal result : Refusal)
      → (result ≡ refusal) ⊎ (result ≡ NoMemory) → MayRefuse case refusal
      → MayRefuse case result
  refuse-unless refusal result (inl is) may = subst (MayRefuse case) (sym is) may
  refuse-unless refusal result (inr is) may = subst (MayRefuse case) (sym is) refuse-memory

-- nor does one that is answered in its place move a file
pub stays-unless : (request : Request) (refusal result : Refusal)
    → (result ≡ refusal) ⊎ (result ≡ NoMemory) → stand_refused request refusal ≡ None
    → stand_refused request result ≡ None
stays-unless request refusal result (inl is) stays =
    subst (λ (r : Refusal). stand_refused request r ≡ None) (sym is) stays
stays-unless request refusal result (inr is) stays =
    subst (λ (r : Refusal). stand_refused request r ≡ None) (sym is) refl

or-first : (a b : Bool) → (a || b) ≡ false → a ≡ false
or-first false b is = refl
or-first true b is = absurd cc

change-known : (request : Request) (test : Bool) → IsChange request
    → option_and_then (λ (file : FileRef). refused_if test NoFile) (file_of request) ≡ None
    → test ≡ false
change-known (Add on named bytes) test is none = unrefused-false test NoFile none
change-known (Update on bytes) test is none = unrefused-false test NoFile none
change-known (Erase on) test is none = unrefused-false test NoFile none
change-known (Get on find update integrity) test is none = absurd is
change-known (Point on find) test is none = absurd is
change-known (EndReq on) test is none = absurd is
change-known Commit test is none = absurd is
change-known Backout test is none = absurd is

-- what a change is on that nothing in memory refuses is stated by the catalog
defined : (opened : Opened) → is_unknown opened ≡ false
    → (definition : Definition) × (definition_in opened ≡ Some definition)
defined Unknown known = absurd cc
defined (Cluster definition) known = (definition, refl)
defined (ByPath definition alternate) known = (definition, refl)

module _ (case : Case) (change : IsChange case.request) where
  pub change-defined : first_of (file_refusals case) ≡ None
      → (definition : Definition) × (definition_in (opened case) ≡ Some definition)
  change-defined none = defined (opened case)
      (or-first (is_unknown (opened case)) (is_catalog_changing case)
      (change-known case.request _ change (first-none (no_file case) _ none)))

module _ (case : Case) (no-record : first_of (record_refusals case) ≡ None) where
  -- nothing refuses it before its room
  pub before-room : first_of (file_refusals case) ≡ None → first_of (before_room case) ≡ None
  before-room none =
      first_of-append (file_refusals case) (record_refusals case)
      ∙ ap (λ (o : Option Refusal). option_or o (first_of (record_refusals case))) none
      ∙ no-record

  -- nor for want of areas
  pub no-wants : no_space case ≡ None
  no-wants = first-none (no_space case) []
      (rest-none (duplicate_key case) _ (rest-none (duplicate case) _ (rest-none (absent case) _
      (rest-none (held case) _ (rest-none (length_changed case) _ (rest-none (key_changed case) _
      (rest-none (gone case) _ no-record)))))))

  -- its part lacks an area
  pub refuse-space : (need free : ℕ) (bytes : List ℕ) → new_record case.request ≡ Some bytes
      → LacksArea case need free → MayRefuse case (NoSpace need free)
  refuse-space need free bytes new lacks none =
      let both = lacks none (λ nothing. none-some (sym nothing ∙ new)) in
      (inr (inl (before-room none, both.0, ap Refused both.1)), refl)
