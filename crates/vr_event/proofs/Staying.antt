-- The refusals that need no record move no file, whatever the request.
use Rattle.std.proofs.Common.{◌≡◌, ℕ, Bool, true, false, not, List, [], ◌∷◌, Option, Some, None, refl}
use Rattle.std.proofs.Common.{nat_eq, length}
use Rattle.std.specs.List.{AllByRecursion}
use Rattle.std.specs.Option.{option_and_then, option_map}
use Rattle.vr_catalog.specs.Definition.{is_valid_record}
use Rattle.vr_catalog.specs.declared.definition.Definition.{Definition}
use Rattle.vr_types.specs.declared.reply.Refusal.{Refusal}
use Rattle.vr_types.specs.declared.reply.Refusal.TheVariants.{BadLength, BadSlot, NoFile, NoGet}
use Rattle.vr_types.specs.declared.reply.Refusal.TheVariants.{NoPosition, NotAllowed, Stopped}
use Rattle.vr_types.specs.declared.request.Find.{Find}
use Rattle.vr_types.specs.declared.request.Find.TheVariants.{Next, Equal, AtLeast}
use Rattle.vr_types.specs.declared.request.Request.{Request}
use Rattle.vr_types.specs.declared.request.Request.TheVariants.{Get, Point, Add, Update, Erase}
use Rattle.vr_types.specs.declared.request.Request.TheVariants.{EndReq, Commit, Backout}
use Rattle.vr_types.specs.declared.unit.Kind.{Kind}
use Rattle.vr_types.specs.declared.unit.Kind.TheVariants.{Keyed, Entry, Relative}
use Rattle.vr_history.specs.Case.{Case, file_of}
use Rattle.vr_history.specs.Opened.{Opened, Unknown, Cluster, ByPath, opened}
use Rattle.vr_history.specs.RefusedFile.{find_length_wrong, has_length}
use Rattle.vr_history.specs.RefusedFile.{key_length_wrong, length_wrong}
use Rattle.vr_history.specs.RefusedFile.{record_wrong, refused_if, shown_length, slot_named}
use Rattle.vr_history.specs.Replies.{first_of}
use Rattle.vr_history.specs.Step.{stand_refused}
use Rattle.vr_answer.specs.Tried.{file_refusals}

-- the refusal, if there is one, moves no file
abbrev Stays : Request → Option Refusal → Type 0
Stays request o = option_and_then (stand_refused request) o ≡ None

first-stays : (request : Request) (refusals : List (Option Refusal))
    → AllByRecursion (Stays request) refusals → Stays request (first_of refusals)
first-stays request [] all = refl
first-stays request (None ∷ refusals) all = first-stays request refusals all.1
first-stays request (Some refusal ∷ refusals) all = all.0

module _ (request : Request) where
  stays-if : (b : Bool) (refusal : Refusal) → stand_refused request refusal ≡ None
      → Stays request (refused_if b refusal)
  stays-if true refusal is = is
  stays-if false refusal is = refl

  stays-where : {X : Type 0} (test : X → Bool) (refusal : Refusal)
      → stand_refused request refusal ≡ None → (o : Option X)
      → Stays request (option_and_then (λ x. refused_if (test x) refusal) o)
  stays-where test refusal is None = refl
  stays-where test refusal is (Some x) = stays-if (test x) refusal is

  stopped-stays : (o : Option ℕ) → Stays request (option_map Stopped o)
  stopped-stays None = refl
  stopped-stays (Some stamp) = refl

  length-stays : (wanted : ℕ) (place : List ℕ) → Stays request (has_length wanted place)
  length-stays wanted place =
      stays-if (not (nat_eq (length place) wanted)) (BadLength (shown_length place)) refl

  kind-stays : (kind : Kind) (definition : Definition) (place : List ℕ)
      → Stays request (key_length_wrong (Cluster (record definition { kind = kind })) place)
  kind-stays Keyed definition place = length-stays definition.key_length place
  kind-stays Entry definition place = refl
  kind-stays Relative definition place = refl

  key-stays : (on : Opened) (place : List ℕ) → Stays request (key_length_wrong on place)
  key-stays Unknown place = refl
  key-stays (Cluster definition) place = kind-stays definition.kind definition place
  key-stays (ByPath definition alternate) place = length-stays alternate.key_length place

  find-stays : (on : Opened) (find : Find) → Stays request (find_length_wrong on find)
  find-stays on Next = refl
  find-stays on (Equal place) = key-stays on place
  find-stays on (AtLeast place) = key-stays on place

  record-stays : (on : Opened) (bytes : List ℕ) → Stays request (record_wrong on bytes)
  record-stays Unknown bytes = refl
  record-stays (Cluster definition) bytes =
      stays-if (not (is_valid_record definition bytes)) (BadLength (shown_length bytes)) refl
  record-stays (ByPath definition alternate) bytes =
      stays-if (not (is_valid_record definition bytes)) (BadLength (shown_length bytes)) refl

  wrong-stays : (on : Opened) (asked : Request) → Stays request (length_wrong on asked)
  wrong-stays on (Get file find update integrity) = find-stays on find
  wrong-stays on (Point file find) = find-stays on find
  wrong-stays on (Add file place bytes) = record-stays on bytes
  wrong-stays on (Update file bytes) = record-stays on bytes
  wrong-stays on (Erase file) = refl
  wrong-stays on (EndReq file) = refl
  wrong-stays on Commit = refl
  wrong-stays on Backout = refl

pub files-stay : (case : Case)
    → option_and_then (stand_refused case.request) (first_of (file_refusals case)) ≡ None
files-stay case =
    let request = case.request in
    first-stays request (file_refusals case) (
      stays-where request _ NoFile refl (file_of request),
      (
        stopped-stays request case.state.stopped,
        (
          stays-if request _ NotAllowed refl,
          (
            stays-where request _ BadSlot refl (slot_named request),
            (
              wrong-stays request (opened case) request,
              (
                stays-if request _ NoPosition refl,
                (
                  stays-if request _ NoGet refl,
                  tt,
                ),
              ),
            ),
          ),
        ),
      ),
    )
