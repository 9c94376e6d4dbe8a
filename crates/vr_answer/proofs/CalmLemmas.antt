-- No refusal by what is in memory is a fault of the device.
use Rattle.std.proofs.Common.{◌||◌, ℕ, Bool, true, false, List, Option, Some, None}
use Rattle.std.specs.Option.{option_and_then, option_map, option_or}
use Rattle.vr_catalog.specs.declared.definition.Definition.{Definition}
use Rattle.vr_types.specs.declared.reply.Refusal.{Refusal}
use Rattle.vr_types.specs.declared.reply.Refusal.TheVariants.{BadLength, BadSlot, NoFile, NoGet}
use Rattle.vr_types.specs.declared.reply.Refusal.TheVariants.{NoPosition, NotAllowed, Stopped}
use Rattle.vr_types.specs.declared.request.FileRef.{FileRef}
use Rattle.vr_types.specs.declared.request.Find.{Find}
use Rattle.vr_types.specs.declared.request.Find.TheVariants.{Next, Equal, AtLeast}
use Rattle.vr_types.specs.declared.request.Request.{Request}
use Rattle.vr_types.specs.declared.request.Request.TheVariants.{Get, Point, Add, Update, Erase}
use Rattle.vr_types.specs.declared.request.Request.TheVariants.{EndReq, Commit, Backout}
use Rattle.vr_types.specs.declared.unit.Kind.{Kind}
use Rattle.vr_types.specs.declared.unit.Kind.TheVariants.{Keyed, Entry, Relative}
use Rattle.vr_history.specs.Case.{file_of}
use Rattle.vr_history.specs.Opened.{Opened, Unknown, Cluster, ByPath}
use Rattle.vr_history.specs.RefusedFile.{find_length_wrong, has_length, is_slot_zero, is_unknown}
use Rattle.vr_history.specs.RefusedFile.{key_length_wrong, length_wrong, record_wrong, refused_if}
use Rattle.vr_history.specs.RefusedFile.{slot_named}
use Rattle.vr_answer.specs.declared.case.Case.{Case as CaseInHand}
use Rattle.vr_answer.specs.Here.{asked_here, before_here, file_here, form_by, no_file_here}
use Rattle.vr_answer.specs.Here.{form_here, no_get_here, no_position_here, placed_here}
use Rattle.vr_answer.specs.Here.{stopped_here}
use Rattle.vr_answer.specs.Opening.{as_opened, definition_here}
use Rattle.vr_answer.specs.Tried.{IsCalm}

calm-none : IsCalm None
calm-none = record { read = λ is. cc; write = λ is. cc }

calm-or : (a b : Option Refusal) → IsCalm a → IsCalm b → IsCalm (option_or a b)
calm-or None b one other = other
calm-or (Some r) b one other = one

calm-if : (test : Bool) (refusal : Refusal) → IsCalm (Some refusal) → IsCalm (refused_if test refusal)
calm-if true refusal is = is
calm-if false refusal is = calm-none

calm-then : {A : Type 0} (f : A → Option Refusal) (o : Option A) → ((a : A) → IsCalm (f a))
    → IsCalm (option_and_then f o)
calm-then f None each = calm-none
calm-then f (Some a) each = each a

calm-no-file : IsCalm (Some NoFile)
calm-no-file = record { read = λ is. cc; write = λ is. cc }

calm-not-allowed : IsCalm (Some NotAllowed)
calm-not-allowed = record { read = λ is. cc; write = λ is. cc }

calm-slot : IsCalm (Some BadSlot)
calm-slot = record { read = λ is. cc; write = λ is. cc }

calm-no-get : IsCalm (Some NoGet)
calm-no-get = record { read = λ is. cc; write = λ is. cc }

calm-no-position : IsCalm (Some NoPosition)
calm-no-position = record { read = λ is. cc; write = λ is. cc }

calm-length : (n : ℕ) → IsCalm (Some (BadLength n))
calm-length n = record { read = λ is. cc; write = λ is. cc }

calm-stopped : (o : Option ℕ) → IsCalm (option_map Stopped o)
calm-stopped None = calm-none
calm-stopped (Some stamp) = record { read = λ is. cc; write = λ is. cc }

calm-has : (wanted : ℕ) (place : List ℕ) → IsCalm (has_length wanted place)
calm-has wanted place = calm-if _ _ (calm-length _)

calm-key : (opened : Opened) (place : List ℕ) → IsCalm (key_length_wrong opened place)
calm-key Unknown place = calm-none
calm-key (ByPath definition alternate) place = calm-has alternate.key_length place
calm-key (Cluster definition) place = by_kind definition.kind
  where
    by_kind : (kind : Kind)
        → IsCalm (key_length_wrong (Cluster (record definition { kind = kind })) place)
    by_kind Keyed = calm-has definition.key_length place
    by_kind Entry = calm-none
    by_kind Relative = calm-none

calm-find : (opened : Opened) (find : Find) → IsCalm (find_length_wrong opened find)
calm-find opened Next = calm-none
calm-find opened (Equal place) = calm-key opened place
calm-find opened (AtLeast place) = calm-key opened place

calm-record : (opened : Opened) (bytes : List ℕ) → IsCalm (record_wrong opened bytes)
calm-record Unknown bytes = calm-none
calm-record (Cluster definition) bytes = calm-if _ _ (calm-length _)
calm-record (ByPath definition alternate) bytes = calm-if _ _ (calm-length _)

calm-wrong : (opened : Opened) (request : Request) → IsCalm (length_wrong opened request)
calm-wrong opened (Get file find update integrity) = calm-find opened find
calm-wrong opened (Point file find) = calm-find opened find
calm-wrong opened (Add file place bytes) = calm-record opened bytes
calm-wrong opened (Update file bytes) = calm-record opened bytes
calm-wrong opened (Erase file) = calm-none
calm-wrong opened (EndReq file) = calm-none
calm-wrong opened Commit = calm-none
calm-wrong opened Backout = calm-none

pub file_calm : (case : CaseInHand) → IsCalm (file_here case)
file_calm case =
    calm-or (before_here case) (asked_here case)
    (calm-or (no_file_here case) (stopped_here case)
    (calm-then (λ (file : FileRef). refused_if (is_unknown (as_opened (definition_here case))
    || case.catalog_changing) NoFile) (file_of case.request.now)
    (λ file. calm-if _ _ calm-no-file))
    (calm-stopped case.stopped))
    (calm-or (form_here case) (placed_here case)
    (calm-then (λ (known : Definition). form_by (Some known) case.request.now)
    (definition_here case)
    (λ known. calm-or _ _ (calm-if _ _ calm-not-allowed)
    (calm-or _ _ (calm-then (λ (place : List ℕ).
    refused_if (is_slot_zero (as_opened (Some known)) place) BadSlot) (slot_named case.request.now)
    (λ place. calm-if _ _ calm-slot))
    (calm-wrong (as_opened (Some known)) case.request.now))))
    (calm-or (no_position_here case) (no_get_here case) (calm-if _ _ calm-no-position)
    (calm-if _ _ calm-no-get)))
