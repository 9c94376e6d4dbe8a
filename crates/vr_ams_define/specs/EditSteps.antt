-- What the steps of an edit say to one another. The rules are this project's own.
use Rattle.std.specs.Prelude.{◌≡◌, ℕ, ⊤, false, List, [], map, Option, Some, None, Result, Ok, Err}
use Rattle.std.specs.Prelude.{slice_get, slice_set, take}
use Rattle.vr_types.specs.declared.geometry.Geometry.{Geometry}
use Rattle.vr_catalog.specs.Catalog.{entry_named}
use Rattle.vr_catalog.specs.declared.entry.CatEntry.{CatEntry}
use Rattle.vr_catalog.specs.declared.entry.EntryKind.{EntryKind}
use Rattle.vr_catalog.specs.Define.{related_name}
use Rattle.vr_catalog.specs.declared.order.NewEntry.{NewEntry}
use Rattle.vr_edits.specs.Edits.{MayEdit}
use Rattle.vr_edits.specs.declared.edit.CatalogEdit.{CatalogEdit}
use Rattle.vr_trace.specs.Shown.{Shown}
use Rattle.vr_trace.specs.declared.command.Failure.{Failure}
use Rattle.vr_ams_define.specs.Altered.{failure_on, name_failure, place_of}
use Rattle.vr_ams_define.specs.Answers.{Answering, HasEdited}
use Rattle.vr_ams_define.specs.Asked.{failure_by}
use Rattle.vr_ams_define.specs.Deleted.{AreDeleted, edit_lines}
use Rattle.vr_ams_define.specs.declared.answer.Changed.{Changed}
use Rattle.vr_ams_define.specs.declared.carrying.Planned.{Planned}
use Rattle.vr_ams_define.specs.declared.refusal.DefineNo.{DefineNo}
use Rattle.vr_ams_define.specs.declared.refusal.DefineNo.TheVariants.{Refused, Ended}
use Rattle.vr_ams_define.specs.declared.target.Target.{Target}

-- a refusal is by the first cause; memory may run out
abbrev pub IsRefusedBy : Option Failure → DefineNo → Type 0
IsRefusedBy first (Refused failure) = first ≡ Some failure
IsRefusedBy first (Ended end) = ⊤

-- ---- the entry of a name

-- The volume has the entry under the name, and can use it.
pub record IsTargetOn (volume : Shown) (name : List ℕ) (entry : CatEntry) : Type 0 where
  pub named : entry_named volume.catalog name ≡ Some entry
  pub allowed : failure_on (Some volume) (Some entry) ≡ None

-- So has the lowest volume that has the name.
pub record IsNamed (volumes : List Shown) (name : List ℕ) (target : Target) : Type 0 where
  pub place_is : place_of volumes name ≡ Some target.place
  pub volume : Shown
  pub volume_is : slice_get volumes target.place ≡ Some volume
  pub is_on : IsTargetOn volume name target.entry
  pub allowed : name_failure volumes name ≡ None

-- So it has the name in RELATE or PATHENTRY.
pub record IsBase (volumes : List Shown) (what : NewEntry) (target : Target) : Type 0 where
  pub name : List ℕ
  pub name_is : related_name what ≡ Some name
  pub named : IsNamed volumes name target

-- ---- an edit of one volume

-- The volume of the number hasn't stopped, and its catalog may have the edit, by its shape.
pub record IsThere (volumes : List Shown) (geometries : List Geometry) (plan : Planned) : Type 0
  where
    pub volume : Shown
    pub volume_is : slice_get volumes plan.place ≡ Some volume
    pub going : volume.stopped ≡ false
    pub may : (geometry : Geometry) → slice_get geometries plan.place ≡ Some geometry
        → MayEdit geometry volume.catalog plan.edit

-- Nothing is in the way of the edit of the volume of the number.
pub record IsPlan (volumes : List Shown) (geometries : List Geometry) (first : Option Failure)
    (number : Option ℕ) (edit : Option CatalogEdit) (plan : Planned) : Type 0 where
  pub allowed : first ≡ None
  pub place_is : number ≡ Some plan.place
  pub edit_is : edit ≡ Some plan.edit
  pub there : IsThere volumes geometries plan

-- nor of what edits nothing
abbrev pub IsPlanned : List Shown → List Geometry → Option Failure → Option ℕ → Option CatalogEdit
    → Option Planned → Type 0
IsPlanned volumes geometries first number edit None = (first ≡ None) × (edit ≡ None)
IsPlanned volumes geometries first number edit (Some plan) =
    IsPlan volumes geometries first number edit plan

-- The volume of the number was asked for the edit, and the others are as they were.
pub record HasAsked {V : Type 0} (shown : V → Shown) (answers : Answering V) (line : ℕ)
    (plan : Planned) (old new : List V) (answer : Changed) : Type 0 where
  pub before : V
  pub before_is : slice_get old plan.place ≡ Some before
  pub after : V
  pub edited : HasEdited shown answers line plan.edit before after answer
  pub others : new ≡ slice_set old plan.place after

pub record IsAnswered {V : Type 0} (shown : V → Shown) (answers : Answering V) (line : ℕ)
    (plan : Planned) (old new : List V) (why : Option Failure) : Type 0 where
  pub answer : Changed
  pub asked : HasAsked shown answers line plan old new answer
  pub why_is : why ≡ failure_by answer

-- what a plan came to, and why it is refused, if it is; out of stamps or memory isn't a refusal
abbrev pub IsCarried : {V : Type 0} → (V → Shown) → Answering V → ℕ
    → Result (Option Planned) DefineNo → List V → List V → Option Failure → Type 0
IsCarried shown answers line (Ok (Some plan)) old new why =
    IsAnswered shown answers line plan old new why
IsCarried shown answers line (Ok None) old new why = (why ≡ None) × (new ≡ old)
IsCarried shown answers line (Err (Refused failure)) old new why =
    (why ≡ Some failure) × (new ≡ old)
IsCarried shown answers line (Err (Ended end)) old new why = ⊥

-- ---- the names of a DELETE

-- the detail lines of a plan
abbrev pub planned_lines : Result (Option Planned) DefineNo → List ℕ
planned_lines (Ok (Some plan)) = edit_lines plan.edit
planned_lines (Ok None) = []
planned_lines (Err end) = []

-- The first of the names came to their ends, and the volumes show what these left.
pub record AreDeletedSome {V : Type 0} (shown : V → Shown) (answers : Answering V) (line : ℕ)
    (kind : Option EntryKind) (names : List (List ℕ)) (old new : List V) : Type 0 where
  pub count : ℕ
  pub failures : List (Option Failure)
  pub lines : List ℕ
  pub between : List V
  pub ran : AreDeleted shown answers line kind (take count names) old between failures lines
  pub shows : map shown new ≡ map shown between
