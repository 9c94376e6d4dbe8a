-- The entries of a definition of a cluster, and of an edit of the catalog (DEFINE, ALTER and DELETE of
-- Access Method Services Commands). That each is one event, of a unit of recovery of its own, is this
-- project's own rule.
use Rattle.std.specs.Prelude.{◌≡◌, ◌⊎◌, ℕ, All, List, [], ◌∷◌, ◌++◌, None, Option, Some, flat_map, map}
use Rattle.vr_types.specs.declared.reply.Reply.TheVariants.{Done}
use Rattle.vr_types.specs.declared.request.FileRef.{FileRef}
use Rattle.vr_types.specs.declared.request.Request.TheVariants.{Add, Commit}
use Rattle.vr_types.specs.declared.unit.AreaNo.{AreaNo}
use Rattle.vr_types.specs.declared.unit.PartNo.{PartNo}
use Rattle.vr_types.specs.declared.unit.Unit.{Unit as UnitOfRecovery}
use Rattle.vr_edits.specs.declared.edit.CatalogEdit.{CatalogEdit}
use Rattle.vr_history.specs.declared.entry.Entry.{Entry}
use Rattle.vr_history.specs.declared.entry.What.{What}
use Rattle.vr_history.specs.declared.entry.What.TheVariants.{Asked, Claimed, Split}
use Rattle.vr_record_file.specs.declared.entry_step.EntryStep.{EntryStep}
use Rattle.vr_record_file.specs.declared.entry_step.EntryStep.TheVariants as steps
use Rattle.vr_event.specs.CatalogEdit.{steps_of}

-- A unit of the utilities gave a part its first area, and added its record to the catalog, which is
-- part 0: these bytes.
pub record IsRecorded (unit : UnitOfRecovery) (part : PartNo) (area : AreaNo) (bytes : List ℕ)
    (made : List Entry) : Type 0 where
  pub claim : Entry
  pub add : Entry
  pub made_are : made ≡ claim ∷ add ∷ []
  pub of_utilities : unit.deck ≡ 0
  pub claim_unit : claim.unit ≡ unit
  pub add_unit : add.unit ≡ unit
  pub claim_is : claim.what ≡ Claimed part area
  pub file : FileRef
  pub catalog : file.base.0 ≡ 0
  pub place : List ℕ
  pub add_is : add.what ≡ Asked (Add file None bytes) (Done 0 (Some place) None)

-- what is asked, and answered, of one record of an edit: the record that stands is got for update, and
-- replaced or erased; or one is added where none stands
abbrev pub asked_by : EntryStep → List What
asked_by (steps.Change get change got changed shown) =
    Asked get (Done 0 (Some got) (Some shown)) ∷ Asked change (Done 0 (Some changed) None) ∷ []
asked_by (steps.Add add added) = Asked add (Done 0 (Some added) None) ∷ []

-- A unit of the utilities changed each record of an edit in the catalog of a volume, one after
-- another.
pub record AreChanged (unit : UnitOfRecovery) (edit : CatalogEdit) (made : List Entry) : Type 0 where
  pub of_utilities : unit.deck ≡ 0
  pub units : All (λ (entry : Entry). entry.unit ≡ unit) made
  pub volume : ℕ
  pub are : map (λ (entry : Entry). entry.what) made ≡ flat_map asked_by (steps_of volume edit)

-- What an event of the utilities enters before the COMMIT of its unit: nothing yet, or both entries of
-- a definition, or those of the records of an edit.
abbrev pub AreBegun : List Entry → Type 0
AreBegun first = (first ≡ [])
    ⊎ (((unit : UnitOfRecovery) × (part : PartNo) × (area : AreaNo) × (bytes : List ℕ)
    × IsRecorded unit part area bytes first)
    ⊎ ((unit : UnitOfRecovery) × (edit : CatalogEdit) × AreChanged unit edit first))

-- A cluster was defined: its area and its record, and then the unit was committed.
pub record IsDefinition (part : PartNo) (area : AreaNo) (bytes : List ℕ) (made : List Entry)
    : Type 0 where
  pub unit : UnitOfRecovery
  pub first : List Entry
  pub recorded : IsRecorded unit part area bytes first
  pub commit : Entry
  pub made_are : made ≡ first ++ commit ∷ []
  pub commit_unit : commit.unit ≡ unit
  pub commit_is : commit.what ≡ Asked Commit (Done 0 None None)

-- The catalog was edited: each of its records was changed, and then the unit was committed.
pub record IsEdit (edit : CatalogEdit) (made : List Entry) : Type 0 where
  pub unit : UnitOfRecovery
  pub first : List Entry
  pub changed : AreChanged unit edit first
  pub commit : Entry
  pub made_are : made ≡ first ++ commit ∷ []
  pub commit_unit : commit.unit ≡ unit
  pub commit_is : commit.what ≡ Asked Commit (Done 0 None None)

-- a stage of a split of the catalog, which is part 0
abbrev pub IsCatalogStage : Entry → Type 0
IsCatalogStage entry = (entry.what ≡ Split (record { 0 = 0 }))
    ⊎ ((area : AreaNo) × (entry.what ≡ Claimed (record { 0 = 0 }) area))
