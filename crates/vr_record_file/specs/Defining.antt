-- What a definition of a cluster enters in the record file (DEFINE CLUSTER of Access Method
-- Services Commands): the area of the new part, the record that is added to the catalog, and the
-- end of the unit of the utilities that did both. That a definition is one event, of a unit of its
-- own, is this project's own rule.
use Rattle.std.specs.Prelude.{◌≡◌, ℕ, ◌+◌, ◌≤◌, ◌==◌, true, false, if◌then◌else◌, List, [], ◌∷◌}
use Rattle.std.specs.Prelude.{◌++◌, Some, None, filter}
use Rattle.vr_catalog.specs.Catalog.{entries_in, parts_in}
use Rattle.vr_catalog.specs.Definition.{catalog_definition, is_valid_record, key_of}
use Rattle.vr_catalog.specs.declared.entry.CatEntry.{CatEntry}
use Rattle.vr_types.specs.Content.{Standing, item_at}
use Rattle.vr_types.specs.Locks.{first_conflict}
use Rattle.vr_types.specs.LogSpace.{before_length, end_length, log_size}
use Rattle.vr_types.specs.Position.{unheld}
use Rattle.vr_types.specs.declared.lock_name.LockName.{LockName}
use Rattle.vr_types.specs.declared.lock_name.LockName.TheVariants.{Record}
use Rattle.vr_types.specs.declared.reply.Reply.TheVariants.{Done}
use Rattle.vr_types.specs.declared.request.FileRef.{FileRef}
use Rattle.vr_types.specs.declared.request.Request.{Request}
use Rattle.vr_types.specs.declared.request.Request.TheVariants.{Add, Commit}
use Rattle.vr_types.specs.declared.unit.AreaNo.{AreaNo}
use Rattle.vr_types.specs.declared.unit.Mode.TheVariants.{Exclusive}
use Rattle.vr_types.specs.declared.unit.PartNo.{PartNo}
use Rattle.vr_types.specs.declared.unit.Unit.{Unit as UnitOfRecovery}
use Rattle.vr_history.specs.declared.entry.What.TheVariants.{Asked, Claimed}
use Rattle.vr_history.specs.Case.{file_of}
use Rattle.vr_history.specs.Change.{Change}
use Rattle.vr_history.specs.Effects.{drops_held, has_part, is_other, parts_laid, used_after}
use Rattle.vr_history.specs.Effects.{with_change}
use Rattle.vr_history.specs.Names.{with_lock}
use Rattle.vr_history.specs.State.{BeforeImage, Logged, State}
use Rattle.vr_history.specs.Step.{IsLeastFree, IsOfUnit}
use Rattle.vr_answer.specs.Scope.{AreUnbuilt}
use Rattle.vr_record_file.specs.Now.{FileNow, ended, failed, lets_go, state_now, with_event}

-- ---- what it enters

-- the new part gets its area, its record is added to the catalog, and the catalog in memory is the
-- new one
abbrev pub added : ℕ → UnitOfRecovery → ℕ → PartNo → AreaNo → Request → List ℕ → List CatEntry
    → FileNow → FileNow
added after unit line part area add place catalog file =
    let claimed = with_event after unit line (Claimed part area) file in
    record (with_event 0 unit line (Asked add (Done 0 (Some place) None))
    (lets_go unit.deck add claimed)) {
      catalog = catalog;
    }

-- the unit ends
abbrev pub defined : ℕ → UnitOfRecovery → ℕ → PartNo → AreaNo → Request → List ℕ → Request
    → List CatEntry → FileNow → FileNow
defined after unit line part area add place commit catalog file =
    with_event 0 unit line (Asked commit (Done 0 None None))
    (ended unit (added after unit line part area add place catalog file))

-- A write failed: the COMMIT is refused, and the fault stops the volume. The end of the unit may be
-- on the device, or not.
abbrev pub failed_to_define : ℕ → UnitOfRecovery → ℕ → PartNo → AreaNo → Request → List ℕ → Request
    → List CatEntry → FileNow → FileNow
failed_to_define after unit line part area add place commit catalog file =
    failed 0 unit line commit (added after unit line part area add place catalog file)

-- ---- when it may be entered

-- the record that it adds to the catalog, which is part 0, and what locks, log and before-images
-- have of it
abbrev pub entry_change : List ℕ → List ℕ → Change
entry_change place bytes = record { part = 0; place = place; new = Some (Standing bytes) }

abbrev pub entry_name : List ℕ → LockName
entry_name place = Record (record { 0 = 0 }) place

abbrev pub entry_logged : UnitOfRecovery → List ℕ → Logged
entry_logged unit place = record { unit = unit; part = 0; place = place }

abbrev pub entry_image : UnitOfRecovery → List ℕ → BeforeImage
entry_image unit place = record { unit = unit; part = 0; place = place; old = None }

-- the bytes of the log that it takes: a before-image of a place where no record stood, and the end
-- of its unit
abbrev pub need_to_define : List ℕ → ℕ
need_to_define place = before_length place None + end_length

-- A unit of the utilities may define a part: the record is valid in the catalog, stands at its key,
-- where none stood, and makes this catalog, which has no alternate index that is built and lays the
-- part; the area is the least that no part has; and neither a lock nor the log is in the way.
pub record MayDefine (opening : State) (file : FileNow) (unit : UnitOfRecovery) (part : PartNo)
    (area : AreaNo) (add : Request) (place bytes : List ℕ) (commit : Request)
    (catalog : List CatEntry) : Type 0 where
  pub going : file.stopped ≡ None
  pub of_utilities : unit.deck ≡ 0
  pub current : IsOfUnit (state_now opening file) unit
  pub free : IsLeastFree file.geometry (state_now opening file) area.0
  -- a PUT add to a file on the catalog, and COMMIT
  pub on : FileRef
  pub on_catalog : on.base.0 ≡ 0
  pub known : on.known ≡ true
  pub no_path : on.path ≡ None
  pub add_is : add ≡ Add on None bytes
  pub commit_is : commit ≡ Commit
  pub valid : is_valid_record catalog_definition bytes ≡ true
  pub place_is : place ≡ key_of catalog_definition bytes
  pub absent : item_at ((state_now opening file).contents 0) place ≡ None
  pub unlocked : first_conflict file.locks unit Exclusive (entry_name place) ≡ None
  pub room : (state_now opening file).used + need_to_define place ≤ log_size file.geometry
  pub catalog_is : entries_in
      (with_change (entry_change place bytes) (state_now opening file).contents 0) ≡ catalog
  pub unbuilt : AreUnbuilt catalog
  pub laid : has_part (parts_laid catalog) part.0 ≡ true
  -- parts that the catalog lacks have no content
  pub empty : (other : ℕ) → has_part (parts_in file.catalog) other ≡ false
      → (state_now opening file).contents other ≡ []

-- ---- what it leaves of the state

-- The record stands in the catalog, the area is the part's, and nothing is left of the unit.
pub record IsDefined (unit : UnitOfRecovery) (part : PartNo) (area : AreaNo)
    (place bytes : List ℕ) (old new : State) : Type 0 where
  pub contents : (other : ℕ) → new.contents other
      ≡ with_change (entry_change place bytes) old.contents other
  pub befores : new.befores ≡ old.befores
  pub logged : new.logged ≡ old.logged
  pub used : new.used ≡ used_after new.logged (old.used + need_to_define place)
  pub numbers : (deck : ℕ) → new.numbers deck
      ≡ (if deck == unit.deck then old.numbers deck + 1 else old.numbers deck)
  pub owned : new.owned ≡ old.owned ++ record { area = area.0; part = part.0 } ∷ []
  pub stopped : new.stopped ≡ old.stopped
  pub positions : (deck slot : ℕ) → new.positions deck slot
      ≡ (if deck == unit.deck then unheld (old.positions deck slot) else old.positions deck slot)
  pub locks : new.locks ≡ filter (λ lock. is_other unit lock.unit) old.locks

-- The record stands in the catalog, and the unit is in doubt: its lock, its before-image and what
-- it logged are there. The volume has stopped.
pub record IsInDoubt (unit : UnitOfRecovery) (part : PartNo) (area : AreaNo) (add : Request)
    (place bytes : List ℕ) (stamp : ℕ) (old new : State) : Type 0 where
  pub contents : (other : ℕ) → new.contents other
      ≡ with_change (entry_change place bytes) old.contents other
  pub befores : new.befores ≡ old.befores ++ entry_image unit place ∷ []
  pub logged : new.logged ≡ old.logged ++ entry_logged unit place ∷ []
  pub used : new.used ≡ old.used + need_to_define place
  pub numbers : new.numbers ≡ old.numbers
  pub owned : new.owned ≡ old.owned ++ record { area = area.0; part = part.0 } ∷ []
  pub stopped : new.stopped ≡ Some stamp
  pub positions : new.positions ≡ (drops_held unit.deck (file_of add) old).positions
  pub locks : new.locks ≡ with_lock unit Exclusive (entry_name place) old.locks
