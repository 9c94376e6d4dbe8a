-- What an edit of the catalog enters in the record file (ALTER, DELETE, and a DEFINE of what has no
-- area, of Access Method Services Commands): for each record the GET for update and the PUT for
-- update or the ERASE, or the PUT that adds it; and the end of the unit of the utilities that did
-- it all. That it is one event, of a unit of its own, is this project's own rule.
use Rattle.std.specs.Prelude.{◌≡◌, ◌≢◌, ℕ, ◌+◌, ◌≤◌, ◌==◌, true, if◌then◌else◌, List, [], ◌∷◌, ◌++◌}
use Rattle.std.specs.Prelude.{IfSome, Option, Some, None, filter, length, map, sum}
use Rattle.std.specs.List.{AllByRecursion, AllZip}
use Rattle.std.specs.Option.{option_and_then, option_map}
use Rattle.vr_catalog.specs.Catalog.{entries_in, parts_in}
use Rattle.vr_catalog.specs.Definition.{catalog_definition, is_valid_record, key_of}
use Rattle.vr_catalog.specs.Record.{entry_of}
use Rattle.vr_catalog.specs.declared.entry.CatEntry.{CatEntry}
use Rattle.vr_types.specs.Content.{Content, Standing, item_at}
use Rattle.vr_types.specs.Locks.{first_conflict}
use Rattle.vr_types.specs.LogSpace.{before_length, end_length, log_size}
use Rattle.vr_types.specs.Position.{unheld}
use Rattle.vr_types.specs.declared.lock_name.LockName.{LockName}
use Rattle.vr_types.specs.declared.reply.Reply.TheVariants.{Done}
use Rattle.vr_types.specs.declared.request.FileRef.{FileRef}
use Rattle.vr_types.specs.declared.request.Find.TheVariants.{Equal}
use Rattle.vr_types.specs.declared.request.Request.{Request}
use Rattle.vr_types.specs.declared.request.Request.TheVariants.{Add, Commit, Erase, Get, Update}
use Rattle.vr_types.specs.declared.unit.Integrity.TheVariants.{Nri}
use Rattle.vr_types.specs.declared.unit.Mode.TheVariants.{Exclusive}
use Rattle.vr_types.specs.declared.unit.Unit.{Unit as UnitOfRecovery}
use Rattle.vr_history.specs.declared.entry.What.TheVariants.{Asked}
use Rattle.vr_history.specs.Change.{Change}
use Rattle.vr_history.specs.Effects.{drops_held, has_part, is_other, parts_laid, with_change}
use Rattle.vr_history.specs.Names.{with_locks}
use Rattle.vr_history.specs.State.{BeforeImage, Logged, State}
use Rattle.vr_history.specs.Step.{IsOfUnit}
use Rattle.vr_answer.specs.Scope.{IsUnbuilt}
use Rattle.vr_record_file.specs.Defining.{entry_logged, entry_name}
use Rattle.vr_record_file.specs.Now.{FileNow, ended, failed, lets_go, state_now, with_event}
use Rattle.vr_record_file.specs.declared.entry_step.EntryStep.{EntryStep}
use Rattle.vr_record_file.specs.declared.entry_step.EntryStep.TheVariants as Steps

-- ---- what it enters

-- What is done with one record. Its unit holds a record that was got until it ends, in this event,
-- so nothing of that stays in memory.
abbrev pub step_made : ℕ → UnitOfRecovery → ℕ → EntryStep → FileNow → FileNow
step_made after unit line (Steps.Change get change got changed shown) file =
    with_event 0 unit line (Asked change (Done 0 (Some changed) None)) (lets_go unit.deck change
    (with_event after unit line (Asked get (Done 0 (Some got) (Some shown)))
    (lets_go unit.deck get file)))
step_made after unit line (Steps.Add add added) file =
    with_event after unit line (Asked add (Done 0 (Some added) None)) (lets_go unit.deck add file)

-- one record after another
abbrev pub steps_made : ℕ → UnitOfRecovery → ℕ → List EntryStep → FileNow → FileNow
steps_made after unit line [] file = file
steps_made after unit line (step ∷ steps) file =
    steps_made 0 unit line steps (step_made after unit line step file)

-- the catalog in memory is the new one
abbrev pub records_made : ℕ → UnitOfRecovery → ℕ → List EntryStep → List CatEntry → FileNow
    → FileNow
records_made after unit line steps catalog file =
    record (steps_made after unit line steps file) { catalog = catalog }

-- and the unit ends
abbrev pub catalog_edited : ℕ → UnitOfRecovery → ℕ → List EntryStep → Request → List CatEntry
    → FileNow → FileNow
catalog_edited after unit line steps commit catalog file =
    with_event 0 unit line (Asked commit (Done 0 None None))
    (ended unit (records_made after unit line steps catalog file))

-- A write failed: the COMMIT is refused, and the fault stops the volume. The end of the unit may be
-- on the device, or not.
abbrev pub failed_to_edit : ℕ → UnitOfRecovery → ℕ → List EntryStep → Request → List CatEntry
    → FileNow → FileNow
failed_to_edit after unit line steps commit catalog file =
    failed 0 unit line commit (records_made after unit line steps catalog file)

-- how many entries the steps are
abbrev pub entries_of_step : EntryStep → ℕ
entries_of_step (Steps.Change get change got changed shown) = 2
entries_of_step (Steps.Add add added) = 1

abbrev pub entries_of : List EntryStep → ℕ
entries_of [] = 0
entries_of (step ∷ steps) = entries_of_step step + entries_of steps

-- ---- what it changes

-- what stands at a place of the catalog before and from now on, where a record does
pub record RecordChange : Type 0 where
  pub place : List ℕ
  pub old : Option (List ℕ)
  pub new : Option (List ℕ)

-- the change of the catalog, which is part 0, and what locks, log and before-images have of it
abbrev pub change_made : RecordChange → Change
change_made change =
    record { part = 0; place = change.place; new = option_map Standing change.new }

abbrev pub name_of : RecordChange → LockName
name_of change = entry_name change.place

abbrev pub logged_of : UnitOfRecovery → RecordChange → Logged
logged_of unit change = entry_logged unit change.place

abbrev pub image_of : UnitOfRecovery → RecordChange → BeforeImage
image_of unit change = record {
  unit = unit;
  part = 0;
  place = change.place;
  old = option_map Standing change.old;
}

-- the contents with all of them made, in their order
abbrev pub with_records : List RecordChange → (ℕ → Content) → ℕ → Content
with_records [] contents = contents
with_records (change ∷ changes) contents =
    with_records changes (with_change (change_made change) contents)

-- the bytes of the log that they take: a before-image of each, and the end of their unit
abbrev pub need_of : RecordChange → ℕ
need_of change = before_length change.place change.old

abbrev pub need_to_edit : List RecordChange → ℕ
need_to_edit changes = sum (map need_of changes) + end_length

-- each is of another place
abbrev pub AreApart : List RecordChange → Type 0
AreApart [] = Unit {0}
AreApart (change ∷ changes) =
    AllByRecursion (λ (other : RecordChange). other.place ≢ change.place) changes
    × AreApart changes

-- ---- when it may be entered

-- the request that changes a record that was got: a PUT for update of the new one, or an ERASE
-- where there is none
abbrev pub change_asked : FileRef → Option (List ℕ) → Request
change_asked on (Some bytes) = Update on bytes
change_asked on None = Erase on

-- A GET for update of the place, which is as long as a key of the catalog, and a PUT for update of
-- a valid record with that key, or an ERASE.
pub record IsChangeOf (on : FileRef) (get change : Request) (got changed shown : List ℕ)
    (made : RecordChange) : Type 0 where
  pub got_is : got ≡ made.place
  pub changed_is : changed ≡ made.place
  pub shown_is : made.old ≡ Some shown
  pub get_is : get ≡ Get on (Equal made.place) true Nri
  pub change_is : change ≡ change_asked on made.new
  pub key_length : length made.place ≡ catalog_definition.key_length
  pub valid : IfSome made.new (λ new. is_valid_record catalog_definition new ≡ true)
  pub keeps_key : IfSome made.new (λ new. key_of catalog_definition new ≡ made.place)

-- A PUT add of a valid record, to the place that is its key.
pub record IsAddOf (on : FileRef) (add : Request) (added : List ℕ) (made : RecordChange)
    : Type 0 where
  pub added_is : added ≡ made.place
  pub old_is : made.old ≡ None
  pub bytes : List ℕ
  pub new_is : made.new ≡ Some bytes
  pub add_is : add ≡ Add on None bytes
  pub valid : is_valid_record catalog_definition bytes ≡ true
  pub key_is : key_of catalog_definition bytes ≡ made.place

-- the step is this change of a record, by a file
abbrev pub IsStepOf : FileRef → EntryStep → RecordChange → Type 0
IsStepOf on (Steps.Change get change got changed shown) made =
    IsChangeOf on get change got changed shown made
IsStepOf on (Steps.Add add added) made = IsAddOf on add added made

-- a new record that spells an entry spells one that isn't a built alternate index
abbrev pub GivesUnbuilt : RecordChange → Type 0
GivesUnbuilt change = IfSome (option_and_then entry_of change.new) IsUnbuilt

-- A unit of the utilities may edit the catalog: each of its records stands there, or none does
-- where one is added, and no two are of one place; the catalog that this makes is this one; no
-- alternate index is built by it; no unit is live; and neither a lock nor the log is in the way.
pub record MayEditCatalog (opening : State) (file : FileNow) (unit : UnitOfRecovery)
    (steps : List EntryStep) (changes : List RecordChange) (commit : Request)
    (catalog : List CatEntry) : Type 0 where
  pub going : file.stopped ≡ None
  pub of_utilities : unit.deck ≡ 0
  pub current : IsOfUnit (state_now opening file) unit
  -- no unit is live
  pub idle : (state_now opening file).logged ≡ []
  -- the requests are of one file on the catalog, and COMMIT
  pub on : FileRef
  pub on_catalog : on.base.0 ≡ 0
  pub known : on.known ≡ true
  pub no_path : on.path ≡ None
  pub steps_are : AllZip (IsStepOf on) steps changes
  pub commit_is : commit ≡ Commit
  pub some : changes ≢ []
  pub apart : AreApart changes
  pub stand : AllByRecursion (λ (change : RecordChange).
      item_at ((state_now opening file).contents 0) change.place
      ≡ option_map Standing change.old) changes
  pub unlocked : AllByRecursion (λ (change : RecordChange).
      first_conflict file.locks unit Exclusive (name_of change) ≡ None) changes
  pub room : (state_now opening file).used + need_to_edit changes ≤ log_size file.geometry
  pub catalog_is : entries_in (with_records changes (state_now opening file).contents 0) ≡ catalog
  pub unbuilt : AllByRecursion GivesUnbuilt changes

-- ---- what it leaves of the state

-- The changes are made in the catalog; of a part that the catalog lacks then there is no content
-- and no area; and nothing is left of the unit.
pub record IsCatalogEdited (unit : UnitOfRecovery) (changes : List RecordChange)
    (catalog : List CatEntry) (old new : State) : Type 0 where
  pub contents : (part : ℕ) → new.contents part
      ≡ (if has_part (parts_in catalog) part then with_records changes old.contents part else [])
  pub befores : new.befores ≡ old.befores
  pub logged : new.logged ≡ []
  pub used : new.used ≡ 0
  pub numbers : (deck : ℕ) → new.numbers deck
      ≡ (if deck == unit.deck then old.numbers deck + 1 else old.numbers deck)
  pub owned : new.owned ≡ filter (λ owned. has_part (parts_laid catalog) owned.part) old.owned
  pub stopped : new.stopped ≡ old.stopped
  pub positions : (deck slot : ℕ) → new.positions deck slot
      ≡ (if deck == unit.deck then unheld (old.positions deck slot) else old.positions deck slot)
  pub locks : new.locks ≡ filter (λ lock. is_other unit lock.unit) old.locks

-- The changes are made in the catalog, and the unit is in doubt: its locks, its before-images and
-- what it logged are there, and so are the areas of each part. The volume has stopped.
pub record IsEditInDoubt (unit : UnitOfRecovery) (on : FileRef) (changes : List RecordChange)
    (stamp : ℕ) (old new : State) : Type 0 where
  pub contents : (part : ℕ) → new.contents part ≡ with_records changes old.contents part
  pub befores : new.befores ≡ old.befores ++ map (image_of unit) changes
  pub logged : new.logged ≡ map (logged_of unit) changes
  pub used : new.used ≡ old.used + need_to_edit changes
  pub numbers : new.numbers ≡ old.numbers
  pub owned : new.owned ≡ old.owned
  pub stopped : new.stopped ≡ Some stamp
  pub positions : (deck slot : ℕ) → new.positions deck slot
      ≡ (drops_held unit.deck (Some on) old).positions deck slot
  pub locks : new.locks ≡ with_locks unit Exclusive (map name_of changes) old.locks
