-- What is committed of a volume, record by record, as its history says it. The rules are this
-- project's own.
use Rattle.std.specs.Prelude.{◌≡◌, ◌==◌, ◌⊎◌, ℕ, true, false, List, [], ◌∷◌, ◌++◌, Option, Some, None}
use Rattle.std.specs.Prelude.{IfSome, option_and_then}
use Rattle.std.specs.List.{AllByRecursion}
use Rattle.vr_types.specs.Content.{Content, Item, Standing, Withdrawn, item_at, record_of}
use Rattle.vr_types.specs.Image.{Image}
use Rattle.vr_types.specs.declared.geometry.Geometry.{Geometry}
use Rattle.vr_types.specs.declared.unit.Unit.{Unit as UnitOfRecovery}
use Rattle.vr_catalog.specs.Catalog.{entry_with_part, parts_in}
use Rattle.vr_catalog.specs.Record.{entry_of}
use Rattle.vr_catalog.specs.declared.entry.CatEntry.{CatEntry}
use Rattle.vr_edits.specs.Edits.{IsServedEntry}
use Rattle.vr_history.specs.Change.{Change}
use Rattle.vr_history.specs.Committed.{committed}
use Rattle.vr_history.specs.Effects.{has_part}
use Rattle.vr_history.specs.Laws.{record_now}
use Rattle.vr_history.specs.Opened.{catalog_of}
use Rattle.vr_history.specs.State.{State}
use Rattle.vr_history.specs.Step.{place_changes, state_after}
use Rattle.vr_history.specs.declared.entry.Entry.{Entry}
use Rattle.vr_volume.specs.Volume.{Recovers}
use Rattle.vr_job.specs.Catalogs.{catalog_after, catalog_by}
use Rattle.vr_job.specs.Crash.{AreInCommit, IsCommit, as_done}
use Rattle.vr_job.specs.Definitions.{AreBegun}

-- a change is not of the catalog, which is part 0
abbrev pub IsOffCatalog : Change → Type 0
IsOffCatalog change = (change.part == 0) ≡ false

-- a change adds a record to the catalog, where none stood, of a part that no entry has
pub record IsAddition (state : State) (change : Change) : Type 0 where
  pub part : change.part ≡ 0
  pub bytes : List ℕ
  pub added : change.new ≡ Some (Standing bytes)
  pub absent : item_at (state.contents 0) change.place ≡ None
  pub fresh : (entry : CatEntry) → entry_of bytes ≡ Some entry
      → entry_with_part (catalog_of state) entry.part.0 ≡ None

-- an entry with another FREESPACE or SHAREOPTIONS at most
abbrev pub IsAlike : CatEntry → CatEntry → Type 0
IsAlike entry new = new ≡ record entry {
  free_space = new.free_space;
  share_options = new.share_options;
}

-- what is there instead of the record of an entry: none, or that of an entry like it
abbrev pub IsInstead : List ℕ → Option Item → Type 0
IsInstead before None = Unit {0}
IsInstead before (Some (Standing bytes)) = (entry : CatEntry) × (new : CatEntry)
    × (entry_of before ≡ Some entry) × (entry_of bytes ≡ Some new) × IsAlike entry new
IsInstead before (Some (Withdrawn length)) = ⊥

-- a change erases a record of the catalog, or puts that of an entry like it in its place
pub record IsReplacement (state : State) (change : Change) : Type 0 where
  pub part : change.part ≡ 0
  pub before : List ℕ
  pub stands : item_at (state.contents 0) change.place ≡ Some (Standing before)
  pub instead : IsInstead before change.new

-- A deck changes no record of the catalog, and the utilities, which are deck 0, add records to it,
-- replace or erase them.
abbrev pub MayChange : State → UnitOfRecovery → Change → Type 0
MayChange state unit change = IsOffCatalog change
    ⊎ ((unit.deck ≡ 0) × (IsAddition state change ⊎ IsReplacement state change))

-- what a record spells that is an item of the catalog is an entry that is served, if it spells one
abbrev pub IsServedItem : Geometry → Item → Type 0
IsServedItem geometry item =
    IfSome (option_and_then entry_of (record_of item)) (IsServedEntry geometry)

-- a change leaves nothing else in the catalog
abbrev pub PutsServed : Geometry → Change → Type 0
PutsServed geometry change = change.part ≡ 0 → IfSome change.new (IsServedItem geometry)

-- So does an entry, and what it leaves there is of entries that are served; and the catalog after
-- it is what the entry makes of the one before: so what the history makes of the catalog of its
-- opening is the catalog of its state.
pub record KeepsCatalog (geometry : Geometry) (state : State) (entry : Entry) : Type 0 where
  pub may : AllByRecursion (MayChange state entry.unit)
      (place_changes geometry state entry.unit entry.what)
  pub served : AllByRecursion (PutsServed geometry)
      (place_changes geometry state entry.unit entry.what)
  pub makes : catalog_of (state_after geometry state entry)
      ≡ catalog_after entry (catalog_of state)

-- and each of a history
abbrev pub KeepTheCatalog : Geometry → State → List Entry → Type 0
KeepTheCatalog geometry state [] = Unit {0}
KeepTheCatalog geometry state (entry ∷ entries) = KeepsCatalog geometry state entry
    × KeepTheCatalog geometry (state_after geometry state entry) entries

-- a catalog has a part as it is at first, and after each of some entries
abbrev pub StaysIn : ℕ → List CatEntry → List Entry → Type 0
StaysIn part catalog entries = (before after : List Entry) → entries ≡ before ++ after
    → has_part (parts_in (catalog_by catalog before)) part ≡ true

-- The image recovers to contents that have, in each part that the catalog has throughout, the records
-- that these entries of a history committed, with these units counted beside those that they ended.
-- What was withdrawn is no record, and none of what an image recovers to.
pub record HasCommitted (geometry : Geometry) (number : ℕ) (catalog : List CatEntry)
    (opening : State) (entries : List Entry) (counted : List UnitOfRecovery) (image : Image)
    : Type 0 where
  pub recovered : ℕ → Content
  pub recovers : Recovers geometry number image recovered
  pub records : (part : ℕ) → StaysIn part catalog entries → (place : List ℕ)
      → record_now recovered part place
      ≡ record_now (committed geometry opening entries counted) part place

-- So it is of some first entries of a history, before these ones: perhaps with the unit that is in its
-- commit then, or, where that is of the utilities, once its COMMIT is done, whatever it is answered.
pub data IsCommittedAt (geometry : Geometry) (number : ℕ) (catalog : List CatEntry)
    (opening : State) (before after : List Entry) (image : Image) : Type 0 where
  Counted : (counted : List UnitOfRecovery) → AreInCommit counted after
      → HasCommitted geometry number catalog opening before counted image
      → IsCommittedAt geometry number catalog opening before after image
  Ended : (entry : Entry) (rest : List Entry) → after ≡ entry ∷ rest → entry.unit.deck ≡ 0
      → IsCommit entry.what
      → HasCommitted geometry number catalog opening (before ++ as_done entry ∷ []) [] image
      → IsCommittedAt geometry number catalog opening before after image

-- The image recovers to what some first entries of a history committed.
pub record IsCommittedBy (geometry : Geometry) (number : ℕ) (catalog : List CatEntry)
    (opening : State) (entries : List Entry) (image : Image) : Type 0 where
  pub before : List Entry
  pub after : List Entry
  pub is : entries ≡ before ++ after
  pub has : IsCommittedAt geometry number catalog opening before after image

-- The image recovers to what these entries committed, perhaps with the unit whose COMMIT is entered
-- next; of a definition, or an edit of the catalog, after what it enters before.
pub record IsCommittedWhile (geometry : Geometry) (number : ℕ) (catalog : List CatEntry)
    (opening : State) (entries made : List Entry) (image : Image) : Type 0 where
  pub first : List Entry
  pub rest : List Entry
  pub made_are : made ≡ first ++ rest
  pub begun : AreBegun first
  pub has : IsCommittedAt geometry number catalog opening (entries ++ first) rest image
