-- What a volume answers to a DEFINE of a cluster, to an edit of its catalog, to LISTCAT ALL, and to
-- PRINT, and what it shows then. The rules are this project's own.
use Rattle.std.specs.Prelude.{◌≡◌, ◌≢◌, ℕ, Bool, List, Option, true}
use Rattle.vr_types.specs.declared.fault.DeviceFault.TheVariants.{Read, Write}
use Rattle.vr_catalog.specs.declared.entry.CatEntry.{CatEntry}
use Rattle.vr_edits.specs.declared.edit.CatalogEdit.{CatalogEdit}
use Rattle.vr_trace.specs.Shown.{Shown}
use Rattle.vr_trace.specs.Visitors.{Visited, visited_by}
use Rattle.vr_ams_define.specs.Edited.{IsShownEdited}
use Rattle.vr_ams_define.specs.declared.answer.Changed.{Changed}
use Rattle.vr_ams_define.specs.declared.answer.Changed.TheVariants as changes
use Rattle.vr_ams_define.specs.declared.answer.Counted.{Counted}
use Rattle.vr_ams_define.specs.declared.answer.Counted.TheVariants as counts
use Rattle.vr_ams_define.specs.declared.answer.Defined.{Defined}
use Rattle.vr_ams_define.specs.declared.answer.Defined.TheVariants.{Done, Again, NoArea, NoRoom}
use Rattle.vr_ams_define.specs.declared.answer.Defined.TheVariants.{Held, Full, Fault}
use Rattle.vr_ams_define.specs.declared.answer.ReadBack.{ReadBack}
use Rattle.vr_ams_define.specs.declared.answer.ReadBack.TheVariants as reads
use Rattle.vr_ams_define.specs.NewCluster.{with_area, with_cluster}

-- its catalog has one entry more, at its place
abbrev pub with_entry : CatEntry → Shown → Shown
with_entry entry volume = record volume { catalog = with_cluster entry volume.catalog }

-- The cluster is in the catalog with its first area, or nothing of it is. A write that failed stops
-- the volume: whether its catalog has the entry is known once it is opened again.
abbrev pub IsShownAfter : Defined → CatEntry → Shown → Shown → Type 0
IsShownAfter (Done area) entry old new = new ≡ with_entry (with_area area entry) old
IsShownAfter Again entry old new = new ≡ old
IsShownAfter NoArea entry old new = new ≡ old
IsShownAfter NoRoom entry old new = new ≡ old
IsShownAfter Held entry old new = new ≡ old
IsShownAfter Full entry old new = new ≡ old
IsShownAfter (Fault Read) entry old new = new ≡ old
IsShownAfter (Fault Write) entry old new = new.stopped ≡ true

-- A volume that was counted shows what it showed; a write that failed stops it.
abbrev pub IsShownCounted : Counted → Shown → Shown → Type 0
IsShownCounted (counts.Done numbers) old new = new ≡ old
IsShownCounted (counts.Fault Read) old new = new ≡ old
IsShownCounted (counts.Fault Write) old new = new.stopped ≡ true

-- So does one that was read through.
abbrev pub IsShownRead : ReadBack → Shown → Shown → Type 0
IsShownRead reads.Done old new = new ≡ old
IsShownRead (reads.Fault Read) old new = new ≡ old
IsShownRead (reads.Fault Write) old new = new.stopped ≡ true

-- What a volume was asked for, and its answer: the definition of a cluster, the numbers of one, an
-- edit of its catalog, or the records of a cluster from a place on, where there is one, with those
-- that it has there.
pub data Exchange : Type 0 where
  Defining : CatEntry → Defined → Exchange
  Counting : CatEntry → Counted → Exchange
  Editing : CatalogEdit → Changed → Exchange
  Reading : CatEntry → Option (List ℕ) → List Visited → ReadBack → Exchange

-- how a volume may answer on a line, and be then
abbrev pub Answering : Type 0 → Type 1
Answering V = V → ℕ → Exchange → V → Type 0

-- It was asked for the records of an entry from a place on, and these were handed to a visitor, as
-- far as that took them.
pub record HasRead {V R : Type 0} (answers : Answering V) (next : R → List ℕ → List ℕ → R)
    (done : R → Bool) (line : ℕ) (entry : CatEntry) (from : Option (List ℕ)) (old new : V)
    (before left : R) (answer : ReadBack) : Type 0 where
  pub records : List Visited
  pub answered : answers old line (Reading entry from records answer) new
  pub visited : left ≡ visited_by next done records before

-- It was asked, and said each time that it is to be asked again, after a stage.
pub data HasStaged {V : Type 0} (answers : Answering V) (line : ℕ) (again : Exchange) (old : V)
    : V → Type 0 where
  Unstaged : HasStaged answers line again old old
  Staged : (before after : V) → HasStaged answers line again old before
      → answers before line again after → HasStaged answers line again old after

-- It was asked again until it gave another answer, and shows what that leaves.
pub record HasAnswered {V : Type 0} (shown : V → Shown) (answers : Answering V) (line : ℕ)
    (entry : CatEntry) (old new : V) (answer : Defined) : Type 0 where
  pub before : V
  pub stages : HasStaged answers line (Defining entry Again) old before
  pub answered : answers before line (Defining entry answer) new
  pub last : answer ≢ Again
  pub left : IsShownAfter answer entry (shown old) (shown new)

-- So it was asked for an edit.
pub record HasEdited {V : Type 0} (shown : V → Shown) (answers : Answering V) (line : ℕ)
    (edit : CatalogEdit) (old new : V) (answer : Changed) : Type 0 where
  pub before : V
  pub stages : HasStaged answers line (Editing edit changes.Again) old before
  pub answered : answers before line (Editing edit answer) new
  pub last : answer ≢ changes.Again
  pub left : IsShownEdited answer edit (shown old) (shown new)
