-- What the run of a job comes to on one of its volumes, from its opening to the end. The rules are this
-- project's own.
use Rattle.std.specs.Prelude.{◌≡◌, ◌≢◌, ◌<◌, ◌⊎◌, ℕ, Bool, List, [], None, OnOk, Result, IsErr, IsSome}
use Rattle.std.specs.Prelude.{◌≤◌, ◌+◌, IsTrue, Option, false}
use Rattle.vr_types.specs.Blocks.{AllForced, Keeps}
use Rattle.vr_types.specs.Content.{Ascends, Content}
use Rattle.vr_types.specs.Faults.{Faults}
use Rattle.vr_types.specs.Image.{Image}
use Rattle.vr_types.specs.Moments.{Guards}
use Rattle.vr_types.specs.Seen.{Left, Seen}
use Rattle.vr_types.specs.declared.fault.Failed.{Failed}
use Rattle.vr_types.specs.declared.geometry.Geometry.{Geometry}
use Rattle.vr_types.specs.declared.unit.PartNo.{PartNo}
use Rattle.vr_catalog.specs.Catalog.{entries_in}
use Rattle.vr_catalog.specs.declared.entry.CatEntry.{CatEntry}
use Rattle.vr_history.specs.Legal.{IsLegal, state_of}
use Rattle.vr_history.specs.Merged.{IsStamped}
use Rattle.vr_history.specs.State.{State, opening_state}
use Rattle.vr_history.specs.declared.entry.Entry.{Entry}
use Rattle.vr_job_text.specs.declared.job.JobStep.{JobStep}
use Rattle.vr_event.specs.Opening.{owned_in}
use Rattle.vr_event.specs.Volume.{AreServed, IsWhole, VolumeNow}
use Rattle.vr_mount.specs.Areas.{AreOwners}
use Rattle.vr_recover.specs.Opening.{HasContents, IsLeftOpening, IsNoVolume, IsVolume}
use Rattle.vr_recover.specs.Recovered.{IsRecovered, KeepsAll, standing_all}
use Rattle.vr_worker.specs.Steps.{AreOfSteps}
use Rattle.vr_job_ends.specs.declared.job_end.End.{End}
use Rattle.vr_job_ends.specs.declared.job_end.End.TheVariants.{Line, Ran, Unsynced}
use Rattle.vr_trace.specs.declared.ending.EndLine.{EndLine}
use Rattle.vr_trace.specs.declared.ending.EndLine.TheVariants.{DeviceFault}
use Rattle.vr_volume.specs.Crashes.{RecoversTo}
use Rattle.vr_volume.specs.Laid.{shape_by}
use Rattle.vr_volume.specs.PutBack.{images_of}
use Rattle.vr_volume.specs.Volume.{Recovers}
use Rattle.vr_job.specs.Committed.{KeepTheCatalog}
use Rattle.vr_job.specs.Crash.{IsLeftBy}
use Rattle.vr_job.specs.Events.{HasStopped, IsOfEvents}
use Rattle.vr_job.specs.Faultless.{AreFaultless}
use Rattle.vr_job.specs.Going.{Follows}
use Rattle.vr_job.specs.OpenEnds.{HasEndCause, IsOpenEnd, IsOpenLine, NeverFall, SaysOfBlocks}
use Rattle.vr_job.specs.ReadFaults.{read_faults}
use Rattle.vr_job.specs.Opened.{IsOpenHeld}

-- ---- what a run says of a volume

-- a volume as it is opened with these contents, in which these parts own the areas
abbrev pub opening_of : (ℕ → Content) → List (Option PartNo) → State
opening_of contents owners = opening_state contents (owned_in owners)

-- The volume was opened: the blocks were one's of this number and shape, which recovered to the
-- records of contents with this catalog, of entries that are served. Each place of these contents
-- has what the blocks had; or, where a unit without an end had changed it, what putting its
-- before-image back leaves. So what was withdrawn is where the blocks had it, and where an added
-- record of an entry-sequenced part was put back, and nowhere else; and a part that isn't laid has
-- nothing. An area is owned by the
-- part of the catalog that reaches it once it is opened, and by no other, and else it is free; the
-- history is legal from its opening, and its entries make the catalog as it says; and each image of
-- each moment is one that a crash left before, or recovers to the records of the contents and
-- keeps what is withdrawn in them where the log had nothing to put back, or is left by the
-- history. No fault came as it was opened. From the end of its opening on the run is events, in
-- each of which an image recovers to what is committed by the history before it, perhaps with the
-- unit whose COMMIT it enters; so it came to what the requests left, and then nothing more is put.
-- As long as the device counted no write that failed, the volume wasn't stopped; and where it
-- wasn't, the device counted none up to what the requests left, so that no write or sync that
-- failed is hidden. Then each image that a crash may leave at the end recovers to what is
-- committed by all of the history; on a volume that stopped, to what is committed by the history
-- before the fault, with the unit in doubt only where its COMMIT was answered 905. Where the job
-- came through, a crash leaves what is read, unless the volume had stopped: whatever the device
-- has counted.
pub record IsRun {D : Type 0} (tells : Bool) (seen : D → Seen) (faults : D → Faults) (number : ℕ)
    (shape : Geometry) (catalog : List CatEntry) (end : End) (entries : List Entry)
    (old ended new : D) : Type 0 where
  pub geometry : Geometry
  pub shape_is : shape ≡ geometry
  pub contents : ℕ → Content
  pub owners : List (Option PartNo)
  pub volume : IsVolume number geometry (standing_all contents) (seen old)
  pub whole : IsRecovered geometry number contents (seen old).cur
  pub ascends : (part : ℕ) → Ascends (contents part)
  pub others : (part : ℕ) → shape_by geometry (contents 0) part ≡ None → contents part ≡ []
  pub catalog_is : catalog ≡ entries_in (contents 0)
  pub served : AreServed geometry catalog
  pub legal : IsLegal geometry (opening_state contents (owned_in owners)) entries
  pub keeps_catalog : KeepTheCatalog geometry (opening_state contents (owned_in owners)) entries
  pub moments : Guards (seen old) (seen new) (λ image. Left (seen old) image
      ⊎ KeepsAll geometry number (images_of whole.log.records) contents image
      ⊎ IsLeftBy geometry number (opening_state contents (owned_in owners)) entries image)
  pub opened : D
  pub owners_are : AreOwners geometry catalog (seen opened).cur owners
  pub quiet : faults opened ≡ faults old
  pub opens : Guards (seen old) (seen opened) (λ image. Left (seen old) image
      ⊎ KeepsAll geometry number (images_of whole.log.records) contents image)
  pub events : IsOfEvents seen faults geometry number (opening_state contents (owned_in owners))
      opened ended entries
  pub leaves : Guards (seen opened) (seen new)
      (IsLeftBy geometry number (opening_state contents (owned_in owners)) entries)
  pub closes : Keeps tells (seen ended) (seen new)
  pub goes : (faults new).writes ≡ (faults old).writes
      → (state_of geometry (opening_state contents (owned_in owners)) entries).stopped ≡ None
  pub unfailed : (state_of geometry (opening_state contents (owned_in owners)) entries).stopped
      ≡ None → (faults ended).writes ≡ (faults old).writes
  pub kept : (state_of geometry (opening_state contents (owned_in owners)) entries).stopped ≡ None
      → (image : Image) → Left (seen new) image → RecoversTo geometry number
      (state_of geometry (opening_state contents (owned_in owners)) entries) [] image
  pub stopped : (state_of geometry (opening_state contents (owned_in owners)) entries).stopped ≢ None
      → HasStopped geometry number (opening_state contents (owned_in owners)) entries (seen new)
  pub forced : end ≡ Ran
      → (state_of geometry (opening_state contents (owned_in owners)) entries).stopped ≡ None
      → AllForced (seen new).count (seen new).cur (seen new).may

-- Such a run, from this state: its opening.
pub record IsRunFrom {D : Type 0} (tells : Bool) (seen : D → Seen) (faults : D → Faults)
    (number : ℕ) (shape : Geometry) (opening : State) (catalog : List CatEntry) (end : End)
    (entries : List Entry) (old ended new : D) : Type 0 where
  pub run : IsRun tells seen faults number shape catalog end entries old ended new
  pub opening_is : opening ≡ opening_of run.contents run.owners

-- how a job ends by a fault of the device of this volume
abbrev pub IsFaultEnd : ℕ → End → Type 0
IsFaultEnd number end = (end ≡ Line (DeviceFault number)) ⊎ (end ≡ Unsynced number)

-- so it ends only where a count of faults rose
abbrev pub HasFaultCause : ℕ → Faults → Faults → End → Type 0
HasFaultCause number before now end = IsFaultEnd number end
    → (before.reads < now.reads) ⊎ (before.writes < now.writes)

-- It was not opened, and the job ended by that: nothing was asked, and each image of each moment is one
-- that a crash left before, or recovers to what the blocks recovered to, and keeps what is withdrawn
-- in the contents that they have where the log had nothing to put back. Where its blocks are refused
-- for what they are, they were left as they were; and so they were, whatever the line, where they were
-- those of no volume of this number.
pub record IsUnopened (tells : Bool) (number : ℕ) (end : End) (entries : List Entry)
    (old new : Seen) : Type 0 where
  pub none : entries ≡ []
  pub line : EndLine
  pub end_is : end ≡ Line line
  pub shown : IsOpenEnd number old line
  pub kept : SaysOfBlocks number line → Keeps tells old new
  pub unwritten : IsNoVolume number old → Keeps tells old new
  pub moments : (geometry : Geometry) (contents : ℕ → Content)
      → IsVolume number geometry contents old
      → Guards old new (λ image. Left old image ⊎ Recovers geometry number image contents)
  pub items : (geometry : Geometry) (contents : ℕ → Content)
      → (has : HasContents number geometry contents old)
      → Guards old new (IsLeftOpening number geometry contents old has)

-- It was left as it was, since a volume of a lesser number was not opened.
pub record IsUntouched {D : Type 0} (number : ℕ) (end : End) (entries : List Entry)
    (old new : D) : Type 0 where
  pub none : entries ≡ []
  pub same : new ≡ old
  pub line : EndLine
  pub end_is : end ≡ Line line
  pub earlier : ℕ
  pub lesser : earlier < number
  pub shown : IsOpenLine earlier line

-- What the run of a job comes to on the device of the volume of this number, before, as the
-- requests left it, and as it came back, whether or not it reports its contents; and where it does.
-- No count of faults falls up to what the requests left, nor from there on as the volume is closed;
-- and a job comes through only where none rose then, so that no sync that failed is hidden. Each reply
-- 904 is one for which the count of failed reads rose: the history has at most as many as it rose by.
pub record IsVolumeRun {D : Type 0} (tells : Bool) (seen : D → Seen) (faults : D → Faults)
    (number : ℕ) (steps : List JobStep) (shape : Geometry) (opening : State)
    (catalog : List CatEntry) (end : End) (entries : List Entry) (old ended new : D) : Type 0 where
  pub stamped : IsStamped 0 entries
  pub of_steps : AreOfSteps steps entries
  pub never_fall : NeverFall (faults old) (faults ended)
  pub never_fall_closing : NeverFall (faults ended) (faults new)
  pub synced : end ≡ Ran → faults new ≡ faults ended
  pub cause : HasFaultCause number (faults old) (faults new) end
  pub faulted : (faults new).writes ≡ (faults old).writes → AreFaultless entries
  pub refused_reads : (faults old).reads + read_faults entries ≤ (faults new).reads
  pub run : IsTrue tells
      → IsRunFrom tells seen faults number shape opening catalog end entries old ended new
      ⊎ IsUnopened tells number end entries (seen old) (seen new)
      ⊎ IsUntouched number end entries old new

-- ---- what is known as it is opened, run and closed

-- A volume was opened on a device, which counted no fault: it has no history yet and isn't stopped.
pub record IsOpen {D : Type 0} (tells : Bool) (seen : D → Seen) (faults : D → Faults) (number : ℕ)
    (device : D) (volume : VolumeNow D) : Type 0 where
  pub whole : IsWhole seen volume
  pub number_is : volume.number ≡ number
  pub begins : volume.file.entries ≡ []
  pub going : volume.file.stopped ≡ None
  pub never_fall : NeverFall (faults device) (faults volume.blocks)
  pub quiet : faults volume.blocks ≡ faults device
  pub held : IsTrue tells → IsOpenHeld seen faults number (seen device) volume
  pub items : IsTrue tells → (geometry : Geometry) (contents : ℕ → Content)
      → (has : HasContents number geometry contents (seen device))
      → Guards (seen device) (seen volume.blocks)
      (IsLeftOpening number geometry contents (seen device) has)

-- The volume of this number was not opened on a device. Where its blocks are refused for what they
-- are, they were left as they were; and so they were, whatever the line, where they were those of no
-- volume of this number.
pub record IsNotOpen {D : Type 0} (tells : Bool) (seen : D → Seen) (faults : D → Faults) (number : ℕ)
    (old new : D) (end : EndLine) : Type 0 where
  pub never_fall : NeverFall (faults old) (faults new)
  pub line : IsOpenLine number end
  pub shown : IsTrue tells → IsOpenEnd number (seen old) end
  pub kept : SaysOfBlocks number end → Keeps tells (seen old) (seen new)
  pub unwritten : IsTrue tells → IsNoVolume number (seen old) → Keeps tells (seen old) (seen new)
  pub cause : HasEndCause number (faults old) (faults new) end
  pub any_moment : IsTrue tells → (geometry : Geometry) (contents : ℕ → Content)
      → IsVolume number geometry contents (seen old)
      → Guards (seen old) (seen new) (λ image. Left (seen old) image
      ⊎ Recovers geometry number image contents)
  pub items : IsTrue tells → (geometry : Geometry) (contents : ℕ → Content)
      → (has : HasContents number geometry contents (seen old))
      → Guards (seen old) (seen new) (IsLeftOpening number geometry contents (seen old) has)

-- A volume was closed: nothing was put on its device, and no count of faults fell; the device
-- failed to sync exactly where the count of writes that failed rose; and else a crash leaves what
-- is read, unless the volume had stopped.
pub record IsClosed {D : Type 0} (tells : Bool) (seen : D → Seen) (faults : D → Faults)
    (volume : VolumeNow D) (result : Result (Unit {0}) Failed) (device : D) : Type 0 where
  pub stopped : Bool
  pub has_stopped : IsTrue stopped → IsSome volume.file.stopped
  pub keeps : Keeps tells (seen volume.blocks) (seen device)
  pub counts : NeverFall (faults volume.blocks) (faults device)
  pub ok : OnOk result (faults device ≡ faults volume.blocks)
  pub fails : IsErr result → (faults volume.blocks).writes < (faults device).writes
  pub forced : IsTrue tells → stopped ≡ false
      → OnOk result (AllForced (seen device).count (seen device).cur (seen device).may)

-- What a run on a volume that was opened leaves, with what is seen of the volume before it was closed.
pub record HasEnded {D : Type 0} (tells : Bool) (seen : D → Seen) (faults : D → Faults)
    (steps : List JobStep) (volume : VolumeNow D) (result : Result (Unit {0}) Failed) (device : D)
    (entries : List Entry) : Type 0 where
  pub end : VolumeNow D
  pub later : Follows tells seen faults volume end
  pub of_steps : AreOfSteps steps end.file.entries
  pub closed : IsClosed tells seen faults end result device
  pub entries_are : entries ≡ end.file.entries
