-- The formatting of the devices of a job as volumes 0, 1 and on, and how a job ends whose devices are
-- not all formatted. The rules are this project's own.
use Rattle.std.specs.Prelude.{◌≡◌, ◌≢◌, ◌<◌, ◌≤◌, ℕ, Bool, IsTrue, List, length, Some, slice_get}
use Rattle.std.specs.Prelude.{slice_set}
use Rattle.vr_types.specs.Faults.{Faults}
use Rattle.vr_types.specs.Geometry.{IsAllowed}
use Rattle.vr_types.specs.Image.{Image}
use Rattle.vr_types.specs.Regions.{Touches}
use Rattle.vr_types.specs.Seen.{Left, Seen}
use Rattle.vr_mount.specs.Touched.{Anything}
use Rattle.vr_format.specs.Formatted.{IsFormatted, IsWritten, first_entries, geometry_of}
use Rattle.vr_format.specs.declared.no.FormatNo.{FormatNo}
use Rattle.vr_format.specs.declared.no.FormatNo.TheVariants as nos
use Rattle.vr_trace.specs.declared.ending.EndLine.{EndLine}
use Rattle.vr_trace.specs.declared.ending.EndLine.TheVariants.{DeviceFault, Geometry, NoMemory, Shelf}

-- a volume may have this log and these intervals an area on each device
abbrev pub AreAllowed : {D : Type 0} → (D → Seen) → ℕ → ℕ → List D → Type 0
AreAllowed seen log area devices = (at : ℕ) (device : _) → slice_get devices at ≡ Some device
    → IsAllowed (geometry_of (seen device) log area)

-- it may not on that of this number, which is the first
pub record IsForbidden {D : Type 0} (seen : D → Seen) (log area number : ℕ) (devices : List D)
    : Type 0 where
  pub device : D
  pub there : slice_get devices number ≡ Some device
  pub forbidden : IsAllowed (geometry_of (seen device) log area) → ⊥
  pub first : (at : ℕ) (other : D) → at < number → slice_get devices at ≡ Some other
      → IsAllowed (geometry_of (seen other) log area)

-- A device was formatted as the volume of this number: it has as many blocks as before, of the same
-- size; none but those that a new volume states were written; and each image that a crash may leave of
-- it is a volume of this number that was formatted.
pub record IsFresh {D : Type 0} (tells : Bool) (seen : D → Seen) (log area number : ℕ) (old new : D)
    : Type 0 where
  pub count : (seen new).count ≡ (seen old).count
  pub size : (seen new).size ≡ (seen old).size
  pub written : IsTrue tells
      → Touches (IsWritten (geometry_of (seen old) log area) (length (first_entries number)))
      Anything (seen old) (seen new)
  pub formatted : IsTrue tells → (image : Image) → Left (seen new) image
      → IsFormatted (geometry_of (seen old) log area) number (first_entries number) image

-- The devices before this one are formatted; it and those after it are as they were.
pub record AreFormattedTo {D : Type 0} (tells : Bool) (seen : D → Seen) (log area number : ℕ)
    (old new : List D) : Type 0 where
  pub count : length new ≡ length old
  pub before : (at : ℕ) (device : D) → at < number → slice_get new at ≡ Some device
      → (first : D) × (slice_get old at ≡ Some first) × IsFresh tells seen log area at first device
  pub after : (at : ℕ) → number ≤ at → slice_get new at ≡ slice_get old at

-- each device is formatted
abbrev pub AreFormatted : {D : Type 0} → Bool → (D → Seen) → ℕ → ℕ → List D → List D → Type 0
AreFormatted tells seen log area old new =
    AreFormattedTo tells seen log area (length old) old new

-- How a job ends whose device of this number was not formatted: a write or its sync failed, or memory
-- ran out before anything was written.
pub data IsDeviceNo {D : Type 0} (faults : D → Faults) (number : ℕ) (old new : D) (end : EndLine)
    : Type 0 where
  WriteFailed : end ≡ DeviceFault number → (faults old).writes < (faults new).writes
      → IsDeviceNo faults number old new end
  LacksMemory : end ≡ NoMemory → new ≡ old → IsDeviceNo faults number old new end

-- How a job ends whose devices may all be formatted and aren't: those before one are, it isn't, and
-- those after it are as they were.
pub record IsFormatNo {D : Type 0} (tells : Bool) (seen : D → Seen) (faults : D → Faults)
    (log area : ℕ) (old new : List D) (end : EndLine) : Type 0 where
  pub number : ℕ
  pub formatted : List D
  pub before : AreFormattedTo tells seen log area number old formatted
  pub device : D
  pub there : slice_get old number ≡ Some device
  pub left : D
  pub new_is : new ≡ slice_set formatted number left
  pub no : IsDeviceNo faults number device left end

-- How a job ends whose devices are not all formatted: where there are more or fewer than it asks for,
-- or one of them may not have that shape, nothing is written.
pub data IsFormatEnd {D : Type 0} (tells : Bool) (seen : D → Seen) (faults : D → Faults)
    (count log area : ℕ) (old new : List D) (end : EndLine) : Type 0 where
  WrongShelf : length old ≢ count → end ≡ Shelf (length old) → new ≡ old
      → IsFormatEnd tells seen faults count log area old new end
  WrongShape : (number : ℕ) → length old ≡ count → end ≡ Geometry number
      → IsForbidden seen log area number old → new ≡ old
      → IsFormatEnd tells seen faults count log area old new end
  NotFormatted : length old ≡ count → AreAllowed seen log area old
      → IsFormatNo tells seen faults log area old new end
      → IsFormatEnd tells seen faults count log area old new end

-- the line of an answer about this volume
abbrev pub format_line : ℕ → FormatNo → EndLine
format_line number nos.Geometry = Geometry number
format_line number (nos.Entries at) = NoMemory
format_line number nos.Write = DeviceFault number
format_line number nos.Memory = NoMemory
