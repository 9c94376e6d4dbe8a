-- How a job ends whose volume is not opened. The rules are this project's own.
use Rattle.std.specs.Prelude.{◌≡◌, ◌<◌, ◌≤◌, ◌⊎◌, ℕ}
use Rattle.vr_types.specs.Faults.{Faults}
use Rattle.vr_types.specs.Seen.{Seen}
use Rattle.vr_recover.specs.Opening.{IsDamaged, IsOfVersion}
use Rattle.vr_recover.specs.declared.open_no.OpenNo.{OpenNo}
use Rattle.vr_recover.specs.declared.open_no.OpenNo.TheVariants as nos
use Rattle.vr_recover.specs.declared.open_no.Unserved.{Unserved}
use Rattle.vr_recover.specs.declared.open_no.Unserved.TheVariants.{BuiltIndex, LongRecord}
use Rattle.vr_recover.specs.Unserved.{IsUnserved}
use Rattle.vr_trace.specs.declared.ending.EndLine.{EndLine}
use Rattle.vr_trace.specs.declared.ending.EndLine.TheVariants.{Damaged, DeviceFault, NoMemory, Version}

-- the rule by which a line shows what isn't served: that of the catalog's records
abbrev pub unserved_rule : Unserved → ℕ
unserved_rule BuiltIndex = 17
unserved_rule LongRecord = 17

-- the line of an answer about this volume
abbrev pub open_line : ℕ → OpenNo → EndLine
open_line number (nos.Damaged block rule) = Damaged number block rule
open_line number (nos.Version found) = Version number found
open_line number (nos.Unserved block cause) = Damaged number block (unserved_rule cause)
open_line number nos.Read = DeviceFault number
open_line number nos.Write = DeviceFault number
open_line number nos.Memory = NoMemory

-- the line is that of such an answer
abbrev pub IsOpenLine : ℕ → EndLine → Type 0
IsOpenLine number end = (no : OpenNo) × (end ≡ open_line number no)

-- a line that says what is wrong with the blocks of a volume of this number
abbrev pub SaysOfBlocks : ℕ → EndLine → Type 0
SaysOfBlocks number end = ((block : ℕ) × (rule : ℕ) × (end ≡ Damaged number block rule))
    ⊎ ((found : ℕ) × (end ≡ Version number found))

-- A line by which a volume of this number is refused, by the blocks as they were: it is damaged, or
-- of another version, or has what isn't served, which is shown as damage of the block that has it, or
-- there is no memory, or its device failed.
pub data IsOpenEnd (number : ℕ) (old : Seen) (end : EndLine) : Type 0 where
  IsDamage : (block rule : ℕ) → end ≡ Damaged number block rule → IsDamaged number old block rule
      → IsOpenEnd number old end
  IsVersion : (found : ℕ) → end ≡ Version number found → IsOfVersion number old found
      → IsOpenEnd number old end
  IsNotServed : (block : ℕ) (cause : Unserved) → end ≡ Damaged number block (unserved_rule cause)
      → IsUnserved number old block cause → IsOpenEnd number old end
  IsFault : end ≡ DeviceFault number → IsOpenEnd number old end
  IsMemory : end ≡ NoMemory → IsOpenEnd number old end

-- neither count of faults falls
pub record NeverFall (before now : Faults) : Type 0 where
  pub reads : before.reads ≤ now.reads
  pub writes : before.writes ≤ now.writes

-- a device's fault ends the job only where a count rose
abbrev pub HasEndCause : ℕ → Faults → Faults → EndLine → Type 0
HasEndCause number before now end = end ≡ DeviceFault number
    → (before.reads < now.reads) ⊎ (before.writes < now.writes)
