-- When formatting may answer a fault of the device. The rules are this project's own.
use Rattle.std.specs.Prelude.{◌≡◌, ◌<◌, Result, OnOk, IsErrOf}
use Rattle.vr_types.specs.Faults.{Faults}
use Rattle.vr_format.specs.declared.no.FormatNo.{FormatNo}
use Rattle.vr_format.specs.declared.no.FormatNo.TheVariants.{Geometry, Write, Memory}

-- No read fails, and writes fail exactly where the answer is `Write`.
pub record HasFormatCause {T : Type 0} (before now : Faults) (result : Result T FormatNo) : Type 0
  where
    pub reads : now.reads ≡ before.reads
    pub ok : OnOk result (now ≡ before)
    pub write : IsErrOf result Write → before.writes < now.writes
    pub geometry : IsErrOf result Geometry → now ≡ before
    pub memory : IsErrOf result Memory → now ≡ before
