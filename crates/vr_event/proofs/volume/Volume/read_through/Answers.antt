use Rattle.vr_event.proofs.HandedRecords.{failed-so}
use Rattle.vr_event.proofs.volume.Volume.read_through.Goals as goal

pub returns-in-Err-Fault-Read-clause-read : goal.returns-in-Err-Fault-Read-clause-read
returns-in-Err-Fault-Read-clause-read g c told =
    failed-so c.in-Err-Fault-Read.field-0 _ _ c.in-Err-Fault-Read.field-0-is
    (c.in-Err-Fault-Read.ensures.first told)

pub returns-in-Err-Fault-Write-clause-read : goal.returns-in-Err-Fault-Write-clause-read
returns-in-Err-Fault-Write-clause-read g c told =
    failed-so c.in-Err-Fault-Write.field-0 _ _ c.in-Err-Fault-Write.field-0-is
    (c.in-Err-Fault-Write.ensures.first told)
