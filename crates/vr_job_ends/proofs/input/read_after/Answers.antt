use Rattle.vr_job_ends.proofs.Readings.{reads_after}
use Rattle.vr_job_ends.proofs.input.read_after.Goals as goal

pub returns-clause-bytes : goal.returns-clause-bytes
returns-clause-bytes g c =
    reads_after _ _ c.args.filled c.args.buffer.now c.read.new.into c.read.result c.requires
    c.read.ensures.within c.read.ensures.bytes
