use Rattle.vr_volume.specs.Crashes.{committed_with}
use Rattle.vr_recover.proofs.Opens.{may-open}
use Rattle.vr_recover.proofs.laws.each_image_opens.Goals as goal

pub returns-clause-volume : goal.returns-clause-volume
returns-clause-volume g c geometry number contents blocks is served =
    may-open geometry number contents (g.B.Blocks.seen blocks) is served

pub returns-clause-crash : goal.returns-clause-crash
returns-clause-crash g c geometry number state counted blocks allowed of is served =
    may-open geometry number (committed_with counted state) (g.B.Blocks.seen blocks)
    (record { allowed = allowed; shape = of; recovers = is.recovers }) served
