use Rattle.vr_format.specs.Planned.{first_area}
use Rattle.vr_format.proofs.NewVolume.{none-stand}
use Rattle.vr_format.proofs.clusters.write_cluster.Goals as goal

pub write_part-requires-clause-records : goal.write_part-requires-clause-records
write_part-requires-clause-records g c = none-stand (first_area c.layout_of-layout.result)
