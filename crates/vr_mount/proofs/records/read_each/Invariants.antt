use Rattle.std.proofs.Common.{take}
use Rattle.vr_mount.specs.Records.{AreSpelled}
use Rattle.vr_mount.proofs.records.read_each.Given as goal

-- the entries so far are those of the records so far
abbrev pub invariant-loop-bytes : goal.invariant-loop-bytes
invariant-loop-bytes l = AreSpelled (take l.bytes-index l.records) l.catalog
