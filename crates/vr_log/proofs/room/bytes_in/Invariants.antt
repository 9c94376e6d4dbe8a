use Rattle.std.proofs.Common.{◌≡◌, length, take}
use Rattle.vr_log.specs.Records.{bytes_of}
use Rattle.vr_log.proofs.room.bytes_in.Given as goal

abbrev pub invariant-loop-rec : goal.invariant-loop-rec
invariant-loop-rec l = l.bytes ≡ length (bytes_of (take l.rec-index l.records))
