use Rattle.std.proofs.Common.{◌≡◌, min, length, map}
use Rattle.std.specs.Map.Iter.{deref_pair}
use Rattle.vr_resident.specs.Places.{buffers_of}
use Rattle.vr_resident.proofs.table.count_buffers.Given as goal

abbrev pub invariant-loop-place : goal.invariant-loop-place
invariant-loop-place l = l.count ≡ min (length (buffers_of (map deref_pair l.yielded))) 4294967295
