use Rattle.std.proofs.Common.{◌≡◌, drop}
use Rattle.vr_types.specs.Locks.{conflict_on}
use Rattle.vr_locks.specs.Maps.{locks_in}
use Rattle.vr_locks.proofs.maps.LockMaps.refuse.Given as goal

abbrev pub invariant-loop-name : goal.invariant-loop-name
invariant-loop-name l =
    conflict_on (locks_in l.self) l.unit l.mode l.names ≡ conflict_on (locks_in l.self) l.unit
    l.mode (drop l.name-index l.names)
