-- What the answer to a refused request shows of the lock that stands in its way. The rule is this
-- project's own.
use Rattle.vr_types.specs.declared.unit.Mode.{Mode}
use Rattle.vr_types.specs.declared.unit.Unit as units
use Rattle.vr_types.specs.Locks.{Lock}

-- who has a lock, and how
abbrev pub holding : Lock → units.Unit × Mode
holding lock = (lock.unit, lock.mode)
