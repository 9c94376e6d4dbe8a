-- Why a request is refused. The rule is this project's own.
use Rattle.std.specs.Prelude.{◌≡◌, Option, Some}
use Rattle.vr_types.specs.Locks.{Lock}
use Rattle.vr_locks.specs.declared.no.LockNo.{LockNo}
use Rattle.vr_locks.specs.declared.no.LockNo.TheVariants.{Held, Memory}

-- by the lock that stands in the way, if there is one; memory may run out at any time
abbrev pub CauseOf : Option Lock → LockNo → Type 0
CauseOf in_the_way (Held holder name mode) =
    in_the_way ≡ Some (record { name = name; unit = holder; mode = mode })
CauseOf in_the_way Memory = Unit {0}
