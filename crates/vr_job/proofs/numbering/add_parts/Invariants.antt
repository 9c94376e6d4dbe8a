use Rattle.std.proofs.Common.{◌≡◌, map}
use Rattle.vr_job.specs.Opened.{laid_now, opened_now}
use Rattle.vr_job.proofs.numbering.add_parts.Given as goal

-- the parts so far have their numbers
abbrev pub invariant-loop-part : goal.invariant-loop-part
invariant-loop-part l = map laid_now l.into.items ≡ map opened_now l.yielded
