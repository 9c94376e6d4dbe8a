use Rattle.std.proofs.Common.{map, take, length}
use Rattle.vr_ci_match.specs.declared.form.Form.TheVariants.{Plain}
use Rattle.vr_ci.specs.Writer.{IsWriting, buffer_of}
use Rattle.vr_format.specs.Planned.{item_of}
use Rattle.vr_format.proofs.interval.write_interval.Given as goal

abbrev pub invariant-loop-entry : goal.invariant-loop-entry
invariant-loop-entry l =
    IsWriting Plain (length l.fn.out) (buffer_of l.initial.writer)
    (map item_of (take l.entry-index l.entries)) l.writer
