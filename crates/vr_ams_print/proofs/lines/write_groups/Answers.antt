use Rattle.std.specs.Fork.{slice_chunk}
use Rattle.vr_ams_print.specs.Lines.{group}
use Rattle.vr_ams_print.proofs.Numbered.{joined_more}
use Rattle.vr_ams_print.proofs.lines.write_groups.Goals as goal

pub loop-number-preserved : goal.loop-number-preserved
loop-number-preserved c = joined_more group (slice_chunk c.args.bytes.now 4) c.loop-number.number
    c.args.out.now c.loop-number.out c.write_group.new.out c.loop-number.invariant
    (rw c.chunk.ensures at c.in_ok-write_group.ensures)
