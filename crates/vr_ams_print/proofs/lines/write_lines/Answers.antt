use Rattle.vr_ams_print.specs.Lines.{chunk_at, line_of}
use Rattle.vr_ams_print.proofs.Numbered.{joined_more}
use Rattle.vr_ams_print.proofs.lines.write_lines.Goals as goal

pub loop-number-preserved : goal.loop-number-preserved
loop-number-preserved c = joined_more (line_of c.args.form)
    (chunk_at c.line_size-size.result c.args.bytes.now) c.loop-number.number c.args.out.now
    c.loop-number.out c.write_line.new.out c.loop-number.invariant
    (rw c.chunk.ensures at c.in_ok-write_line.ensures)
