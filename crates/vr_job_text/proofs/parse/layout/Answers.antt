use Rattle.vr_job_text.proofs.LineLengths.{lines_short}
use Rattle.vr_job_text.proofs.parse.layout.Goals as goal

pub take_lines-requires-clause-short : goal.take_lines-requires-clause-short
take_lines-requires-clause-short c =
    rw c.lines.ensures.value (lines_short c.args.text.now _ c.requires)
