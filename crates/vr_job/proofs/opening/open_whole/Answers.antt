use Rattle.vr_job.proofs.Readying.{end-shown, says-told}
use Rattle.vr_job.proofs.opening.open_whole.Goals as goal

pub returns-in-Err-clause-refused : goal.returns-in-Err-clause-refused
returns-in-Err-clause-refused g c told =
    end-shown c.args.number (g.B.Blocks.seen c.args.blocks.now) c.in-Err.no c.open_line.result
    c.open_line.ensures (c.in-Err.ensures.refused told)

pub returns-in-Err-clause-kept : goal.returns-in-Err-clause-kept
returns-in-Err-clause-kept g c says =
    c.in-Err.ensures.kept (says-told c.args.number c.in-Err.no c.open_line.result
    c.open_line.ensures says)
