use Rattle.std.proofs.Common.{List, ap, subst, sym}
use Rattle.vr_job.specs.Done.{NotAllFormatted, narrowed}
use Rattle.vr_job.specs.Formats.{IsFormatEnd}
use Rattle.vr_job.proofs.done.format_shelf.Goals as goal

pub returns-in-Err-clause-done : goal.returns-in-Err-clause-done
returns-in-Err-clause-done g c =
    let B = g.D.BlockDevice in
    let made = c.not_run-in-Err in
    NotAllFormatted c.in-Err.line made.ensures.end
    (subst (λ (items : List g.row.D.Denot). IsFormatEnd B.tells B.seen B.faults c.args.count
    (narrowed c.args.log) (narrowed c.args.area) c.args.shelf.items items c.in-Err.line)
    (ap (λ shelf. shelf.items) (sym made.ensures.shelf)) c.in-Err.ensures.end)
