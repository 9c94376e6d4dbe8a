use Rattle.std.proofs.Common.{sym, ◌∙◌}
use Rattle.vr_resident.proofs.Entries.{kept_more, found_more}
use Rattle.vr_resident.proofs.table.last_fit.Goals as goal

pub loop-number-preserved-then-fits : goal.loop-number-preserved-then-fits
loop-number-preserved-then-fits c =
    found_more c.args.sought c.loop-number.yielded (c.in-Some.number, c.in-Some.place)
    (sym c.fits.ensures ∙ c.if-fits.true)

pub loop-number-preserved : goal.loop-number-preserved
loop-number-preserved c =
    kept_more c.args.sought c.loop-number.last c.loop-number.yielded
    (c.in-Some.number, c.in-Some.place) c.loop-number.invariant (sym c.fits.ensures
    ∙ c.if-fits.false)
