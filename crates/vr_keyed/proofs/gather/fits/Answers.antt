use Rattle.std.proofs.Common.{sym}
use Rattle.vr_space.specs.AreaCalls.{area_part}
use Rattle.vr_space.specs.Keyed.{lengths_of}
use Rattle.vr_space.specs.Lent.{range_lent}
use Rattle.vr_keyed.proofs.Gathering.{not-fits}
use Rattle.vr_keyed.proofs.gather.fits.Goals as goal

pub returns-then-not-gather_lengths-clause-fits : goal.returns-then-not-gather_lengths-clause-fits
returns-then-not-gather_lengths-clause-fits g c holds places key has =
    let part = c.args.layout.now in
    sym (not-fits part
    (lengths_of part (g.K.Kept.kept c.args.kept.now (area_part part))
    (range_lent c.args.range.now) c.args.block.now) c.args.place.now c.args.longest
    (c.if-not-gather_lengths.ensures.gathered holds places key has))
