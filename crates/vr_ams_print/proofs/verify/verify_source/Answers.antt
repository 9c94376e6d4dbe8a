use Rattle.std.proofs.Common.{map, false}
use Rattle.vr_ams_print.proofs.Sources.{there-of, within}
use Rattle.vr_ams_print.proofs.verify.verify_source.Goals as goal

pub count_source-requires-clause-there : goal.count_source-requires-clause-there
count_source-requires-clause-there g c = there-of false (map g.V.ShownVolume.shown
    c.args.volumes.now) c.args.name.now c.args.source.now c.requires.found

pub count_source-requires-clause-within : goal.count_source-requires-clause-within
count_source-requires-clause-within g c =
    let shown = g.V.ShownVolume.shown in
    within shown c.args.volumes.now c.args.source.now
    (there-of false (map shown c.args.volumes.now) c.args.name.now c.args.source.now
    c.requires.found)
