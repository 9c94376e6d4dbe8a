use Rattle.std.proofs.Common.{◌<◌, ◌-◌, arith, length}
use Rattle.vr_recover.specs.Images.{IsNamed}
use Rattle.vr_recover.proofs.PuttingBack.{at-record}
use Rattle.vr_recover.proofs.catalog_back.put_images.Goals as goal

pub put_image-requires-clause-named : goal.put_image-requires-clause-named
put_image-requires-clause-named c =
    let at = c.loop-at.at - 1 in
    let inside : at < length c.args.all.now =
    omega (arith, c.loop-at-test.true, c.loop-at.invariant.within) in
    at-record IsNamed c.args.all.now c.args.log.now.records c.requires.all c.requires.named at
    inside c.index-all-at.result c.index-all-at.is
