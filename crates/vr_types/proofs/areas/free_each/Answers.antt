use Rattle.std.proofs.Common.{arith, ◌≡◌, ◌<◌, List, Option, None, length}
use Rattle.std.proofs.Math.ListN.{get_or}
use Rattle.std.proofs.lemmas.List.{get_or_default}
use Rattle.std.proofs.lemmas.List.Edits.{map_over_more}
use Rattle.vr_types.specs.declared.unit.PartNo.{PartNo}
use Rattle.vr_types.specs.Space.{freed}
use Rattle.vr_types.proofs.areas.free_each.Goals as goal

pub loop-owner-preserved : goal.loop-owner-preserved
loop-owner-preserved c =
    let owner : Option PartNo = get_or c.loop-owner.owners c.loop-owner.owner-index None in
    let below : c.loop-owner.owner-index < length c.loop-owner.owners = omega arith in
    let same = get_or_default c.loop-owner.owners c.loop-owner.owner-index None owner below in
    let more = map_over_more (freed c.args.part) c.args.owners.now c.loop-owner.owners
    c.loop-owner.owner-index owner c.loop-owner-test.true c.loop-owner.invariant same in
    rw c.freed.ensures more
