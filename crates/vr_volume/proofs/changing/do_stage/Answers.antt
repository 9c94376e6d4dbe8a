use Rattle.std.proofs.Common.{refl}
use Rattle.vr_types.specs.Space.{free_count}
use Rattle.vr_space.specs.Part.{Nothing, part_no}
use Rattle.vr_attach.specs.Owning.{claimed_by, owner_of}
use Rattle.vr_attach.proofs.CallerLemmas.{owner-past-log}
use Rattle.vr_volume.specs.Committed.{committed_by}
use Rattle.vr_volume.specs.PutBack.{lengths_kept}
use Rattle.vr_volume.proofs.Calls.{nothing-safe, part-after, part-guards, quiet-safe, safe-grows}
use Rattle.vr_volume.proofs.Rested.{laid-rest}
use Rattle.vr_volume.proofs.Stages.{all-owners, may-claim, stage-areas, stage-other, stage-other-due}
use Rattle.vr_volume.proofs.Stages.{stage-rest}
use Rattle.vr_volume.proofs.changing.do_stage.Goals as goal

pub returns-clause-safe : goal.returns-clause-safe
returns-clause-safe g c told geometry number log committed safe laid claimed =
    let B = g.B.Blocks in
    let shape = g.P.Part.shape c.args.part.now in
    let part = (part_no shape).0 in
    let kept = g.K.Kept.kept c.args.kept.now (part_no shape) in
    let a = B.seen c.args.blocks.now in
    let b = B.seen c.advance.new.blocks in
    let areas = c.args.space.now in
    let owners = owner_of geometry areas in
    let grown = owner_of geometry (claimed_by (part_no shape) areas) in
    let added = nothing-safe geometry log committed part shape in
    let left = g.met.B.Blocks.cur_may c.args.blocks.now told in
    let grows = may-claim geometry number log committed shape kept a left laid areas safe in
    let rests = quiet-safe geometry number owners log committed part shape kept a safe left laid
    (c.requires.rests told) in
    let more = safe-grows geometry number owners grown log committed a grows.kept
    (owner-past-log geometry (claimed_by (part_no shape) areas)) safe in
    let adds = c.advance.ensures.adds told owners grown grows rests claimed in
    let rooms = c.advance.ensures.rooms told owners grown grows rests claimed in (
      part-guards geometry number grown log committed part shape kept Nothing a b more laid added
          adds rooms left (c.advance.ensures.room told),
      part-after geometry number grown log committed part shape kept Nothing a b more laid added
          adds rooms left (c.advance.ensures.room told),
    )

pub returns-in_err-kind-clause-safe : goal.returns-in_err-kind-clause-safe
returns-in_err-kind-clause-safe g c told geometry number log committed safe laid claimed =
    let B = g.B.Blocks in
    let shape = g.P.Part.shape c.args.part.now in
    let part = (part_no shape).0 in
    let kept = g.K.Kept.kept c.args.kept.now (part_no shape) in
    let a = B.seen c.args.blocks.now in
    let b = B.seen c.advance.new.blocks in
    let areas = c.args.space.now in
    let owners = owner_of geometry areas in
    let grown = owner_of geometry (claimed_by (part_no shape) areas) in
    let added = nothing-safe geometry log committed part shape in
    let left = g.met.B.Blocks.cur_may c.args.blocks.now told in
    let grows = may-claim geometry number log committed shape kept a left laid areas safe in
    let rests = quiet-safe geometry number owners log committed part shape kept a safe left laid
    (c.requires.rests told) in
    let more = safe-grows geometry number owners grown log committed a grows.kept
    (owner-past-log geometry (claimed_by (part_no shape) areas)) safe in
    let adds = c.advance.ensures.adds told owners grown grows rests claimed in
    let rooms = c.advance.ensures.rooms told owners grown grows rests claimed in (
      part-guards geometry number grown log committed part shape kept Nothing a b more laid added
          adds rooms left (c.advance.ensures.room told),
      part-after geometry number grown log committed part shape kept Nothing a b more laid added
          adds rooms left (c.advance.ensures.room told),
    )

pub returns-clause-at_rest : goal.returns-clause-at_rest
returns-clause-at_rest g c told number log images state before part room =
    let B = g.B.Blocks in
    let shape = g.P.Part.shape c.args.part.now in
    let known = g.P.Part.known c.args.part.now in
    let kept = g.K.Kept.kept c.args.kept.now (part_no shape) in
    let a = B.seen c.args.blocks.now in
    let done = c.in_ok-kind.ensures in
    stage-rest number log images state c.args.space.now c.advance.new.space shape known kept a
    (B.seen c.advance.new.blocks) (g.met.B.Blocks.cur_may c.args.blocks.now told) before part
    (c.advance.ensures.rooms told)
    (stage-areas shape known a (free_count c.args.space.now) kept c.args.place.now c.args.length
    c.in_ok-kind.kind c.args.space.now c.advance.new.space (c.requires.knows told).way
    (done.stage told) done.owners)
    (g.P.Part.known c.advance.new.self) room
    (record {
      adds = c.advance.ensures.adds told;
      rests = done.rests told;
      stays = done.stays told;
      chain = done.chain;
      room = c.advance.ensures.room told;
      knows = done.knows told;
      same = c.advance.ensures.same told;
    })

pub returns-clause-others : goal.returns-clause-others
returns-clause-others g c told number log images state other met before part apart others =
    let B = g.B.Blocks in
    let shape = g.P.Part.shape c.args.part.now in
    let known = g.P.Part.known c.args.part.now in
    let kept = g.K.Kept.kept c.args.kept.now (part_no shape) in
    let a = B.seen c.args.blocks.now in
    let done = c.in_ok-kind.ensures in
    stage-other number log images state c.args.space.now c.advance.new.space shape known kept a
    (B.seen c.advance.new.blocks) (g.met.B.Blocks.cur_may c.args.blocks.now told) before part
    (c.advance.ensures.rooms told)
    (stage-areas shape known a (free_count c.args.space.now) kept c.args.place.now c.args.length
    c.in_ok-kind.kind c.args.space.now c.advance.new.space (c.requires.knows told).way
    (done.stage told) done.owners)
    other met apart others

pub returns-clause-others_due : goal.returns-clause-others_due
returns-clause-others_due g c told number log images state other met before part apart others =
    let B = g.B.Blocks in
    let shape = g.P.Part.shape c.args.part.now in
    let known = g.P.Part.known c.args.part.now in
    let kept = g.K.Kept.kept c.args.kept.now (part_no shape) in
    let a = B.seen c.args.blocks.now in
    let done = c.in_ok-kind.ensures in
    stage-other-due number log images state c.args.space.now c.advance.new.space shape known kept a
    (B.seen c.advance.new.blocks) (g.met.B.Blocks.cur_may c.args.blocks.now told) before part
    (c.advance.ensures.rooms told)
    (stage-areas shape known a (free_count c.args.space.now) kept c.args.place.now c.args.length
    c.in_ok-kind.kind c.args.space.now c.advance.new.space (c.requires.knows told).way
    (done.stage told) done.owners)
    other met apart others

pub returns-clause-more : goal.returns-clause-more
returns-clause-more g c told number log images state rest part count =
    let B = g.B.Blocks in
    let shape = g.P.Part.shape c.args.part.now in
    let a = B.seen c.args.blocks.now in
    let areas = c.args.space.now in
    let owners = owner_of log.geometry areas in
    let kept = lengths_kept images (part_no shape).0 in
    let left = g.met.B.Blocks.cur_may c.args.blocks.now told in
    let laid = laid-rest log.geometry number owners log images state a rest shape
    (g.P.Part.known c.args.part.now) part kept refl in
    c.in_ok-kind.ensures.more told
    (all-owners log.geometry number log (committed_by state) shape kept a left laid areas rest.safe
    count)
    owners (owner_of log.geometry (claimed_by (part_no shape) areas))
    (may-claim log.geometry number log (committed_by state) shape kept a left laid areas rest.safe)
    part.rests part.claimed
