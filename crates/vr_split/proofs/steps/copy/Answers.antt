use Rattle.std.proofs.Common.{[]}
use Rattle.vr_types.specs.declared.unit.StageKind.TheVariants.{CiCopy}
use Rattle.vr_space.specs.Room.{Lengths}
use Rattle.vr_split.specs.Switching.{KeepsPart, IsStageDone}
use Rattle.vr_split.specs.Splits.{split_of}
use Rattle.vr_split.proofs.Going.{kept-part, then-part, then-done, none-kept, copy-apply}
use Rattle.vr_split.proofs.Going.{copy-counts, copy-leaves, copy-idle}
use Rattle.vr_split.proofs.steps.copy.Goals as goal

pub returns-in_err-make_copies-clause-keeps : goal.returns-in_err-make_copies-clause-keeps
returns-in_err-make_copies-clause-keeps g c told kept room =
    kept-part c.args.layout.now g.B.Blocks.tells told (g.B.Blocks.seen c.args.blocks.now)
    (g.B.Blocks.seen c.make_copies.new.blocks) c.make_copies.ensures.keeps
    (c.requires.rests told) kept room

pub returns-in_err-copy_interval-clause-keeps : goal.returns-in_err-copy_interval-clause-keeps
returns-in_err-copy_interval-clause-keeps g c told kept room =
    let B = g.B.Blocks in
    let part = c.args.layout.now in
    let a = B.seen c.args.blocks.now in
    let m = B.seen c.make_copies.new.blocks in
    let b = B.seen c.copy_interval.new.blocks in
    let rests = c.requires.rests told in
    then-part part B.tells told a m c.make_copies.ensures.keeps rests kept b room
    (copy-apply part B.tells told (split_of c.args.split.now CiCopy) a m
    c.make_copies.ensures.keeps rests (g.met.B.Blocks.cur_may c.args.blocks.now told)
    (g.met.B.Blocks.cur_may c.make_copies.new.blocks told) (c.requires.begun told)
    c.block_of.result c.block_of-2.result c.block_of.ensures c.block_of-2.ensures
    c.make_copies.new.whole (c.in_ok-make_copies.ensures.whole told)
    (λ (others : Lengths). KeepsPart part others m b) (c.copy_interval.ensures.keeps told part)
    kept room)

pub returns-clause-keeps : goal.returns-clause-keeps
returns-clause-keeps g c told kept room =
    let B = g.B.Blocks in
    let part = c.args.layout.now in
    let a = B.seen c.args.blocks.now in
    let m = B.seen c.make_copies.new.blocks in
    let b = B.seen c.copy_interval.new.blocks in
    let rests = c.requires.rests told in
    then-part part B.tells told a m c.make_copies.ensures.keeps rests kept b room
    (copy-apply part B.tells told (split_of c.args.split.now CiCopy) a m
    c.make_copies.ensures.keeps rests (g.met.B.Blocks.cur_may c.args.blocks.now told)
    (g.met.B.Blocks.cur_may c.make_copies.new.blocks told) (c.requires.begun told)
    c.block_of.result c.block_of-2.result c.block_of.ensures c.block_of-2.ensures
    c.make_copies.new.whole (c.in_ok-make_copies.ensures.whole told)
    (λ (others : Lengths). KeepsPart part others m b) (c.copy_interval.ensures.keeps told part)
    kept room)

pub returns-clause-done : goal.returns-clause-done
returns-clause-done g c told =
    let B = g.B.Blocks in
    let part = c.args.layout.now in
    let a = B.seen c.args.blocks.now in
    let m = B.seen c.make_copies.new.blocks in
    let b = B.seen c.copy_interval.new.blocks in
    let rests = c.requires.rests told in
    then-done part B.tells told a m c.make_copies.ensures.keeps rests b
    (copy-apply part B.tells told (split_of c.args.split.now CiCopy) a m
    c.make_copies.ensures.keeps rests (g.met.B.Blocks.cur_may c.args.blocks.now told)
    (g.met.B.Blocks.cur_may c.make_copies.new.blocks told) (c.requires.begun told)
    c.block_of.result c.block_of-2.result c.block_of.ensures c.block_of-2.ensures
    c.make_copies.new.whole (c.in_ok-make_copies.ensures.whole told)
    (λ (others : Lengths). IsStageDone part m b) (c.in_ok-copy_interval.ensures.done told part)
    [] (none-kept part a rests.sound))

pub returns-clause-copied : goal.returns-clause-copied
returns-clause-copied g c told =
    let B = g.B.Blocks in
    let a = B.seen c.args.blocks.now in
    let m = B.seen c.make_copies.new.blocks in
    copy-leaves c.args.layout.now B.tells told (split_of c.args.split.now CiCopy) a m
    c.make_copies.ensures.keeps (c.requires.rests told)
    (g.met.B.Blocks.cur_may c.args.blocks.now told)
    (g.met.B.Blocks.cur_may c.make_copies.new.blocks told) (c.requires.begun told)
    c.block_of.result c.block_of-2.result c.block_of.ensures c.block_of-2.ensures
    c.make_copies.new.whole (c.in_ok-make_copies.ensures.whole told)
    (B.seen c.copy_interval.new.blocks) c.make_copies.new.upper
    (g.met.B.Blocks.cur_may c.copy_interval.new.blocks told) c.copy_interval.ensures.count
    (c.in_ok-make_copies.ensures.upper told) (c.copy_interval.ensures.elsewhere told)
    (c.in_ok-copy_interval.ensures.into_stable told)
    (c.in_ok-copy_interval.ensures.old_stable told)

pub returns-clause-made : goal.returns-clause-made
returns-clause-made g c told =
    let B = g.B.Blocks in
    let a = B.seen c.args.blocks.now in
    let m = B.seen c.make_copies.new.blocks in
    copy-idle c.args.layout.now B.tells told (split_of c.args.split.now CiCopy) a m
    c.make_copies.ensures.keeps (c.requires.rests told)
    (g.met.B.Blocks.cur_may c.args.blocks.now told)
    (g.met.B.Blocks.cur_may c.make_copies.new.blocks told) (c.requires.begun told)
    c.block_of.result c.block_of-2.result c.block_of.ensures c.block_of-2.ensures
    c.make_copies.new.whole (c.in_ok-make_copies.ensures.whole told)
    (B.seen c.copy_interval.new.blocks) c.make_copies.new.upper
    (g.met.B.Blocks.cur_may c.copy_interval.new.blocks told) c.copy_interval.ensures.count
    (c.in_ok-make_copies.ensures.upper told) (c.in_ok-copy_interval.ensures.into_stable told)

pub returns-clause-counts : goal.returns-clause-counts
returns-clause-counts g c told =
    let B = g.B.Blocks in
    copy-counts c.args.layout.now B.tells told (split_of c.args.split.now CiCopy)
    (B.seen c.args.blocks.now) (B.seen c.make_copies.new.blocks) c.make_copies.ensures.keeps
    (c.requires.rests told) (g.met.B.Blocks.cur_may c.args.blocks.now told)
    (g.met.B.Blocks.cur_may c.make_copies.new.blocks told) (c.requires.begun told)
    c.block_of.result c.block_of-2.result c.block_of.ensures c.block_of-2.ensures
    c.make_copies.new.whole (c.in_ok-make_copies.ensures.whole told)
    (B.seen c.copy_interval.new.blocks) (c.copy_interval.ensures.elsewhere told)
