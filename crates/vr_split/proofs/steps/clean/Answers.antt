use Rattle.std.proofs.Common.{[]}
use Rattle.vr_types.specs.declared.unit.StageKind.TheVariants.{CiClean}
use Rattle.vr_space.specs.Room.{Lengths}
use Rattle.vr_split.specs.Switching.{KeepsPart, IsStageDone}
use Rattle.vr_split.specs.Splits.{split_of}
use Rattle.vr_split.proofs.Going.{kept-part, kept-way, then-part, then-done, none-kept, clean-apply}
use Rattle.vr_split.proofs.Going.{clean-counts, clean-idle}
use Rattle.vr_split.proofs.steps.clean.Goals as goal

pub returns-in_err-make_clean-clause-keeps : goal.returns-in_err-make_clean-clause-keeps
returns-in_err-make_clean-clause-keeps g c told kept room =
    kept-part c.args.layout.now g.B.Blocks.tells told (g.B.Blocks.seen c.args.blocks.now)
    (g.B.Blocks.seen c.make_clean.new.blocks) c.make_clean.ensures.keeps
    (c.requires.rests told) kept room

pub returns-in_err-clean_interval-clause-keeps : goal.returns-in_err-clean_interval-clause-keeps
returns-in_err-clean_interval-clause-keeps g c told kept room =
    let B = g.B.Blocks in
    let part = c.args.layout.now in
    let split = split_of c.args.split.now CiClean in
    let a = B.seen c.args.blocks.now in
    let m = B.seen c.make_clean.new.blocks in
    let b = B.seen c.clean_interval.new.blocks in
    let rests = c.requires.rests told in
    let left = g.met.B.Blocks.cur_may c.args.blocks.now told in
    then-part part B.tells told a m c.make_clean.ensures.keeps rests kept b room
    (clean-apply part B.tells told split a m c.make_clean.ensures.keeps rests left
    (g.met.B.Blocks.cur_may c.make_clean.new.blocks told)
    (kept-way part B.tells told a m c.make_clean.ensures.keeps rests split left
    (c.requires.switched told)) c.block_of-number.result c.block_of-number.ensures
    c.make_clean.new.lower (c.in_ok-make_clean.ensures.lower told)
    (λ (others : Lengths). KeepsPart part others m b)
    (λ others block resting settled can.
    (c.clean_interval.ensures.keeps told part others block resting settled can).0) kept room)

pub returns-clause-keeps : goal.returns-clause-keeps
returns-clause-keeps g c told kept room =
    let B = g.B.Blocks in
    let part = c.args.layout.now in
    let split = split_of c.args.split.now CiClean in
    let a = B.seen c.args.blocks.now in
    let m = B.seen c.make_clean.new.blocks in
    let b = B.seen c.clean_interval.new.blocks in
    let rests = c.requires.rests told in
    let left = g.met.B.Blocks.cur_may c.args.blocks.now told in
    then-part part B.tells told a m c.make_clean.ensures.keeps rests kept b room
    (clean-apply part B.tells told split a m c.make_clean.ensures.keeps rests left
    (g.met.B.Blocks.cur_may c.make_clean.new.blocks told)
    (kept-way part B.tells told a m c.make_clean.ensures.keeps rests split left
    (c.requires.switched told)) c.block_of-number.result c.block_of-number.ensures
    c.make_clean.new.lower (c.in_ok-make_clean.ensures.lower told)
    (λ (others : Lengths). KeepsPart part others m b)
    (λ others block resting settled can.
    (c.clean_interval.ensures.keeps told part others block resting settled can).0) kept room)

pub returns-clause-done : goal.returns-clause-done
returns-clause-done g c told =
    let B = g.B.Blocks in
    let part = c.args.layout.now in
    let split = split_of c.args.split.now CiClean in
    let a = B.seen c.args.blocks.now in
    let m = B.seen c.make_clean.new.blocks in
    let b = B.seen c.clean_interval.new.blocks in
    let rests = c.requires.rests told in
    let left = g.met.B.Blocks.cur_may c.args.blocks.now told in
    then-done part B.tells told a m c.make_clean.ensures.keeps rests b
    (clean-apply part B.tells told split a m c.make_clean.ensures.keeps rests left
    (g.met.B.Blocks.cur_may c.make_clean.new.blocks told)
    (kept-way part B.tells told a m c.make_clean.ensures.keeps rests split left
    (c.requires.switched told)) c.block_of-number.result c.block_of-number.ensures
    c.make_clean.new.lower (c.in_ok-make_clean.ensures.lower told)
    (λ (others : Lengths). IsStageDone part m b)
    (λ others block resting settled can.
    (c.clean_interval.ensures.keeps told part others block resting settled can).1) []
    (none-kept part a rests.sound))

pub returns-clause-made : goal.returns-clause-made
returns-clause-made g c told =
    let B = g.B.Blocks in
    let part = c.args.layout.now in
    let split = split_of c.args.split.now CiClean in
    let a = B.seen c.args.blocks.now in
    let m = B.seen c.make_clean.new.blocks in
    let b = B.seen c.clean_interval.new.blocks in
    let rests = c.requires.rests told in
    let left = g.met.B.Blocks.cur_may c.args.blocks.now told in
    clean-idle part B.tells told split a m c.make_clean.ensures.keeps rests left
    (g.met.B.Blocks.cur_may c.make_clean.new.blocks told)
    (kept-way part B.tells told a m c.make_clean.ensures.keeps rests split left
    (c.requires.switched told)) c.block_of-number.result c.block_of-number.ensures
    c.make_clean.new.lower (c.in_ok-make_clean.ensures.lower told)
    b (c.in_ok-clean_interval.ensures.put told)

pub returns-clause-counts : goal.returns-clause-counts
returns-clause-counts g c told =
    let B = g.B.Blocks in
    let part = c.args.layout.now in
    let split = split_of c.args.split.now CiClean in
    let a = B.seen c.args.blocks.now in
    let m = B.seen c.make_clean.new.blocks in
    let rests = c.requires.rests told in
    let left = g.met.B.Blocks.cur_may c.args.blocks.now told in
    clean-counts part B.tells told split a m c.make_clean.ensures.keeps rests left
    (g.met.B.Blocks.cur_may c.make_clean.new.blocks told)
    (kept-way part B.tells told a m c.make_clean.ensures.keeps rests split left
    (c.requires.switched told)) c.block_of-number.result c.block_of-number.ensures
    c.make_clean.new.lower (c.in_ok-make_clean.ensures.lower told)
    (B.seen c.clean_interval.new.blocks) (c.clean_interval.ensures.elsewhere told)
