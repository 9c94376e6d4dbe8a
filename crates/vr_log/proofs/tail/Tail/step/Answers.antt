use Rattle.std.proofs.Common.{◌++◌, take, arith}
use Rattle.vr_log.proofs.Filling.{fill_kept, part-prefix}
use Rattle.vr_log.proofs.tail.Tail.step.Goals as goal

pub returns-in_err-turn-clause-touches : goal.returns-in_err-turn-clause-touches
returns-in_err-turn-clause-touches g c log total written w prefix told =
    let tail = c.args.self.now in
    let same = c.fill-count.ensures.same in
    let kept = fill_kept g.B.Blocks.tells log total written c.args.bytes.now c.fill-count.result
    tail c.fill-count.new.self (g.B.Blocks.seen c.args.blocks.now) w
    (omega (arith, c.fill-count.ensures.count))
    (omega (arith, c.fill-count.ensures.count, w.buffer.size, w.buffer.fits))
    same.0 same.1 same.2 c.fill-count.ensures.used same.3 c.fill-count.ensures.size
    c.fill-count.ensures.block
    (omega (arith, tail.block.ok.0, c.requires.safe.size, c.requires.safe.fits)) in
    (c.turn.ensures.writing log total (written
    ++ take c.fill-count.result c.args.bytes.now) kept
    (part-prefix written c.args.bytes.now total c.fill-count.result prefix)).touches told

pub returns-clause-writing : goal.returns-clause-writing
returns-clause-writing g c log total written w prefix =
    let tail = c.args.self.now in
    let same = c.fill-count.ensures.same in
    let kept = fill_kept g.B.Blocks.tells log total written c.args.bytes.now c.fill-count.result
    tail c.fill-count.new.self (g.B.Blocks.seen c.args.blocks.now) w
    (omega (arith, c.fill-count.ensures.count))
    (omega (arith, c.fill-count.ensures.count, w.buffer.size, w.buffer.fits))
    same.0 same.1 same.2 c.fill-count.ensures.used same.3 c.fill-count.ensures.size
    c.fill-count.ensures.block
    (omega (arith, tail.block.ok.0, c.requires.safe.size, c.requires.safe.fits)) in
    (c.in_ok-turn.ensures.writing log total (written
    ++ take c.fill-count.result c.args.bytes.now) kept
    (part-prefix written c.args.bytes.now total c.fill-count.result prefix)).writing

pub returns-clause-touches : goal.returns-clause-touches
returns-clause-touches g c log total written w prefix told =
    let tail = c.args.self.now in
    let same = c.fill-count.ensures.same in
    let kept = fill_kept g.B.Blocks.tells log total written c.args.bytes.now c.fill-count.result
    tail c.fill-count.new.self (g.B.Blocks.seen c.args.blocks.now) w
    (omega (arith, c.fill-count.ensures.count))
    (omega (arith, c.fill-count.ensures.count, w.buffer.size, w.buffer.fits))
    same.0 same.1 same.2 c.fill-count.ensures.used same.3 c.fill-count.ensures.size
    c.fill-count.ensures.block
    (omega (arith, tail.block.ok.0, c.requires.safe.size, c.requires.safe.fits)) in
    (c.turn.ensures.writing log total (written
    ++ take c.fill-count.result c.args.bytes.now) kept
    (part-prefix written c.args.bytes.now total c.fill-count.result prefix)).touches told
