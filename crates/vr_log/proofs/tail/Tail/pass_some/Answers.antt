use Rattle.std.proofs.Common.{arith}
use Rattle.vr_log.proofs.Passing.{tail_filled}
use Rattle.vr_log.proofs.tail.Tail.pass_some.Goals as goal

pub returns-else-self-len-clause-passed : goal.returns-else-self-len-clause-passed
returns-else-self-len-clause-passed c geometry written t =
    let tail = c.args.self.now in
    let same = c.fill-count.ensures.same in
    tail_filled geometry written c.args.bytes.now c.fill-count.result tail c.fill-count.new.self t
    (omega (arith, c.fill-count.ensures.count))
    (omega (arith, c.fill-count.ensures.count, t.size, t.fits))
    same.1 same.2 c.fill-count.ensures.used c.fill-count.ensures.size c.fill-count.ensures.block
    (omega (arith, tail.block.ok.0, c.requires.sound.fits))
