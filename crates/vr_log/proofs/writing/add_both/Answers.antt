use Rattle.std.proofs.Common.{rules}
use Rattle.vr_log.proofs.Adding.{writes_then, writes_stop}
use Rattle.vr_log.proofs.writing.add_both.Goals as goal

pub returns-in_err-add-clause-writing : goal.returns-in_err-add-clause-writing
returns-in_err-add-clause-writing g c log total written w prefix =
    let B = g.B.Blocks in record {
      writing = search rules;
      touches = writes_stop B.tells c.args.first.now c.args.second.now c.args.tail.now
          c.add.new.self (B.seen c.args.blocks.now) (B.seen c.add.new.blocks) c.add.result
          c.add.ensures.writing log total written w prefix;
    }

pub returns-clause-writing : goal.returns-clause-writing
returns-clause-writing g c =
    let B = g.B.Blocks in
    writes_then B.tells c.args.first.now c.args.second.now c.args.tail.now c.add.new.self
    c.add-2.new.self (B.seen c.args.blocks.now) (B.seen c.add.new.blocks)
    (B.seen c.add-2.new.blocks) tt c.add-2.result c.in_ok-add.ensures.writing
    c.add-2.ensures.writing
