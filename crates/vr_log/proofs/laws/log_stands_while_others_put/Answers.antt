use Rattle.vr_log.proofs.Restarting.{stands_elsewhere}
use Rattle.vr_log.proofs.laws.log_stands_while_others_put.Goals as goal

pub returns-clause-stands : goal.returns-clause-stands
returns-clause-stands g c told =
    stands_elsewhere g.B.Blocks.tells told c.args.log.now c.args.home
    c.args.bytes.now (g.B.Blocks.seen c.args.blocks.now) (g.B.Blocks.seen c.put.new.self)
    c.requires.outside (c.requires.stands told) c.put.ensures.after
