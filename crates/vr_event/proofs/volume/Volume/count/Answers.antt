use Rattle.vr_event.proofs.CountedStates.{chain-is, counted-is}
use Rattle.vr_event.proofs.volume.Volume.count.Goals as goal

pub returns-in-Ok-clause-counted : goal.returns-in-Ok-clause-counted
returns-in-Ok-clause-counted g c told found is opening held =
    counted-is g.B.Blocks.seen opening c.args.self.now c.records_of.new.self c.args.entry.now
    c.in-Ok.records c.counts_with.result found c.requires.whole c.requires.going
    c.requires.entry c.requires.cluster c.counts_with.ensures c.records_of.ensures.file
    c.records_of.ensures.store (c.in-Ok.ensures.counted told opening) is held

pub returns-in-Ok-clause-chain : goal.returns-in-Ok-clause-chain
returns-in-Ok-clause-chain g c found is =
    chain-is c.args.self.now.store c.records_of.new.self.store c.records_of.new.self.file.entries
    c.args.entry.now c.in-Ok.records c.counts_with.result found c.counts_with.ensures
    c.records_of.ensures.store is
