use Rattle.vr_event.proofs.Recovering.{made-recovers}
use Rattle.vr_event.proofs.putting.make_kept.Goals as goal

pub returns-in-Ok-clause-made : goal.returns-in-Ok-clause-made
returns-in-Ok-clause-made g c = λ told volume was old after need ready made needs.
    c.in-Ok.ensures.made told volume was old after need ready made needs

pub returns-in-Ok-clause-moments : goal.returns-in-Ok-clause-moments
returns-in-Ok-clause-moments g c told volume was old ready =
    made-recovers volume c.args.store.now c.args.unit c.args.part c.args.place.now
    c.args.prepared.now was old (g.B.Blocks.seen c.args.blocks.now) ready
    (g.B.Blocks.seen c.make.new.blocks) (c.make.ensures.moments told volume was old ready)

pub returns-in-Err-Full-clause-moments : goal.returns-in-Err-Full-clause-moments
returns-in-Err-Full-clause-moments g c told volume was old ready =
    made-recovers volume c.args.store.now c.args.unit c.args.part c.args.place.now
    c.args.prepared.now was old (g.B.Blocks.seen c.args.blocks.now) ready
    (g.B.Blocks.seen c.make.new.blocks) (c.make.ensures.moments told volume was old ready)

pub returns-in-Err-Write-clause-moments : goal.returns-in-Err-Write-clause-moments
returns-in-Err-Write-clause-moments g c told volume was old ready =
    made-recovers volume c.args.store.now c.args.unit c.args.part c.args.place.now
    c.args.prepared.now was old (g.B.Blocks.seen c.args.blocks.now) ready
    (g.B.Blocks.seen c.make.new.blocks) (c.make.ensures.moments told volume was old ready)
