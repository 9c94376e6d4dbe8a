use Rattle.vr_keyed.proofs.Freeing.{free-passes, free-here, intervals_of}
use Rattle.vr_keyed.proofs.room.free_in.Goals as goal

pub returns-then-not-is_used-clause-free : goal.returns-then-not-is_used-clause-free
returns-then-not-is_used-clause-free c single =
    free-here c.args.limit c.loop-n.n (intervals_of c.args.view.now.entries) c.loop-n-test.true
    (c.if-not-is_used.ensures single) (c.loop-n.invariant single)

pub loop-n-preserved : goal.loop-n-preserved
loop-n-preserved c single =
    free-passes c.args.limit c.loop-n.n (intervals_of c.args.view.now.entries) c.loop-n-test.true
    (c.if-not-is_used.ensures single) (c.loop-n.invariant single)
