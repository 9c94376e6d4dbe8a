use Rattle.std.proofs.Common.{◌-◌, ◌+◌, arith}
use Rattle.vr_seqset.proofs.EntryLemmas.{IsLeft-next, IsLeft-broken, IsLeft-none}
use Rattle.vr_seqset.proofs.checks.after_entries.Goals as goal

pub returns-in_err-rest-clause-none : goal.returns-in_err-rest-clause-none
returns-in_err-rest-clause-none c =
    rw c.from_residual.ensures (IsLeft-broken c.args.count c.args.place c.args.bytes.now
    (c.args.count - c.loop.counter) c.loop.rest.now c.loop.invariant
    (omega arith) c.in_err-rest.ensures.none)

pub loop-preserved : goal.loop-preserved
loop-preserved c =
    IsLeft-next c.args.count c.args.place c.args.bytes.now (c.args.count - c.loop.counter)
    (c.args.count - (c.loop.counter + 1)) c.loop.rest.now c.in_ok-rest.rest.now
    c.loop.invariant (omega arith) c.in_ok-rest.ensures.rest c.in_ok-rest.ensures.whole

pub returns-clause-whole : goal.returns-clause-whole
returns-clause-whole c =
    (IsLeft-none c.args.count c.args.place c.args.bytes.now
    (c.args.count - c.loop.counter) c.loop.rest.now c.loop.invariant (omega arith)).0

pub returns-clause-rest : goal.returns-clause-rest
returns-clause-rest c =
    (IsLeft-none c.args.count c.args.place c.args.bytes.now
    (c.args.count - c.loop.counter) c.loop.rest.now c.loop.invariant (omega arith)).1
