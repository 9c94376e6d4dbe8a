use Rattle.std.proofs.Common.{arith, refl}
use Rattle.vr_ci.specs.Interval as ci
use Rattle.vr_space.specs.Keyed.{items_of}
use Rattle.vr_entries.proofs.Passing.{passing-ends, passing-finds, passing-more, walked-inside}
use Rattle.vr_entries.proofs.reading.next_record.Goals as goal

pub returns-then-is_found-clause-some : goal.returns-then-is_found-clause-some
returns-then-is_found-clause-some c = λ entries.
    let all = items_of c.args.block.now in
    let item : ci.Item = record { bytes = c.in-Some-2.bytes.now; live = c.in-Some-2.live } in
    passing-finds all c.loop-bytes.bytes-iterator c.next.new.self c.args.from c.loop-bytes.at item
    c.in-Some-2.ensures.steps c.loop-bytes.invariant c.args.layout.now c.args.block.now
    c.is_found.result c.is_found.ensures c.if-is_found.true refl
    (walked-inside all c.loop-bytes.bytes-iterator c.next.new.self c.loop-bytes.at item
    c.in-Some-2.ensures.steps c.loop-bytes.invariant.walked c.args.layout.now c.args.block.now
    refl entries).below

pub returns-then-is_found-clause-below : goal.returns-then-is_found-clause-below
returns-then-is_found-clause-below c =
    let item : ci.Item = record { bytes = c.in-Some-2.bytes.now; live = c.in-Some-2.live } in
    (walked-inside (items_of c.args.block.now) c.loop-bytes.bytes-iterator c.next.new.self
    c.loop-bytes.at item c.in-Some-2.ensures.steps c.loop-bytes.invariant.walked
    c.args.layout.now c.args.block.now refl c.in-Some.ensures.some).below

pub overflow_cast-at : goal.overflow_cast-at
overflow_cast-at c =
    let item : ci.Item = record { bytes = c.in-Some-2.bytes.now; live = c.in-Some-2.live } in
    let inside = walked-inside (items_of c.args.block.now) c.loop-bytes.bytes-iterator
    c.next.new.self c.loop-bytes.at item c.in-Some-2.ensures.steps
    c.loop-bytes.invariant.walked c.args.layout.now c.args.block.now refl
    c.in-Some.ensures.some in
    omega (arith, inside.within, inside.small)

pub overflow_add-at : goal.overflow_add-at
overflow_add-at c =
    let item : ci.Item = record { bytes = c.in-Some-2.bytes.now; live = c.in-Some-2.live } in
    let inside = walked-inside (items_of c.args.block.now) c.loop-bytes.bytes-iterator
    c.next.new.self c.loop-bytes.at item c.in-Some-2.ensures.steps
    c.loop-bytes.invariant.walked c.args.layout.now c.args.block.now refl
    c.in-Some.ensures.some in
    omega (arith, inside.within, inside.small)

pub loop-bytes-preserved : goal.loop-bytes-preserved
loop-bytes-preserved c =
    let item : ci.Item = record { bytes = c.in-Some-2.bytes.now; live = c.in-Some-2.live } in
    passing-more (items_of c.args.block.now) c.loop-bytes.bytes-iterator c.next.new.self
    c.args.from c.loop-bytes.at item c.in-Some-2.ensures.steps c.loop-bytes.invariant
    c.is_found.result c.is_found.ensures c.if-is_found.false

pub returns-clause-none : goal.returns-clause-none
returns-clause-none c = λ entries none other least.
    passing-ends (items_of c.args.block.now) c.args.from c.loop-bytes.bytes-iterator
    c.loop-bytes.at c.in-None.ensures.steps.0 c.loop-bytes.invariant other least
