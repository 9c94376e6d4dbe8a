use Rattle.std.proofs.Common.{arith, ap}
use Rattle.vr_space.specs.Entries.{bytes_in}
use Rattle.vr_entries.proofs.Walking.{room-taken}
use Rattle.vr_entries.proofs.reading.taken_by.Goals as goal

pub overflow_cast-bytes : goal.overflow_cast-bytes
overflow_cast-bytes c = omega (
  arith,
  room-taken c.args.view.now.items,
  c.loop-item.invariant,
  ap bytes_in c.in-Some.ensures.steps,
)

pub overflow_add-bytes : goal.overflow_add-bytes
overflow_add-bytes c = omega (
  arith,
  room-taken c.args.view.now.items,
  c.loop-item.invariant,
  ap bytes_in c.in-Some.ensures.steps,
)

pub overflow_cast-count : goal.overflow_cast-count
overflow_cast-count c = omega (arith, room-taken c.args.view.now.items)

pub overflow_mul-result : goal.overflow_mul-result
overflow_mul-result c = omega (arith, room-taken c.args.view.now.items)

pub overflow_add-result : goal.overflow_add-result
overflow_add-result c = omega (
  arith,
  room-taken c.args.view.now.items,
  c.loop-item.invariant,
  ap bytes_in c.in-None.ensures.steps.0,
)

pub returns-clause-room : goal.returns-clause-room
returns-clause-room c = omega (
  arith,
  room-taken c.args.view.now.items,
  c.loop-item.invariant,
  ap bytes_in c.in-None.ensures.steps.0,
)
