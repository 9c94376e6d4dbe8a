use Rattle.std.proofs.Common.{arith, ◌∙◌}
use Rattle.vr_ci.specs.Interval as ci
use Rattle.vr_space.specs.Part.{given}
use Rattle.vr_entries.proofs.Making.{making-bytes, making-ends, making-last, making-more}
use Rattle.vr_entries.proofs.Making.{making-room}
use Rattle.vr_entries.proofs.Walking.{room-taken}
use Rattle.vr_entries.proofs.writing.add_entries.Goals as goal

pub add_left-requires-clause-room : goal.add_left-requires-clause-room
add_left-requires-clause-room c =
    let item : ci.Item = record { bytes = c.in-Some.item.now; live = c.in-Some.live } in
    making-room c.args.layout.now c.args.at (given c.args.bytes) c.args.view.now.items
    c.requires.items c.requires.given c.loop-item.item-iterator c.loop-item.from
    c.loop-item.writer (c.loop-item.invariant.size ∙ c.requires.size)
    c.loop-item.invariant.making c.next.new.self item c.in-Some.ensures.steps

pub overflow_cast-from : goal.overflow_cast-from
overflow_cast-from c =
    let item : ci.Item = record { bytes = c.in-Some.item.now; live = c.in-Some.live } in
    omega (
      arith,
      making-bytes c.args.layout.now c.args.at (given c.args.bytes) c.args.view.now.items
          c.requires.items c.requires.given c.loop-item.item-iterator c.loop-item.from
          c.loop-item.writer (c.loop-item.invariant.size ∙ c.requires.size)
          c.loop-item.invariant.making c.next.new.self item c.in-Some.ensures.steps,
      room-taken c.args.view.now.items,
      c.requires.items.room,
      c.requires.empty.size.most,
      c.requires.size,
    )

pub overflow_add-from : goal.overflow_add-from
overflow_add-from c =
    let item : ci.Item = record { bytes = c.in-Some.item.now; live = c.in-Some.live } in
    omega (
      arith,
      making-bytes c.args.layout.now c.args.at (given c.args.bytes) c.args.view.now.items
          c.requires.items c.requires.given c.loop-item.item-iterator c.loop-item.from
          c.loop-item.writer (c.loop-item.invariant.size ∙ c.requires.size)
          c.loop-item.invariant.making c.next.new.self item c.in-Some.ensures.steps,
      room-taken c.args.view.now.items,
      c.requires.items.room,
      c.requires.empty.size.most,
      c.requires.size,
    )

pub loop-item-preserved : goal.loop-item-preserved
loop-item-preserved c =
    let item : ci.Item = record { bytes = c.in-Some.item.now; live = c.in-Some.live } in
    record {
      form = c.add_left.ensures.form ∙ c.loop-item.invariant.form;
      size = c.add_left.ensures.size ∙ c.loop-item.invariant.size;
      buffer = c.add_left.ensures.buffer ∙ c.loop-item.invariant.buffer;
      making = making-more c.args.layout.now c.args.at (given c.args.bytes)
          c.args.view.now.items c.requires.items c.requires.given c.loop-item.item-iterator
          c.loop-item.from c.loop-item.writer (c.loop-item.invariant.size ∙ c.requires.size)
          c.loop-item.invariant.making c.next.new.self item c.in-Some.ensures.steps
          c.add_left.new.writer
          (c.add_left.ensures.added c.loop-item.invariant.making.made
          c.loop-item.invariant.making.holds);
    }

pub add_last-requires-clause-room : goal.add_last-requires-clause-room
add_last-requires-clause-room c =
    making-last c.args.layout.now c.args.at (given c.args.bytes) c.args.view.now.items
    c.requires.items c.requires.given c.loop-item.item-iterator c.loop-item.from
    c.loop-item.writer (c.loop-item.invariant.size ∙ c.requires.size)
    c.loop-item.invariant.making c.in-None.ensures.steps.0

pub returns-clause-added : goal.returns-clause-added
returns-clause-added c =
    making-ends c.args.layout.now c.args.at (given c.args.bytes) c.args.view.now.items
    c.requires.items c.requires.given c.loop-item.item-iterator c.loop-item.from
    c.loop-item.writer (c.loop-item.invariant.size ∙ c.requires.size)
    c.loop-item.invariant.making c.in-None.ensures.steps.0 c.add_last.new.writer
    (c.add_last.ensures.added c.loop-item.invariant.making.made
    c.loop-item.invariant.making.holds)
