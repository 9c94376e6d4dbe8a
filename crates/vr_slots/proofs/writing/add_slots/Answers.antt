use Rattle.std.proofs.Common.{◌≡◌, [], ◌∷◌, arith, rules, refl, sym, ◌∙◌}
use Rattle.vr_ci.specs.Interval as ci
use Rattle.vr_space.specs.Part.{given}
use Rattle.vr_slots.proofs.ReadingSlots.{drop-none}
use Rattle.vr_slots.proofs.WritingSlots.{making-ends, making-more, making-starts, next-item}
use Rattle.vr_slots.proofs.WritingSlots.{next-room, next-whole}
use Rattle.vr_slots.proofs.writing.add_slots.Goals as goal

pub unreachable-requires : goal.unreachable-requires
unreachable-requires c =
    let gone : c.loop-at.slots ≡ [] = search rules in
    omega (
      arith,
      drop-none c.args.view.now.items c.loop-at.at
          (sym c.loop-at.invariant.making.left_is ∙ gone),
      c.requires.items.count,
      c.slots-at-end.ensures.count,
    )

pub loop-at-init : goal.loop-at-init
loop-at-init c = record {
  form = refl;
  size = refl;
  buffer = refl;
  making = making-starts c.args.layout.now c.args.slot (given c.args.bytes)
      c.args.view.now.items c.requires.items c.iter-slots.result c.args.writer.now
      c.iter-slots.ensures c.requires.empty;
}

pub add_made-requires-clause-form : goal.add_made-requires-clause-form
add_made-requires-clause-form c = c.loop-at.invariant.form ∙ c.requires.form

pub add_made-requires-clause-length : goal.add_made-requires-clause-length
add_made-requires-clause-length c =
    let item : ci.Item = record { bytes = c.in-Some.item.now; live = c.in-Some.live } in
    let cut : c.loop-at.slots ≡ item ∷ c.next.new.self = search rules in
    next-whole c.args.layout.now c.args.slot (given c.args.bytes) c.args.view.now.items
    c.requires.items c.loop-at.slots c.next.new.self c.loop-at.at c.loop-at.writer item cut
    c.loop-at.invariant.making

pub add_made-requires-clause-room : goal.add_made-requires-clause-room
add_made-requires-clause-room c =
    let item : ci.Item = record { bytes = c.in-Some.item.now; live = c.in-Some.live } in
    let cut : c.loop-at.slots ≡ item ∷ c.next.new.self = search rules in
    next-room c.args.layout.now c.args.slot (given c.args.bytes) c.args.view.now.items
    c.requires.items c.loop-at.slots c.next.new.self c.loop-at.at c.loop-at.writer item cut
    c.loop-at.invariant.making (c.loop-at.invariant.size ∙ c.requires.size)

pub returns-clause-added : goal.returns-clause-added
returns-clause-added c =
    making-ends c.args.layout.now c.args.slot (given c.args.bytes) c.args.view.now.items
    c.requires.items c.loop-at.slots c.loop-at.at c.loop-at.writer
    (omega (arith, c.slots-at-end.ensures.count)) c.loop-at.invariant.making

pub loop-at-preserved : goal.loop-at-preserved
loop-at-preserved c =
    let item : ci.Item = record { bytes = c.in-Some.item.now; live = c.in-Some.live } in
    let cut : c.loop-at.slots ≡ item ∷ c.next.new.self = search rules in
    let making = c.loop-at.invariant.making in
    record {
      form = c.add_made.ensures.form ∙ c.loop-at.invariant.form;
      size = c.add_made.ensures.size ∙ c.loop-at.invariant.size;
      buffer = c.add_made.ensures.buffer ∙ c.loop-at.invariant.buffer;
      making = making-more c.args.layout.now c.args.slot (given c.args.bytes)
          c.args.view.now.items c.requires.items c.loop-at.slots c.next.new.self c.loop-at.at
          c.loop-at.writer item cut making c.add_made.new.writer c.requires.given
          (c.add_made.ensures.added _ item making.holds refl refl
          (next-item c.args.layout.now c.args.slot (given c.args.bytes) c.args.view.now.items
          c.requires.items c.loop-at.slots c.next.new.self c.loop-at.at c.loop-at.writer item cut
          making));
    }
