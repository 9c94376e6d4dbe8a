use Rattle.std.proofs.Common.{ap, ◌∙◌}
use Rattle.vr_space.specs.Rosters.{Numbered}
use Rattle.vr_slots.proofs.ReadingSlots.{items-read, no-slots, read-slots, slots-read}
use Rattle.vr_slots.proofs.reading.interval_of.Goals as goal

pub returns-in_default-clause-none : goal.returns-in_default-clause-none
returns-in_default-clause-none c = λ none slots.
    no-slots c.args.layout.now c.layout.inside.most c.args.block.now
    (ap (λ (p : Numbered). p.most) c.layout.view_is) c.in_default.ensures.only slots

pub returns-then-not-is_of_records-clause-none : goal.returns-then-not-is_of_records-clause-none
returns-then-not-is_of_records-clause-none c = λ none slots.
    c.is_of_records.ensures.none c.if-not-is_of_records.true
    (read-slots c.args.layout.now c.layout.inside.most c.args.block.now c.in-Ok.view
    (ap (λ (p : Numbered). p.most) c.layout.view_is) c.in-Ok.ensures.ok slots)

pub returns-clause-items : goal.returns-clause-items
returns-clause-items c =
    items-read c.args.layout.now c.layout.inside.most c.args.block.now c.in-Ok.view
    (ap (λ (p : Numbered). p.most) c.layout.view_is) c.in-Ok.ensures.ok
    (c.is_of_records.ensures.some c.if-not-is_of_records.false)

pub returns-clause-some : goal.returns-clause-some
returns-clause-some c =
    slots-read c.args.layout.now c.layout.inside.most c.args.block.now c.in-Ok.view
    (ap (λ (p : Numbered). p.most) c.layout.view_is) c.in-Ok.ensures.ok
    (c.is_of_records.ensures.some c.if-not-is_of_records.false)
    (c.if-block-layout.false
    ∙ ap (λ (p : Numbered). p.geometry.size) c.layout.view_is)
