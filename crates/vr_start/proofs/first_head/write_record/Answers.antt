use Rattle.std.proofs.Common.{◌∙◌, ap, length}
use Rattle.vr_space.specs.Keyed.{Keyed}
use Rattle.vr_start.proofs.FirstHead.{added_keeps, begun_keeps}
use Rattle.vr_start.proofs.first_head.write_record.Goals as goal

pub begin-writer-requires : goal.begin-writer-requires
begin-writer-requires c =
    begun_keeps c.args.layout.now c.layout.inside.area (length c.args.out.now)
    c.layout.inside.part.0 c.args.lowest.now c.requires.part
    (ap (λ (part : Keyed). part.area) c.layout.view_is) c.requires.size
    (ap (λ (part : Keyed). part.part) c.layout.view_is) c.requires.lowest

pub add-requires : goal.add-requires
add-requires c =
    added_keeps c.args.layout.now c.begin-writer.result.cis
    (length c.begin-writer.result.block.now) c.layout.inside.part.0 _ c.args.lowest.now
    c.args.highest.now c.requires.part
    (c.begin-writer.ensures.intervals ∙ ap (λ (part : Keyed). part.area) c.layout.view_is)
    (c.begin-writer.ensures.size ∙ c.requires.size)
    (ap (λ (part : Keyed). part.part) c.layout.view_is) c.requires.lowest c.requires.highest
    c.begin-writer.ensures.written
