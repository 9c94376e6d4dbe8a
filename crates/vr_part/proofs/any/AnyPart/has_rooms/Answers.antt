use Rattle.std.proofs.Common.{◌↔◌, IfOk, IsTrue, sym, subst}
use Rattle.vr_space.specs.Part.{HasRoom, part_no}
use Rattle.vr_part.specs.Any.{shape_any}
use Rattle.vr_part.specs.declared.any.AnyPart.{AnyPart}
use Rattle.vr_part.proofs.any.AnyPart.has_rooms.Goals as goal

pub returns-in-Chained-clause-rooms : goal.returns-in-Chained-clause-rooms
returns-in-Chained-clause-rooms g c =
    subst (λ (part : AnyPart). IsTrue g.B.Blocks.tells → IfOk c.has_rooms-in-Chained.result
    (λ is. IsTrue is ↔ HasRoom (shape_any part)
    (g.K.Kept.kept c.args.kept.now (part_no (shape_any part)))
    (g.B.Blocks.seen c.args.blocks.now).cur))
    (sym c.in-Chained.is) c.has_rooms-in-Chained.ensures.rooms
