use Rattle.std.proofs.Common.{length}
use Rattle.vr_ci.specs.Writer.{form_of}
use Rattle.vr_slots.proofs.WritingSlots.{item-length}
use Rattle.vr_slots.proofs.writing.add_slot.Goals as goal

pub add-requires : goal.add-requires
add-requires c =
    item-length (form_of c.args.writer.now) c.args.layout.now.most (length c.args.item.now)
    c.requires.form c.requires.room.some c.requires.length
