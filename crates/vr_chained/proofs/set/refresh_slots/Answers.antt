use Rattle.std.proofs.Common.{◌∙◌, ◌<◌, length, arith}
use Rattle.std.proofs.lemmas.List.{length-set}
use Rattle.std.proofs.lemmas.List.Elements.{All-set}
use Rattle.vr_chained.specs.Met.{IsMetOf}
use Rattle.vr_chained.proofs.Refreshing.{refresh-more}
use Rattle.vr_chained.proofs.set.refresh_slots.Goals as goal

pub loop-met-preserved : goal.loop-met-preserved
loop-met-preserved c =
    let l = c.loop-met in
    let within : l.met-index < length l.slots = omega arith in
    record {
      met = refresh-more c.args.number c.args.bytes.now c.args.slots.now l.slots l.met-index
          c.refresh_block.new.met (omega (arith, l.invariant.count)) within l.invariant.met
          c.met-item.result
          c.refresh_block.ensures.met;
      room = All-set (IsMetOf (length c.args.bytes.now)) l.slots l.met-index c.refresh_block.new.met
          c.refresh_block.ensures.room l.invariant.room;
      count = length-set l.slots l.met-index c.refresh_block.new.met ∙ l.invariant.count;
    }
