use Rattle.std.proofs.Common.{◌≡◌, ◌<◌, ◌∙◌, arith, length, sym}
use Rattle.std.proofs.lemmas.List.Elements.{All-get_or, All-set}
use Rattle.vr_keyed.specs.Slots.{HasBytes, IsSlotOf}
use Rattle.vr_keyed.proofs.Refreshing.{refreshed-more}
use Rattle.vr_keyed.proofs.set.refresh_each.Goals as goal

pub loop-slot-preserved : goal.loop-slot-preserved
loop-slot-preserved c =
    let now = c.loop-slot.slots in
    let i = c.loop-slot.slot-index in
    let any = c.slot-item.result in
    let slot = c.refresh_slot.new.slot in
    let so_far = c.loop-slot.invariant in
    let long : length c.args.slots.now ≡ length now = omega arith in
    let there : i < length now = omega arith in
    record {
      slots = λ part all. All-set (IsSlotOf part) now i slot
          (c.refresh_slot.ensures.slot part
          (All-get_or (IsSlotOf part) now i any there (so_far.slots part all)))
          (so_far.slots part all);
      bytes = All-set (HasBytes (length c.args.bytes.now)) now i slot
          (c.refresh_slot.ensures.size
          ∙ All-get_or (HasBytes (length c.args.bytes.now)) now i any there so_far.bytes)
          so_far.bytes;
      met = refreshed-more c.args.number c.args.bytes.now c.args.slots.now now i any slot there long
          c.refresh_slot.ensures.met so_far.met;
    }
