use Rattle.std.proofs.Common.{◌≡◌, length, take, ap, sym, subst, ◌∙◌, rules, arith}
use Rattle.vr_device.specs.Past.{after_all, fresh, IsWithin}
use Rattle.vr_device.specs.PastEvent.{blocks_of, event_of, events_of}
use Rattle.vr_device.proofs.Choosing.{seen-next, seen-wrote, seen-other, within-at}
use Rattle.vr_device.proofs.choice.replay.Goals.{in-Wrote+in_ok-blocks, in_default}
use Rattle.vr_device.proofs.choice.replay.Goals as goal

pub bounds-blocks-block : goal.bounds-blocks-block
bounds-blocks-block c =
    let this = within-at (length c.args.blocks.now) c.args.entries.now c.loop-entry.entry-index
    c.entry-item.result c.requires c.loop-entry-test.true c.entry-item.is in
    let here = subst (λ e. IsWithin (length c.args.blocks.now) (event_of e)) c.in-Wrote.is this in
    omega (arith, here, c.loop-entry.auto.blocks)

pub loop-entry-preserved : goal.loop-entry-preserved
loop-entry-preserved c =
    let next = seen-next c.args.entries.now c.loop-entry.entry-index c.entry-item.result
    (fresh (blocks_of c.args.blocks.now)) c.loop-entry-test.true c.entry-item.is in
    let so_far = after_all (events_of (take c.loop-entry.entry-index c.args.entries.now))
    (fresh (blocks_of c.args.blocks.now)) in
    elim c.match-entry.branch [
      | in-Wrote+in_ok-blocks w ↦
          let same : w.in_ok-blocks.field-0.items ≡ w.in-Wrote.bytes.items = search rules in
          ap blocks_of w.blocks-is ∙ seen-wrote c.loop-entry.blocks w.in-Wrote.block
          w.in_ok-blocks.field-0 w.in-Wrote.bytes c.entry-item.result so_far w.in-Wrote.is same
          c.loop-entry.invariant ∙ ap (λ d. d.seen) (sym next)
      | in_default w ↦ ap blocks_of w.blocks-is ∙ c.loop-entry.invariant
          ∙ sym (ap (λ d. d.seen) next ∙ seen-other c.entry-item.result so_far
          w.in_default.not-Wrote)
    ]
