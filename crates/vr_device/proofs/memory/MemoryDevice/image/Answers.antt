use Rattle.std.proofs.Common.{◌≡◌, ◌∙◌, length, All, ap, sym, subst, arith}
use Rattle.std.proofs.lemmas.List.{length-map}
use Rattle.vr_device.specs.Disk.{IsChosen}
use Rattle.vr_device.specs.PastEvent.{blocks_of}
use Rattle.vr_device.specs.Past.{disk_of}
use Rattle.vr_device.specs.Memory.{past_in}
use Rattle.vr_device.specs.declared.memory.Held.{Held}
use Rattle.vr_device.proofs.Images.{chosen-image, image-sizes}
use Rattle.vr_device.proofs.memory.MemoryDevice.image.Goals as goal

pub new-requires-clause-count : goal.new-requires-clause-count
new-requires-clause-count c =
    omega (
      arith,
      length-map c.in_ok-start.start.items (λ b. b.items),
      c.in_ok-start.ensures.length_is,
      ap (λ (held : Held). length held.past.start) c.deref-3.ensures,
      ap (λ (held : Held). length held.past.start) c.deref-2.ensures,
      c.size-size.ensures.count,
    )

pub new-requires-clause-sizes : goal.new-requires-clause-sizes
new-requires-clause-sizes c =
    let old = past_in c.args.self.now in
    let blocks = blocks_of c.in_ok-start.start.items in
    let chosen : IsChosen (length old.start) (disk_of old) c.args.choice.now blocks =
    subst (λ (held : Held). IsChosen (length held.past.start) (disk_of held.past)
    c.args.choice.now blocks) c.deref-3.ensures c.in_ok-start.ensures in
    subst (λ n. All (λ block. length block ≡ n) blocks)
    (sym (c.size-size.ensures.size ∙ ap (λ (held : Held). held.past.size) c.deref-2.ensures))
    (image-sizes (length old.start) old.size (disk_of old) blocks c.args.self.now.sized.whole
    (chosen-image (length old.start) (disk_of old) c.args.choice.now blocks chosen))
