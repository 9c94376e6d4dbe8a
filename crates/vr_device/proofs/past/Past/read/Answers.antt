use Rattle.std.proofs.Common.{◌<◌, length, ap, sym, ◌∙◌, arith}
use Rattle.std.proofs.lemmas.List.{length-map}
use Rattle.vr_types.specs.Image.{block_at}
use Rattle.vr_device.specs.Past.{Past, disk_of}
use Rattle.vr_device.proofs.Keeping.{seen-count, seen-block, seen-size}
use Rattle.vr_device.proofs.past.Past.read.Goals as goal

pub index-requires : goal.index-requires
index-requires c =
    omega (
      arith,
      c.requires.block,
      seen-count c.self.inside c.self.invariant,
      ap (λ (p : Past). length p.start) c.self.view_is,
      length-map c.self.inside.start.items (λ block. block.items),
    )

pub copy_from_slice-requires : goal.copy_from_slice-requires
copy_from_slice-requires c =
    let below : c.args.n < length c.self.inside.start.items =
    omega (
      arith,
      c.requires.block,
      ap (λ (p : Past). length p.start) c.self.view_is,
      length-map c.self.inside.start.items (λ block. block.items),
    ) in
    c.requires.whole ∙ ap (λ (p : Past). p.size) (sym c.self.view_is)
    ∙ sym (seen-size c.self.inside c.self.invariant c.args.n c.index.result.now below
    (sym c.index.ensures)) ∙ ap length (sym c.deref.ensures.value)

pub returns : goal.returns
returns c =
    let below : c.args.n < length c.self.inside.start.items =
    omega (
      arith,
      c.requires.block,
      ap (λ (p : Past). length p.start) c.self.view_is,
      length-map c.self.inside.start.items (λ block. block.items),
    ) in
    c.copy_from_slice.ensures.after ∙ c.deref.ensures.value
    ∙ seen-block c.self.inside c.self.invariant c.args.n c.index.result.now below
    (sym c.index.ensures)
    ∙ ap (λ (p : Past). block_at (disk_of p).seen c.args.n) c.self.view_is
