use Rattle.std.proofs.Common.{◌≡◌, ◌<◌, length, refl, ap, sym, ◌∙◌, set, arith, rules}
use Rattle.std.proofs.lemmas.List.{length-map, map-set}
use Rattle.vr_device.specs.Past.{Past, disk_of}
use Rattle.vr_device.specs.Kept.{past_of}
use Rattle.vr_device.proofs.Keeping.{seen-count, seen-size, kept-write}
use Rattle.vr_device.proofs.past.Past.write.Goals as goal

pub index_mut-requires : goal.index_mut-requires
index_mut-requires c =
    omega (
      arith,
      c.requires.block,
      seen-count c.self.inside c.self.invariant,
      ap (λ (p : Past). length p.start) c.self.view_is,
      length-map c.self.inside.start.items (λ block. block.items),
    )

pub copy_from_slice-requires : goal.copy_from_slice-requires
copy_from_slice-requires c =
    let below : c.args.n < length c.self.inside.start.items =
    omega (
      arith,
      c.requires.block,
      ap (λ (p : Past). length p.start) c.self.view_is,
      length-map c.self.inside.start.items (λ block. block.items),
    ) in
    c.index_mut.result.now.ok.0 ∙ seen-size c.self.inside c.self.invariant c.args.n
    c.index_mut.result.now below (sym c.index_mut.ensures.value)
    ∙ ap (λ (p : Past). p.size) c.self.view_is ∙ sym c.requires.whole

pub invariant_of-self-2 : goal.invariant_of-self-2
invariant_of-self-2 c =
    let below : c.args.n < length c.self.inside.start.items =
    omega (
      arith,
      c.requires.block,
      ap (λ (p : Past). length p.start) c.self.view_is,
      length-map c.self.inside.start.items (λ block. block.items),
    ) in
    let same : c.in_ok-bytes.bytes.items ≡ c.args.from.now = search rules in
    let size : length c.in_ok-bytes.bytes.items ≡ c.self.inside.size =
    ap length same ∙ c.requires.whole ∙ ap (λ (p : Past). p.size) (sym c.self.view_is) in
    let seen = map-set (λ v. v.items) c.self.inside.seen.items c.args.n c.copy_from_slice.new.self
    ∙ ap (λ bs. set bs c.args.n c.copy_from_slice.new.self.items) c.self.invariant.seen
    ∙ ap (λ b. set (disk_of (past_of c.self.inside)).seen c.args.n b)
    (c.copy_from_slice.ensures.items ∙ sym same) in
    kept-write c.self.inside c.self.invariant _ c.push.new.self _ c.in_ok-push.ensures.items
    (below, size) seen (c.args.n, c.in_ok-bytes.bytes.items) (λ d. refl) (λ d. refl) refl
