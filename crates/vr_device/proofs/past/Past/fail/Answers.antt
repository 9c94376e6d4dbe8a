use Rattle.std.proofs.Common.{◌≡◌, ◌<◌, length, refl, ap, sym, ◌∙◌, arith, rules}
use Rattle.std.proofs.lemmas.List.{length-map}
use Rattle.vr_device.specs.Past.{Past}
use Rattle.vr_device.proofs.Keeping.{kept-write}
use Rattle.vr_device.proofs.past.Past.fail.Goals as goal

pub invariant_of-self-2 : goal.invariant_of-self-2
invariant_of-self-2 c =
    let below : c.args.n < length c.self.inside.start.items =
    omega (
      arith,
      c.requires.block,
      ap (λ (p : Past). length p.start) c.self.view_is,
      length-map c.self.inside.start.items (λ block. block.items),
    ) in
    let same : c.in_ok-bytes.bytes.items ≡ c.args.from.now = search rules in
    let size : length c.in_ok-bytes.bytes.items ≡ c.self.inside.size =
    ap length same ∙ c.requires.whole ∙ ap (λ (p : Past). p.size) (sym c.self.view_is) in
    kept-write c.self.inside c.self.invariant c.self.inside.seen c.push.new.self _
    c.in_ok-push.ensures.items (below, size) c.self.invariant.seen
    (c.args.n, c.in_ok-bytes.bytes.items) (λ d. refl) (λ d. refl) refl
