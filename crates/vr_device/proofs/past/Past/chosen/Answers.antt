use Rattle.std.proofs.Common.{length, ap, sym, ◌∙◌, arith}
use Rattle.std.proofs.lemmas.List.{length-map}
use Rattle.vr_device.specs.PastEvent.{blocks_of}
use Rattle.vr_device.specs.Past.{Past}
use Rattle.vr_device.proofs.Selecting.{choices-long, picked-chosen}
use Rattle.vr_device.proofs.past.Past.chosen.Goals as goal

pub pick-requires-clause-count : goal.pick-requires-clause-count
pick-requires-clause-count c = c.requires.length_is ∙ sym c.in_ok-stable.ensures.count
    ∙ ap length (sym c.deref.ensures.value)

pub pick-requires-clause-count_fits : goal.pick-requires-clause-count_fits
pick-requires-clause-count_fits c = omega (
  arith,
  ap length c.deref.ensures.value,
  c.in_ok-stable.ensures.count,
  c.self.invariant.count,
  length-map c.self.inside.start.items (λ b. b.items),
  ap (λ (p : Past). length p.start) c.self.view_is,
)

pub pick-requires-clause-fits : goal.pick-requires-clause-fits
pick-requires-clause-fits c n below =
    let long = choices-long c.self.inside c.self.invariant c.args.self.now c.self.view_is
    c.deref-2.result.now c.deref-2.ensures.value n in
    omega (
      arith,
      long,
      c.requires.each n (omega
          (arith, below, ap length c.deref.ensures.value, c.in_ok-stable.ensures.count)),
    )

pub returns : goal.returns
returns c =
    picked-chosen c.self.inside c.self.invariant c.args.self.now c.self.view_is
    c.deref-2.result.now c.deref-2.ensures.value (blocks_of c.deref.result.now)
    (blocks_of c.in_ok-pick.field-0.items) c.args.choice.now
    (ap blocks_of c.deref.ensures.value ∙ c.in_ok-stable.ensures.stable)
    (length-map c.deref.result.now (λ b. b.items) ∙ ap length c.deref.ensures.value
    ∙ c.in_ok-stable.ensures.count)
    c.in_ok-pick.ensures
