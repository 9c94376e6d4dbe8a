use Rattle.std.proofs.Common.{ℕ, List, ◌∷◌, arith, sym, ap, ◌∙◌, Some, None}
use Rattle.std.specs.Prelude.{Option}
use Rattle.std.specs.Global.{Vec}
use Rattle.atomic_table.specs.Table.{rest}
use Rattle.vr_frames.specs.Rule.{IsBuffer}
use Rattle.vr_frames.proofs.Steps.{brings_at}
use Rattle.vr_frames.proofs.shared.Pool.bring_out.Goals as goal

abbrev Slots : Type 0
Slots = List (ℕ × Option (Vec ℕ))

pub exchange-requires : goal.exchange-requires
exchange-requires c = let brings = c.requires.brings in (
  c.requires.of_pool,
  (
    Some brings.buffer,
    brings.slot
        ∙ ap (λ (others : Slots). (c.args.number, Some brings.buffer) ∷ others)
        (sym (ap (λ (slots : Slots). rest slots) brings.slot)),
  ),
)

pub load-requires : goal.load-requires
load-requires c = let brings = c.requires.brings in let swapped = c.exchange.ensures in (
  swapped.0 ∙ c.requires.of_pool,
  omega (arith, c.args.self.now.counts.0, c.args.self.now.counts.1, c.requires.inside),
  brings_at IsBuffer _ _ _ _ c.args.place.now.me.0 _
      (swapped.3 ∙ ap (λ (others : Slots). (c.args.place.now.me.0, (c.args.number, None) ∷ others))
      (ap (λ (slots : Slots). rest slots) brings.slot)) c.requires.inside c.requires.has_part
      brings.moving,
)
