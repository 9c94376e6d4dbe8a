use Rattle.std.proofs.Common.{◌<◌, ℕ}
use Rattle.vr_ci.specs.Interval as ci
use Rattle.vr_ci_match.specs.declared.form.Form.TheVariants.{Slots}
use Rattle.vr_chained.proofs.rules.is_of_slots.Given as goal

abbrev pub invariant-loop-most : goal.invariant-loop-most
invariant-loop-most l = (most : ℕ) (value : ci.Interval) → most < l.most
    → ci.IsInterval (Slots most) l.block value → ⊥
