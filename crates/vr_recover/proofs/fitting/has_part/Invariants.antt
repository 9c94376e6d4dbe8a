use Rattle.std.proofs.Common.{◌≡◌, ◌<◌, ℕ, Some, map}
use Rattle.std.specs.Prelude.{slice_get}
use Rattle.vr_part.specs.Any.{shape_any}
use Rattle.vr_space.specs.Part.{Shape, part_no}
use Rattle.vr_recover.proofs.fitting.has_part.Given as goal

abbrev pub invariant-loop-part : goal.invariant-loop-part
invariant-loop-part l = (at : ℕ) → at < l.part-index → (shape : Shape)
    → slice_get (map shape_any l.parts) at ≡ Some shape → l.number.0 ≡ (part_no shape).0 → ⊥
