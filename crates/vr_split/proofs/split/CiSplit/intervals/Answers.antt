use Rattle.std.proofs.Common.{◌≡◌, ℕ, List, Option, Some, None, refl, subst}
use Rattle.std.specs.Prelude.{IfSome}
use Rattle.vr_types.specs.declared.unit.StageKind.{StageKind}
use Rattle.vr_split.specs.Splits.{Splits, split_by}
use Rattle.vr_split.proofs.split.CiSplit.intervals.Goals as goal

intervals-of : (next : Option StageKind) (old into : ℕ) (cut : List ℕ)
    → IfSome (split_by next old into cut) (λ split. (old ≡ split.old) × (into ≡ split.into))
intervals-of None old into cut = tt
intervals-of (Some stage) old into cut = (refl, refl)

pub returns : goal.returns
returns c =
    let inside = c.self.inside in
    subst (λ (splits : Splits). IfSome splits.split
    (λ split. (inside.from ≡ split.old) × (inside.into ≡ split.into))) c.self.view_is
    (intervals-of inside.next inside.from inside.into inside.cut.place)
