use Rattle.std.proofs.Common.{ℕ, List, [], ◌∷◌, get_or, ap}
use Rattle.vr_types.specs.Fields.{four}
use Rattle.vr_log.proofs.writing.old_head.Goals as goal

pub returns : goal.returns
unfolding four
returns c = ap (λ (r : List ℕ). 1 ∷ get_or r 0 0 ∷ get_or r 1 0 ∷ get_or r 2 0 ∷ get_or r 3 0 ∷ [])
    c.to_be_bytes.ensures
