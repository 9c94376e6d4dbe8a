-- The areas of a part as it is attached.
use Rattle.std.proofs.Common.{◌≡◌, ◌≢◌, ◌⊎◌, inl, inr, ⊎_elim, ℕ, List, Option, None}
use Rattle.std.proofs.Common.{ap, slice_index_or, sym, subst}
use Rattle.std.proofs.lemmas.Bool.Decides.{eqb_tells}
use Rattle.vr_types.specs.declared.unit.PartNo.{PartNo}
use Rattle.vr_space.specs.Known.{held_with}
use Rattle.vr_space.specs.Split.{MoveNow}

-- With no split of an area under way a keyed part holds the areas of its chain alone.
pub held-alone : (areas : List ℕ) (move : Option MoveNow) → move ≡ None
    → held_with areas move ≡ areas
held-alone areas move none = ap (held_with areas) none

-- an area that was free but for the first one
pub free-or-first : (owners : List (Option PartNo)) (owner : Option PartNo) (area : ℕ)
    → slice_index_or owners area None ≡ owner → (at : ℕ)
    → (at ≢ area → slice_index_or owners at None ≡ None)
    → (slice_index_or owners at None ≡ None) ⊎ (slice_index_or owners at None ≡ owner)
free-or-first owners owner area first at free = ⊎_elim
    (λ same. inr (subst (λ (n : ℕ). slice_index_or owners n None ≡ owner) (sym same.1) first))
    (λ differ. inl (free differ.1)) (eqb_tells at area)
