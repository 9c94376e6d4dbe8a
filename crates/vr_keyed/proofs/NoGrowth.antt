-- Where no split of an area begins.
use Rattle.std.proofs.Common.{◌≡◌, ◌<◌, ◌&&◌, ◌⊎◌, inl, inr, ℕ, false, length, nat_le, ap}
use Rattle.std.proofs.lemmas.Bool.{and_right, lt-leb}
use Rattle.vr_types.specs.Image.{Block}
use Rattle.vr_space.specs.Keyed.{entries_of}
use Rattle.vr_space.specs.Split.{can_grow}

-- no area is free, or the head hasn't two entries
pub stays : (free : ℕ) (top : Block) → (free ≡ 0) ⊎ (length (entries_of top) < 2)
    → can_grow free top ≡ false
stays free top (inl none) = ap (λ (n : ℕ). nat_le 1 n && nat_le 2 (length (entries_of top))) none
stays free top (inr few) =
    and_right (nat_le 1 free) (nat_le 2 (length (entries_of top)))
    (lt-leb 2 (length (entries_of top)) few)
