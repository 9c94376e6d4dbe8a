-- Heads that keep their ends.
use Rattle.std.proofs.Common.{◌≡◌, ℕ, Bool, List, Some, None, ap, refl, ◌∙◌}
use Rattle.std.specs.Prelude.{cond}
use Rattle.vr_types.specs.Image.{Block}
use Rattle.vr_types.specs.Seen.{Seen}
use Rattle.vr_seqset.specs.Reading.{record_in}
use Rattle.vr_space.specs.Keyed.{HasEnds, KeepsEnds, Keyed, low_of}

-- each keeps the ends that it has
pub same-ends : (top : Block) → HasEnds top top
same-ends top = record { first = refl; low = refl; next = refl; last = refl }

-- Those that might be left keep theirs where no head comes to them,
pub ends-less : (part : Keyed) (old new : Seen)
    → ((top : Block) → new.may part.head top → old.may part.head top) → KeepsEnds part old new
ends-less part old new less = λ top may. (top, less top may, same-ends top)

-- The ends of a head are those of one that has them,
pub ends-after : (first then last : Block) → HasEnds first then → HasEnds then last
    → HasEnds first last
ends-after first then last one other = record {
  first = other.first ∙ one.first;
  low = other.low ∙ one.low;
  next = other.next ∙ one.next;
  last = other.last ∙ one.last;
}

-- so those that might be left keep theirs through calls one after another.
pub ends-then : (part : Keyed) (a b c : Seen) → KeepsEnds part a b → KeepsEnds part b c
    → KeepsEnds part a c
ends-then part a b c first second = λ top may.
    let there = second top may in
    let from = first there.0 there.1 in
    (from.0, from.1, ends-after from.0 there.0 top from.2 there.2)

-- its ranges begin where those of the other do
pub ends-low : (old new : Block) → HasEnds old new → low_of new ≡ low_of old
ends-low old new ends =
    ap (λ (b : Bool). cond b None (Some (record_in new).low)) ends.first
    ∙ ap (λ (low : List ℕ). cond (record_in old).first None (Some low)) ends.low
