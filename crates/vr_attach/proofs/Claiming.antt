-- Parts on the blocks of a volume, and owners of them once a part got the least free area.
use Rattle.std.proofs.Common.{◌≡◌, ◌≢◌, ◌⊎◌, ⊎_elim, inl, inr, ℕ, ◌+◌, ◌-◌, ◌/◌, ◌<◌, ◌≤◌, Bool}
use Rattle.std.proofs.Common.{true, false, cond, List, get_or, set, Option, Some, None, refl, sym}
use Rattle.std.proofs.Common.{ap, subst, ◌∙◌, arith, length}
use Rattle.std.specs.Prelude.{is_none, nat_le}
use Rattle.std.specs.Option.{option_map}
use Rattle.std.proofs.lemmas.Bool.{true≢false}
use Rattle.std.proofs.lemmas.Bool.Decides.{eqb_tells}
use Rattle.std.proofs.lemmas.List.{get_or-set_other, get_or-set_same, length_push}
use Rattle.std.proofs.lemmas.List.Quantifiers.{position-Some}
use Rattle.vr_types.specs.Geometry.{head_block}
use Rattle.vr_types.specs.Seen.{Seen}
use Rattle.vr_types.specs.Space.{free_count, least_free}
use Rattle.vr_types.specs.declared.geometry.Geometry.{Geometry}
use Rattle.vr_types.specs.declared.unit.PartNo.{PartNo}
use Rattle.vr_space.specs.Part.{InClaimed, IsClaimed, IsOn, KeepsChain, KeyedShape, MayGrow}
use Rattle.vr_space.specs.Part.{NumberedShape, Shape, part_no}
use Rattle.vr_attach.specs.Laid.{IsInside}
use Rattle.vr_attach.specs.Owning.{claimed_at, claimed_by, owner_of}
use Rattle.vr_attach.proofs.Owning.{area-owned, area-owner}
use Rattle.vr_attach.proofs.Taking.{free-fewer}

-- ---- parts on the blocks of a volume

-- A part is on the blocks of a device of the volume's shape.
pub inside-on : (geometry : Geometry) (shape : Shape) (now : Seen) → now.count ≡ geometry.blocks
    → now.size ≡ geometry.size → IsInside geometry shape → IsOn shape now
inside-on geometry (KeyedShape part) now count size inside = record {
  part_is = inside.0;
  blocks = omega (arith, count, ap (λ (g : Geometry). g.blocks) inside.1);
  size = size ∙ sym (ap (λ (g : Geometry). g.size) inside.1);
}
inside-on geometry (NumberedShape part) now count size inside = record {
  part_is = inside.0;
  blocks = omega (arith, count, ap (λ (g : Geometry). g.blocks) inside.1);
  size = size ∙ sym (ap (λ (g : Geometry). g.size) inside.1);
}

-- the blocks of an area that a stage of it may claim are those of this area of the volume
claimed-inside : (geometry : Geometry) (shape : Shape) → IsInside geometry shape → (area n : ℕ)
    → InClaimed shape area n
    → (head_block geometry area ≤ n) × (n ≤ head_block geometry area + geometry.area)
claimed-inside geometry (KeyedShape part) inside area n claims =
    subst (λ (g : Geometry). (head_block g area ≤ n) × (n ≤ head_block g area + g.area)) inside.1
    claims
claimed-inside geometry (NumberedShape part) inside area n claims =
    subst (λ (g : Geometry). (head_block g area ≤ n) × (n ≤ head_block g area + g.area)) inside.1
    (claims.from, claims.to)

-- ---- the least free area

none-is : (owner : Option PartNo) → is_none owner ≡ true → owner ≡ None
none-is None is = refl
none-is (Some part) is = absurd (true≢false (sym is))

-- it is one of the areas, and has no owner
least-there : (areas : List (Option PartNo)) (area : ℕ) → least_free areas ≡ Some area
    → (area < Rattle.std.proofs.Common.length areas) × (get_or areas area None ≡ None)
least-there areas area least =
    let at = position-Some is_none areas area None least in
    (at.0, none-is (get_or areas area None) at.1)

-- what the owner of the area at a place among them makes of a block of it
abbrev owner_by : Bool → Option PartNo → Option ℕ
owner_by before owner = cond before None (option_map (λ (part : PartNo). part.0) owner)

nobody : (before : Bool) → owner_by before None ≡ None
nobody true = refl
nobody false = refl

-- each part has the blocks that it had
claimed-leaves : (geometry : Geometry) (part : PartNo) (areas : List (Option PartNo)) (area : ℕ)
    → get_or areas area None ≡ None → (n other : ℕ) → owner_of geometry areas n ≡ Some other
    → owner_of geometry (set areas area (Some part)) n ≡ Some other
claimed-leaves geometry part areas area free n other is = elim (eqb_tells at area) [
  | inl same ↦ absurd (some-none (sym is
      ∙ ap (λ (a : ℕ). owner_by before (get_or areas a None)) same.1
      ∙ ap (owner_by before) free ∙ nobody before))
  | inr differ ↦
      ap (owner_by before) (get_or-set_other areas area at (Some part) None differ.1) ∙ is
]
  where
    at : ℕ
    at = (n - 1 - geometry.log) / (geometry.area + 1)

    before : Bool
    before = nat_le n geometry.log

    some-none : Some other ≡ None → ⊥
    some-none same = cc

-- ---- owners once a part got it

-- Once a part of the volume got the least free area, it has the blocks of that, which were
-- nobody's, and each part has those that it had.
pub claimed-grows : (geometry : Geometry) (shape : Shape) (areas : List (Option PartNo))
    → IsInside geometry shape → MayGrow shape areas (owner_of geometry areas)
    (owner_of geometry (claimed_by (part_no shape) areas))
claimed-grows geometry shape areas inside = record {
  kept = λ n other is. leaves (least_free areas) refl n other is;
  free = λ area least n claims.
      let in-area = claimed-inside geometry shape inside area n claims in
      area-owner geometry areas area n in-area.0 in-area.1
      ∙ ap (option_map (λ (part : PartNo). part.0)) (least-there areas area least).1;
  claimed = λ area least n claims.
      let in-area = claimed-inside geometry shape inside area n claims in
      ap (λ (found : Option ℕ). owner_of geometry (claimed_at (part_no shape) areas found) n) least
      ∙ area-owned geometry (set areas area (Some (part_no shape))) area (part_no shape)
      (get_or-set_same areas area (Some (part_no shape)) None (least-there areas area least).0) n
      in-area.0 in-area.1;
}
  where
    leaves : (found : Option ℕ) → least_free areas ≡ found → (n other : ℕ)
        → owner_of geometry areas n ≡ Some other
        → owner_of geometry (claimed_at (part_no shape) areas found) n ≡ Some other
    leaves None least n other is = is
    leaves (Some area) least n other is = claimed-leaves geometry (part_no shape) areas area
        (least-there areas area least).1 n other is

-- So the areas after a stage are those before it, or these.
pub claimed-owners : (part : PartNo) (old new : List (Option PartNo))
    → (new ≡ old) ⊎ IsClaimed part old new → (new ≡ old) ⊎ (new ≡ claimed_by part old)
claimed-owners part old new after = ⊎_elim (λ same. inl same)
    (λ claimed. inr (claimed.2 ∙ sym (ap (claimed_at part old) claimed.1))) after

-- ---- how many areas are free

-- An area that is claimed is no longer free.
pub claimed-fewer : (part : PartNo) (old new : List (Option PartNo)) → IsClaimed part old new
    → free_count new + 1 ≡ free_count old
claimed-fewer part old new claimed =
    let there = least-there old claimed.0 claimed.1 in
    subst (λ (owners : List (Option PartNo)). free_count owners + 1 ≡ free_count old)
    (sym claimed.2) (free-fewer old claimed.0 part there.0 there.1)

-- The areas that a part holds and the free ones are as many together as before, and none becomes
-- free.
pub record HoldsAll (areas after : List ℕ) (free now : ℕ) : Type 0 where
  pub all : length after + now ≡ length areas + free
  pub least : now ≤ free

pub holds-all : (shape : Shape) (areas after : List ℕ) (old new : List (Option PartNo))
    → KeepsChain shape areas after old new
    → HoldsAll areas after (free_count old) (free_count new)
holds-all shape areas after old new (inl same) =
    let free : free_count new ≡ free_count old = ap free_count same.1 in
    record { all = omega (arith, same.0.many, free); least = omega (arith, free) }
holds-all shape areas after old new (inr more) =
    let free : free_count new + 1 ≡ free_count old =
    claimed-fewer (part_no shape) old new (more.area, more.least, more.owned) in
    record {
      all = omega (
        arith,
        ap (λ (one : List ℕ). length one) more.more,
        length_push areas more.area,
        free,
      );
      least = omega (arith, free);
    }
