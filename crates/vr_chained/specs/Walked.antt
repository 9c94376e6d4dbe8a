-- A walk over the areas of a chain, from the first one on: what it found so far, which areas are
-- marked as the part's, and how it ends. The rules are this project's own.
use Rattle.std.specs.Prelude.{◌≡◌, ◌⊎◌, ℕ, ◌+◌, ◌*◌, ◌<◌, ◌≤◌, suc, Bool, true, false, List, []}
use Rattle.std.specs.Prelude.{◌∷◌, ◌++◌, length, Option, IfSome}
use Rattle.vr_types.specs.Geometry.{area_count}
use Rattle.vr_types.specs.Image.{Block, Image, block_at}
use Rattle.vr_types.specs.Space.{free_count}
use Rattle.vr_types.specs.declared.unit.PartNo.{PartNo}
use Rattle.vr_seqset.specs.Reading.{roster_in}
use Rattle.vr_space.specs.Part.{NumberedShape, part_no}
use Rattle.vr_space.specs.Rosters.{Chains, IsChained, IsOf, Numbered, areas_from, chain_of}
use Rattle.vr_space.specs.Rosters.{used_from}
use Rattle.vr_space.specs.Rosters.{interval_in, used_of}
use Rattle.vr_space.specs.Numbered.{IsFilled}
use Rattle.vr_attach.specs.Chain.{IsBadRoster, IsBadFilled, IsChainShown, IsWalkedTo, LeadsOn}
use Rattle.vr_attach.specs.Chain.{FilledBreaks}
use Rattle.vr_attach.specs.Damage.{IsLeastBroken}
use Rattle.vr_attach.specs.Marked.{AreMarked}
use Rattle.vr_attach.specs.declared.part_no.PartNo2.{PartNo2}
use Rattle.vr_attach.specs.declared.part_no.PartNo2.TheVariants.{Damaged, Fault, Memory}
use Rattle.vr_attach.specs.declared.rule.Rule.{Rule}
use Rattle.vr_chained.specs.Chain.{ChainNow, IsChainOf}

-- ---- one area

-- A roster that breaks no rule: it is the part's, and leads on only where its area is used whole,
-- to an area of the volume.
pub record IsGoodRoster (part : Numbered) (top : Block) : Type 0 where
  pub leads : LeadsOn part top
  pub number : (roster_in top).part ≡ part.part
  pub there : IfSome (roster_in top).next (λ (next : ℕ). next < area_count part.geometry)

-- what is read of it
pub record IsReadOf (part : Numbered) (top : Block) (used : ℕ) (next : Option ℕ) : Type 0 where
  pub good : IsGoodRoster part top
  pub used_is : used ≡ (roster_in top).used
  pub next_is : next ≡ (roster_in top).next

-- Block n is one of the first intervals of the area, so many of them, and breaks the rule; those
-- before it break none.
pub record IsBadUnder (part : Numbered) (image : Image) (area used n : ℕ) (rule : Rule) : Type 0
  where
    pub interval : ℕ
    pub under : interval < used
    pub before : (other : ℕ) → other < interval
        → IsFilled part (block_at image (interval_in part area other))
    pub block : n ≡ interval_in part area interval
    pub rule_is : IsLeastBroken (FilledBreaks part (block_at image n)) rule

-- the area breaks the rule at block n
abbrev pub IsAreaBad : Numbered → Image → ℕ → ℕ → Rule → Type 0
IsAreaBad part image area n rule =
    IsBadRoster part image area n rule ⊎ IsBadFilled part image area n rule

-- what is shown of a chain
abbrev pub IsChainNo : Numbered → (ℕ → Type 0) → Image → PartNo2 → Type 0
IsChainNo part Taken image (Damaged block number) = IsChainShown part Taken image block number
IsChainNo part Taken image (Fault fault) = Unit {0}
IsChainNo part Taken image Memory = Unit {0}

-- ---- the areas that are marked

-- the areas of a chain, from the first one on, are marked as its part's
abbrev pub AreChainMarked : Numbered → List ℕ → List (Option PartNo) → List (Option PartNo) → Type 0
AreChainMarked part areas old new =
    AreMarked (part_no (NumberedShape part)) part.first areas old new

-- The chain has room for each area that is free; and the intervals of its last area aren't counted
-- yet.
pub record IsOpen (chain : ChainNow) (taken : List (Option PartNo)) : Type 0 where
  pub count : length taken ≡ area_count chain.part.geometry
  pub room : length chain.areas + free_count taken ≤ area_count chain.part.geometry
  pub used : chain.used + chain.part.geometry.area ≤ length chain.areas * chain.part.geometry.area

-- ---- the walk

-- an area of the volume
abbrev pub IsThere : Numbered → ℕ → Type 0
IsThere part area = area < area_count part.geometry

-- The walk came to the last area of the chain: those before it are the first of the chain of the
-- image, and break no rule; and so the image has a chain, where it goes on from this one.
pub record IsWalkedAt (Taken : ℕ → Type 0) (image : Image) (chain : ChainNow) : Type 0 where
  pub before : List ℕ
  pub area : ℕ
  pub left : ℕ
  pub listed : chain.areas ≡ before ++ area ∷ []
  pub many : length before + suc left ≡ area_count chain.part.geometry
  pub areas : chain_of chain.part image ≡ before ++ areas_from chain.part image (suc left) area
  pub used : used_of chain.part image ≡ chain.used + used_from chain.part image (suc left) area
  pub walked : IsWalkedTo chain.part Taken image (length before)
  pub there : IsThere chain.part area
  pub goes : Chains chain.part (IsThere chain.part) (IsFilled chain.part) (IsOf image) (suc left)
      area
      → IsChained chain.part (IsThere chain.part) (IsFilled chain.part) (IsOf image)

-- The walk came to the end of the chain.
pub record IsWalkedOver (image : Image) (chain : ChainNow) : Type 0 where
  pub of : IsChainOf chain image
  pub chained : IsChained chain.part (IsThere chain.part) (IsFilled chain.part) (IsOf image)

-- whether there is an area more
abbrev pub IsWalkedBy : Bool → (ℕ → Type 0) → Image → ChainNow → Type 0
IsWalkedBy true Taken image chain = IsWalkedAt Taken image chain
IsWalkedBy false Taken image chain = IsWalkedOver image chain
