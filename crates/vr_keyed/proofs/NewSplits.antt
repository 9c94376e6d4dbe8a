-- Which split begins where a stage is due and none is under way: of the area, or of an interval.
use Rattle.std.proofs.Common.{◌≡◌, ◌⊎◌, ⊎_elim, ℕ, List, false, Option, Some, None, sym}
use Rattle.std.proofs.Common.{◌∙◌, subst, true≢false}
use Rattle.std.specs.Prelude.{IfSome, IsSome, MatchOption}
use Rattle.vr_types.specs.Image.{Block, Image, block_at}
use Rattle.vr_types.specs.declared.unit.StageKind.{StageKind}
use Rattle.vr_space.specs.Areas.{KeyedChain, area_of, head_in}
use Rattle.vr_space.specs.Keyed.{Keyed}
use Rattle.vr_space.specs.Split.{can_grow, free_interval}
use Rattle.vr_keyed.specs.Begin.{AreFew, HasNoBeginning, IsBeginning, IsWhole}
use Rattle.vr_keyed.specs.declared.begin.Beginning.{Beginning}
use Rattle.vr_keyed.specs.declared.begin.Beginning.TheVariants.{Area, Interval}
use Rattle.vr_keyed.proofs.Changing.{IsNew}

-- what was found under the head for a record at a place
abbrev pub IsFound : Keyed → Block → List ℕ → ℕ → Option Beginning → Type 0
IsFound part top place free begins =
    MatchOption begins (HasNoBeginning part top free) (IsBeginning part top place free)

-- one of an area is so where none of its intervals is free,
pub whole-found : (part : Keyed) (top : Block) (place : List ℕ) (free : ℕ)
    (begins : Option Beginning) (entries stay : ℕ) → begins ≡ Some (Area entries stay)
    → IsFound part top place free begins → IsWhole part top place free entries stay
whole-found part top place free begins entries stay is found =
    subst (λ (it : Option Beginning). IsFound part top place free it) is found

-- and its head has as many entries as the split of an area takes, with an area free.
pub few-found : (part : Keyed) (free : ℕ) (begins : Option Beginning) (entries stay : ℕ)
    → begins ≡ Some (Area entries stay) → IfSome begins (AreFew part free)
    → AreFew part free (Area entries stay)
few-found part free begins entries stay is few =
    subst (λ (it : Option Beginning). IfSome it (AreFew part free)) is few

-- Where none of an area begins though a stage is due, an interval is free.
pub free-found : (part : Keyed) (top : Block) (place : List ℕ) (free : ℕ)
    (begins : Option Beginning)
    → (begins ≡ Some Interval) ⊎ (begins ≡ None) → IsFound part top place free begins
    → (due : StageKind) → IsNew (free_interval part top) (can_grow free top) due
    → IsSome (free_interval part top)
free-found part top place free begins either found due new = ⊎_elim
    (λ some. subst (λ (it : Option Beginning). IsFound part top place free it) some found)
    (λ none.
    let stays : HasNoBeginning part top free =
    subst (λ (it : Option Beginning). IsFound part top place free it) none found in
    grows (free_interval part top) stays.stays new)
    either
  where
    grows : (one : Option ℕ) → can_grow free top ≡ false → IsNew one (can_grow free top) due
        → IsSome one
    grows None stays is = absurd (true≢false (sym is.1 ∙ stays))
    grows (Some n) stays is = cc

-- ---- the same of an area of a part, by the layout that was read

-- One of an area is so where none of its intervals is free.
pub whole-at : (part : KeyedChain) (area : ℕ) (layout : Keyed) → layout ≡ area_of part area
    → (image : Image) (place : List ℕ) (free : ℕ) (begins : Option Beginning) (entries stay : ℕ)
    → begins ≡ Some (Area entries stay)
    → IsFound layout (block_at image layout.head) place free begins
    → IsWhole (area_of part area) (head_in part image area) place free entries stay
whole-at part area layout is image place free begins entries stay some found =
    subst (λ (it : Keyed). IsWhole it (block_at image it.head) place free entries stay) is
    (whole-found layout (block_at image layout.head) place free begins entries stay some found)

-- Where none of an area begins though a stage is due, an interval of it is free.
pub free-at : (part : KeyedChain) (area : ℕ) (layout : Keyed) → layout ≡ area_of part area
    → (image : Image) (place : List ℕ) (count free : ℕ) → count ≡ free
    → (begins : Option Beginning) → (begins ≡ Some Interval) ⊎ (begins ≡ None)
    → IsFound layout (block_at image layout.head) place count begins
    → (due : StageKind)
    → IsNew (free_interval (area_of part area) (head_in part image area))
    (can_grow free (head_in part image area)) due
    → IsSome (free_interval (area_of part area) (head_in part image area))
free-at part area layout is image place count free same begins either found due new =
    free-found (area_of part area) (head_in part image area) place free begins either
    (subst (λ (many : ℕ). IsFound (area_of part area) (head_in part image area) place many begins)
    same
    (subst (λ (one : Keyed). IsFound one (block_at image one.head) place count begins) is found))
    due new
