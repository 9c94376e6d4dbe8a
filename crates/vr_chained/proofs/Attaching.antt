-- What is read of an area, and where the walk of a part that is attached begins and ends.
use Rattle.std.proofs.Common.{◌≡◌, ⊎_elim, ◌<◌, ◌+◌, ◌∷◌, [], ℕ, List, Option, Some, None, get_or}
use Rattle.std.proofs.Common.{length, refl, sym, ap, subst, arith}
use Rattle.std.specs.Prelude.{MatchOption}
use Rattle.std.proofs.lemmas.Bool.{cases_lt}
use Rattle.vr_types.specs.Geometry.{area_count}
use Rattle.vr_types.specs.Image.{Image, block_at}
use Rattle.vr_types.specs.declared.unit.PartNo.{PartNo}
use Rattle.vr_space.specs.Part.{NumberedShape, Stands, owned_count, part_no}
use Rattle.vr_space.specs.Rosters.{IsChained, IsNumbered, IsOf, Numbered, interval_in}
use Rattle.vr_space.specs.Numbered.{IsFilled, items_from, start_of}
use Rattle.vr_attach.specs.Chain.{IsChainDamagedAt, FilledBreaks}
use Rattle.vr_attach.specs.Damage.{IsLeastBroken}
use Rattle.vr_attach.specs.Marked.{IsTakenIn}
use Rattle.vr_attach.specs.declared.damage.Damage.{Damage}
use Rattle.vr_attach.specs.declared.rule.Rule.{Rule}
use Rattle.vr_attach.proofs.CallerLemmas.{free-below, marks-first}
use Rattle.vr_chained.specs.Chain.{ChainNow}
use Rattle.vr_chained.specs.Walked.{AreChainMarked, IsBadUnder, IsOpen, IsThere, IsWalkedAt}
use Rattle.vr_chained.specs.Walked.{IsWalkedOver}
use Rattle.vr_chained.proofs.WalkedOn.{walk-first}

-- ---- the intervals of an area

-- which rule one of them breaks
abbrev pub RuleAt : Numbered → ℕ → Image → ℕ → Option Rule → Type 0
RuleAt part area image interval rule = MatchOption rule
    (IsFilled part (block_at image (interval_in part area interval)))
    (IsLeastBroken (FilledBreaks part (block_at image (interval_in part area interval))))

pub filled-more : (part : Numbered) (area : ℕ) (image : Image) (at : ℕ)
    → ((i : ℕ) → i < at → IsFilled part (block_at image (interval_in part area i)))
    → IsFilled part (block_at image (interval_in part area at)) → (i : ℕ) → i < at + 1
    → IsFilled part (block_at image (interval_in part area i))
filled-more part area image at before here i less = ⊎_elim (λ below. before i below)
    (λ most. subst (λ (n : ℕ). IsFilled part (block_at image (interval_in part area n)))
    (omega (arith, less, most)) here) (cases_lt i at)

-- the first of so many that breaks one
abbrev pub FirstBad : Numbered → ℕ → ℕ → Image → Option Damage → Type 0
FirstBad part area used image found = MatchOption found
    ((i : ℕ) → i < used → IsFilled part (block_at image (interval_in part area i)))
    (λ (damage : Damage). IsBadUnder part image area used damage.block damage.rule)

-- ---- where it begins, and ends

-- the first area alone
abbrev pub start : Numbered → ChainNow
start part = record { part = part; areas = part.first ∷ []; used = 0 }

module _ (part : Numbered) (taken : List (Option PartNo)) (chain : ChainNow)
    (is : chain ≡ start part)
    (first : get_or taken part.first None ≡ Some (part_no (NumberedShape part))) where
  pub start-ready : length taken ≡ area_count part.geometry → IsOpen chain taken
  start-ready count = subst (λ (c : ChainNow). IsOpen c taken) (sym is) (record {
    count = count;
    room = omega (
      arith,
      free-below taken part.first (part_no (NumberedShape part)) first,
      count,
    );
    used = omega arith;
  })

  pub start-marked : owned_count (part_no (NumberedShape part)) taken ≡ 1
      → AreChainMarked chain.part chain.areas taken taken
  start-marked alone = subst (λ (c : ChainNow). AreChainMarked c.part c.areas taken taken) (sym is)
      (marks-first (part_no (NumberedShape part)) part.first taken first alone)

  pub start-walk : (image : Image) → part.first < area_count part.geometry
      → IsWalkedAt (IsTakenIn taken) image chain
  start-walk image below = subst (IsWalkedAt (IsTakenIn taken) image) (sym is)
      (walk-first part (IsTakenIn taken) image below)

-- what the walk finds
abbrev pub IsFound : Numbered → (ℕ → Type 0) → Image → ChainNow → Option Damage → Type 0
IsFound part Taken image chain found = MatchOption found (IsWalkedOver image chain)
    (λ (damage : Damage). IsChainDamagedAt part Taken image damage.block damage.rule)

-- the blocks stand for a content
pub over-stands : (part : Numbered) (image : Image) (chain : ChainNow) → IsNumbered part
    → chain.part ≡ part → IsWalkedOver image chain → Stands (NumberedShape part) image
over-stands part image chain numbered same over = (
  items_from part image (area_count part.geometry) (start_of part) part.first,
  record {
    part_is = numbered;
    chain = subst (λ (p : Numbered). IsChained p (IsThere p) (IsFilled p) (IsOf image)) same
        over.chained;
    records = refl;
  },
)

-- ---- where it is attached

module _ (part : Numbered) (taken after : List (Option PartNo)) (chain new : ChainNow)
    (is : chain ≡ start part)
    (first : get_or taken part.first None ≡ Some (part_no (NumberedShape part)))
    (alone : owned_count (part_no (NumberedShape part)) taken ≡ 1) (found : Option Damage)
    (none : found ≡ None) where
  same-part : chain.part ≡ part
  same-part = ap (λ (c : ChainNow). c.part) is

  marks : AreChainMarked chain.part chain.areas taken taken
  marks = start-marked part taken chain is first alone

  pub attached-marks : (AreChainMarked chain.part chain.areas taken taken → found ≡ None
      → AreChainMarked chain.part new.areas taken after) → AreChainMarked part new.areas taken after
  attached-marks walked = subst (λ (p : Numbered). AreChainMarked p new.areas taken after) same-part
      (walked marks none)

  pub attached-over : (image : Image) → part.first < area_count part.geometry
      → (AreChainMarked chain.part chain.areas taken taken
      → IsWalkedAt (IsTakenIn taken) image chain
      → IsFound chain.part (IsTakenIn taken) image new found) → IsWalkedOver image new
  attached-over image below walked =
      subst (IsFound chain.part (IsTakenIn taken) image new) none
      (walked marks (start-walk part taken chain is first image below))
