-- Chains of rosters: what stays true of one where a crash may leave less of its blocks, where a way
-- over it leads, and which areas an image has of it.
use Rattle.std.proofs.Common.{◌≡◌, ℕ, zero, suc, ◌+◌, ◌-◌, ◌*◌, ◌/◌, ◌<◌, ◌≤◌, Bool, true, false}
use Rattle.std.proofs.Common.{List, [], ◌∷◌, Option, Some, None, refl, ap, ◌∙◌, arith, nat_lt}
use Rattle.std.proofs.Common.{if◌then◌else◌, ltb-true, slice_index, subst, sym, ⊎_elim}
use Rattle.std.proofs.Math.Nat.{div-eq-sub-div, div-eq_of_lt, div-mul-le_self, mul-le-mul_right}
use Rattle.std.proofs.lemmas.Bool.{cases_lt}
use Rattle.vr_types.specs.Geometry.{area_count}
use Rattle.vr_types.specs.Image.{Block, Image, block_at}
use Rattle.vr_seqset.specs.Reading.{roster_in}
use Rattle.vr_space.specs.Rosters.{Chains, IsChainedBy, IsInArea, IsNextOf, IsRosterOf, Numbered}
use Rattle.vr_space.specs.Rosters.{after_next, areas_from, chain_way, interval_in, roster_at}
use Rattle.vr_space.specs.Rosters.{roster_block, used_from}
use Rattle.vr_space.specs.Way.{Found, IsWithin, Way}

-- ---- blocks of an area

-- an area of the volume ends before the volume does
pub area-ends : (blocks log long area : ℕ) → area < (blocks - 1 - log) / (long + 1)
    → 1 + log + area * (long + 1) + long < blocks
area-ends blocks log long area below = omega (
  arith,
  below,
  div-mul-le_self (blocks - 1 - log) (long + 1),
  mul-le-mul_right {m = area + 1} {n = (blocks - 1 - log) / (long + 1)} (long + 1) (omega (
    arith,
    below,
  )),
)

-- its blocks are blocks of the volume
pub area-below : (part : Numbered) (area n : ℕ) → area < area_count part.geometry
    → IsInArea part area n → n < part.geometry.blocks
area-below part area n there inside = omega (
  arith,
  inside.to,
  area-ends part.geometry.blocks part.geometry.log part.geometry.area area there,
)

-- an area's roster is one of its blocks,
pub roster-inside : (part : Numbered) (area : ℕ) → IsInArea part area (roster_block part area)
roster-inside part area = record { from = omega arith; to = omega arith }

-- and so is each of its intervals
pub interval-inside : (part : Numbered) (area interval : ℕ) → interval < part.geometry.area
    → IsInArea part area (interval_in part area interval)
interval-inside part area interval below =
    record { from = omega arith; to = omega (arith, below) }

-- a roster says at most that all are used
pub used-most : (part : Numbered) (top : Block) → IsRosterOf part top
    → (roster_in top).used ≤ part.geometry.area
used-most part top roster = roster.spelled.rules.used

-- ---- what a crash may leave of a chain

next-more : (used whole : ℕ) (After Further : ℕ → Type 0)
    → ((area : ℕ) → After area → Further area) → (next : Option ℕ)
    → IsNextOf used whole After next → IsNextOf used whole Further next
next-more used whole After Further more None is = tt
next-more used whole After Further more (Some area) is = (is.0, more area is.1)

-- A chain over areas is one over what they are, too, where a crash may leave less of their blocks.
pub chain-less : (part : Numbered) (Own Wider : ℕ → Type 0) (Interval : Block → Type 0)
    (less more : ℕ → Block → Type 0) → ((area : ℕ) → Own area → Wider area)
    → ((area : ℕ) → Own area → (n : ℕ) → IsInArea part area n → (block : Block) → less n block
    → more n block)
    → (k area : ℕ) → Chains part Own Interval more k area → Chains part Wider Interval less k area
chain-less part Own Wider Interval less more wider each zero area chain = absurd chain
chain-less part Own Wider Interval less more wider each (suc k) area chain = (
  wider area chain.0,
  λ top may.
      let before : IsChainedBy part Interval more area (Chains part Own Interval more k) top =
      chain.1 top (each area chain.0 (roster_block part area) (roster-inside part area) top may) in
      record {
        roster = before.roster;
        intervals = λ interval below block there. before.intervals interval below block
            (each area chain.0 (interval_in part area interval)
            (interval-inside part area interval
            (omega (arith, below, used-most part top before.roster))) block there);
        next = next-more (roster_in top).used part.geometry.area (Chains part Own Interval more k)
            (Chains part Wider Interval less k)
            (λ further. chain-less part Own Wider Interval less more wider each k further)
            (roster_in top).next before.next;
      },
)

next-both : (used whole : ℕ) (One Other : ℕ → Type 0) (next : Option ℕ)
    → IsNextOf used whole One next → IsNextOf used whole Other next
    → IsNextOf used whole (λ area. One area × Other area) next
next-both used whole One Other None one other = tt
next-both used whole One Other (Some area) one other = (one.0, (one.1, other.1))

-- Two chains of the same rosters are over the same areas.
pub chain-both : (part : Numbered) (One Other : ℕ → Type 0) (Interval : Block → Type 0)
    (may : ℕ → Block → Type 0) → (k area : ℕ) → Chains part One Interval may k area
    → Chains part Other Interval may k area
    → Chains part (λ at. One at × Other at) Interval may k area
chain-both part One Other Interval may zero area one other = absurd one
chain-both part One Other Interval may (suc k) area one other = (
  (one.0, other.0),
  λ top may_be.
      let mine : IsChainedBy part Interval may area (Chains part One Interval may k) top =
      one.1 top may_be in
      record {
        roster = mine.roster;
        intervals = mine.intervals;
        next = next-more (roster_in top).used part.geometry.area
            (λ at. Chains part One Interval may k at × Chains part Other Interval may k at)
            (Chains part (λ at. One at × Other at) Interval may k)
            (λ further both. chain-both part One Other Interval may k further both.0 both.1)
            (roster_in top).next
            (next-both (roster_in top).used part.geometry.area (Chains part One Interval may k)
            (Chains part Other Interval may k) (roster_in top).next mine.next
            (other.1 top may_be).next);
      },
)

-- the area that a chain goes on from is one of its areas
pub chain-here : (part : Numbered) (Own : ℕ → Type 0) (Interval : Block → Type 0)
    (may : ℕ → Block → Type 0) (k area : ℕ) → Chains part Own Interval may k area → Own area
chain-here part Own Interval may zero area chain = absurd chain
chain-here part Own Interval may (suc k) area chain = chain.0

-- ---- the way over a chain

-- A chain leads a way over blocks of its areas.
pub chain-within : (part : Numbered) (Own : ℕ → Type 0) (Interval : Block → Type 0)
    (Region : ℕ → Type 0) (may : ℕ → Block → Type 0) (reached : ℕ → Way)
    → ((area : ℕ) → Own area → (n : ℕ) → IsInArea part area n → Region n)
    → ((m : ℕ) → Region m → IsWithin Region may (reached m))
    → (k n area : ℕ) → Chains part Own Interval may k area
    → IsWithin Region may (chain_way part reached k n area)
chain-within part Own Interval Region may reached inside on zero n area chain = tt
chain-within part Own Interval Region may reached inside on (suc k) n area chain = (
  inside area chain.0 (roster_block part area) (roster-inside part area),
  λ top may_be. by_test top (chain.1 top may_be)
      (λ further goes. chain-within part Own Interval Region may reached inside on k
      (n - part.geometry.area) further goes) (nat_lt n (roster_in top).used) refl,
)
  where
    after : ℕ → Way
    after = chain_way part reached k (n - part.geometry.area)

    by_next : (used whole : ℕ) (next : Option ℕ)
        → IsNextOf used whole (Chains part Own Interval may k) next
        → ((further : ℕ) → Chains part Own Interval may k further
        → IsWithin Region may (after further))
        → IsWithin Region may (after_next (Found None) after next)
    by_next used whole None is more = tt
    by_next used whole (Some further) is more = more further is.1

    by_test : (top : Block)
        → IsChainedBy part Interval may area (Chains part Own Interval may k) top
        → ((further : ℕ) → Chains part Own Interval may k further
        → IsWithin Region may (after further))
        → (test : Bool) → nat_lt n (roster_in top).used ≡ test
        → IsWithin Region may (if test then reached (interval_in part area n)
        else after_next (Found None) after (roster_in top).next)
    by_test top by more true below = on (interval_in part area n)
        (inside area chain.0 (interval_in part area n) (interval-inside part area n
        (omega (arith, ltb-true n (roster_in top).used below, used-most part top by.roster))))
    by_test top by more false past = by_next (roster_in top).used part.geometry.area
        (roster_in top).next by.next more

-- ---- the chain in an image

next-same : {X : Type 0} (none : X) (one other : ℕ → X) (used whole : ℕ) (After : ℕ → Type 0)
    → ((area : ℕ) → After area → other area ≡ one area) → (next : Option ℕ)
    → IsNextOf used whole After next → after_next none other next ≡ after_next none one next
next-same none one other used whole After same None is = refl
next-same none one other used whole After same (Some area) is = same area is.1

module _ (part : Numbered) (Own : ℕ → Type 0) (Interval : Block → Type 0)
    (may : ℕ → Block → Type 0) (one other : Image)
    (allowed : (area : ℕ) → Own area → may (roster_block part area)
    (block_at one (roster_block part area)))
    (same : (area : ℕ) → Own area → block_at other (roster_block part area)
    ≡ block_at one (roster_block part area)) where
  -- Images whose rosters are the same have the same areas in the chain,
  pub areas-same : (k area : ℕ) → Chains part Own Interval may k area
      → areas_from part other k area ≡ areas_from part one k area
  areas-same zero area chain = refl
  areas-same (suc k) area chain =
      ap (λ (top : Block). area
      ∷ after_next [] (areas_from part other k) (roster_in top).next) (same area chain.0)
      ∙ ap (λ (areas : List ℕ). area ∷ areas)
      (next-same [] (areas_from part one k) (areas_from part other k)
      (roster_at part one area).used part.geometry.area (Chains part Own Interval may k)
      (λ further. areas-same k further) (roster_at part one area).next
      (chain.1 (block_at one (roster_block part area)) (allowed area chain.0)).next)

  -- and as many used intervals.
  pub used-same : (k area : ℕ) → Chains part Own Interval may k area
      → used_from part other k area ≡ used_from part one k area
  used-same zero area chain = refl
  used-same (suc k) area chain =
      ap (λ (top : Block). (roster_in top).used
      + after_next 0 (used_from part other k) (roster_in top).next) (same area chain.0)
      ∙ ap (λ (used : ℕ). (roster_at part one area).used + used)
      (next-same 0 (used_from part one k) (used_from part other k)
      (roster_at part one area).used part.geometry.area (Chains part Own Interval may k)
      (λ further. used-same k further) (roster_at part one area).next
      (chain.1 (block_at one (roster_block part area)) (allowed area chain.0)).next)

  -- Of a used interval the area that is at its place in the chain is one of the chain's.
  pub area-nth : 0 < part.geometry.area → (k n area : ℕ) → Chains part Own Interval may k area
      → n < used_from part one k area
      → Own (slice_index (areas_from part one k area) (n / part.geometry.area))
  area-nth some zero n area chain below = absurd chain
  area-nth some (suc k) n area chain below = ⊎_elim
      (λ here. subst (λ (at : ℕ). Own (slice_index (areas_from part one (suc k) area) at))
      (sym (div-eq_of_lt here)) chain.0)
      (λ past.
      let index : suc ((n - part.geometry.area) / part.geometry.area) ≡ n / part.geometry.area =
      omega (arith, div-eq-sub-div some past) in
      subst (λ (at : ℕ). Own (slice_index (areas_from part one (suc k) area) at)) index
      (by_next past (roster_at part one area).next chained.next
      (used-most part (block_at one (roster_block part area)) chained.roster) below
      (λ further goes less. area-nth some k (n - part.geometry.area) further goes less)))
      (cases_lt n part.geometry.area)
    where
      chained : IsChainedBy part Interval may area (Chains part Own Interval may k)
          (block_at one (roster_block part area))
      chained = chain.1 (block_at one (roster_block part area)) (allowed area chain.0)

      by_next : part.geometry.area ≤ n → (next : Option ℕ)
          → IsNextOf (roster_at part one area).used part.geometry.area
          (Chains part Own Interval may k) next
          → (roster_at part one area).used ≤ part.geometry.area
          → n < (roster_at part one area).used + after_next 0 (used_from part one k) next
          → ((further : ℕ) → Chains part Own Interval may k further
          → n - part.geometry.area < used_from part one k further
          → Own (slice_index (areas_from part one k further)
          ((n - part.geometry.area) / part.geometry.area)))
          → Own (slice_index (after_next [] (areas_from part one k) next)
          ((n - part.geometry.area) / part.geometry.area))
      by_next past None is most less on = absurd (omega (arith, past, most, less))
      by_next past (Some further) is most less on =
          on further is.1 (omega (arith, past, is.0, less))
