-- The blocks of the intervals of a chain, by their numbers over all of its areas.
use Rattle.std.proofs.Common.{◌≡◌, ⊎_elim, ◌<◌, ◌≤◌, ◌+◌, ◌-◌, ◌*◌, ◌++◌, ◌/◌, ◌%◌, ℕ, zero, suc}
use Rattle.std.proofs.Common.{Bool, true, false, List, [], ◌∷◌, length, Option, Some, None, refl}
use Rattle.std.proofs.Common.{sym, ap, subst, ◌∙◌, arith}
use Rattle.std.specs.Prelude.{nat_lt, slice_index}
use Rattle.std.proofs.Math.Nat.{div-eq-sub-div, div-eq_of_lt, mod-eq-sub-mod, mod-eq_of_lt, suc-mul}
use Rattle.std.proofs.lemmas.Bool.{cases_lt, ltb-false, ltb-true}
use Rattle.vr_types.specs.Image.{Block, Image, block_at}
use Rattle.vr_space.specs.Rosters.{Chains, IsChainedBy, IsNextOf, IsOf, Numbered, after_next}
use Rattle.vr_space.specs.Rosters.{areas_from, interval_in, roster_at, roster_block, used_from}
use Rattle.vr_space.specs.Numbered.{chain_block}
use Rattle.vr_space.proofs.CallerLemmas.{chained-here}

-- ---- the block of a number

-- it is one of the first area,
block-first : (part : Numbered) (area n : ℕ) (rest : List ℕ) → n < part.geometry.area
    → chain_block part (area ∷ rest) n ≡ interval_in part area n
block-first part area n rest below =
    ap (λ (i : ℕ). interval_in part (slice_index (area ∷ rest) i) (n % part.geometry.area))
    (div-eq_of_lt below)
    ∙ ap (interval_in part area) (mod-eq_of_lt below)

-- or of a later one.
block-later : (part : Numbered) (area n : ℕ) (rest : List ℕ) → 0 < part.geometry.area
    → part.geometry.area ≤ n
    → chain_block part (area ∷ rest) n ≡ chain_block part rest (n - part.geometry.area)
block-later part area n rest some past =
    let further : ℕ = n - part.geometry.area in
    let quotient : n / part.geometry.area ≡ suc (further / part.geometry.area) =
    omega (arith, div-eq-sub-div some past) in
    ap (λ (i : ℕ). interval_in part (slice_index (area ∷ rest) i) (n % part.geometry.area)) quotient
    ∙ ap (interval_in part (slice_index rest (further / part.geometry.area)))
    (mod-eq-sub-mod past)

-- past the intervals of so many areas it is one of the next area
pub block-past : (part : Numbered) (last at n : ℕ) (rest before : List ℕ) → at < part.geometry.area
    → n ≡ length before * part.geometry.area + at
    → chain_block part (before ++ last ∷ rest) n ≡ interval_in part last at
block-past part last at n rest [] below is =
    let same : n ≡ at = omega (arith, is) in
    block-first part last n rest (omega (arith, same, below)) ∙ ap (interval_in part last) same
block-past part last at n rest (area ∷ before) below is =
    let whole : ℕ = part.geometry.area in
    let all = suc-mul (length before) whole in
    block-later part area n (before ++ last ∷ rest) (omega (arith, below))
    (omega (arith, is, all))
    ∙ block-past part last at (n - whole) rest before below (omega (arith, is, all))

-- and an interval of the first areas stays where it is, where more come after them
pub block-append : (part : Numbered) (more areas : List ℕ) (n : ℕ) → 0 < part.geometry.area
    → n < length areas * part.geometry.area
    → chain_block part (areas ++ more) n ≡ chain_block part areas n
block-append part more [] n some below = absurd (omega (arith, below))
block-append part more (area ∷ areas) n some below = ⊎_elim
    (λ less. block-first part area n (areas ++ more) less
    ∙ sym (block-first part area n areas less))
    (λ past. block-later part area n (areas ++ more) some past
    ∙ block-append part more areas (n - part.geometry.area) some
    (omega (arith, below, past, suc-mul (length areas) part.geometry.area))
    ∙ sym (block-later part area n areas some past))
    (cases_lt n part.geometry.area)

-- ---- used intervals

-- What is true of each interval that a roster of the chain counts is true of each that is used.
pub used-block : (part : Numbered) (Own : ℕ → Type 0) (Interval : Block → Type 0) (image : Image)
    (P : ℕ → Type 0) → 0 < part.geometry.area
    → ((area interval : ℕ) → Own area → interval < (roster_at part image area).used
    → interval < part.geometry.area → P (interval_in part area interval))
    → (k n area : ℕ) → Chains part Own Interval (IsOf image) k area
    → n < used_from part image k area → P (chain_block part (areas_from part image k area) n)
used-block part Own Interval image P some each zero n area chain below = absurd chain
used-block part Own Interval image P some each (suc k) n area chain below =
    by_used (nat_lt n used) refl (roster_at part image area).next here.next below
    (λ after. used-block part Own Interval image P some each k (n - part.geometry.area) after)
  where
    used : ℕ
    used = (roster_at part image area).used

    here : IsChainedBy part Interval (IsOf image) area (Chains part Own Interval (IsOf image) k)
        (block_at image (roster_block part area))
    here = chained-here part Own Interval image k area chain

    by_used : (within : Bool) → nat_lt n used ≡ within → (next : Option ℕ)
        → IsNextOf used part.geometry.area (Chains part Own Interval (IsOf image) k) next
        → n < used + after_next 0 (used_from part image k) next
        → ((after : ℕ) → Chains part Own Interval (IsOf image) k after
        → n - part.geometry.area < used_from part image k after
        → P (chain_block part (areas_from part image k after) (n - part.geometry.area)))
        → P (chain_block part (area ∷ after_next [] (areas_from part image k) next) n)
    by_used true is next rule inside more =
        let counted : n < used = ltb-true n used is in
        let whole : n < part.geometry.area =
        omega (arith, counted, here.roster.spelled.rules.used) in
        subst P
        (sym (block-first part area n (after_next [] (areas_from part image k) next) whole))
        (each area n chain.0 counted whole)
    by_used false is None rule inside more = absurd (omega (arith, ltb-false n used is, inside))
    by_used false is (Some after) rule inside more =
        let past : part.geometry.area ≤ n = omega (arith, ltb-false n used is, rule.0) in
        subst P (sym (block-later part area n (areas_from part image k after) some past))
        (more after rule.1 (omega (arith, past, inside, rule.0)))
