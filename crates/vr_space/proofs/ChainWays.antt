-- Ways over a chain of rosters in an image: which interval they reach, and where they end.
use Rattle.std.proofs.Common.{◌≡◌, ◌⊎◌, inl, inr, ◌+◌, ◌-◌, ◌*◌, ◌/◌, ◌%◌, ◌<◌, ◌≤◌, ℕ, zero, suc}
use Rattle.std.proofs.Common.{Bool, true, false, List, [], ◌∷◌, length, Option, Some, None, refl}
use Rattle.std.proofs.Common.{sym, ap, subst, ◌∙◌, arith}
use Rattle.std.specs.Prelude.{◌≢◌, All, cond, nat_lt, slice_index}
use Rattle.std.proofs.Math.Nat.{div-eq-sub-div, div-eq_of_lt, mod-eq-sub-mod, mod-eq_of_lt}
use Rattle.std.proofs.lemmas.List.Elements.{All-cons, All-nil}
use Rattle.std.proofs.lemmas.Bool.{cases_lt, ltb-true, ltb-false}
use Rattle.vr_types.specs.Geometry.{area_count}
use Rattle.vr_types.specs.Content.{Item}
use Rattle.vr_types.specs.Image.{Block, Image, block_at}
use Rattle.vr_space.specs.Rosters.{Chains, IsChained, IsChainedBy, IsNextOf, IsNumbered, IsOf}
use Rattle.vr_space.specs.Rosters.{Numbered}
use Rattle.vr_space.specs.Rosters.{after_next, areas_from, chain_of, chain_way, interval_in}
use Rattle.vr_space.specs.Rosters.{interval_way, roster_at, roster_block, used_from, used_of}
use Rattle.vr_space.specs.Known.{Known}
use Rattle.vr_space.specs.Numbered.{HasChain}
use Rattle.vr_space.specs.Way.{Found, Way, found_on}

-- what holds of nothing and of all that intervals lead to holds of what a chain leads to
pub chain-has : (part : Numbered) (image : Image) (reached : ℕ → Way) (P : Option Item → Type 0)
    → P None → ((n : ℕ) → P (found_on image (reached n))) → (k n area : ℕ)
    → P (found_on image (chain_way part reached k n area))
chain-has part image reached P none each zero n area = none
chain-has part image reached P none each (suc k) n area =
    by_used (nat_lt n (roster_at part image area).used) (roster_at part image area).next
    (λ after. chain-has part image reached P none each k (n - part.geometry.area) after)
  where
    by_used : (below : Bool) (next : Option ℕ)
        → ((after : ℕ)
        → P (found_on image (chain_way part reached k (n - part.geometry.area) after)))
        → P (found_on image (cond below (reached (interval_in part area n))
        (after_next (Found None) (chain_way part reached k (n - part.geometry.area)) next)))
    by_used true next more = each (interval_in part area n)
    by_used false None more = none
    by_used false (Some after) more = more after

-- the rules of the roster that an image has of an area of the chain
pub chained-here : (part : Numbered) (Own : ℕ → Type 0) (Interval : Block → Type 0) (image : Image)
    (k area : ℕ) → Chains part Own Interval (IsOf image) (suc k) area
    → IsChainedBy part Interval (IsOf image) area (Chains part Own Interval (IsOf image) k)
    (block_at image (roster_block part area))
chained-here part Own Interval image k area chain =
    chain.1 (block_at image (roster_block part area)) refl

-- ---- past the end

-- where the used intervals end, nothing is found
ends-from : (part : Numbered) (Own : ℕ → Type 0) (Interval : Block → Type 0) (image : Image)
    (reached : ℕ → Way) (k n area : ℕ) → Chains part Own Interval (IsOf image) k area
    → used_from part image k area ≤ n → found_on image (chain_way part reached k n area) ≡ None
ends-from part Own Interval image reached zero n area chain past = absurd chain
ends-from part Own Interval image reached (suc k) n area chain past =
    by_used (nat_lt n used) refl (roster_at part image area).next
    (chained-here part Own Interval image k area chain).next past
    (λ after. ends-from part Own Interval image reached k (n - part.geometry.area) after)
  where
    used : ℕ
    used = (roster_at part image area).used

    by_used : (below : Bool) → nat_lt n used ≡ below → (next : Option ℕ)
        → IsNextOf used part.geometry.area (Chains part Own Interval (IsOf image) k) next
        → used + after_next 0 (used_from part image k) next ≤ n
        → ((after : ℕ) → Chains part Own Interval (IsOf image) k after
        → used_from part image k after ≤ n - part.geometry.area
        → found_on image (chain_way part reached k (n - part.geometry.area) after) ≡ None)
        → found_on image (cond below (reached (interval_in part area n))
        (after_next (Found None) (chain_way part reached k (n - part.geometry.area)) next)) ≡ None
    by_used true is next chained past more = absurd (omega (arith, ltb-true n used is, past))
    by_used false is None chained past more = refl
    by_used false is (Some after) (whole, chained) past more =
        more after chained (omega (arith, whole, past))

-- ---- within it

-- what is found comes from the interval of that number in the area that has it, where each area but
-- the last has its whole number of intervals
pub record Reaches (part : Numbered) (image : Image) (reached : ℕ → Way) (areas : List ℕ) (n : ℕ)
    (found : Option Item) : Type 0 where
  pub there : n / part.geometry.area < length areas
  pub item : found ≡ found_on image
      (reached (interval_in part (slice_index areas (n / part.geometry.area))
      (n % part.geometry.area)))

reaches-from : (part : Numbered) (Own : ℕ → Type 0) (Interval : Block → Type 0) (image : Image)
    (reached : ℕ → Way) → 0 < part.geometry.area → (k n area : ℕ)
    → Chains part Own Interval (IsOf image) k area → n < used_from part image k area
    → Reaches part image reached (areas_from part image k area) n
    (found_on image (chain_way part reached k n area))
reaches-from part Own Interval image reached some zero n area chain within = absurd chain
reaches-from part Own Interval image reached some (suc k) n area chain within =
    by_used (nat_lt n used) refl (roster_at part image area).next
    (chained-here part Own Interval image k area chain).next within
    (λ after. reaches-from part Own Interval image reached some k (n - whole) after)
  where
    used : ℕ
    used = (roster_at part image area).used

    whole : ℕ
    whole = part.geometry.area

    most : used ≤ whole
    most = (chained-here part Own Interval image k area chain).roster.spelled.rules.used

    first : (rest : List ℕ) → n < whole
        → Reaches part image reached (area ∷ rest) n
        (found_on image (reached (interval_in part area n)))
    first rest less =
        let quotient : n / whole ≡ 0 = div-eq_of_lt less in
        record {
          there = omega (arith, quotient);
          item =
              ap (λ (m : ℕ). found_on image (reached (interval_in part area m)))
              (sym (mod-eq_of_lt less))
              ∙ ap (λ (i : ℕ). found_on image
              (reached (interval_in part (slice_index (area ∷ rest) i) (n % whole))))
              (sym quotient);
        }

    later : (rest : List ℕ) (found : Option Item) → whole ≤ n
        → Reaches part image reached rest (n - whole) found
        → Reaches part image reached (area ∷ rest) n found
    later rest found least reaches =
        let quotient : n / whole ≡ suc ((n - whole) / whole) =
        omega (arith, div-eq-sub-div some least) in
        let remainder : n % whole ≡ (n - whole) % whole = mod-eq-sub-mod least in
        record {
          there = omega (arith, quotient, reaches.there);
          item =
              reaches.item
              ∙ ap (λ (m : ℕ). found_on image
              (reached (interval_in part (slice_index rest ((n - whole) / whole)) m)))
              (sym remainder)
              ∙ ap (λ (i : ℕ). found_on image
              (reached (interval_in part (slice_index (area ∷ rest) i) (n % whole))))
              (sym quotient);
        }

    by_used : (below : Bool) → nat_lt n used ≡ below → (next : Option ℕ)
        → IsNextOf used whole (Chains part Own Interval (IsOf image) k) next
        → n < used + after_next 0 (used_from part image k) next
        → ((after : ℕ) → Chains part Own Interval (IsOf image) k after
        → n - whole < used_from part image k after
        → Reaches part image reached (areas_from part image k after) (n - whole)
        (found_on image (chain_way part reached k (n - whole) after)))
        → Reaches part image reached (area ∷ after_next [] (areas_from part image k) next) n
        (found_on image (cond below (reached (interval_in part area n))
        (after_next (Found None) (chain_way part reached k (n - whole)) next)))
    by_used true is next chained inside more =
        first (after_next [] (areas_from part image k) next)
        (omega (arith, ltb-true n used is, most))
    by_used false is None chained inside more =
        absurd (omega (arith, ltb-false n used is, inside))
    by_used false is (Some after) (all, chained) inside more =
        let least : whole ≤ n = omega (arith, ltb-false n used is, all) in
        later (areas_from part image k after)
        (found_on image (chain_way part reached k (n - whole) after)) least
        (more after chained (omega (arith, inside, all, least)))

-- ---- its areas

-- each of them is one that the chain may go on in
owns-from : (part : Numbered) (Own : ℕ → Type 0) (Interval : Block → Type 0) (image : Image)
    (k area : ℕ) → Chains part Own Interval (IsOf image) k area
    → All Own (areas_from part image k area)
owns-from part Own Interval image zero area chain = absurd chain
owns-from part Own Interval image (suc k) area chain =
    All-cons Own area (after_next [] (areas_from part image k) (roster_at part image area).next)
    chain.0
    (by_next (roster_at part image area).next
    (chained-here part Own Interval image k area chain).next
    (λ after. owns-from part Own Interval image k after))
  where
    by_next : (next : Option ℕ)
        → IsNextOf (roster_at part image area).used part.geometry.area
        (Chains part Own Interval (IsOf image) k) next
        → ((after : ℕ) → Chains part Own Interval (IsOf image) k after
        → All Own (areas_from part image k after))
        → All Own (after_next [] (areas_from part image k) next)
    by_next None rule more = All-nil Own
    by_next (Some after) rule more = more after rule.1

-- and there are no more than it may have
pub count-from : (part : Numbered) (image : Image) (k area : ℕ)
    → length (areas_from part image k area) ≤ k
count-from part image zero area = omega arith
count-from part image (suc k) area =
    by_next (roster_at part image area).next (λ after. count-from part image k after)
  where
    by_next : (next : Option ℕ)
        → ((after : ℕ) → length (areas_from part image k after) ≤ k)
        → length (area ∷ after_next [] (areas_from part image k) next) ≤ suc k
    by_next None more = omega arith
    by_next (Some after) more = omega (arith, more after)

-- The areas but the last are used whole, and the last at most so.
pub record UsedBetween (part : Numbered) (areas : List ℕ) (used : ℕ) : Type 0 where
  pub least : length areas * part.geometry.area ≤ used + part.geometry.area
  pub most : used ≤ length areas * part.geometry.area

used-between : (part : Numbered) (Own : ℕ → Type 0) (Interval : Block → Type 0) (image : Image)
    (k area : ℕ) → Chains part Own Interval (IsOf image) k area
    → UsedBetween part (areas_from part image k area) (used_from part image k area)
used-between part Own Interval image zero area chain = absurd chain
used-between part Own Interval image (suc k) area chain =
    by_next (roster_at part image area).next here.next
    (λ after. used-between part Own Interval image k after)
  where
    here : IsChainedBy part Interval (IsOf image) area (Chains part Own Interval (IsOf image) k)
        (block_at image (roster_block part area))
    here = chained-here part Own Interval image k area chain

    used : ℕ
    used = (roster_at part image area).used

    whole : ℕ
    whole = part.geometry.area

    by_next : (next : Option ℕ)
        → IsNextOf used whole (Chains part Own Interval (IsOf image) k) next
        → ((after : ℕ) → Chains part Own Interval (IsOf image) k after
        → UsedBetween part (areas_from part image k after) (used_from part image k after))
        → UsedBetween part (area ∷ after_next [] (areas_from part image k) next)
        (used + after_next 0 (used_from part image k) next)
    by_next None rule more = record {
      least = omega arith;
      most = omega (arith, here.roster.spelled.rules.used);
    }
    by_next (Some after) (all, rule) more =
        let further = more after rule in
        record {
          least = omega (arith, all, further.least);
          most = omega (arith, all, further.most);
        }

-- ---- as the areas are kept in memory

-- an interval that is used is reached in its area
pub chain-reaches : (part : Numbered) (Own : ℕ → Type 0) (Interval : Block → Type 0)
    (image : Image) (known : Known) (reached : ℕ → Way) (n : ℕ) → IsNumbered part
    → IsChained part Own Interval (IsOf image) → HasChain part known image → n < known.used
    → Reaches part image reached known.areas n (found_on image (interval_way part reached n))
chain-reaches part Own Interval image known reached n is chain knows within =
    subst (λ (areas : List ℕ). Reaches part image reached areas n
    (found_on image (interval_way part reached n))) (sym knows.areas)
    (reaches-from part Own Interval image reached (omega (arith, is.allowed.some_intervals))
    (area_count part.geometry) n part.first chain (omega (arith, within, knows.used)))

-- and past those that are used nothing is found
pub chain-ends : (part : Numbered) (Own : ℕ → Type 0) (Interval : Block → Type 0)
    (image : Image) (known : Known) (reached : ℕ → Way) (n : ℕ)
    → IsChained part Own Interval (IsOf image) → HasChain part known image → known.used ≤ n
    → found_on image (interval_way part reached n) ≡ None
chain-ends part Own Interval image known reached n chain knows past =
    ends-from part Own Interval image reached (area_count part.geometry) n part.first chain
    (omega (arith, past, knows.used))

-- where anything is found, the interval is one that is used
pub found-used : (part : Numbered) (Own : ℕ → Type 0) (Interval : Block → Type 0)
    (image : Image) (reached : ℕ → Way) (n : ℕ) → IsChained part Own Interval (IsOf image)
    → found_on image (interval_way part reached n) ≢ None → n < used_of part image
found-used part Own Interval image reached n chain some =
    by_order (cases_lt n (used_of part image))
  where
    by_order : (n < used_of part image) ⊎ (used_of part image ≤ n) → n < used_of part image
    by_order (inl within) = within
    by_order (inr past) = absurd
        (some (ends-from part Own Interval image reached (area_count part.geometry) n part.first
        chain past))

-- The areas that are kept are those that the chain may go on in, as many as the volume has at most.
pub record AreChained (part : Numbered) (Own : ℕ → Type 0) (known : Known) : Type 0 where
  pub own : All Own known.areas
  pub count : length known.areas ≤ area_count part.geometry
  pub used : UsedBetween part known.areas known.used

pub are-chained : (part : Numbered) (Own : ℕ → Type 0) (Interval : Block → Type 0)
    (image : Image) (known : Known) → IsChained part Own Interval (IsOf image)
    → HasChain part known image → AreChained part Own known
are-chained part Own Interval image known chain knows =
    let count = area_count part.geometry in
    let between : UsedBetween part (chain_of part image) (used_of part image) =
    used-between part Own Interval image count part.first chain in
    record {
      own = subst (All Own) (sym knows.areas)
          (owns-from part Own Interval image count part.first chain);
      count = subst (λ (areas : List ℕ). length areas ≤ count) (sym knows.areas)
          (count-from part image count part.first);
      used = subst (UsedBetween part known.areas) (sym knows.used)
          (subst (λ (areas : List ℕ). UsedBetween part areas (used_of part image))
          (sym knows.areas) between);
    }
