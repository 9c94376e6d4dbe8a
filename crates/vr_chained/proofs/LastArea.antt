-- The last area of a chain, and the areas that an image has of it once an interval more is counted
-- there, or an area more is linked.
use Rattle.std.proofs.Common.{◌≡◌, ◌≢◌, ◌<◌, ◌≤◌, ◌+◌, ◌*◌, ◌++◌, ℕ, zero, suc, List, [], ◌∷◌}
use Rattle.std.proofs.Common.{length, Option, Some, None, refl, sym, ap, subst, ◌∙◌, arith}
use Rattle.vr_types.specs.Image.{Block, Image, block_at}
use Rattle.vr_seqset.specs.Reading.{roster_in}
use Rattle.vr_space.specs.Rosters.{Chains, IsChainedBy, IsNextOf, IsOf, IsRosterOf, Numbered}
use Rattle.vr_space.specs.Rosters.{after_next, areas_from, interval_in, roster_at, roster_block}
use Rattle.vr_space.specs.Rosters.{used_from}
use Rattle.vr_space.proofs.CallerLemmas.{chained-here}
use Rattle.vr_chained.proofs.Reached.{AreAllowed}

-- The area is the last one that an image has of a chain; each one before it is used whole.
pub record IsLast (part : Numbered) (Own : ℕ → Type 0) (Interval : Block → Type 0) (image : Image)
    (may : ℕ → Block → Type 0) (areas : List ℕ) (used last : ℕ) : Type 0 where
  pub before : List ℕ
  pub listed : areas ≡ before ++ last ∷ []
  pub own : Own last
  pub next : (roster_at part image last).next ≡ None
  pub used_is : used ≡ length before * part.geometry.area + (roster_at part image last).used
  pub roster : IsRosterOf part (block_at image (roster_block part last))
  pub intervals : (interval : ℕ) → interval < (roster_at part image last).used → (block : Block)
      → may (interval_in part last interval) block → Interval block

-- a chain has one
pub last-from : (part : Numbered) (Own : ℕ → Type 0) (Interval : Block → Type 0) (image : Image)
    (may : ℕ → Block → Type 0) → AreAllowed part Own may image → (k area : ℕ)
    → Chains part Own Interval may k area
    → (last : ℕ) × IsLast part Own Interval image may (areas_from part image k area)
    (used_from part image k area) last
last-from part Own Interval image may allowed zero area chain = absurd chain
last-from part Own Interval image may allowed (suc k) area chain =
    by_next (roster_at part image area).next refl here.next
    (λ after goes. last-from part Own Interval image may allowed k after goes)
  where
    here : IsChainedBy part Interval may area (Chains part Own Interval may k)
        (block_at image (roster_block part area))
    here = chain.1 (block_at image (roster_block part area)) (allowed area chain.0)

    by_next : (next : Option ℕ) → (roster_at part image area).next ≡ next
        → IsNextOf (roster_at part image area).used part.geometry.area
        (Chains part Own Interval may k) next
        → ((after : ℕ) → Chains part Own Interval may k after
        → (last : ℕ) × IsLast part Own Interval image may (areas_from part image k after)
        (used_from part image k after) last)
        → (last : ℕ) × IsLast part Own Interval image may
        (area ∷ after_next [] (areas_from part image k) next)
        ((roster_at part image area).used + after_next 0 (used_from part image k) next) last
    by_next None is rule goes = (
      area,
      record {
        before = [];
        listed = refl;
        own = chain.0;
        next = is;
        used_is = omega arith;
        roster = here.roster;
        intervals = here.intervals;
      },
    )
    by_next (Some after) is rule goes =
        let further = goes after rule.1 in (
          further.0,
          record {
            before = area ∷ further.1.before;
            listed = ap (λ (areas : List ℕ). area ∷ areas) further.1.listed;
            own = further.1.own;
            next = further.1.next;
            used_is = omega (arith, rule.0, further.1.used_is);
            roster = further.1.roster;
            intervals = further.1.intervals;
          },
        )

-- ---- an interval more

only-last : (area last : ℕ) (before : List ℕ) → area ∷ [] ≡ before ++ last ∷ [] → area ≡ last
only-last area last [] listed = cc
only-last area last (first ∷ []) listed = absurd cc
only-last area last (first ∷ (second ∷ rest)) listed = absurd cc

module _ (part : Numbered) (Own : ℕ → Type 0) (Interval : Block → Type 0) (image other : Image)
    (last : ℕ) (more : List ℕ) (ends : (roster_at part image last).next ≡ None)
    (others : (area : ℕ) → Own area → area ≢ last → block_at other (roster_block part area)
    ≡ block_at image (roster_block part area))
    (longer : (k : ℕ) → length more ≤ k
    → (areas_from part other (suc k) last ≡ last ∷ more)
    × (used_from part other (suc k) last ≡ (roster_at part image last).used + 1)) where
  -- Where another image has the same rosters but for the last one, by which the chain is longer, it
  -- has these areas more, and one used interval more.
  pub areas-longer : (k area : ℕ) (before : List ℕ) → Chains part Own Interval (IsOf image) k area
      → areas_from part image k area ≡ before ++ last ∷ []
      → length (areas_from part image k area) + length more ≤ k
      → (areas_from part other k area ≡ areas_from part image k area ++ more)
      × (used_from part other k area ≡ used_from part image k area + 1)
  areas-longer zero area before chain listed room = absurd chain
  areas-longer (suc k) area before chain listed room =
      by_next before (roster_at part image area).next refl
      (chained-here part Own Interval image k area chain).next listed room
      (λ after rest goes among fits. areas-longer k after rest goes among fits)
    where
      by_next : (front : List ℕ) (next : Option ℕ) → (roster_at part image area).next ≡ next
          → IsNextOf (roster_at part image area).used part.geometry.area
          (Chains part Own Interval (IsOf image) k) next
          → area ∷ after_next [] (areas_from part image k) next ≡ front ++ last ∷ []
          → suc (length (after_next [] (areas_from part image k) next)) + length more ≤ suc k
          → ((after : ℕ) (rest : List ℕ) → Chains part Own Interval (IsOf image) k after
          → areas_from part image k after ≡ rest ++ last ∷ []
          → length (areas_from part image k after) + length more ≤ k
          → (areas_from part other k after ≡ areas_from part image k after ++ more)
          × (used_from part other k after ≡ used_from part image k after + 1))
          → (areas_from part other (suc k) area
          ≡ (area ∷ after_next [] (areas_from part image k) next) ++ more)
          × (used_from part other (suc k) area
          ≡ (roster_at part image area).used + after_next 0 (used_from part image k) next + 1)
      by_next front None is rule among fits goes =
          let same : area ≡ last = only-last area last front among in
          let here = longer k (omega (arith, fits)) in
          subst (λ (at : ℕ). (areas_from part other (suc k) at ≡ at ∷ more)
          × (used_from part other (suc k) at ≡ (roster_at part image at).used + 0 + 1)) (sym same)
          (here.0, omega (arith, here.1))
      by_next [] (Some after) is rule among fits goes =
          let same : area ≡ last = cc in
          let none : (roster_at part image area).next ≡ None =
          subst (λ (at : ℕ). (roster_at part image at).next ≡ None) (sym same) ends in
          absurd cc
      by_next (first ∷ rest) (Some after) is rule among fits goes =
          let apart : area ≢ last = λ same.
          let none : (roster_at part image area).next ≡ None =
          subst (λ (at : ℕ). (roster_at part image at).next ≡ None) (sym same) ends in
          absurd cc in
          let tail : areas_from part image k after ≡ rest ++ last ∷ [] = cc in
          let further = goes after rest rule.1 tail (omega (arith, fits)) in (
            ap (λ (top : Block).
                area ∷ after_next [] (areas_from part other k) (roster_in top).next)
                (others area chain.0 apart)
                ∙ ap (λ (next : Option ℕ). area ∷ after_next [] (areas_from part other k) next) is
                ∙ ap (λ (areas : List ℕ). area ∷ areas) further.0,
            ap (λ (top : Block). (roster_in top).used
                + after_next 0 (used_from part other k) (roster_in top).next)
                (others area chain.0 apart)
                ∙ ap (λ (next : Option ℕ). (roster_at part image area).used
                + after_next 0 (used_from part other k) next) is
                ∙ omega (arith, further.1),
          )
