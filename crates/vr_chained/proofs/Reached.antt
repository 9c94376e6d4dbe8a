-- The block that a way over a chain comes to where the rosters are as an image has them: one at
-- most, and no two intervals have the same.
use Rattle.std.proofs.Common.{◌≡◌, ◌≢◌, get_or, ◌+◌, ◌-◌, ◌<◌, ◌≤◌, ℕ, zero, suc, Bool, true, false, List, []}
use Rattle.std.proofs.Common.{◌∷◌, length, Option, Some, None, refl, sym, ap, subst, ◌∙◌, arith}
use Rattle.std.proofs.Common.{⊎_elim}
use Rattle.std.specs.Prelude.{cond, nat_lt}
use Rattle.std.specs.List.{AllPairs}
use Rattle.std.proofs.Math.Nat.{mul-le-mul_right}
use Rattle.std.proofs.lemmas.Bool.{cases_lt, ltb-true, ltb-false}
use Rattle.vr_types.specs.Content.{Item}
use Rattle.vr_types.specs.Image.{Block, Image, block_at}
use Rattle.vr_seqset.specs.Reading.{roster_in}
use Rattle.vr_space.specs.Rosters.{Chains, IsInArea, IsNextOf, IsOf, Numbered, after_next}
use Rattle.vr_space.specs.Rosters.{areas_from, chain_way, interval_in, roster_at, roster_block}
use Rattle.vr_space.specs.Rosters.{way_by}
use Rattle.vr_space.specs.Way.{Found, MayFind, Way, found_on}
use Rattle.vr_space.proofs.CallerLemmas.{chained-here, interval-inside, used-most}

-- the block of the interval of that number, counted from an area on, where a chain of at most so
-- many areas has it
abbrev pub block_from : Numbered → Image → ℕ → ℕ → ℕ → Option ℕ
block_from part image zero n area = None
block_from part image (suc k) n area =
    cond (nat_lt n (roster_at part image area).used) (Some (interval_in part area n))
    (after_next None (block_from part image k (n - part.geometry.area))
    (roster_at part image area).next)

-- the way from that block on, where there is one
abbrev pub way_at : (ℕ → Way) → Option ℕ → Way
way_at reached None = Found None
way_at reached (Some n) = reached n

-- what an image has at the end of the way
pub way-reads : (part : Numbered) (image : Image) (reached : ℕ → Way) (k n area : ℕ)
    → found_on image (chain_way part reached k n area)
    ≡ found_on image (way_at reached (block_from part image k n area))
way-reads part image reached zero n area = refl
way-reads part image reached (suc k) n area =
    by_used (nat_lt n (roster_at part image area).used) (roster_at part image area).next
    (λ after. way-reads part image reached k (n - part.geometry.area) after)
  where
    by_used : (below : Bool) (next : Option ℕ)
        → ((after : ℕ)
        → found_on image (chain_way part reached k (n - part.geometry.area) after)
        ≡ found_on image (way_at reached (block_from part image k (n - part.geometry.area) after)))
        → found_on image (cond below (reached (interval_in part area n))
        (after_next (Found None) (chain_way part reached k (n - part.geometry.area)) next))
        ≡ found_on image (way_at reached (cond below (Some (interval_in part area n))
        (after_next None (block_from part image k (n - part.geometry.area)) next)))
    by_used true next more = refl
    by_used false None more = refl
    by_used false (Some after) more = more after

-- ---- where the rosters are known

-- what is allowed of the rosters of these areas is what the image has
abbrev pub AreStable : Numbered → (ℕ → Type 0) → (ℕ → Block → Type 0) → Image → Type 0
AreStable part Own may image = (area : ℕ) → Own area → (top : Block)
    → may (roster_block part area) top → top ≡ block_at image (roster_block part area)

-- what the image has of them is allowed
abbrev pub AreAllowed : Numbered → (ℕ → Type 0) → (ℕ → Block → Type 0) → Image → Type 0
AreAllowed part Own may image = (area : ℕ) → Own area
    → may (roster_block part area) (block_at image (roster_block part area))

module _ (part : Numbered) (Own : ℕ → Type 0) (Interval : Block → Type 0) (image : Image)
    (may : ℕ → Block → Type 0) (reached : ℕ → Way) (item : Option Item) where
  -- What may be found on the way may be found from that block on,
  pub way-finds : AreStable part Own may image → (k n area : ℕ)
      → Chains part Own Interval (IsOf image) k area
      → MayFind may item (chain_way part reached k n area)
      → MayFind may item (way_at reached (block_from part image k n area))
  way-finds stable zero n area chain found = absurd chain
  way-finds stable (suc k) n area chain found =
      by_used (nat_lt n (roster_at part image area).used) (roster_at part image area).next
      (chained-here part Own Interval image k area chain).next
      (λ after further. way-finds stable k (n - part.geometry.area) after further)
      (subst (λ (top : Block). MayFind may item (way_by part reached n area
      (chain_way part reached k (n - part.geometry.area)) (roster_in top)))
      (stable area chain.0 found.0 found.1) found.2)
    where
      by_used : (below : Bool) (next : Option ℕ)
          → IsNextOf (roster_at part image area).used part.geometry.area
          (Chains part Own Interval (IsOf image) k) next
          → ((after : ℕ) → Chains part Own Interval (IsOf image) k after
          → MayFind may item (chain_way part reached k (n - part.geometry.area) after)
          → MayFind may item (way_at reached
          (block_from part image k (n - part.geometry.area) after)))
          → MayFind may item (cond below (reached (interval_in part area n))
          (after_next (Found None) (chain_way part reached k (n - part.geometry.area)) next))
          → MayFind may item (way_at reached (cond below (Some (interval_in part area n))
          (after_next None (block_from part image k (n - part.geometry.area)) next)))
      by_used true next rule more here = here
      by_used false None rule more here = here
      by_used false (Some after) rule more here = more after rule.1 here

  -- and the other way round.
  pub way-may : AreAllowed part Own may image → (k n area : ℕ)
      → Chains part Own Interval (IsOf image) k area
      → MayFind may item (way_at reached (block_from part image k n area))
      → MayFind may item (chain_way part reached k n area)
  way-may allowed zero n area chain found = absurd chain
  way-may allowed (suc k) n area chain found = (
    block_at image (roster_block part area),
    allowed area chain.0,
    by_used (nat_lt n (roster_at part image area).used) (roster_at part image area).next
        (chained-here part Own Interval image k area chain).next
        (λ after further. way-may allowed k (n - part.geometry.area) after further) found,
  )
    where
      by_used : (below : Bool) (next : Option ℕ)
          → IsNextOf (roster_at part image area).used part.geometry.area
          (Chains part Own Interval (IsOf image) k) next
          → ((after : ℕ) → Chains part Own Interval (IsOf image) k after
          → MayFind may item (way_at reached
          (block_from part image k (n - part.geometry.area) after))
          → MayFind may item (chain_way part reached k (n - part.geometry.area) after))
          → MayFind may item (way_at reached (cond below (Some (interval_in part area n))
          (after_next None (block_from part image k (n - part.geometry.area)) next)))
          → MayFind may item (cond below (reached (interval_in part area n))
          (after_next (Found None) (chain_way part reached k (n - part.geometry.area)) next))
      by_used true next rule more here = here
      by_used false None rule more here = here
      by_used false (Some after) rule more here = more after rule.1 here

-- Images whose rosters are the same have the same block for an interval.
pub block-same : (part : Numbered) (Own : ℕ → Type 0) (Interval : Block → Type 0)
    (one other : Image) → ((area : ℕ) → Own area → block_at other (roster_block part area)
    ≡ block_at one (roster_block part area)) → (k n area : ℕ)
    → Chains part Own Interval (IsOf one) k area
    → block_from part other k n area ≡ block_from part one k n area
block-same part Own Interval one other same zero n area chain = refl
block-same part Own Interval one other same (suc k) n area chain =
    ap (λ (top : Block). cond (nat_lt n (roster_in top).used) (Some (interval_in part area n))
    (after_next None (block_from part other k (n - part.geometry.area)) (roster_in top).next))
    (same area chain.0)
    ∙ by_used (nat_lt n (roster_at part one area).used) (roster_at part one area).next
    (chained-here part Own Interval one k area chain).next
    (λ after further. block-same part Own Interval one other same k (n - part.geometry.area) after
    further)
  where
    by_used : (below : Bool) (next : Option ℕ)
        → IsNextOf (roster_at part one area).used part.geometry.area
        (Chains part Own Interval (IsOf one) k) next
        → ((after : ℕ) → Chains part Own Interval (IsOf one) k after
        → block_from part other k (n - part.geometry.area) after
        ≡ block_from part one k (n - part.geometry.area) after)
        → cond below (Some (interval_in part area n))
        (after_next None (block_from part other k (n - part.geometry.area)) next)
        ≡ cond below (Some (interval_in part area n))
        (after_next None (block_from part one k (n - part.geometry.area)) next)
    by_used true next rule more = refl
    by_used false None rule more = refl
    by_used false (Some after) rule more = more after rule.1

-- ---- no two intervals have one block

-- areas have no block in common
areas-apart : (part : Numbered) (one other n : ℕ) → one < other → IsInArea part one n
    → IsInArea part other n → ⊥
areas-apart part one other n less here there = omega (
  arith,
  here.to,
  there.from,
  mul-le-mul_right {m = one + 1} {n = other} (part.geometry.area + 1) (omega (arith, less)),
)

pub one-area : (part : Numbered) (one other n : ℕ) → IsInArea part one n
    → IsInArea part other n → one ≡ other
one-area part one other n here there =
    ⊎_elim (λ less. absurd (areas-apart part one other n less here there))
    (λ most. ⊎_elim (λ less. absurd (areas-apart part other one n less there here))
    (λ least. omega (arith, most, least)) (cases_lt other one)) (cases_lt one other)

-- no interval is a roster
pub roster-apart : (part : Numbered) (area other interval : ℕ) → interval < part.geometry.area
    → roster_block part area ≡ interval_in part other interval → ⊥
roster-apart part area other interval below same =
    let inside : IsInArea part other (roster_block part area) =
    subst (IsInArea part other) (sym same) (interval-inside part other interval below) in
    let mine : IsInArea part area (roster_block part area) =
    record { from = omega arith; to = omega arith } in
    let one : area ≡ other = one-area part area other (roster_block part area) mine inside in
    let heads : roster_block part area ≡ roster_block part other =
    ap (roster_block part) one in
    omega (arith, same, heads)

module _ (part : Numbered) (Own : ℕ → Type 0) (Interval : Block → Type 0) (image : Image) where
  -- A chain that goes on from an area has the same areas, however many it may have at most.
  pub areas-agree : (k j area : ℕ) → Chains part Own Interval (IsOf image) k area
      → Chains part Own Interval (IsOf image) j area
      → areas_from part image k area ≡ areas_from part image j area
  areas-agree zero j area one other = absurd one
  areas-agree (suc k) zero area one other = absurd other
  areas-agree (suc k) (suc j) area one other =
      ap (λ (areas : List ℕ). area ∷ areas)
      (by_next (roster_at part image area).next
      (chained-here part Own Interval image k area one).next
      (chained-here part Own Interval image j area other).next
      (λ after. areas-agree k j after))
    where
      by_next : (next : Option ℕ)
          → IsNextOf (roster_at part image area).used part.geometry.area
          (Chains part Own Interval (IsOf image) k) next
          → IsNextOf (roster_at part image area).used part.geometry.area
          (Chains part Own Interval (IsOf image) j) next
          → ((after : ℕ) → Chains part Own Interval (IsOf image) k after
          → Chains part Own Interval (IsOf image) j after
          → areas_from part image k after ≡ areas_from part image j after)
          → after_next [] (areas_from part image k) next
          ≡ after_next [] (areas_from part image j) next
      by_next None mine its more = refl
      by_next (Some after) mine its more = more after mine.1 its.1

  -- The block is an interval of an area that a chain goes on from, with no more areas than this.
  pub record ComesFrom (most n : ℕ) : Type 0 where
    pub area : ℕ
    pub interval : ℕ
    pub left : ℕ
    pub below : interval < part.geometry.area
    pub is : interval_in part area interval ≡ n
    pub has : Interval (block_at image n)
    pub chain : Chains part Own Interval (IsOf image) left area
    pub fewer : length (areas_from part image left area) ≤ most

  comes-more : (most more n : ℕ) → most ≤ more → ComesFrom most n → ComesFrom more n
  comes-more most more n less from = record {
    area = from.area;
    interval = from.interval;
    left = from.left;
    below = from.below;
    is = from.is;
    has = from.has;
    chain = from.chain;
    fewer = omega (arith, from.fewer, less);
  }

  pub comes-from : (k n area block : ℕ) → Chains part Own Interval (IsOf image) k area
      → block_from part image k n area ≡ Some block
      → ComesFrom (length (areas_from part image k area)) block
  comes-from zero n area block chain is = absurd chain
  comes-from (suc k) n area block chain is =
      by_used (nat_lt n used) refl (roster_at part image area).next refl here.next is
      (λ after further found. comes-from k (n - part.geometry.area) after block further found)
    where
      used : ℕ
      used = (roster_at part image area).used

      here : Rattle.vr_space.specs.Rosters.IsChainedBy part Interval (IsOf image) area
          (Chains part Own Interval (IsOf image) k) (block_at image (roster_block part area))
      here = chained-here part Own Interval image k area chain

      by_used : (below : Bool) → nat_lt n used ≡ below → (next : Option ℕ)
          → (roster_at part image area).next ≡ next
          → IsNextOf used part.geometry.area (Chains part Own Interval (IsOf image) k) next
          → cond below (Some (interval_in part area n))
          (after_next None (block_from part image k (n - part.geometry.area)) next) ≡ Some block
          → ((after : ℕ) → Chains part Own Interval (IsOf image) k after
          → block_from part image k (n - part.geometry.area) after ≡ Some block
          → ComesFrom (length (areas_from part image k after)) block)
          → ComesFrom (suc (length (after_next [] (areas_from part image k)
          (roster_at part image area).next))) block
      by_used true within next follows rule found more =
          let same : interval_in part area n ≡ block = cc in
          record {
            area = area;
            interval = n;
            left = suc k;
            below = omega (
              arith,
              ltb-true n used within,
              used-most part (block_at image (roster_block part area)) here.roster,
            );
            is = same;
            has = subst (λ (at : ℕ). Interval (block_at image at)) same
                (here.intervals n (ltb-true n used within)
                (block_at image (interval_in part area n)) refl);
            chain = chain;
            fewer = omega arith;
          }
      by_used false past None follows rule found more = absurd cc
      by_used false past (Some after) follows rule found more =
          comes-more (length (areas_from part image k after))
          (suc (length (after_next [] (areas_from part image k)
          (roster_at part image area).next))) block
          (omega (
            arith,
            ap (λ (next : Option ℕ).
                length (after_next [] (areas_from part image k) next)) follows,
          ))
          (more after rule.1 found)

  -- a block of an area is none of the areas that come after it
  comes-once : (k area after n block : ℕ) → Chains part Own Interval (IsOf image) (suc k) area
      → (roster_at part image area).next ≡ Some after → IsInArea part area block
      → Chains part Own Interval (IsOf image) k after
      → block_from part image k n after ≡ Some block → ⊥
  comes-once k area after n block chain follows inside further found =
      let from = comes-from k n after block further found in
      let there : IsInArea part from.area block = subst (IsInArea part from.area) from.is
      (interval-inside part from.area from.interval from.below) in
      let same : from.area ≡ area = one-area part from.area area block there inside in
      let agree : areas_from part image (suc k) area ≡ areas_from part image from.left from.area =
      subst (λ (at : ℕ). areas_from part image (suc k) area
      ≡ areas_from part image from.left at) (sym same)
      (areas-agree (suc k) from.left area chain
      (subst (Chains part Own Interval (IsOf image) from.left) same from.chain)) in
      omega (
        arith,
        ap (λ (areas : List ℕ). length areas) agree,
        from.fewer,
        ap (λ (next : Option ℕ). length (after_next [] (areas_from part image k) next)) follows,
      )

  -- Intervals that have one block are one.
  pub one-interval : (k i j area block : ℕ) → Chains part Own Interval (IsOf image) k area
      → block_from part image k i area ≡ Some block
      → block_from part image k j area ≡ Some block → i ≡ j
  one-interval zero i j area block chain one other = absurd chain
  one-interval (suc k) i j area block chain one other =
      by_used (nat_lt i used) refl (nat_lt j used) refl (roster_at part image area).next refl
      here.next one other
      (λ after. one-interval k (i - part.geometry.area) (j - part.geometry.area) after block)
    where
      used : ℕ
      used = (roster_at part image area).used

      here : Rattle.vr_space.specs.Rosters.IsChainedBy part Interval (IsOf image) area
          (Chains part Own Interval (IsOf image) k) (block_at image (roster_block part area))
      here = chained-here part Own Interval image k area chain

      mine : (n : ℕ) → nat_lt n used ≡ true → Some (interval_in part area n) ≡ Some block
          → IsInArea part area block
      mine n within is =
          let same : interval_in part area n ≡ block = cc in
          subst (IsInArea part area) same (interval-inside part area n
          (omega (
            arith,
            ltb-true n used within,
            used-most part (block_at image (roster_block part area)) here.roster,
          )))

      by_used : (below : Bool) → nat_lt i used ≡ below → (under : Bool)
          → nat_lt j used ≡ under → (next : Option ℕ)
          → (roster_at part image area).next ≡ next
          → IsNextOf used part.geometry.area (Chains part Own Interval (IsOf image) k) next
          → cond below (Some (interval_in part area i))
          (after_next None (block_from part image k (i - part.geometry.area)) next) ≡ Some block
          → cond under (Some (interval_in part area j))
          (after_next None (block_from part image k (j - part.geometry.area)) next) ≡ Some block
          → ((after : ℕ) → Chains part Own Interval (IsOf image) k after
          → block_from part image k (i - part.geometry.area) after ≡ Some block
          → block_from part image k (j - part.geometry.area) after ≡ Some block
          → i - part.geometry.area ≡ j - part.geometry.area) → i ≡ j
      by_used true within true inside next follows rule first second more =
          let same : interval_in part area i ≡ block = cc in
          let its : interval_in part area j ≡ block = cc in
          omega (arith, same, its)
      by_used true within false past None follows rule first second more = absurd cc
      by_used true within false past (Some after) follows rule first second more =
          absurd (comes-once k area after (j - part.geometry.area) block chain follows
          (mine i within first) rule.1 second)
      by_used false past true inside None follows rule first second more = absurd cc
      by_used false past true inside (Some after) follows rule first second more =
          absurd (comes-once k area after (i - part.geometry.area) block chain follows
          (mine j inside second) rule.1 first)
      by_used false past false beyond None follows rule first second more = absurd cc
      by_used false past false beyond (Some after) follows rule first second more =
          omega (
            arith,
            more after rule.1 first second,
            rule.0,
            ltb-false i used past,
            ltb-false j used beyond,
          )

  -- ---- no area comes twice

  -- A chain goes on from the area at this place of it, with the areas that come from there on.
  pub record GoesOn (many j at : ℕ) : Type 0 where
    pub left : ℕ
    pub chain : Chains part Own Interval (IsOf image) left at
    pub rest : j + length (areas_from part image left at) ≡ many

  pub goes-on : (k j area d : ℕ) → Chains part Own Interval (IsOf image) k area
      → j < length (areas_from part image k area)
      → GoesOn (length (areas_from part image k area)) j (get_or (areas_from part image k area) j d)
  goes-on zero j area d chain below = absurd chain
  goes-on (suc k) zero area d chain below =
      record { left = suc k; chain = chain; rest = omega arith }
  goes-on (suc k) (suc j) area d chain below =
      by_next (roster_at part image area).next
      (chained-here part Own Interval image k area chain).next below
      (λ after further less. goes-on k j after d further less)
    where
      by_next : (next : Option ℕ)
          → IsNextOf (roster_at part image area).used part.geometry.area
          (Chains part Own Interval (IsOf image) k) next
          → suc j < suc (length (after_next [] (areas_from part image k) next))
          → ((after : ℕ) → Chains part Own Interval (IsOf image) k after
          → j < length (areas_from part image k after)
          → GoesOn (length (areas_from part image k after)) j
          (get_or (areas_from part image k after) j d))
          → GoesOn (suc (length (after_next [] (areas_from part image k) next))) (suc j)
          (get_or (after_next [] (areas_from part image k) next) j d)
      by_next None rule within more = absurd (omega (arith, within))
      by_next (Some after) rule within more =
          let it = more after rule.1 (omega (arith, within)) in
          record { left = it.left; chain = it.chain; rest = omega (arith, it.rest) }

  pub chain-once : (k area : ℕ) → Chains part Own Interval (IsOf image) k area
      → AllPairs (λ (x y : ℕ). x ≢ y) (areas_from part image k area)
  chain-once k area chain i j d less within same =
      let one = goes-on k i area d chain (omega (arith, less, within)) in
      let other = goes-on k j area d chain within in
      let agree = areas-agree one.left other.left (get_or (areas_from part image k area) i d)
      one.chain
      (subst (Chains part Own Interval (IsOf image) other.left) (sym same) other.chain) in
      let long : length (areas_from part image one.left (get_or (areas_from part image k area) i d))
      ≡ length (areas_from part image other.left (get_or (areas_from part image k area) j d)) =
      ap (λ (areas : List ℕ). length areas) agree
      ∙ ap (λ (at : ℕ). length (areas_from part image other.left at)) same in
      omega (arith, less, one.rest, other.rest, long)
