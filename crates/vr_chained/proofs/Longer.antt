-- A chain that may be one interval longer at its end, as what is allowed of blocks grows: it stays
-- a chain, and nothing more is found on a way over it.
use Rattle.std.proofs.Common.{◌≡◌, ◌⊎◌, inl, ⊎_elim, ◌<◌, ◌≤◌, ◌+◌, ◌-◌, ℕ, zero, suc, Bool, true}
use Rattle.std.proofs.Common.{false, List, [], ◌∷◌, length, All, Option, Some, None, refl, sym, ap}
use Rattle.std.proofs.Common.{subst, arith}
use Rattle.std.specs.Prelude.{cond, nat_lt}
use Rattle.std.proofs.lemmas.Bool.{lt-ltb, ltb-false, ltb-true}
use Rattle.std.proofs.lemmas.List.Elements.{All-head, All-tail}
use Rattle.vr_types.specs.Content.{Item}
use Rattle.vr_types.specs.Image.{Block, Image, block_at}
use Rattle.vr_seqset.specs.Reading.{roster_in}
use Rattle.vr_space.specs.Rosters.{Chains, IsChainedBy, IsNextOf, Numbered, after_next, areas_from}
use Rattle.vr_space.specs.Rosters.{chain_way, interval_in, roster_at, roster_block, way_by}
use Rattle.vr_space.specs.Numbered.{IsFilled, item_read}
use Rattle.vr_space.specs.Way.{Found, MayFind, Way}
use Rattle.vr_space.proofs.CallerLemmas.{GrowsFrom, grows-same, used-most}
use Rattle.vr_chained.proofs.Reached.{AreAllowed, AreStable}

-- The roster makes the chain longer than an image has it: its area is the last one there, and keeps
-- the intervals that it has; what comes after those has no item, and is a chain that ends with
-- these areas, where there is room for so many.
pub record IsLonger (part : Numbered) (image : Image) (Wider : ℕ → Type 0) (more : List ℕ)
    (new : ℕ → Block → Type 0) (area : ℕ) (top : Block) : Type 0 where
  pub next : (roster_at part image area).next ≡ None
  pub used : (roster_at part image area).used ≤ (roster_in top).used
  pub none : (at k n : ℕ) (item : Option Item) → (roster_at part image area).used ≤ n
      → MayFind new item (way_by part (item_read part at) n area
      (chain_way part (item_read part at) k (n - part.geometry.area)) (roster_in top))
      → item ≡ None
  pub chained : (k : ℕ) → length more ≤ k
      → IsChainedBy part (IsFilled part) new area (Chains part Wider (IsFilled part) new k) top

-- What is allowed now of the blocks that a chain leads to was allowed before, but that a roster may
-- make it longer.
pub record Lengthens (part : Numbered) (Own Wider : ℕ → Type 0) (image : Image) (more : List ℕ)
    (old new : ℕ → Block → Type 0) : Type 0 where
  pub tops : (area : ℕ) → Own area → (top : Block) → new (roster_block part area) top
      → old (roster_block part area) top ⊎ IsLonger part image Wider more new area top
  pub blocks : (area interval : ℕ) → Own area → interval < (roster_at part image area).used
      → interval < part.geometry.area → (block : Block)
      → new (interval_in part area interval) block → old (interval_in part area interval) block

module _ (part : Numbered) (Own Wider : ℕ → Type 0) (image : Image) (more : List ℕ)
    (old new : ℕ → Block → Type 0) (stable : AreStable part Own old image)
    (lengthens : Lengthens part Own Wider image more old new) where
  -- ---- the chain

  -- It is a chain still, where it has room for the areas more.
  pub chain-longer : ((area : ℕ) → Own area → Wider area) → (k area : ℕ)
      → Chains part Own (IsFilled part) old k area
      → length (areas_from part image k area) + length more ≤ k
      → Chains part Wider (IsFilled part) new k area
  chain-longer wider zero area chain room = absurd chain
  chain-longer wider (suc k) area chain room = (
    wider area chain.0,
    λ top may. ⊎_elim
        (λ before. as-before top (stable area chain.0 top before) (chain.1 top before)
        (λ after goes fits. chain-longer wider k after goes fits))
        (λ longer. longer.chained k (omega (arith, room)))
        (lengthens.tops area chain.0 top may),
  )
    where
      by_next : (used : ℕ) (next : Option ℕ)
          → IsNextOf used part.geometry.area (Chains part Own (IsFilled part) old k) next
          → suc (length (after_next [] (areas_from part image k) next)) + length more ≤ suc k
          → ((after : ℕ) → Chains part Own (IsFilled part) old k after
          → length (areas_from part image k after) + length more ≤ k
          → Chains part Wider (IsFilled part) new k after)
          → IsNextOf used part.geometry.area (Chains part Wider (IsFilled part) new k) next
      by_next used None rule fits goes = tt
      by_next used (Some after) rule fits goes =
          (rule.0, goes after rule.1 (omega (arith, fits)))

      as-before : (top : Block) → top ≡ block_at image (roster_block part area)
          → IsChainedBy part (IsFilled part) old area (Chains part Own (IsFilled part) old k) top
          → ((after : ℕ) → Chains part Own (IsFilled part) old k after
          → length (areas_from part image k after) + length more ≤ k
          → Chains part Wider (IsFilled part) new k after)
          → IsChainedBy part (IsFilled part) new area (Chains part Wider (IsFilled part) new k) top
      as-before top same by goes = record {
        roster = by.roster;
        intervals = λ interval below block may. by.intervals interval below block
            (lengthens.blocks area interval chain.0
            (subst (λ (b : Block). interval < (roster_in b).used) same below)
            (omega (arith, below, used-most part top by.roster)) block may);
        next = by_next (roster_in top).used (roster_in top).next by.next
            (subst (λ (b : Block).
            suc (length (after_next [] (areas_from part image k) (roster_in b).next))
            + length more ≤ suc k) (sym same) room) goes;
      }

  -- ---- ways over it

  module _ (allowed : AreAllowed part Own old image) where
    -- each roster has what one had that was allowed
    pub grows-longer : (area : ℕ) → Own area → GrowsFrom part old new area
    grows-longer area own top may = ⊎_elim (λ before. grows-same part old area top before)
        (λ longer. record {
          before = block_at image (roster_block part area);
          allowed = allowed area own;
          used = longer.used;
          next = inl longer.next;
        })
        (lengthens.tops area own top may)

    -- What may be found on a way might have been found.
    pub find-longer : (at : ℕ) (item : Option Item) (k n area : ℕ)
        → Chains part Own (IsFilled part) old k area
        → MayFind new item (chain_way part (item_read part at) k n area)
        → MayFind old item (chain_way part (item_read part at) k n area)
    find-longer at item zero n area chain found = found
    find-longer at item (suc k) n area chain found =
        let top : Block = found.0 in
        let kept : Block = block_at image (roster_block part area) in
        let there : old (roster_block part area) kept = allowed area chain.0 in
        ⊎_elim
        (λ before. (
          top,
          before,
          as-before top (stable area chain.0 top before) (chain.1 top before)
              (λ further goes.
              find-longer at item k (n - part.geometry.area) further goes) found.2,
        ))
        (λ longer. (
          kept,
          there,
          at-end top longer (chain.1 kept there) (nat_lt n (roster_in kept).used) refl
              (roster_in kept).next longer.next found.2,
        ))
        (lengthens.tops area chain.0 top found.1)
      where
        after : ℕ → Way
        after = chain_way part (item_read part at) k (n - part.geometry.area)

        read : (interval : ℕ) → interval < (roster_at part image area).used
            → interval < part.geometry.area
            → MayFind new item (item_read part at (interval_in part area interval))
            → MayFind old item (item_read part at (interval_in part area interval))
        read interval below inside has = (
          has.0,
          lengthens.blocks area interval chain.0 below inside has.0 has.1,
          has.2,
        )

        by_used : (used : ℕ) → used ≡ (roster_at part image area).used
            → used ≤ part.geometry.area → (below : Bool) → nat_lt n used ≡ below
            → (next : Option ℕ)
            → IsNextOf used part.geometry.area (Chains part Own (IsFilled part) old k) next
            → ((further : ℕ) → Chains part Own (IsFilled part) old k further
            → MayFind new item (after further) → MayFind old item (after further))
            → MayFind new item (cond below (item_read part at (interval_in part area n))
            (after_next (Found None) after next))
            → MayFind old item (cond below (item_read part at (interval_in part area n))
            (after_next (Found None) after next))
        by_used used same most true is next rule goes has =
            let below : n < used = ltb-true n used is in
            read n (omega (arith, below, same)) (omega (arith, below, most)) has
        by_used used same most false is None rule goes has = has
        by_used used same most false is (Some further) rule goes has = goes further rule.1 has

        as-before : (top : Block) → top ≡ block_at image (roster_block part area)
            → IsChainedBy part (IsFilled part) old area (Chains part Own (IsFilled part) old k) top
            → ((further : ℕ) → Chains part Own (IsFilled part) old k further
            → MayFind new item (after further) → MayFind old item (after further))
            → MayFind new item (way_by part (item_read part at) n area after (roster_in top))
            → MayFind old item (way_by part (item_read part at) n area after (roster_in top))
        as-before top same by goes has =
            by_used (roster_in top).used (ap (λ (b : Block). (roster_in b).used) same)
            (used-most part top by.roster) (nat_lt n (roster_in top).used) refl
            (roster_in top).next by.next goes has

        longer-reads : (top : Block) → (below : Bool) → nat_lt n (roster_in top).used ≡ below
            → below ≡ true
            → MayFind new item (cond below (item_read part at (interval_in part area n))
            (after_next (Found None) after (roster_in top).next))
            → MayFind new item (item_read part at (interval_in part area n))
        longer-reads top true is below has = has
        longer-reads top false is below has = absurd cc

        at-end : (top : Block) → IsLonger part image Wider more new area top
            → IsChainedBy part (IsFilled part) old area (Chains part Own (IsFilled part) old k)
            (block_at image (roster_block part area))
            → (below : Bool) → nat_lt n (roster_at part image area).used ≡ below
            → (next : Option ℕ) → next ≡ None
            → MayFind new item (way_by part (item_read part at) n area after (roster_in top))
            → MayFind old item (cond below (item_read part at (interval_in part area n))
            (after_next (Found None) after next))
        at-end top longer by true is next none has =
            let below : n < (roster_at part image area).used =
            ltb-true n (roster_at part image area).used is in
            read n below
            (omega (
              arith,
              below,
              used-most part (block_at image (roster_block part area)) by.roster,
            ))
            (longer-reads top (nat_lt n (roster_in top).used) refl
            (lt-ltb n (roster_in top).used
            (omega (arith, below, longer.used))) has)
        at-end top longer by false is None none has = longer.none at k n item
            (ltb-false n (roster_at part image area).used is) has
        at-end top longer by false is (Some further) none has = absurd cc

-- ---- its areas

-- A chain whose listed areas each have this is one over areas that have it.
pub chain-with : (part : Numbered) (Own P : ℕ → Type 0) (Interval : Block → Type 0)
    (image : Image) (may : ℕ → Block → Type 0) → AreStable part Own may image → (k area : ℕ)
    → Chains part Own Interval may k area → All P (areas_from part image k area)
    → Chains part (λ at. Own at × P at) Interval may k area
chain-with part Own P Interval image may stable zero area chain all = absurd chain
chain-with part Own P Interval image may stable (suc k) area chain all = (
  (
    chain.0,
    All-head P area (after_next [] (areas_from part image k) (roster_at part image area).next) all,
  ),
  λ top there.
      let by : IsChainedBy part Interval may area (Chains part Own Interval may k) top =
      chain.1 top there in
      record {
        roster = by.roster;
        intervals = by.intervals;
        next = by_next (roster_in top).used (roster_in top).next by.next
            (subst (λ (b : Block).
            All P (area ∷ after_next [] (areas_from part image k) (roster_in b).next))
            (sym (stable area chain.0 top there)) all)
            (λ after goes has.
            chain-with part Own P Interval image may stable k after goes has);
      },
)
  where
    by_next : (used : ℕ) (next : Option ℕ)
        → IsNextOf used part.geometry.area (Chains part Own Interval may k) next
        → All P (area ∷ after_next [] (areas_from part image k) next)
        → ((after : ℕ) → Chains part Own Interval may k after
        → All P (areas_from part image k after)
        → Chains part (λ at. Own at × P at) Interval may k after)
        → IsNextOf used part.geometry.area (Chains part (λ at. Own at × P at) Interval may k) next
    by_next used None rule has goes = tt
    by_next used (Some after) rule has goes = (
      rule.0,
      goes after rule.1
          (All-tail P area (areas_from part image k after) has),
    )
