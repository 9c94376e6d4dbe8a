-- The end of a chain: an empty interval that a roster counts, in the last area or in one that is
-- linked.
use Rattle.std.proofs.Common.{◌≡◌, ◌<◌, ◌≤◌, ◌+◌, ◌-◌, ℕ, zero, suc, Bool, true, false, [], ◌∷◌}
use Rattle.std.proofs.Common.{length, Option, Some, None, refl, sym, ap, subst, ◌∙◌, arith, ⊎_elim}
use Rattle.std.specs.Prelude.{cond, nat_lt}
use Rattle.std.proofs.lemmas.Bool.{cases_lt, ltb-true}
use Rattle.vr_types.specs.Content.{Item}
use Rattle.vr_types.specs.Image.{Block, Image}
use Rattle.vr_seqset.specs.Reading.{roster_in}
use Rattle.vr_seqset.specs.Roster.{IsRoster, Roster}
use Rattle.vr_seqset.proofs.CallerLemmas.{roster_is}
use Rattle.vr_space.specs.Rosters.{Chains, IsChainedBy, IsNextOf, Numbered, chain_way, interval_in}
use Rattle.vr_space.specs.Rosters.{roster_at, roster_block, way_by}
use Rattle.vr_space.specs.Numbered.{IsFilled, item_read}
use Rattle.vr_space.specs.Way.{Found, MayFind}
use Rattle.vr_chained.specs.Extended.{IsMadeRoster}
use Rattle.vr_chained.specs.Filled.{IsUnfilled}
use Rattle.vr_chained.proofs.Longer.{IsLonger}

-- ---- an area whose last interval is empty

module _ (part : Numbered) (new : ℕ → Block → Type 0) (area used : ℕ) (top : Block)
    (made : IsMadeRoster part (used + 1) None top)
    (fresh : (block : Block) → new (interval_in part area used) block → IsUnfilled part block)
  where
    -- nothing is found there
    pub end-none : (at k n : ℕ) (item : Option Item) → used ≤ n
        → MayFind new item (way_by part (item_read part at) n area
        (chain_way part (item_read part at) k (n - part.geometry.area)) (roster_in top))
        → item ≡ None
    end-none at k n item past found =
        by_test (nat_lt n (used + 1)) refl
        (subst (λ (roster : Roster). MayFind new item (way_by part (item_read part at) n area
        (chain_way part (item_read part at) k (n - part.geometry.area)) roster)) made.has found)
      where
        by_test : (below : Bool) → nat_lt n (used + 1) ≡ below
            → MayFind new item
            (cond below (item_read part at (interval_in part area n)) (Found None))
            → item ≡ None
        by_test true is has =
            let same : n ≡ used = omega (arith, past, ltb-true n (used + 1) is) in
            let empty : IsUnfilled part has.0 =
            fresh has.0 (subst (λ (m : ℕ). new (interval_in part area m) has.0) same has.1) in
            has.2 ∙ empty.none at
        by_test false is has = has

    -- and it is a chain that ends there
    pub end-chained : (After : ℕ → Type 0)
        → ((interval : ℕ) → interval < used → (block : Block)
        → new (interval_in part area interval) block → IsFilled part block)
        → IsChainedBy part (IsFilled part) new area After top
    end-chained After before = record {
      roster = made.roster;
      intervals = λ interval below block may.
          let most : interval < used + 1 =
          subst (λ (roster : Roster). interval < roster.used) made.has below in
          ⊎_elim (λ less. before interval less block may)
          (λ least.
          let same : interval ≡ used = omega (arith, most, least) in
          (fresh block (subst (λ (at : ℕ). new (interval_in part area at) block) same may)).filled)
          (cases_lt interval used);
      next = subst (λ (roster : Roster).
          IsNextOf roster.used part.geometry.area After roster.next) (sym made.has) tt;
    }

-- ---- the last area of an image

module _ (part : Numbered) (image : Image) (Wider : ℕ → Type 0) (new : ℕ → Block → Type 0)
    (last : ℕ) (bytes : Block) (next : (roster_at part image last).next ≡ None)
    (before : (interval : ℕ) → interval < (roster_at part image last).used → (block : Block)
    → new (interval_in part last interval) block → IsFilled part block) where
  -- a roster that counts an empty interval more makes the chain longer,
  pub longer-counted : IsMadeRoster part ((roster_at part image last).used + 1) None bytes
      → ((block : Block) → new (interval_in part last (roster_at part image last).used) block
      → IsUnfilled part block)
      → IsLonger part image Wider [] new last bytes
  longer-counted made fresh = record {
    next = next;
    used = omega (arith, ap (λ (roster : Roster). roster.used) made.has);
    none = end-none part new last (roster_at part image last).used bytes made fresh;
    chained = λ k room. end-chained part new last (roster_at part image last).used bytes made fresh
        (Chains part Wider (IsFilled part) new k) before;
  }

  -- and so does one that leads to an area with one empty interval.
  pub longer-linked : (area : ℕ) → (roster_at part image last).used ≡ part.geometry.area
      → IsMadeRoster part part.geometry.area (Some area) bytes → Wider area
      → ((block : Block) → new (roster_block part area) block → IsMadeRoster part 1 None block)
      → ((block : Block) → new (interval_in part area 0) block → IsUnfilled part block)
      → IsLonger part image Wider (area ∷ []) new last bytes
  longer-linked area whole made wide top fresh = record {
    next = next;
    used = omega (arith, whole, ap (λ (roster : Roster). roster.used) made.has);
    none = λ at k n item past found. by_test at k n item (omega (arith, past, whole))
        (nat_lt n part.geometry.area) refl
        (subst (λ (roster : Roster). MayFind new item (way_by part (item_read part at) n last
        (chain_way part (item_read part at) k (n - part.geometry.area)) roster)) made.has found);
    chained = λ k room. record {
      roster = made.roster;
      intervals = λ interval below block may. before interval
          (omega (arith, below, whole, ap (λ (roster : Roster). roster.used) made.has)) block may;
      next = subst (λ (roster : Roster). IsNextOf roster.used part.geometry.area
          (Chains part Wider (IsFilled part) new k) roster.next) (sym made.has)
          (refl, goes-on k room);
    };
  }
    where
      past-end : (at k n : ℕ) (item : Option Item)
          → MayFind new item (chain_way part (item_read part at) k n area) → item ≡ None
      past-end at zero n item found = found
      past-end at (suc k) n item found =
          end-none part new area 0 found.0 (top found.0 found.1) fresh at k n item (omega arith)
          found.2

      by_test : (at k n : ℕ) (item : Option Item) → part.geometry.area ≤ n → (below : Bool)
          → nat_lt n part.geometry.area ≡ below
          → MayFind new item (cond below (item_read part at (interval_in part last n))
          (chain_way part (item_read part at) k (n - part.geometry.area) area))
          → item ≡ None
      by_test at k n item past true is has =
          absurd (omega (arith, past, ltb-true n part.geometry.area is))
      by_test at k n item past false is has =
          past-end at k (n - part.geometry.area) item has

      goes-on : (k : ℕ) → 1 ≤ k → Chains part Wider (IsFilled part) new k area
      goes-on zero room = absurd (omega (arith, room))
      goes-on (suc k) room = (
        wide,
        λ block may. end-chained part new area 0 block (top block may) fresh
            (Chains part Wider (IsFilled part) new k)
            (λ interval below. absurd (omega (arith, below))),
      )

-- ---- a roster that is written

pub made-roster : (part : Numbered) (used : ℕ) (next : Option ℕ) (block : Block)
    → IsRoster part.geometry.area block (record { used = used; part = part.part; next = next })
    → length block ≡ part.geometry.size → IsMadeRoster part used next block
made-roster part used next block is size =
    let roster : Roster = record { used = used; part = part.part; next = next } in
    let has : roster_in block ≡ roster = roster_is part.geometry.area block roster is in
    record {
      roster = record {
        spelled = subst (IsRoster part.geometry.area block) (sym has) is;
        size = size;
        number = ap (λ (r : Roster). r.part) has;
      };
      has = has;
    }
