-- From what a call in one area of a keyed part leaves of a split under way and of what was met to
-- what it leaves of the part's.
use Rattle.std.proofs.Common.{◌≡◌, ⊎_elim, ℕ, Bool, true, false, List, Option, Some}
use Rattle.std.proofs.Common.{None, arith, sym, ap, subst, ◌∙◌}
use Rattle.std.specs.Prelude.{Contains, cond, nat_eq}
use Rattle.std.proofs.lemmas.Bool.{cases_eq, eq-eqb, eqb-true}
use Rattle.vr_types.specs.Seen.{Left, Seen}
use Rattle.vr_space.specs.Areas.{IsChainAtRest, KeyedChain, area_for, area_of, areas_in, head_in}
use Rattle.vr_space.specs.Areas.{head_of}
use Rattle.vr_space.specs.Met.{IsChainMet, IsMet, Met}
use Rattle.vr_space.specs.Owners.{Owners}
use Rattle.vr_space.specs.Moves.{MoveUnderWay}
use Rattle.vr_space.specs.Split.{AreaSplit, MoveNow, SplitNow, move_stage, split_in}
use Rattle.vr_space.specs.UnderWay.{AreaUnderWay, IsReadyFor, KeyedUnderWay}
use Rattle.vr_space.proofs.AreaPlaces.{ChangesArea, other-blocks, same-area, same-areas}
use Rattle.vr_space.proofs.Lifting.{PutsInto}
use Rattle.vr_space.proofs.Resting.{resting-area, resting-for}
use Rattle.vr_space.proofs.Links.{areas-apart}
use Rattle.vr_space.proofs.MovesUnderWay.{aside-of, moving-stays, waits-elsewhere}
use Rattle.vr_space.proofs.UnderWay.{AreaStays, met-stays, way-stays}

-- ---- the split of one area

-- it is the part's, where that is in the area
pub split-here : (split : AreaSplit) (area : ℕ) → split.area ≡ area
    → split_in (Some split) area ≡ Some split.split
split-here split area same =
    ap (λ (test : Bool). cond test (Some split.split) None) (eq-eqb split.area area same)

-- The blocks of each area are as the part's split under way left them.
pub under-here : (part : KeyedChain) (split : Option AreaSplit) (area : ℕ) (now : Seen)
    → KeyedUnderWay part split now → AreaUnderWay (area_of part area) (split_in split area) now
under-here part None area now way = tt
under-here part (Some split) area now way =
    by_test (nat_eq split.area area) (eqb-true split.area area)
  where
    by_test : (test : Bool) → (test ≡ true → split.area ≡ area)
        → AreaUnderWay (area_of part area) (cond test (Some split.split) None) now
    by_test true same = subst
        (λ (one : ℕ). IsReadyFor split.split.stage (area_of part one) split.split now)
        (same (λ i. true)) way.1
    by_test false same = tt

module _ (part : KeyedChain) (owners : Owners) (area : ℕ) (old new : Seen)
    (rests : IsChainAtRest part owners old) (left : Left old old.cur)
    (puts : PutsInto part area old new) (changes : ChangesArea part area old.cur new.cur) where
  others-stay : (at : ℕ) → (at ≡ area → ⊥) → AreaStays (area_of part at) old new
  others-stay at differ n is = record {
    cur = other-blocks part area old.cur new.cur changes at differ n is.1;
    less = λ bytes may. puts.fewer n bytes is.0
        (λ there. areas-apart part at area n differ is.1 there) may;
  }

  -- The split of an interval stays under way where the area is as it left it,
  pub lift-under : (split : Option AreaSplit) → KeyedUnderWay part split old
      → AreaUnderWay (area_of part area) (split_in split area) new → KeyedUnderWay part split new
  lift-under None way here = tt
  lift-under (Some split) way here = (
    subst (λ (areas : List ℕ). Contains areas split.area)
        (sym (same-areas part area old.cur new.cur changes)) way.0,
    ⊎_elim
        (λ same. subst
        (λ (one : ℕ). IsReadyFor split.split.stage (area_of part one) split.split new) (sym same)
        (subst (λ (one : Option SplitNow). AreaUnderWay (area_of part area) one new)
        (split-here split area same) here))
        (λ differ. way-stays (area_of part split.area) (Some split.split) old new
        (resting-area part owners old rests left split.area way.0).1 left
        (λ now some n block named. others-stay split.area differ n block) way.1)
        (cases_eq split.area area),
  )

  -- that of an area where this one of the chain doesn't wait for it,
  pub lift-move : (move : Option MoveNow) → Contains (areas_in part old.cur) area
      → move_stage move area ≡ None → MoveUnderWay part move old → MoveUnderWay part move new
  lift-move None inside none moves = tt
  lift-move (Some move) inside none moves =
      let resting = resting-area part owners old rests left move.area moves.inside in
      moving-stays part move old new rests.on (omega (arith, resting.1.area))
      (resting.1.heads (head_in part old.cur move.area)
      (left.each (head_of part move.area) (omega (arith, resting.1.area))))
      (same-areas part area old.cur new.cur changes)
      (others-stay move.area (waits-elsewhere move area none))
      (λ later. others-stay move.into (λ same. (aside-of part move old move.stage later
      moves.ready).apart
      (subst (λ (at : ℕ). Contains (areas_in part old.cur) at) (sym same) inside)))
      moves

  -- and what was met stays met where that of the area does.
  pub lift-met : (one : Met) → IsChainMet part old.cur one
      → (area_for part old.cur one.place ≡ Some area → IsMet (area_of part area) new.cur one)
      → IsChainMet part new.cur one
  lift-met one is here = record {
    area = is.area;
    there = same-area part area old.cur new.cur changes one.place ∙ is.there;
    is_met = ⊎_elim
        (λ same. subst (λ (at : ℕ). IsMet (area_of part at) new.cur one) (sym same)
        (here (is.there ∙ ap Some same)))
        (λ differ.
        let resting = resting-for part owners old rests left one.place is.area is.there in
        met-stays (area_of part is.area) old.cur new.cur one
        (resting.1.heads (head_in part old.cur is.area)
        (left.each (head_of part is.area) (omega (arith, resting.1.area))))
        (other-blocks part area old.cur new.cur changes is.area differ (head_of part is.area)
        (omega arith, omega arith))
        (λ inside. other-blocks part area old.cur new.cur changes is.area differ one.number inside)
        is.is_met)
        (cases_eq is.area area);
  }
