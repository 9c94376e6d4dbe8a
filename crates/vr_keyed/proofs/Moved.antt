-- What a stage of a split of an area leaves of the split, which goes on or is over; of the owners
-- of areas; and of the areas that the part holds.
use Rattle.std.proofs.Common.{◌≡◌, ◌≢◌, ◌+◌, inl, inr, ℕ, Bool, true, false, List, [], ◌∷◌, ◌++◌}
use Rattle.std.proofs.Common.{Option, Some, None, refl, sym, subst, ◌∙◌}
use Rattle.std.specs.Prelude.{IfSome, IsSome, cond, nat_eq}
use Rattle.vr_types.specs.declared.unit.PartNo.{PartNo}
use Rattle.vr_types.specs.declared.unit.StageKind.{StageKind}
use Rattle.vr_types.specs.declared.unit.StageKind.TheVariants.{CaClaim, CaCopy, CaLink, CaSwitch}
use Rattle.vr_types.specs.declared.unit.StageKind.TheVariants.{Extend, Post}
use Rattle.vr_space.specs.Areas.{KeyedChain}
use Rattle.vr_space.specs.Known.{held_with}
use Rattle.vr_space.specs.Moves.{IsAreaStage, IsPastClaim, IsPastClaimStage, moving}
use Rattle.vr_space.specs.Part.{HoldsSame, IsClaimed, KeepsChain, KeyedShape, OwnersAfter, part_no}
use Rattle.vr_space.specs.Split.{MoveNow}
use Rattle.vr_casplit.specs.Splits.{OwnersBy, after_by, after_move, left_at, left_by}
use Rattle.vr_keyed.specs.Owned.{held_at, held_now, stage_of_move}

-- ---- the owners of areas

owners-by : (stage : StageKind) (part : PartNo) (claimed : ℕ) (old new : List (Option PartNo))
    → OwnersBy stage part claimed old new → OwnersAfter part stage old new
owners-by CaClaim part claimed old new is = inr (claimed, is.0, is.1)
owners-by Post part claimed old new is = inl is
owners-by Extend part claimed old new is = inl is
owners-by stage part claimed old new is = is

-- What a stage leaves of them is what its kind says.
pub owners-left : (part at : KeyedChain) → at ≡ part → (move : Option MoveNow) → IsSome move
    → (old new : List (Option PartNo)) (kind : StageKind) → IfSome move (λ now. kind ≡ now.stage)
    → IfSome move (λ now. (claimed : ℕ)
    × OwnersBy now.stage (part_no (KeyedShape at)) claimed old new)
    → OwnersAfter (part_no (KeyedShape part)) kind old new
owners-left part at same None some old new kind is by = absurd cc
owners-left part at same (Some move) some old new kind is by =
    subst (λ (stage : StageKind). OwnersAfter (part_no (KeyedShape part)) stage old new) (sym is)
    (subst (λ (one : KeyedChain). OwnersAfter (part_no (KeyedShape one)) move.stage old new) same
    (owners-by move.stage (part_no (KeyedShape at)) by.0 old new by.1))

-- The claim takes the least free area for it.
pub claims-left : (part at : KeyedChain) → at ≡ part → (move : Option MoveNow) → IsSome move
    → (old new : List (Option PartNo))
    → IfSome move (λ now. (claimed : ℕ)
    × OwnersBy now.stage (part_no (KeyedShape at)) claimed old new)
    → stage_of_move move ≡ Some CaClaim → IsClaimed (part_no (KeyedShape part)) old new
claims-left part at same None some old new by is = absurd cc
claims-left part at same (Some move) some old new by is =
    let claim : move.stage ≡ CaClaim = cc in
    let both : OwnersBy CaClaim (part_no (KeyedShape at)) by.0 old new =
    subst (λ (stage : StageKind). OwnersBy stage (part_no (KeyedShape at)) by.0 old new) claim by.1
    in
    subst (λ (one : KeyedChain). IsClaimed (part_no (KeyedShape one)) old new) same
    (by.0, both.0, both.1)

holds-itself : (areas : List ℕ) → HoldsSame areas areas
holds-itself areas = record { many = refl; kept = λ area is. is; none = λ area is. is }

-- What the part holds goes with them, while the split goes on.
chain-by : (part : KeyedChain) (areas : List ℕ) (move : MoveNow) (claimed : ℕ)
    (old new : List (Option PartNo)) (stage : StageKind) → move.stage ≡ stage → IsAreaStage stage
    → OwnersBy stage (part_no (KeyedShape part)) claimed old new
    → KeepsChain (KeyedShape part) (held_now areas (Some (record move { stage = stage })))
    (held_now areas (left_by (record move { stage = stage }) claimed)) old new
chain-by part areas move claimed old new CaClaim at is by =
    inr (record { area = claimed; least = by.0; more = refl; owned = by.1 })
chain-by part areas move claimed old new CaCopy at is by =
    inl (by_test (nat_eq (move.copied + 1) (moving move)), by)
  where
    by_test : (test : Bool) → HoldsSame (areas ++ move.into ∷ [])
        (held_now areas (Some (record move {
          copied = move.copied + 1;
          stage = cond test CaLink CaCopy;
        })))
    by_test true = holds-itself (areas ++ move.into ∷ [])
    by_test false = holds-itself (areas ++ move.into ∷ [])
chain-by part areas move claimed old new CaLink at is by =
    inl (holds-itself (areas ++ move.into ∷ []), by)
chain-by part areas move claimed old new CaSwitch at is by =
    inl (holds-itself (areas ++ move.into ∷ []), by)
chain-by part areas move claimed old new stage at is by = absurd is

pub chain-left : (part at : KeyedChain) → at ≡ part → (move next : Option MoveNow) → IsSome move
    → IfSome move (λ now. IsAreaStage now.stage)
    → (areas after : List ℕ) → after ≡ areas → (old new : List (Option PartNo))
    → IfSome move (λ now. (claimed : ℕ)
    × OwnersBy now.stage (part_no (KeyedShape at)) claimed old new)
    → IfSome move (λ now. (claimed : ℕ)
    → OwnersBy now.stage (part_no (KeyedShape at)) claimed old new → next ≡ left_by now claimed)
    → KeepsChain (KeyedShape part) (held_now areas move) (held_now after next) old new
chain-left part at same None next some is areas after stay old new by goes = absurd cc
chain-left part at same (Some move) next some is areas after stay old new by goes =
    subst (λ (one : List ℕ). KeepsChain (KeyedShape part) (held_now areas (Some move))
    (held_now one next) old new) (sym stay)
    (subst (λ (one : Option MoveNow). KeepsChain (KeyedShape part) (held_now areas (Some move))
    (held_now areas one) old new) (sym (goes by.0 by.1))
    (subst (λ (one : KeyedChain). KeepsChain (KeyedShape one) (held_now areas (Some move))
    (held_now areas (left_by move by.0)) old new) same
    (chain-by at areas move by.0 old new move.stage refl is by.1)))

-- ---- the split

past-by : (move : MoveNow) (claimed : ℕ) (stage : StageKind) → move.stage ≡ stage
    → IsAreaStage stage → IsPastClaim (left_at stage move claimed)
past-by move claimed CaClaim at is = tt
past-by move claimed CaCopy at is = by_test (nat_eq (move.copied + 1) (moving move))
  where
    by_test : (test : Bool) → IsPastClaimStage (cond test CaLink CaCopy)
    by_test true = tt
    by_test false = tt
past-by move claimed CaLink at is = tt
past-by move claimed CaSwitch at is = subst IsPastClaimStage (sym at) tt
past-by move claimed stage at is = absurd is

-- Once a stage is done it has claimed an area.
pub past-left : (at : KeyedChain) (move next : Option MoveNow) → IsSome move
    → IfSome move (λ now. IsAreaStage now.stage) → (old new : List (Option PartNo))
    → IfSome move (λ now. (claimed : ℕ)
    × OwnersBy now.stage (part_no (KeyedShape at)) claimed old new)
    → IfSome move (λ now. (claimed : ℕ)
    → OwnersBy now.stage (part_no (KeyedShape at)) claimed old new → next ≡ left_by now claimed)
    → IsPastClaim next
past-left at None next some is old new by goes = absurd cc
past-left at (Some move) next some is old new by goes = subst IsPastClaim (sym (goes by.0 by.1))
    (past-by move by.0 move.stage refl is)

moved-by : (move : MoveNow) (claimed : ℕ) (stage : StageKind) → stage ≢ CaSwitch
    → left_at stage move claimed ≡ after_by stage move claimed
moved-by move claimed CaSwitch other = absurd (other refl)
moved-by move claimed stage other = refl

-- But for the last stage, after which the chain gets the area first, the next one comes.
pub moved-on : (at : KeyedChain) (move next : Option MoveNow) → IsSome move → (kind : StageKind)
    → IfSome move (λ now. kind ≡ now.stage) → kind ≢ CaSwitch → (old new : List (Option PartNo))
    → IfSome move (λ now. (claimed : ℕ)
    × OwnersBy now.stage (part_no (KeyedShape at)) claimed old new)
    → IfSome move (λ now. (claimed : ℕ)
    → OwnersBy now.stage (part_no (KeyedShape at)) claimed old new → next ≡ left_by now claimed)
    → IfSome move (λ now. (claimed : ℕ) × (next ≡ after_move now claimed))
moved-on at None next some kind is other old new by goes = absurd cc
moved-on at (Some move) next some kind is other old new by goes = (
  by.0,
  goes by.0 by.1 ∙ moved-by move by.0 move.stage (λ same. other (is ∙ same)),
)

-- ---- the areas that the part holds

-- Once a split has claimed an area, the part holds that too.
pub held-past : (areas : List ℕ) (move : Option MoveNow) → IsPastClaim move
    → held_now areas move ≡ held_with areas move
held-past areas None past = refl
held-past areas (Some move) past = by_stage move.stage past
  where
    by_stage : (stage : StageKind) → IsPastClaimStage stage
        → held_at stage areas move.into ≡ held_with areas (Some move)
    by_stage CaCopy there = refl
    by_stage CaLink there = refl
    by_stage CaSwitch there = refl
    by_stage stage there = absurd there
