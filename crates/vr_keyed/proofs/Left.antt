-- How many stages a keyed part may still do: each that is done leaves fewer of them.
use Rattle.std.proofs.Common.{◌≡◌, ◌<◌, ◌≤◌, ◌+◌, ◌-◌, ◌*◌, inl, inr, ℕ, Bool, true}
use Rattle.std.proofs.Common.{false, List, [], ◌∷◌, length, Option, Some, None, refl, sym}
use Rattle.std.proofs.Common.{ap, subst, ◌∙◌, arith, get_or}
use Rattle.std.specs.Prelude.{IfSome, cond, is_none, nat_eq}
use Rattle.std.proofs.Math.Nat.{mul-le-mul_left}
use Rattle.std.proofs.lemmas.Bool.{eqb-true}
use Rattle.std.proofs.lemmas.List.{length-append}
use Rattle.std.proofs.lemmas.List.Quantifiers.{position-Some}
use Rattle.vr_types.specs.Seen.{Seen}
use Rattle.vr_types.specs.Space.{free_count}
use Rattle.vr_types.specs.declared.unit.PartNo.{PartNo}
use Rattle.vr_types.specs.declared.unit.StageKind.{StageKind}
use Rattle.vr_types.specs.declared.unit.StageKind.TheVariants.{CaClaim, CaCopy, CaLink, CaSwitch}
use Rattle.vr_types.specs.declared.unit.StageKind.TheVariants.{CiClean, CiCopy, CiSwitch}
use Rattle.vr_space.specs.Areas.{KeyedChain}
use Rattle.vr_space.specs.Known.{Known, held_with}
use Rattle.vr_space.specs.Left.{added_by, area_intervals, area_left, left_at, left_from}
use Rattle.vr_space.specs.Met.{Met}
use Rattle.vr_space.specs.Moves.{IsMoving, IsPastClaim, IsPastClaimStage, IsReadyTo, MoveUnderWay}
use Rattle.vr_space.specs.Moves.{moving}
use Rattle.vr_space.specs.Part.{HasMore, IsClaimed, KeepsChain, KeyedShape, left_of, part_no}
use Rattle.vr_space.specs.Split.{AreaSplit, MoveNow, SplitNow}
use Rattle.vr_attach.specs.Areas.{AreasNow}
use Rattle.vr_attach.proofs.CallerLemmas.{free-fewer}
use Rattle.vr_split.specs.Splits.{after_stage, split_by, stage_after, stage_now}
use Rattle.vr_casplit.specs.Splits.{after_by, after_move, begun_at}
use Rattle.vr_keyed.specs.Advance.{IsLater, IsLaterStage}
use Rattle.vr_keyed.specs.Owned.{counted_by, known_by, split_at, stage_of_move}

-- ---- a split of an interval

-- The copy is the stage that a part without a split counts,
pub copy-fewer : (chain : AreasNow) (area free : ℕ) (next : Option SplitNow) (old new : List Met)
    → stage_now next ≡ Some CiSwitch
    → HasMore (KeyedShape chain.part) CiCopy (known_by chain None None old)
    (known_by chain (split_at area next) None new) free free
copy-fewer chain area free None old new is = absurd cc
copy-fewer chain area free (Some split) old new is =
    let switch : split.stage ≡ CiSwitch = cc in
    record {
      fewer = omega (arith, ap left_from switch);
      used = omega arith;
    }

-- and then the switch uses an interval more, which counts three.
pub split-fewer : (chain : AreasNow) (area free next : ℕ) (split : SplitNow) (old new : List Met)
    → IsLaterStage split.stage → next ≡ chain.intervals + added_by split.stage
    → next ≤ length chain.areas * area_intervals chain.part
    → HasMore (KeyedShape chain.part) split.stage
    (known_by chain (split_at area (Some split)) None old)
    (known_by (record chain { intervals = next }) (split_at area (after_stage (Some split))) None
    new) free free
split-fewer chain area free next split old new later adds most = record {
  fewer = by_stage split.stage later adds;
  used = adds;
}
  where
    before : StageKind → ℕ
    before stage =
        3 * ((length chain.areas + free) * area_intervals chain.part - chain.intervals)
        + left_from stage + 0 + (area_intervals chain.part + 5) * free

    after : StageKind → ℕ
    after stage = left_of (KeyedShape chain.part)
        (known_by (record chain { intervals = next })
        (split_at area (split_by (stage_after stage) split.old split.into split.cut)) None new) free

    by_stage : (stage : StageKind) → IsLaterStage stage → next ≡ chain.intervals + added_by stage
        → after stage < before stage
    by_stage CiSwitch is more = omega (arith, more, most)
    by_stage CiClean is more = omega (arith, more)
    by_stage stage is more = absurd is

-- So each stage of a split under way leaves fewer, where what it adds is counted.
pub stage-fewer : (chain after : AreasNow) (area free : ℕ) (split next : Option SplitNow)
    (move : Option MoveNow) (kind : StageKind) (old new : List Met) → IsLater split
    → stage_now split ≡ Some kind → next ≡ after_stage split → move ≡ None
    → after ≡ record chain { intervals = counted_by kind chain.intervals }
    → counted_by kind chain.intervals ≡ chain.intervals + added_by kind
    → counted_by kind chain.intervals ≤ length chain.areas * area_intervals chain.part
    → HasMore (KeyedShape chain.part) kind (known_by chain (split_at area split) move old)
    (known_by after (split_at area next) move new) free free
stage-fewer chain after area free None next move kind old new later is goes still counts adds most =
    absurd cc
stage-fewer chain after area free (Some split) next move kind old new later is goes still counts
    adds most =
    let stage : split.stage ≡ kind = cc in
    let start : Known = known_by chain (split_at area (Some split)) None old in
    let from : (one : StageKind) → split.stage ≡ one
    → counted_by one chain.intervals ≡ chain.intervals + added_by one
    → counted_by one chain.intervals ≤ length chain.areas * area_intervals chain.part
    → HasMore (KeyedShape chain.part) one start
    (known_by (record chain { intervals = counted_by one chain.intervals })
    (split_at area (after_stage (Some split))) None new) free free =
    λ one same more within. subst (λ (at : StageKind). HasMore (KeyedShape chain.part) at start
    (known_by (record chain { intervals = counted_by one chain.intervals })
    (split_at area (after_stage (Some split))) None new) free free) same
    (split-fewer chain area free (counted_by one chain.intervals) split old new later
    (more ∙ ap (λ (at : StageKind). chain.intervals + added_by at) (sym same)) within) in
    subst (λ (one : Option MoveNow). HasMore (KeyedShape chain.part) kind
    (known_by chain (split_at area (Some split)) one old)
    (known_by after (split_at area next) one new) free free) (sym still)
    (subst (λ (one : Option SplitNow). HasMore (KeyedShape chain.part) kind start
    (known_by after (split_at area one) None new) free free) (sym goes)
    (subst (λ (one : AreasNow). HasMore (KeyedShape chain.part) kind start
    (known_by one (split_at area (after_stage (Some split))) None new) free free) (sym counts)
    (from kind stage adds most)))

-- ---- a split of an area

-- Its own stages are one fewer.
area-fewer : (move : MoveNow) (claimed : ℕ) (stage : StageKind) → IsPastClaimStage stage
    → (stage ≡ CaCopy → move.copied < moving move)
    → area_left (after_by stage move claimed) < left_at stage move
area-fewer move claimed CaCopy past counted =
    by_test (nat_eq (move.copied + 1) (moving move)) refl
  where
    by_test : (test : Bool) → nat_eq (move.copied + 1) (moving move) ≡ test
        → left_at (cond test CaLink CaCopy) (record move {
          copied = move.copied + 1;
          stage = cond test CaLink CaCopy;
        })
        < moving move - move.copied + 2
    by_test true last =
        omega (arith, eqb-true (move.copied + 1) (moving move) last, counted refl)
    by_test false more = omega (arith, counted refl)
area-fewer move claimed CaLink past counted = omega arith
area-fewer move claimed CaSwitch past counted = omega arith
area-fewer move claimed stage past counted = absurd past

adds-none : (stage : StageKind) → IsPastClaimStage stage → added_by stage ≡ 0
adds-none CaCopy past = refl
adds-none CaLink past = refl
adds-none CaSwitch past = refl
adds-none stage past = absurd past

-- A stage after the claim uses no interval, and the part and the volume have as many areas as
-- before.
pub move-fewer : (chain after : AreasNow) (move : MoveNow) (claimed free now : ℕ)
    (old new : List Met) → IsPastClaimStage move.stage
    → (move.stage ≡ CaCopy → move.copied < moving move) → after.intervals ≡ chain.intervals
    → length (held_with after.areas (after_move move claimed)) + now
    ≡ length (held_with chain.areas (Some move)) + free
    → now ≤ free
    → HasMore (KeyedShape chain.part) move.stage (known_by chain None (Some move) old)
    (known_by after None (after_move move claimed) new) free now
move-fewer chain after move claimed free now old new past counted uses holds least = record {
  fewer = omega (
    arith,
    ap (λ (many : ℕ). many * area_intervals chain.part) holds,
    area-fewer move claimed move.stage past counted,
    mul-le-mul_left (area_intervals chain.part + 5) least,
    uses,
  );
  used = omega (arith, uses, adds-none move.stage past);
}

-- The claim takes a free area, which counts more than the stages that are left then.
pub claim-fewer : (chain after : AreasNow) (area entries stay claimed free now : ℕ)
    (old new : List Met) → entries ≤ area_intervals chain.part → now + 1 ≡ free
    → after.intervals ≡ chain.intervals
    → length (held_with after.areas (after_move (begun_at area entries stay) claimed))
    ≡ length chain.areas + 1
    → HasMore (KeyedShape chain.part) CaClaim (known_by chain None None old)
    (known_by after None (after_move (begun_at area entries stay) claimed) new) free now
claim-fewer chain after area entries stay claimed free now old new few takes uses holds =
    subst (λ (many : ℕ). HasMore (KeyedShape chain.part) CaClaim (known_by chain None None old)
    (known_by after None (after_move (begun_at area entries stay) claimed) new) many now) takes
    (record {
      fewer = omega (
        arith,
        ap (λ (many : ℕ). (many + now) * area_intervals chain.part) holds,
        few,
        uses,
      );
      used = omega (arith, uses);
    })

-- ---- the areas that the part holds, and the free ones

none-is : {X : Type 0} (one : Option X) → is_none one ≡ true → one ≡ None
none-is None is = refl
none-is (Some x) is = cc

-- One that is claimed is no longer free.
pub claimed-fewer : (part : PartNo) (old new : List (Option PartNo)) → IsClaimed part old new
    → free_count new + 1 ≡ free_count old
claimed-fewer part old new claimed =
    let at = position-Some is_none old claimed.0 None claimed.1 in
    subst (λ (owners : List (Option PartNo)). free_count owners + 1 ≡ free_count old)
    (sym claimed.2)
    (free-fewer old claimed.0 part at.0 (none-is (get_or old claimed.0 None) at.1))

-- Together they are as many as before, and none becomes free.
pub record HoldsAll (areas after : List ℕ) (free now : ℕ) : Type 0 where
  pub all : length after + now ≡ length areas + free
  pub least : now ≤ free

pub holds-all : (part : KeyedChain) (areas after : List ℕ) (old new : List (Option PartNo))
    → KeepsChain (KeyedShape part) areas after old new
    → HoldsAll areas after (free_count old) (free_count new)
holds-all part areas after old new (inl same) =
    let free : free_count new ≡ free_count old = ap free_count same.1 in
    record { all = omega (arith, same.0.many, free); least = omega (arith, free) }
holds-all part areas after old new (inr more) =
    let free : free_count new + 1 ≡ free_count old =
    claimed-fewer (part_no (KeyedShape part)) old new (more.area, more.least, more.owned) in
    record {
      all = omega (
        arith,
        ap (λ (one : List ℕ). length one) more.more,
        length-append areas (more.area ∷ []),
        free,
      );
      least = omega (arith, free);
    }

-- Where one was claimed the part holds it.
pub holds-claimed : (part : KeyedChain) (areas after : List ℕ) (old new : List (Option PartNo))
    → KeepsChain (KeyedShape part) areas after old new
    → IsClaimed (part_no (KeyedShape part)) old new → length after ≡ length areas + 1
holds-claimed part areas after old new keeps claimed = omega (
  arith,
  (holds-all part areas after old new keeps).all,
  claimed-fewer (part_no (KeyedShape part)) old new claimed,
)

-- ---- a stage of the split of an area that is under way, as it is done

stage-copies : (part : KeyedChain) (move : MoveNow) (now : Seen) → IsMoving part move now
    → move.stage ≡ CaCopy → move.copied < moving move
stage-copies part move now way is =
    (subst (λ (stage : StageKind). IsReadyTo stage part move now) is way.ready).1

pub moving-fewer : (chain after : AreasNow) (seen : Seen) (split : Option AreaSplit)
    (move next : Option MoveNow) (kind : StageKind) (free now : ℕ) (old new : List Met)
    → split ≡ None → IsPastClaim move → MoveUnderWay chain.part move seen
    → stage_of_move move ≡ Some kind
    → IfSome move (λ one. (claimed : ℕ) × (next ≡ after_move one claimed))
    → after.intervals ≡ chain.intervals
    → HoldsAll (held_with chain.areas move) (held_with after.areas next) free now
    → HasMore (KeyedShape chain.part) kind (known_by chain split move old)
    (known_by after split next new) free now
moving-fewer chain after seen split None next kind free now old new none past way is goes uses
    holds = absurd cc
moving-fewer chain after seen split (Some move) next kind free now old new none past way is goes
    uses holds =
    let stage : move.stage ≡ kind = cc in
    let step : Option MoveNow = after_move move goes.0 in
    let total : HoldsAll (held_with chain.areas (Some move)) (held_with after.areas step) free now =
    subst (λ (one : Option MoveNow). HoldsAll (held_with chain.areas (Some move))
    (held_with after.areas one) free now) goes.1 holds in
    subst (λ (one : Option AreaSplit). HasMore (KeyedShape chain.part) kind
    (known_by chain one (Some move) old) (known_by after one next new) free now) (sym none)
    (subst (λ (one : Option MoveNow). HasMore (KeyedShape chain.part) kind
    (known_by chain None (Some move) old) (known_by after None one new) free now) (sym goes.1)
    (subst (λ (one : StageKind). HasMore (KeyedShape chain.part) one
    (known_by chain None (Some move) old) (known_by after None step new) free now) stage
    (move-fewer chain after move goes.0 free now old new past
    (stage-copies chain.part move seen way) uses total.all total.least)))

-- the same of the claim, with which a split begins
pub claiming-fewer : (chain after : AreasNow) (split : Option AreaSplit)
    (start next : Option MoveNow) (area entries stay : ℕ) (kind : StageKind)
    (owners taken : List (Option PartNo)) (old new : List Met) → split ≡ None
    → start ≡ Some (begun_at area entries stay) → entries ≤ area_intervals chain.part
    → stage_of_move start ≡ Some kind
    → IfSome start (λ one. (claimed : ℕ) × (next ≡ after_move one claimed))
    → after.intervals ≡ chain.intervals
    → KeepsChain (KeyedShape chain.part) chain.areas (held_with after.areas next) owners taken
    → (stage_of_move start ≡ Some CaClaim
    → IsClaimed (part_no (KeyedShape chain.part)) owners taken)
    → HasMore (KeyedShape chain.part) kind (known_by chain split None old)
    (known_by after split next new) (free_count owners) (free_count taken)
claiming-fewer chain after split start next area entries stay kind owners taken old new none begun
    few is goes uses keeps claims =
    let claim : stage_of_move start ≡ Some CaClaim = ap stage_of_move begun in
    let both : Some CaClaim ≡ Some kind = sym claim ∙ is in
    let stage : CaClaim ≡ kind = cc in
    let claimed : IsClaimed (part_no (KeyedShape chain.part)) owners taken = claims claim in
    let step : (one : ℕ) × (next ≡ after_move (begun_at area entries stay) one) =
    subst (λ (now : Option MoveNow). IfSome now (λ one. (claimed : ℕ)
    × (next ≡ after_move one claimed))) begun goes in
    let last : Option MoveNow = after_move (begun_at area entries stay) step.0 in
    let many : length (held_with after.areas last) ≡ length chain.areas + 1 =
    ap (λ (one : Option MoveNow). length (held_with after.areas one)) (sym step.1)
    ∙ holds-claimed chain.part chain.areas (held_with after.areas next) owners taken keeps claimed
    in
    subst (λ (one : Option AreaSplit). HasMore (KeyedShape chain.part) kind
    (known_by chain one None old) (known_by after one next new) (free_count owners)
    (free_count taken)) (sym none)
    (subst (λ (one : Option MoveNow). HasMore (KeyedShape chain.part) kind
    (known_by chain None None old) (known_by after None one new) (free_count owners)
    (free_count taken)) (sym step.1)
    (subst (λ (one : StageKind). HasMore (KeyedShape chain.part) one (known_by chain None None old)
    (known_by after None last new) (free_count owners) (free_count taken)) stage
    (claim-fewer chain after area entries stay step.0 (free_count owners) (free_count taken) old new
    few (claimed-fewer (part_no (KeyedShape chain.part)) owners taken claimed) uses many)))
