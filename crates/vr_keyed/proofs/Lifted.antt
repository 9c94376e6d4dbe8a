-- What a call that puts into one area of a keyed part at rest leaves of the part: a stage of a
-- split, or a record that is set.
use Rattle.std.proofs.Common.{◌≡◌, ◌≢◌, ◌≤◌, ◌+◌, ◌*◌, ⊎_elim, inl, inr, ℕ, Bool, List, [], Option}
use Rattle.std.proofs.Common.{Some, None, All, refl, sym, ap, subst, ◌∙◌, arith, length, map}
use Rattle.std.specs.Prelude.{Contains, IfSome, cond}
use Rattle.std.specs.Option.{option_map}
use Rattle.std.proofs.lemmas.Bool.{cases_eq, ne_eqb}
use Rattle.std.proofs.lemmas.List.Elements.{All-head, All-map, All-nil, All-weaker}
use Rattle.vr_types.specs.Content.{Item}
use Rattle.vr_types.specs.Content.Item.{Standing}
use Rattle.vr_types.specs.Image.{Block, Image}
use Rattle.vr_types.specs.Seen.{Left, Seen}
use Rattle.vr_types.specs.declared.unit.StageKind.{StageKind}
use Rattle.vr_space.specs.Areas.{ChainKeepsRoom, KeyedChain, area_for, area_of}
use Rattle.vr_space.specs.Areas.{areas_in, head_in, head_of, intervals_in}
use Rattle.vr_space.specs.Keyed.{InArea, IsHead, entry_in}
use Rattle.vr_space.specs.Known.{Known}
use Rattle.vr_space.specs.Left.{added_by, area_intervals}
use Rattle.vr_space.specs.Met.{IsChainMet, IsMet, Met}
use Rattle.vr_space.specs.Part.{HasRoomFor, IsQuiet, SameStages}
use Rattle.vr_space.specs.Part.{IsRecordOf, Just, KeyedShape, Knows, Nothing, Stands}
use Rattle.vr_space.specs.Room.{Lengths}
use Rattle.vr_space.specs.Moves.{IsPastClaim, MoveUnderWay}
use Rattle.vr_space.specs.Split.{AreaSplit, MoveNow, SplitNow, first_stage, move_stage, split_in}
use Rattle.vr_space.specs.Split.{stage_by, stage_in}
use Rattle.vr_space.specs.UnderWay.{AreaUnderWay}
use Rattle.vr_space.proofs.CallerLemmas.{ChangesArea, PutsInto, adds-puts, areas-apart, found-in}
use Rattle.vr_space.proofs.CallerLemmas.{intervals-changed, intervals-most}
use Rattle.vr_space.proofs.CallerLemmas.{fits-of-area, lift-adds, lift-due, lift-due-at, lift-met}
use Rattle.vr_space.proofs.CallerLemmas.{lift-rest, lift-room, lift-rooms, lift-same, lift-sets}
use Rattle.vr_space.proofs.CallerLemmas.{lift-move, lift-under, record-of-area, rest-here}
use Rattle.vr_space.proofs.CallerLemmas.{no-stage-of-area, resting-for, resting-stands, room-here}
use Rattle.vr_space.proofs.CallerLemmas.{other-blocks, same-area, same-areas, same-known}
use Rattle.vr_space.proofs.CallerLemmas.{under-here}
use Rattle.vr_split.specs.Splits.{AddsEntries}
use Rattle.vr_split.specs.Switching.{IsStageDone, KeepsPart}
use Rattle.vr_attach.specs.Areas.{AreasNow}
use Rattle.vr_keyed.specs.Changed.{IsDoneIn, IsReadyIn, IsSetIn, KeepsIn, MaySetIn}
use Rattle.vr_keyed.specs.Owned.{IsMine, known_by, split_at}
use Rattle.vr_keyed.specs.Ready.{HasRoomToSet, IsReady, IsSetNow, MaySet, again, put_of}
use Rattle.vr_keyed.specs.Setting.{IsRecordHere}
use Rattle.vr_keyed.proofs.Known.{way-there}

-- ---- what was met, once a block is put

-- it is at the same place, of the same block
pub again-mine : (chain : AreasNow) (put : Option ℕ) (bytes : Block) (one : Met)
    → IsMine chain one → IsMine chain (again put bytes one)
again-mine chain None bytes one is = is
again-mine chain (Some n) bytes one is =
    record { area = is.area; is = is.is; inside = is.inside }

pub all-mine : (chain : AreasNow) (put : Option ℕ) (bytes : Block) (mid new : List Met)
    → new ≡ map (again put bytes) mid → All (IsMine chain) mid → All (IsMine chain) new
all-mine chain put bytes mid new same mine =
    subst (All (IsMine chain)) (sym same)
    (All-map (IsMine chain) (again put bytes) mid
    (All-weaker (IsMine chain) (λ one. IsMine chain (again put bytes one))
    (again-mine chain put bytes) mid mine))

-- as it was, where it is none of the blocks that were put
again-other : (put : Option ℕ) (bytes : Block) (one : Met)
    → All (λ (n : ℕ). one.number ≢ n) (put_of put) → again put bytes one ≡ one
again-other None bytes one other = refl
again-other (Some n) bytes one other =
    let apart : one.number ≢ n = All-head (λ (m : ℕ). one.number ≢ m) n [] other in
    ap (λ (test : Bool). record {
      place = one.place;
      range = one.range;
      number = one.number;
      block = cond test bytes one.block;
    }) (ne_eqb one.number n apart)

again-place : (put : Option ℕ) (bytes : Block) (one : Met)
    → (again put bytes one).place ≡ one.place
again-place None bytes one = refl
again-place (Some n) bytes one = refl

-- a block that was met is one of its area
met-inside : (part : KeyedChain) (image : Image) (area : ℕ) (one : Met)
    → IsHead (area_of part area) (head_in part image area) → IsMet (area_of part area) image one
    → InArea (area_of part area) one.number
met-inside part image area one head is =
    let below = found-in (area_of part area) (head_in part image area) one.place
    (one.range, is.entry) head is.leads in
    (omega (arith, is.number), omega (arith, is.number, below))

-- ---- what a call in an area leaves

module _ (part : KeyedChain) (area : ℕ) (old new : Seen) (quiet : IsQuiet (KeyedShape part) old)
    (left : Left old old.cur) (inside : Contains (areas_in part old.cur) area) where
  -- the areas of the part, with a count of its intervals
  abbrev chain_with : List ℕ → List (List ℕ) → ℕ → AreasNow
  chain_with areas ends count =
      record { part = part; areas = areas; ends = ends; intervals = count }

  pub quiet-stands : Stands (KeyedShape part) old.cur
  quiet-stands = resting-stands part quiet.0 old quiet.1 left

  -- ---- a stage of a split

  module _ (kept : Lengths) (keeps : KeepsPart (area_of part area) kept old new) where
    puts : PutsInto part area old new
    puts = adds-puts part area Nothing old new keeps.adds

    changes : ChangesArea part area old.cur new.cur
    changes = record { others = puts.content; ends = keeps.current }

    -- What it keeps in the area it keeps in the part.
    pub stage-keeps : (move : Option MoveNow) → ChainKeepsRoom part kept old
        → KeepsIn part move kept old new
    stage-keeps move room = record {
      adds = λ owners still own.
          lift-adds part owners area old new still left inside Nothing keeps.adds;
      same = lift-same part area old.cur new.cur changes quiet-stands keeps.same;
      room = lift-room part quiet.0 area old new quiet.1 left inside puts kept keeps.room room;
      rooms = λ owners still own. lift-rooms part owners area old new still left inside Nothing kept
          keeps.adds room keeps.rooms;
    }

    -- Once it is done, the split of the interval is under way, none of an area is, and nothing is
    -- met.
    pub stage-done : (areas : List ℕ) (ends : List (List ℕ)) (count next : ℕ)
        (before : Option AreaSplit) (split : Option SplitNow) (move : Option MoveNow)
        (met after : List Met)
        → Knows (KeyedShape part) (known_by (chain_with areas ends count) before move met) old
        → IsStageDone (area_of part area) old new → AreaUnderWay (area_of part area) split new
        → move ≡ None → after ≡ [] → next ≡ intervals_in part new.cur
        → IsDoneIn part move
        (known_by (chain_with areas ends next) (split_at area split) move after) old new
    stage-done areas ends count next before split move met after knows done way no_move none counts
        = record {
          due = lift-due part quiet.0 area old new quiet.1 left inside puts changes [] done.due;
          rests = λ owners still own.
              lift-rest part owners area old new still left inside puts done.rests;
          knows = record {
            way = (
              way-there part area split new
                  (subst (λ (those : List ℕ). Contains those area)
                  (sym (same-areas part area old.cur new.cur changes)) inside)
                  way,
              subst (λ (one : Option MoveNow). MoveUnderWay part one new) (sym no_move) tt,
              inr no_move,
              subst IsPastClaim (sym no_move) tt,
            );
            blocks = (
              same-known part area old.cur new.cur changes areas ends knows.blocks.0,
              subst (All (IsChainMet part new.cur)) (sym none) (All-nil (IsChainMet part new.cur)),
              counts,
            );
          };
        }

    -- Its blocks stand for a content then,
    pub done-stands : IsStageDone (area_of part area) old new → Left new new.cur
        → Stands (KeyedShape part) new.cur
    done-stands done after = resting-stands part quiet.0 new
        (lift-rest part quiet.0 area old new quiet.1 left inside puts done.rests) after

    -- its heads lead to at most the intervals of its areas,
    pub done-within : IsStageDone (area_of part area) old new → Left new new.cur
        → intervals_in part new.cur ≤ length (areas_in part old.cur) * area_intervals part
    done-within done after = subst
        (λ (those : List ℕ). intervals_in part new.cur ≤ length those * area_intervals part)
        (same-areas part area old.cur new.cur changes)
        (intervals-most part new.cur (done-stands done after))

    -- and they lead to as many more as the stage adds.
    pub stage-counts : (kind : StageKind) → AddsEntries (area_of part area) kind old.cur new.cur
        → intervals_in part new.cur ≡ intervals_in part old.cur + added_by kind
    stage-counts kind adds = intervals-changed part old.cur new.cur area (added_by kind)
        quiet-stands changes inside adds

  -- ---- a record that is set

  -- There is room in the area where there is in the part,
  room-to-set : (known : Known) (image : Image) (kept : Lengths) (place : List ℕ)
      → area_for part image place ≡ Some area → (bytes : Option (List ℕ))
      → HasRoomFor (KeyedShape part) known image kept place bytes
      → HasRoomToSet (area_of part area) image kept place bytes
  room-to-set known image kept place found None room = tt
  room-to-set known image kept place found (Some bytes) room = ⊎_elim
      (λ fits. inl (sym (fits-of-area part image kept place (length bytes) area found) ∙ fits))
      (λ covered. inr covered)
      room

  valid-here : (place : List ℕ) (bytes : Option (List ℕ))
      → IfSome bytes (IsRecordOf (KeyedShape part) place)
      → IfSome bytes (IsRecordHere (area_of part area) place)
  valid-here place None valid = tt
  valid-here place (Some bytes) valid = record-of-area part area place bytes valid

  -- so what may be set in the part may be set in the area.
  pub ready-here : (known : Known) (kept : Lengths) (place : List ℕ) (bytes : Option (List ℕ))
      → area_for part old.cur place ≡ Some area → IsReadyIn part known kept place bytes old
      → IsReady (area_of part area) kept (split_in known.split area) place bytes old
  ready-here known kept place bytes found ready = record {
    rests = rest-here part quiet.0 old quiet.1 left area inside;
    room = room-here part quiet.0 old quiet.1 left kept ready.room area inside;
    way = under-here part known.split area old ready.knows.way.0;
    can = record {
      no_stage = (no-stage-of-area part known.split known.move old.cur place area found
          ready.can.no_stage).1;
      room = room-to-set known old.cur kept place found bytes ready.can.room;
    };
    valid = valid-here place bytes ready.valid;
  }

  module _ (kept : Lengths) (place : List ℕ) (bytes : Option (List ℕ))
      (may : MaySet (area_of part area) kept place bytes old new) where
    abbrev added : List ℕ → Option Item → Type 0
    added = Just place (option_map Standing bytes)

    set-puts : PutsInto part area old new
    set-puts = adds-puts part area added old new may.adds

    set-changes : ChangesArea part area old.cur new.cur
    set-changes = record { others = set-puts.content; ends = may.current }

    -- the heads lead to as many intervals,
    set-counts : intervals_in part new.cur ≡ intervals_in part old.cur
    set-counts = omega (
      arith,
      intervals-changed part old.cur new.cur area 0 quiet-stands set-changes
          inside (omega (arith, may.counts)),
    )

    -- What it adds in the area it adds in the part.
    pub may-set : ChainKeepsRoom part kept old → MaySetIn part kept place bytes old new
    may-set room = record {
      adds = λ owners still.
          lift-adds part owners area old new still left inside added may.adds;
      room = lift-room part quiet.0 area old new quiet.1 left inside set-puts kept may.room room;
      rooms = λ owners still. lift-rooms part owners area old new still left inside added kept
          may.adds room may.rooms;
    }

    -- what was met stays met where that of the area does,
    again-met : (put : Option ℕ) (block : Block)
        → All (InArea (area_of part area)) (put_of put) → (one : Met)
        → (IsMet (area_of part area) old.cur one
        → IsMet (area_of part area) new.cur (again put block one))
        → IsChainMet part old.cur one → IsChainMet part new.cur (again put block one)
    again-met put block within one here is = ⊎_elim
        (λ same. record {
          area = area;
          there = ap (area_for part new.cur) (again-place put block one)
              ∙ same-area part area old.cur new.cur set-changes one.place ∙ is.there
              ∙ ap Some same;
          is_met = here (subst (λ (at : ℕ). IsMet (area_of part at) old.cur one) same is.is_met);
        })
        (λ differ.
        let resting = resting-for part quiet.0 old quiet.1 left one.place is.area is.there in
        let head : IsHead (area_of part is.area) (head_in part old.cur is.area) =
        resting.1.heads (head_in part old.cur is.area)
        (left.each (head_of part is.area) (omega (arith, resting.1.area))) in
        let its : InArea (area_of part is.area) one.number =
        met-inside part old.cur is.area one head is.is_met in
        subst (IsChainMet part new.cur)
        (sym (again-other put block one
        (All-weaker (InArea (area_of part area)) (λ (n : ℕ). one.number ≢ n)
        (λ n there same. areas-apart part is.area area n differ
        (subst (InArea (area_of part is.area)) same its) there)
        (put_of put) within)))
        (lift-met part quiet.0 area old new quiet.1 left set-puts set-changes one is
        (λ found.
        let both : Some is.area ≡ Some area = sym is.there ∙ found in
        let it : is.area ≡ area = cc in
        absurd (differ it))))
        (cases_eq is.area area)

    -- each place waits for the stage that it waited for, since the heads are as they were,
    same-stages : (known : Known)
        → head_in part new.cur area ≡ head_in part old.cur area
        → SameStages (KeyedShape part) known known old.cur new.cur
    same-stages known head at =
        ap (stage_by part known.split known.move new.cur at)
        (same-area part area old.cur new.cur set-changes at)
        ∙ by_found (area_for part old.cur at)
      where
        head-is : (one : ℕ) → head_in part new.cur one ≡ head_in part old.cur one
        head-is one = ⊎_elim
            (λ same. subst (λ (it : ℕ). head_in part new.cur it ≡ head_in part old.cur it)
            (sym same) head)
            (λ differ. other-blocks part area old.cur new.cur set-changes one differ
            (head_of part one) (omega arith, omega arith))
            (cases_eq one area)

        by_found : (found : Option ℕ) → stage_by part known.split known.move new.cur at found
            ≡ stage_by part known.split known.move old.cur at found
        by_found None = refl
        by_found (Some one) = ap (λ (top : Block). first_stage (move_stage known.move one)
            (stage_in (split_in known.split one) (entry_in top at))) (head-is one)

    -- and the record is set in the part as it is in the area, which waits for no split of it.
    pub is-set : (areas : List ℕ) (ends : List (List ℕ)) (count : ℕ) (split : Option AreaSplit)
        (move : Option MoveNow) (met mid after : List Met) (put : Option ℕ) (block : Block)
        → area_for part old.cur place ≡ Some area
        → Knows (KeyedShape part) (known_by (chain_with areas ends count) split move met) old
        → move_stage move area ≡ None
        → All (IsChainMet part old.cur) mid → after ≡ map (again put block) mid
        → All (InArea (area_of part area)) (put_of put)
        → ((one : Met) → IsMet (area_of part area) old.cur one
        → IsMet (area_of part area) new.cur (again put block one))
        → IsSetNow (area_of part area) (split_in split area) (put_of put) place bytes old new
        → IsSetIn part (known_by (chain_with areas ends count) split move after) (put_of put) place
        bytes old new
    is-set areas ends count split move met mid after put block found knows waits were same within
        stays done = record {
          set = lift-sets part area old.cur new.cur set-changes quiet-stands place bytes found
              done.set;
          due = lift-due-at part quiet.0 area old new quiet.1 left inside set-puts set-changes place
              (put_of put) done.due;
          rests = λ owners still.
              lift-rest part owners area old new still left inside set-puts done.rests;
          knows = record {
            way = (
              lift-under part quiet.0 area old new quiet.1 left set-puts set-changes split
                  knows.way.0 done.way,
              lift-move part quiet.0 area old new quiet.1 left set-puts set-changes move inside
                  waits knows.way.1,
              knows.way.2,
              knows.way.3,
            );
            blocks = (
              same-known part area old.cur new.cur set-changes areas ends knows.blocks.0,
              subst (All (IsChainMet part new.cur)) (sym same)
                  (All-map (IsChainMet part new.cur) (again put block) mid
                  (All-weaker (IsChainMet part old.cur)
                  (λ one. IsChainMet part new.cur (again put block one))
                  (λ one. again-met put block within one (stays one)) mid were)),
              knows.blocks.2 ∙ sym set-counts,
            );
          };
          stages = same-stages (known_by (chain_with areas ends count) split move after) done.head;
        }
