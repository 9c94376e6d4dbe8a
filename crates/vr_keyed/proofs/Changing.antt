-- Changes in a part by what they are in one area: which stage comes before a record that lacks
-- room.
use Rattle.std.proofs.Common.{◌≡◌, ℕ, Bool, true, false, List, Option, Some, None, refl, sym, ap}
use Rattle.std.proofs.Common.{◌∙◌, subst, true≢false}
use Rattle.std.specs.Prelude.{IfOk, IsSome, OnErr, cond, nat_eq, slice_index, ◌||◌}
use Rattle.std.specs.Option.{is_some}
use Rattle.std.specs.declared.result.Result.{Result}
use Rattle.std.specs.declared.result.Result.TheVariants.{Ok, Err}
use Rattle.vr_types.specs.Image.{Image}
use Rattle.vr_types.specs.declared.unit.StageKind.{StageKind}
use Rattle.vr_types.specs.declared.unit.StageKind.TheVariants.{CaClaim, CiCopy, CiSwitch, CiClean}
use Rattle.vr_seqset.specs.Entry.{Entry}
use Rattle.vr_space.specs.declared.room.Room.TheVariants.{Stage}
use Rattle.vr_space.specs.Areas.{KeyedChain, area_for, area_of, head_in}
use Rattle.vr_space.specs.Keyed.{entry_in}
use Rattle.vr_space.specs.Room.{Lengths, Range}
use Rattle.vr_space.specs.Split.{AreaSplit, MoveNow, SplitNow, area_fits, area_stage, can_grow}
use Rattle.vr_space.specs.Split.{free_interval, keyed_room, keyed_room_by, move_stage, room_after}
use Rattle.vr_space.specs.Split.{room_by, room_by_split, split_in, stage_in}
use Rattle.vr_split.specs.Splits.{after_fault, split_by, stage_again}
use Rattle.vr_split.specs.Splits.{stage_now}
use Rattle.vr_split.specs.Splits.{split_at as split_of}
use Rattle.vr_keyed.specs.Advance.{IsDue, IsLater, IsLaterStage}
use Rattle.vr_keyed.specs.Owned.{split_at, stage_of_move}

-- ---- answers

-- what is so of each answer, and where there is none
pub by-result : {X E : Type 0} (r : Result X E) (P : X → Type 0) (Q R : Type 0)
    → ((x : X) → P x → R) → (Q → R) → IfOk r P → OnErr r Q → R
by-result (Ok x) P Q R good bad is none = good x is
by-result (Err e) P Q R good bad is none = bad none

pub ok-and : {X E : Type 0} (r : Result X E) (P Q : X → Type 0) → IfOk r P → IfOk r Q
    → IfOk r (λ x. P x × Q x)
ok-and (Ok x) P Q one other = (one, other)
ok-and (Err e) P Q one other = tt

-- ---- whether a split is under way

pub is-under : (next : Option StageKind) (some : Bool) (split : Option SplitNow)
    → next ≡ stage_now split → some ≡ is_some next → some ≡ true → IsSome split
is-under next some None same tests is = absurd (true≢false
    (sym is ∙ tests ∙ ap (λ (stage : Option StageKind). is_some stage) same))
is-under next some (Some split) same tests is = refl

pub none-under : (next : Option StageKind) (some : Bool) (split : Option SplitNow)
    → next ≡ stage_now split → some ≡ is_some next → some ≡ false → split ≡ None
none-under next some None same tests is = refl
none-under next some (Some split) same tests is = absurd (true≢false
    (sym (tests ∙ ap (λ (stage : Option StageKind). is_some stage) same) ∙ is))

-- the same of a split of an area
pub is-moving : (next : Option StageKind) (some : Bool) (move : Option MoveNow)
    → next ≡ stage_of_move move → some ≡ is_some next → some ≡ true → IsSome move
is-moving next some None same tests is = absurd (true≢false
    (sym is ∙ tests ∙ ap (λ (stage : Option StageKind). is_some stage) same))
is-moving next some (Some move) same tests is = refl

-- the next stage of a split whose copy is done comes after the copy
pub later-stage : (split : Option SplitNow) (kind : StageKind) → IsLater split
    → stage_now split ≡ Some kind → IsLaterStage kind
later-stage None kind later is = absurd cc
later-stage (Some split) kind later is =
    let same : split.stage ≡ kind = cc in subst IsLaterStage same later

-- a stage that fails leaves a split whose copy is done as it was
pub fault-same : (split : Option SplitNow) → IsLater split → after_fault split ≡ split
fault-same None later = refl
fault-same (Some split) later = by_stage split.stage refl later
  where
    same : (stage : StageKind) → split.stage ≡ stage
        → Some (split_of split.old split.into split.cut stage) ≡ Some split
    same stage is = ap (λ (at : StageKind). Some (split_of split.old split.into split.cut at))
        (sym is)

    by_stage : (stage : StageKind) → split.stage ≡ stage → IsLaterStage stage
        → split_by (stage_again stage) split.old split.into split.cut ≡ Some split
    by_stage CiSwitch is later = same CiSwitch is
    by_stage CiClean is later = same CiClean is
    by_stage stage is later = absurd later

-- ---- the stage that comes before a record

-- of a split that is under way
due-split : (wait here : Option StageKind) (fits : Bool) (free : Option ℕ) (grows : Bool)
    (now kind : StageKind) → ((stage : StageKind) → wait ≡ Some stage → stage ≡ now)
    → ((stage : StageKind) → here ≡ Some stage → stage ≡ now)
    → room_after wait (room_after here (room_by fits (room_by_split (Some now) free grows)))
    ≡ Stage kind → kind ≡ now
due-split (Some stage) here fits free grows now kind waits same is =
    let it : stage ≡ kind = cc in sym it ∙ waits stage refl
due-split None (Some stage) fits free grows now kind waits same is =
    let it : stage ≡ kind = cc in sym it ∙ same stage refl
due-split None None true free grows now kind waits same is = absurd cc
due-split None None false free grows now kind waits same is =
    let it : now ≡ kind = cc in sym it

-- or the first of a new one: of the interval, or of its area where none of its intervals is free
abbrev pub IsNew : Option ℕ → Bool → StageKind → Type 0
IsNew (Some n) grows kind = kind ≡ CiCopy
IsNew None grows kind = (kind ≡ CaClaim) × (grows ≡ true)

due-new : (here : Option StageKind) (fits : Bool) (free : Option ℕ) (grows : Bool)
    (kind : StageKind) → here ≡ None
    → room_after here (room_by fits (room_by_split None free grows)) ≡ Stage kind
    → IsNew free grows kind
due-new (Some stage) fits free grows kind none is = absurd cc
due-new None true free grows kind none is = absurd cc
due-new None false None false kind none is = absurd cc
due-new None false None true kind none is = let it : CaClaim ≡ kind = cc in (sym it, refl)
due-new None false (Some n) grows kind none is = let it : CiCopy ≡ kind = cc in sym it

-- a record that lacks room has a stage before it
due-lacks : (here : Option StageKind) (fits : Bool) (free : Option ℕ) (grows : Bool)
    (kind : StageKind) → here ≡ None
    → room_after here (room_by fits (room_by_split None free grows)) ≡ Stage kind → fits ≡ false
due-lacks (Some stage) fits free grows kind none is = absurd cc
due-lacks None true free grows kind none is = absurd cc
due-lacks None false free grows kind none is = refl

-- the copy of a new split, where an interval is free
copies : (here : Option StageKind) (fits : Bool) (free : Option ℕ) (grows : Bool) → here ≡ None
    → fits ≡ false → IsSome free
    → room_after here (room_by fits (room_by_split None free grows)) ≡ Stage CiCopy
copies (Some stage) fits free grows none lacks some = absurd cc
copies None true free grows none lacks some = absurd cc
copies None false None grows none lacks some = absurd cc
copies None false (Some n) grows none lacks some = refl

-- the stage at an entry is that of the split
stage-of-split : (split : SplitNow) (found : Option (Range × Entry)) (kind : StageKind)
    → stage_in (Some split) found ≡ Some kind → kind ≡ split.stage
stage-of-split split None kind is = absurd cc
stage-of-split split (Some at) kind is =
    by_test (nat_eq (slice_index at.1.intervals 0) split.old
    || nat_eq (slice_index at.1.intervals 0) split.into) is
  where
    by_test : (test : Bool) → cond test (Some split.stage) None ≡ Some kind → kind ≡ split.stage
    by_test true same = let it : split.stage ≡ kind = cc in sym it
    by_test false same = absurd cc

stage-there : (now : AreaSplit) (area : ℕ) (found : Option (Range × Entry)) (kind : StageKind)
    → stage_in (split_in (Some now) area) found ≡ Some kind → kind ≡ now.split.stage
stage-there now area found kind = by_test (nat_eq now.area area)
  where
    none : (at : Option (Range × Entry)) → stage_in None at ≡ Some kind → kind ≡ now.split.stage
    none None is = absurd cc
    none (Some at) is = absurd cc

    by_test : (test : Bool) → stage_in (cond test (Some now.split) None) found ≡ Some kind
        → kind ≡ now.split.stage
    by_test true is = stage-of-split now.split found kind is
    by_test false is = none found is

stage-none : (found : Option (Range × Entry)) → stage_in None found ≡ None
stage-none None = refl
stage-none (Some at) = refl

-- so is the one that the places of an area wait for
wait-there : (move : MoveNow) (area : ℕ) (kind : StageKind)
    → move_stage (Some move) area ≡ Some kind → kind ≡ move.stage
wait-there move area kind = by_test (nat_eq move.area area)
  where
    by_test : (test : Bool) → cond test (Some move.stage) None ≡ Some kind → kind ≡ move.stage
    by_test true is = let it : move.stage ≡ kind = cc in sym it
    by_test false is = absurd cc

none-some : {X : Type 0} (x : X) → None ≡ Some x → ⊥
none-some x is = cc

-- Where a split is under way, wherever it is, no other stage is due than its next.
stage-due : (part : KeyedChain) (now : AreaSplit) (image : Image) (free : ℕ) (kept : Lengths)
    (place : List ℕ) (n : ℕ) (kind : StageKind)
    → keyed_room part (Some now) None image free kept place n ≡ Stage kind
    → kind ≡ now.split.stage
stage-due part now image free kept place n kind = by_found (area_for part image place)
  where
    by_found : (found : Option ℕ)
        → keyed_room_by part (Some now) None image free kept place n found ≡ Stage kind
        → kind ≡ now.split.stage
    by_found None is = absurd cc
    by_found (Some area) is = due-split None
        (area_stage (area_of part area) (split_in (Some now) area) image place)
        (area_fits (area_of part area) image kept place n)
        (free_interval (area_of part area) (head_in part image area))
        (can_grow free (head_in part image area)) now.split.stage kind
        (λ stage same. absurd (none-some stage same))
        (stage-there now area (entry_in (head_in part image area) place)) is

move-due : (part : KeyedChain) (move : MoveNow) (image : Image) (free : ℕ) (kept : Lengths)
    (place : List ℕ) (n : ℕ) (kind : StageKind)
    → keyed_room part None (Some move) image free kept place n ≡ Stage kind → kind ≡ move.stage
move-due part move image free kept place n kind = by_found (area_for part image place)
  where
    by_found : (found : Option ℕ)
        → keyed_room_by part None (Some move) image free kept place n found ≡ Stage kind
        → kind ≡ move.stage
    by_found None is = absurd cc
    by_found (Some area) is = due-split (move_stage (Some move) area)
        (area_stage (area_of part area) None image place)
        (area_fits (area_of part area) image kept place n)
        (free_interval (area_of part area) (head_in part image area))
        (can_grow free (head_in part image area)) move.stage kind (wait-there move area)
        (λ stage same. absurd (none-some stage
        (sym (stage-none (entry_in (head_in part image area) place)) ∙ same))) is

pub split-stage : (part : KeyedChain) (area : ℕ) (split : Option SplitNow) (image : Image)
    (free : ℕ) (kept : Lengths) (place : List ℕ) (n : ℕ) (kind : StageKind)
    → stage_now split ≡ Some kind → (due : StageKind)
    → keyed_room part (split_at area split) None image free kept place n ≡ Stage due
    → Stage kind ≡ keyed_room part (split_at area split) None image free kept place n
split-stage part area None image free kept place n kind is due answers = absurd cc
split-stage part area (Some split) image free kept place n kind is due answers =
    let it : split.stage ≡ kind = cc in
    ap Stage (sym it ∙ sym
    (stage-due part (record { area = area; split = split }) image free kept place n due answers))
    ∙ sym answers

-- the same of a split of an area
pub move-stage : (part : KeyedChain) (move : Option MoveNow) (image : Image) (free : ℕ)
    (kept : Lengths) (place : List ℕ) (n : ℕ) (kind : StageKind)
    → stage_of_move move ≡ Some kind → (due : StageKind)
    → keyed_room part None move image free kept place n ≡ Stage due
    → Stage kind ≡ keyed_room part None move image free kept place n
move-stage part None image free kept place n kind is due answers = absurd cc
move-stage part (Some move) image free kept place n kind is due answers =
    let it : move.stage ≡ kind = cc in
    ap Stage (sym it ∙ sym (move-due part move image free kept place n due answers))
    ∙ sym answers

-- Where none is, a stage is due in the area of the place, and is the first of a new split.
module _ (part : KeyedChain) (split : Option AreaSplit) (move : Option MoveNow) (image : Image)
    (free : ℕ) (kept : Lengths) (place : List ℕ) (n : ℕ) (none : split ≡ None)
    (still : move ≡ None) (due : StageKind)
    (answers : keyed_room part split move image free kept place n ≡ Stage due) (area : ℕ)
    (found : area_for part image place ≡ Some area) where
  begins : keyed_room part None None image free kept place n ≡ Stage due
  begins = subst (λ (one : Option MoveNow).
      keyed_room part None one image free kept place n ≡ Stage due) still
      (subst (λ (now : Option AreaSplit).
      keyed_room part now move image free kept place n ≡ Stage due) none answers)

  pub new-due : IsNew (free_interval (area_of part area) (head_in part image area))
      (can_grow free (head_in part image area)) due
  new-due = due-new (area_stage (area_of part area) None image place)
      (area_fits (area_of part area) image kept place n)
      (free_interval (area_of part area) (head_in part image area))
      (can_grow free (head_in part image area)) due
      (stage-none (entry_in (head_in part image area) place))
      (subst (λ (at : Option ℕ).
      keyed_room_by part None None image free kept place n at ≡ Stage due) found begins)

  -- of the interval, where one is free in the area
  pub copy-stage : IsSome (free_interval (area_of part area) (head_in part image area))
      → (kind : StageKind) → kind ≡ CiCopy
      → Stage kind ≡ keyed_room part split move image free kept place n
  copy-stage some kind is = ap Stage (is ∙ sym (by_free
      (free_interval (area_of part area) (head_in part image area)) some new-due)) ∙ sym answers
    where
      by_free : (one : Option ℕ) → IsSome one
          → IsNew one (can_grow free (head_in part image area)) due → due ≡ CiCopy
      by_free None there is = absurd cc
      by_free (Some m) there is = is

  -- which is due in the area even where no area is free,
  pub copy-due : IsSome (free_interval (area_of part area) (head_in part image area))
      → IsDue (area_of part area) None image kept place n
  copy-due some = (
    CiCopy,
    copies (area_stage (area_of part area) None image place)
        (area_fits (area_of part area) image kept place n)
        (free_interval (area_of part area) (head_in part image area))
        (can_grow 0 (head_in part image area))
        (stage-none (entry_in (head_in part image area) place))
        (due-lacks (area_stage (area_of part area) None image place)
        (area_fits (area_of part area) image kept place n)
        (free_interval (area_of part area) (head_in part image area))
        (can_grow free (head_in part image area)) due
        (stage-none (entry_in (head_in part image area) place))
        (subst (λ (at : Option ℕ).
        keyed_room_by part None None image free kept place n at ≡ Stage due) found begins))
        some,
  )

  -- and else of the area
  pub claim-stage : free_interval (area_of part area) (head_in part image area) ≡ None
      → (kind : StageKind) → kind ≡ CaClaim
      → Stage kind ≡ keyed_room part split move image free kept place n
  claim-stage full kind is = ap Stage (is ∙ sym
      (subst (λ (one : Option ℕ). IsNew one (can_grow free (head_in part image area)) due) full
      new-due).0) ∙ sym answers
