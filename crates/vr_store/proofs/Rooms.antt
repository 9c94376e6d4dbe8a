-- The room that a part of a store has.
use Rattle.std.proofs.Common.{◌≡◌, ◌≢◌, inl, inr, ⊎_elim, ℕ, Bool, true, false, List, ◌∷◌, Option}
use Rattle.std.proofs.Common.{None, Some, refl, sym, ap, subst, ◌∙◌, arith, if◌then◌else◌, ◌||◌}
use Rattle.std.proofs.Common.{nat_eq}
use Rattle.std.specs.Prelude.{IfSome, option_map, slice_index}
use Rattle.std.proofs.lemmas.Bool.{true≢false}
use Rattle.vr_types.specs.Image.{Image}
use Rattle.vr_types.specs.Space.{free_count}
use Rattle.vr_types.specs.Seen.{Seen}
use Rattle.vr_types.specs.declared.unit.PartNo.{PartNo}
use Rattle.vr_types.specs.declared.unit.StageKind.{StageKind}
use Rattle.vr_types.specs.declared.unit.StageKind.TheVariants.{CaClaim, CaCopy, CaLink, CaSwitch}
use Rattle.vr_types.specs.declared.unit.StageKind.TheVariants.{Extend}
use Rattle.vr_seqset.specs.Entry.{Entry}
use Rattle.vr_space.specs.Areas.{KeyedChain, area_for, area_of, head_in}
use Rattle.vr_space.specs.Entries.{Tail}
use Rattle.vr_space.specs.Keyed.{entry_in}
use Rattle.vr_space.specs.Known.{Known}
use Rattle.vr_space.specs.Moves.{IsAreaStage, IsPastClaim, IsPastClaimStage}
use Rattle.vr_space.specs.Numbered.{numbered_room}
use Rattle.vr_space.specs.Part.{IsStageDue, IsStageOf, IsUnderWay, KeyedShape, NumberedShape}
use Rattle.vr_space.specs.Part.{OwnersAfter, Shape, part_no, room_of, stage_of}
use Rattle.vr_space.proofs.CallerLemmas.{interval-owners, room-no-stage, room-stage}
use Rattle.vr_space.specs.Split.{AreaSplit, MoveNow, SplitNow, area_stage, first_stage, keyed_room}
use Rattle.vr_space.specs.Split.{keyed_room_by, move_stage, room_after, split_in, stage_by}
use Rattle.vr_space.specs.Split.{stage_in}
use Rattle.vr_space.specs.Room.{Lengths, Range}
use Rattle.vr_space.specs.UnderWay.{IsReadyFor, KeyedUnderWay}
use Rattle.vr_space.specs.declared.room.Room.{Room}
use Rattle.vr_space.specs.declared.room.Room.TheVariants.{NoSpace, Ready, Stage}
use Rattle.vr_undo.specs.Records.{images_in}
use Rattle.vr_undo.specs.declared.record.KeptRecord.{KeptRecord}
use Rattle.vr_volume.specs.PutBack.{lengths_kept}
use Rattle.vr_store.specs.Room.{IsDueAt, IsRoomAt}
use Rattle.vr_store.specs.LastImage.{IsMetBy, IsSplitDue, is_stage}
use Rattle.vr_store.specs.Store.{IsSet, PartNow, Stands, StoreNow, part_among, shape_among}
use Rattle.vr_store.proofs.Recorded.{at-part, knows-at}

-- what the part of a number answers, with what the store has of areas and before-images
abbrev pub room_by : Shape → Known → Image → List (Option PartNo) → List KeptRecord → ℕ
    → List ℕ → ℕ → Room
room_by shape known image space undo number place n =
    room_of shape known image (free_count space) (lengths_kept (images_in undo) number) place n

module _ (store : StoreNow) (space : List (Option PartNo)) (undo : List KeptRecord)
    (spaces : space ≡ store.space) (undos : undo ≡ store.undo) (number : ℕ) (part : PartNow)
    (found : part_among store.parts number ≡ Some part)
    (numbered : (part_no part.shape).0 ≡ number) (image : Image) (place : List ℕ) (n : ℕ) where
  same-room : room_by part.shape part.known image space undo (part_no part.shape).0 place n
      ≡ room_by part.shape part.known image store.space store.undo number place n
  same-room =
      ap (λ (s : List (Option PartNo)).
      room_by part.shape part.known image s undo (part_no part.shape).0 place n) spaces
      ∙ ap (λ (u : List KeptRecord).
      room_by part.shape part.known image store.space u (part_no part.shape).0 place n) undos
      ∙ ap (λ (m : ℕ). room_by part.shape part.known image store.space store.undo m place n)
      numbered

  pub room-at : (room : Room)
      → room ≡ room_by part.shape part.known image space undo (part_no part.shape).0 place n
      → IsRoomAt store image number place n room
  room-at room is = at-part (λ (one : PartNow).
      room ≡ room_by one.shape one.known image store.space store.undo number place n) store.parts
      number part found (is ∙ same-room)

  pub due-at : IsDueAt store image number place n
      → IsStageDue part.shape part.known image (free_count space)
      (lengths_kept (images_in undo) (part_no part.shape).0) place n
  due-at due =
      let is : IsStageDue part.shape part.known image (free_count store.space)
      (lengths_kept (images_in store.undo) number) place n =
      subst (λ (found : Option PartNow). IfSome found (λ (one : PartNow).
      IsStageDue one.shape one.known image (free_count store.space)
      (lengths_kept (images_in store.undo) number) place n)) found due in
      (is.0, same-room ∙ is.1)

-- the room goes by the splits under way and by where the last item ends alone
room-by-known : (shape : Shape) (one other : Known) → one.split ≡ other.split
    → one.move ≡ other.move → one.tail ≡ other.tail
    → (image : Image) (free : ℕ) (kept : Lengths) (place : List ℕ) (n : ℕ)
    → room_of shape one image free kept place n ≡ room_of shape other image free kept place n
room-by-known (KeyedShape part) one other same moves tails image free kept place n =
    ap (λ (s : Option AreaSplit). keyed_room part s one.move image free kept place n) same
    ∙ ap (λ (m : Option MoveNow). keyed_room part other.split m image free kept place n) moves
room-by-known (NumberedShape part) one other same moves tails image free kept place n =
    ap (λ (t : Option Tail). numbered_room part t image free place n) tails

-- A call that leaves the shape of the part, its splits and its last item, and the blocks, leaves
-- the room.
pub room-still : (old new : StoreNow) (number : ℕ) (before after : PartNow) (a b : Image)
    → part_among old.parts number ≡ Some before → part_among new.parts number ≡ Some after
    → after.shape ≡ before.shape → after.known.split ≡ before.known.split
    → after.known.move ≡ before.known.move → after.known.tail ≡ before.known.tail
    → new.space ≡ old.space → new.undo ≡ old.undo → b ≡ a
    → (place : List ℕ) (n : ℕ) (room : Room)
    → IsRoomAt old a number place n room → IsRoomAt new b number place n room
room-still old new number before after a b found there shapes splits moves tails spaces undos images
    place n room is = at-part (λ (one : PartNow).
    room ≡ room_by one.shape one.known b new.space new.undo number place n) new.parts number after
    there
    (subst (λ (found : Option PartNow). IfSome found (λ (one : PartNow).
    room ≡ room_by one.shape one.known a old.space old.undo number place n)) found is
    ∙ sym (ap (λ (s : Shape). room_by s after.known b new.space new.undo number place n) shapes
    ∙ room-by-known before.shape after.known before.known splits moves tails b
    (free_count new.space) (lengths_kept (images_in new.undo) number) place n
    ∙ ap (λ (i : Image). room_by before.shape before.known i new.space new.undo number place n)
    images
    ∙ ap (λ (s : List (Option PartNo)).
    room_by before.shape before.known a s new.undo number place n) spaces
    ∙ ap (λ (u : List KeptRecord). room_by before.shape before.known a old.space u number place n)
    undos))

-- ---- where an area is to be claimed first

-- the stage of a split of an area under way claims none,
move-claims-none : (move : Option MoveNow) (area : ℕ) → IsPastClaim move
    → move_stage move area ≢ Some CaClaim
move-claims-none None area past is = absurd cc
move-claims-none (Some move) area past is = by_test (nat_eq move.area area) is
  where
    by_test : (test : Bool) → (if test then Some move.stage else None) ≡ Some CaClaim → ⊥
    by_test true same = let it : move.stage ≡ CaClaim = cc in subst IsPastClaimStage it past
    by_test false same = cc

-- nor does that of a split of an interval
split-claims-none : (part : KeyedChain) (split : Option AreaSplit) (now : Seen) (area : ℕ)
    → KeyedUnderWay part split now
    → IfSome (split_in split area) (λ (one : SplitNow). one.stage ≢ CaClaim)
split-claims-none part None now area way = tt
split-claims-none part (Some split) now area way = by_test (nat_eq split.area area)
  where
    by_test : (test : Bool) → IfSome (if test then Some split.split else None)
        (λ (one : SplitNow). one.stage ≢ CaClaim)
    by_test true = λ is. subst (λ (stage : StageKind).
        IsReadyFor stage (area_of part split.area) split.split now) is way.1
    by_test false = tt

stage-claims-none : (split : Option SplitNow) (found : Option (Range × Entry))
    → IfSome split (λ (one : SplitNow). one.stage ≢ CaClaim)
    → stage_in split found ≢ Some CaClaim
stage-claims-none split None none is = absurd cc
stage-claims-none None (Some found) none is = absurd cc
stage-claims-none (Some split) (Some found) none is =
    by_test (nat_eq (slice_index found.1.intervals 0) split.old
    || nat_eq (slice_index found.1.intervals 0) split.into) is
  where
    by_test : (test : Bool) → (if test then Some split.stage else None) ≡ Some CaClaim → ⊥
    by_test true same = let it : split.stage ≡ CaClaim = cc in none it
    by_test false same = cc

-- so neither is left
neither-left : (moves splits : Option StageKind) (other : Room) → moves ≢ Some CaClaim
    → splits ≢ Some CaClaim → room_after moves (room_after splits other) ≡ Stage CaClaim
    → first_stage moves splits ≡ None
neither-left (Some stage) splits other first second is =
    let it : stage ≡ CaClaim = cc in absurd (first (ap Some it))
neither-left None (Some stage) other first second is =
    let it : stage ≡ CaClaim = cc in absurd (second (ap Some it))
neither-left None None other first second is = refl

keyed-claim : (part : KeyedChain) (split : Option AreaSplit) (move : Option MoveNow) (now : Seen)
    (image : Image) (free : ℕ) (kept : Lengths) (place : List ℕ) (n : ℕ) (found : Option ℕ)
    → KeyedUnderWay part split now → IsPastClaim move
    → keyed_room_by part split move image free kept place n found ≡ Stage CaClaim
    → stage_by part split move image place found ≡ None
keyed-claim part split move now image free kept place n None way past is = refl
keyed-claim part split move now image free kept place n (Some area) way past is =
    neither-left (move_stage move area)
    (area_stage (area_of part area) (split_in split area) image place) _
    (move-claims-none move area past)
    (stage-claims-none (split_in split area) (entry_in (head_in part image area) place)
    (split-claims-none part split now area way)) is

-- A split of an area under way is past its claim, and one of an interval claims none. So where the
-- claim of an area comes first, no split has begun, and no stage of one is left at the place.
pub claim-no-stage : (shape : Shape) (known : Known) (now : Seen) (free : ℕ) (kept : Lengths)
    (place : List ℕ) (n : ℕ) → IsUnderWay shape known now
    → room_of shape known now.cur free kept place n ≡ Stage CaClaim
    → stage_of shape known now.cur place ≡ None
claim-no-stage (KeyedShape part) known now free kept place n way is =
    keyed-claim part known.split known.move now now.cur free kept place n
    (area_for part now.cur place) way.0 way.3 is
claim-no-stage (NumberedShape part) known now free kept place n way is = refl

-- ---- a stage that comes before what is put back

-- a chain that becomes longer has no split under way
none-extends : (shape : Shape) (known : Known) (image : Image) (place : List ℕ)
    → IsStageOf shape Extend → stage_of shape known image place ≡ None
none-extends (KeyedShape part) known image place is =
    ⊎_elim (λ interval. absurd interval) (λ area. absurd area) is
none-extends (NumberedShape part) known image place is = refl

none-first : (shape : Shape) (known : Known) (now : Seen) (free : ℕ) (kept : Lengths)
    (place : List ℕ) (n : ℕ) → IsUnderWay shape known now → (room : Room)
    → room ≡ room_of shape known now.cur free kept place n → is_stage room ≡ false
    → stage_of shape known now.cur place ≡ None
none-first shape known now free kept place n way Ready is none =
    room-no-stage shape known now.cur free kept place n 0 0 (inl (sym is))
none-first shape known now free kept place n way (NoSpace need left) is none =
    room-no-stage shape known now.cur free kept place n need left (inr (sym is))
none-first shape known now free kept place n way (Stage kind) is none = by_kind kind is none
  where
    by_kind : (kind : StageKind) → Stage kind ≡ room_of shape known now.cur free kept place n
        → is_stage (Stage kind) ≡ false → stage_of shape known now.cur place ≡ None
    by_kind Extend it none = none-extends shape known now.cur place
        (room-stage shape known now now.cur free kept place n Extend way (sym it))
    by_kind CaClaim it none = claim-no-stage shape known now free kept place n way (sym it)
    by_kind kind it none = absurd (true≢false none)

some-at : (P : PartNow → Type 0) (found : Option PartNow)
    → ((part : PartNow) → found ≡ Some part → P part) → IfSome found P
some-at P None each = tt
some-at P (Some part) each = each part refl

-- What a part that is at rest answers says whether a stage of a split comes first.
pub met-at : (store : StoreNow) (now : Seen) → IsSet store now → Stands store now
    → (number : ℕ) (place : List ℕ) (n : ℕ) (room : Room)
    → IsRoomAt store now.cur number place n room → (due : Bool) → is_stage room ≡ due
    → IsMetBy due store now.cur number place n
met-at store now set stands number place n room is true = by_room room is
  where
    by_room : (room : Room) → IsRoomAt store now.cur number place n room → is_stage room ≡ true
        → IsSplitDue store now.cur number place n
    by_room (Stage kind) is first = record { kind = kind; room = is; first = first }
    by_room Ready is first = absurd (true≢false (sym first))
    by_room (NoSpace need left) is first = absurd (true≢false (sym first))
met-at store now set stands number place n room is false = λ none. some-at
    (λ (part : PartNow). stage_of part.shape part.known now.cur place ≡ None)
    (part_among store.parts number)
    (λ part found. none-first part.shape part.known now (free_count store.space)
    (lengths_kept (images_in store.undo) number) place n
    (knows-at store now set number part found stands).way room
    (subst (λ (one : Option PartNow). IfSome one (λ (part : PartNow).
    room ≡ room_by part.shape part.known now.cur store.space store.undo number place n)) found is)
    none)

-- ---- what it leaves of the owners of areas

-- of a part it is one that takes no area
stage-takes-none : (shape : Shape) (part : PartNo) (kind : StageKind)
    (old new : List (Option PartNo)) → IsStageOf shape kind → is_stage (Stage kind) ≡ true
    → OwnersAfter part kind old new → new ≡ old
stage-takes-none (KeyedShape keyed) part kind old new stage first after = ⊎_elim
    (λ interval. interval-owners part kind old new interval after)
    (λ area. by_kind kind area first after)
    stage
  where
    by_kind : (kind : StageKind) → IsAreaStage kind → is_stage (Stage kind) ≡ true
        → OwnersAfter part kind old new → new ≡ old
    by_kind CaClaim area first after = absurd (true≢false (sym first))
    by_kind CaCopy area first after = after
    by_kind CaLink area first after = after
    by_kind CaSwitch area first after = after
    by_kind kind area first after = absurd area
stage-takes-none (NumberedShape numbered) part kind old new stage first after =
    absurd (true≢false (sym first
    ∙ ap (λ (one : StageKind). is_stage (Stage one)) stage))

-- the one that is done is such a stage
pub split-first : (store : StoreNow) (image : Image) (number : ℕ) (place : List ℕ) (n : ℕ)
    (kind : StageKind) → part_among store.parts number ≢ None
    → IsSplitDue store image number place n
    → IsRoomAt store image number place n (Stage kind) → is_stage (Stage kind) ≡ true
split-first store image number place n kind some due room =
    by_part (part_among store.parts number) some due.room room
  where
    by_part : (found : Option PartNow) → found ≢ None
        → IfSome found (λ (one : PartNow). Stage due.kind
        ≡ room_by one.shape one.known image store.space store.undo number place n)
        → IfSome found (λ (one : PartNow). Stage kind
        ≡ room_by one.shape one.known image store.space store.undo number place n)
        → is_stage (Stage kind) ≡ true
    by_part None some first second = absurd (some refl)
    by_part (Some one) some first second =
        ap is_stage (second ∙ sym first) ∙ due.first

-- So it leaves the owners of areas.
pub split-takes-none : (store : StoreNow) (image : Image) (number : ℕ) (place : List ℕ) (n : ℕ)
    (part : PartNo) (kind : StageKind) (new : List (Option PartNo))
    → part_among store.parts number ≢ None → IsSplitDue store image number place n
    → IsRoomAt store image number place n (Stage kind)
    → IfSome (shape_among store.parts number) (λ (shape : Shape). IsStageOf shape kind)
    → OwnersAfter part kind store.space new → new ≡ store.space
split-takes-none store image number place n part kind new laid due room stage after =
    by_part (part_among store.parts number) laid stage
  where
    by_part : (found : Option PartNow) → found ≢ None
        → IfSome (option_map (λ (one : PartNow). one.shape) found)
        (λ (shape : Shape). IsStageOf shape kind) → new ≡ store.space
    by_part None some stage = absurd (some refl)
    by_part (Some one) some stage = stage-takes-none one.shape part kind store.space new stage
        (split-first store image number place n kind laid due room) after
