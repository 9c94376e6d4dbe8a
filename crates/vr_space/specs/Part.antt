-- A part of a volume on its blocks: what they stand for, which items each place may hold in the
-- images that a crash may leave, and what a call adds to that. The rules are this project's own.
use Rattle.std.specs.Prelude.{◌≡◌, ◌≢◌, ◌⊎◌, ◌<◌, ◌≤◌, ◌+◌, ℕ, Bool, List, Option, Some, None, All}
use Rattle.std.specs.Prelude.{◌++◌, ◌∷◌, [], Contains, filter, length, option_and_then}
use Rattle.std.specs.Option.{option_map}
use Rattle.vr_types.specs.Content.{Content, Item, item_at, record_of}
use Rattle.vr_types.specs.Content.Item.{Standing}
use Rattle.vr_types.specs.Geometry.{area_count}
use Rattle.vr_types.specs.Image.{Block, Image}
use Rattle.vr_types.specs.Seen.{Seen}
use Rattle.vr_types.specs.Regions.{Touches}
use Rattle.vr_space.specs.Way.{Way, found_on, MayFind, MayOnceForced}
use Rattle.std.specs.Prelude.{IsTrue, true, false, IfSome}
use Rattle.std.specs.Borrow.{Bor}
use Rattle.std.specs.declared.cmp.Ordering.TheVariants.{Less}
use Rattle.vr_types.specs.Content.{place_cmp}
use Rattle.vr_types.specs.declared.unit.PartNo.{PartNo}
use Rattle.vr_types.specs.declared.unit.StageKind.{StageKind}
use Rattle.vr_types.specs.declared.unit.StageKind.TheVariants.{CaClaim, Extend, Post}
use Rattle.vr_types.specs.Space.{is_owner, least_free}
use Rattle.std.specs.Prelude.{slice_set}
use Rattle.vr_space.specs.declared.whence.Whence.{Whence}
use Rattle.vr_space.specs.declared.room.Room.{Room}
use Rattle.vr_space.specs.declared.room.Room.TheVariants.{Stage}
use Rattle.vr_space.specs.Whence.{allows}
use Rattle.vr_space.specs.Room.{Lengths, length_at}
use Rattle.vr_space.specs.Known.{Known, areas_held}
use Rattle.vr_space.specs.Left.{added_by, keyed_left, numbered_left}
use Rattle.vr_space.specs.Split.{IsIntervalStage, keyed_room, keyed_stage, keyed_fits}
use Rattle.vr_space.specs.UnderWay.{KeyedUnderWay}
use Rattle.vr_space.specs.Moves.{IsAreaStage, IsPastClaim, MoveUnderWay, OwnsInto}
use Rattle.vr_space.specs.Met.{IsChainMet}
use Rattle.vr_space.specs.Owners.{Owners}
use Rattle.vr_space.specs.Keyed.{InArea, IsValid, key_of}
use Rattle.vr_space.specs.Areas.{ChainHasRoom, ChainKeepsRoom, ChainStandsFor, ChainStaysIn}
use Rattle.vr_space.specs.Areas.{IsChainAtRest, IsChainOn, IsChainSound, KeyedChain, area_of}
use Rattle.vr_space.specs.Areas.{KnowsAreas, chain_way, intervals_in}
use Rattle.vr_space.specs.Rosters.{IsInArea, IsOf, Numbered}
use Rattle.vr_space.specs.Numbered.{IsKeptLength, IsNumberPlace, IsNumberedAtRest, IsNumberedLength}
use Rattle.vr_space.specs.Numbered.{IsNumberedOn, IsNumberedRecord, IsNumberedSound, KeepsNumbered}
use Rattle.vr_space.specs.Numbered.{KnowsChain, NumberedStandsFor, NumberedStaysIn, address_by}
use Rattle.vr_space.specs.Numbered.{left_in, numbered_fits, numbered_room, numbered_way}

-- Where a part is on its blocks and how they are spelled, by its kind.
pub data Shape : Type 0 where
  KeyedShape : KeyedChain → Shape
  NumberedShape : Numbered → Shape

-- its number
abbrev pub part_no : Shape → PartNo
part_no (KeyedShape part) = record { 0 = part.part }
part_no (NumberedShape part) = record { 0 = part.part }

-- the blocks that it is on are there, with their size
abbrev pub IsOn : Shape → Seen → Type 0
IsOn (KeyedShape part) now = IsChainOn part now
IsOn (NumberedShape part) now = IsNumberedOn part now

-- how long its places are at most
abbrev pub place_length : Shape → ℕ
place_length (KeyedShape part) = part.key
place_length (NumberedShape part) = 4

-- a length that a record of the part may have
abbrev pub IsLengthOf : Shape → ℕ → Type 0
IsLengthOf (KeyedShape part) n = (part.offset + part.key ≤ n) × (n ≤ part.most)
IsLengthOf (NumberedShape part) n = IsNumberedLength part.relative part.most n

-- the blocks of its first area
abbrev pub InFirstArea : Shape → ℕ → Type 0
InFirstArea (KeyedShape part) n = InArea (area_of part part.first) n
InFirstArea (NumberedShape part) n = IsInArea part part.first n

-- the blocks that are its own
abbrev pub InPart : Shape → Owners → ℕ → Type 0
InPart shape owners n = owners n ≡ Some (part_no shape).0

-- a place that a record of the part may have
abbrev pub IsPlaceOf : Shape → List ℕ → Type 0
IsPlaceOf (KeyedShape part) place = length place ≡ part.key
IsPlaceOf (NumberedShape part) place = IsNumberPlace part place

-- a record that may stand at the place
abbrev pub IsRecordOf : Shape → List ℕ → List ℕ → Type 0
IsRecordOf (KeyedShape part) place bytes =
    IsValid (area_of part part.first) bytes × (key_of (area_of part part.first) bytes ≡ place)
IsRecordOf (NumberedShape part) place bytes = IsNumberedRecord part place bytes

-- the blocks of the image stand for the content
abbrev pub StandsFor : Shape → Image → Content → Type 0
StandsFor (KeyedShape part) image content = ChainStandsFor part image content
StandsFor (NumberedShape part) image content = NumberedStandsFor part image content

-- they stand for some content
abbrev pub Stands : Shape → Image → Type 0
Stands shape image = (content : Content) × StandsFor shape image content

-- how a reader gets to a place
abbrev pub way_to : Shape → List ℕ → Way
way_to (KeyedShape part) place = chain_way part place
way_to (NumberedShape part) place = numbered_way part place

-- every content that a crash may leave of a block is in order, and leads to blocks of the part
-- alone
abbrev pub IsSound : Shape → Owners → Seen → Type 0
IsSound (KeyedShape part) owners now = IsChainSound part owners now
IsSound (NumberedShape part) owners now = IsNumberedSound part owners now

-- and blocks that say where others are have one content
abbrev pub IsAtRest : Shape → Owners → Seen → Type 0
IsAtRest (KeyedShape part) owners now = IsChainAtRest part owners now
IsAtRest (NumberedShape part) owners now = IsNumberedAtRest part owners now

-- the same, whichever blocks are the part's
abbrev pub IsQuiet : Shape → Seen → Type 0
IsQuiet shape now = (owners : Owners) × IsAtRest shape owners now

-- the image leads to blocks of the part alone
abbrev pub StaysIn : Shape → Owners → Image → Type 0
StaysIn (KeyedShape part) owners image = ChainStaysIn part owners image
StaysIn (NumberedShape part) owners image = NumberedStaysIn part owners image

-- whatever a crash leaves of an interval, what is kept for its places has room beside it
abbrev pub HasKeptRoom : Shape → Lengths → Seen → Type 0
HasKeptRoom (KeyedShape part) kept now = ChainKeepsRoom part kept now
HasKeptRoom (NumberedShape part) kept now = KeepsNumbered part kept now.may

-- the same in one image
abbrev pub HasRoom : Shape → Lengths → Image → Type 0
HasRoom (KeyedShape part) kept image = ChainHasRoom part kept image
HasRoom (NumberedShape part) kept image = KeepsNumbered part kept (IsOf image)

-- the item at a place
abbrev pub item_of : Shape → Image → List ℕ → Option Item
item_of shape image place = found_on image (way_to shape place)

-- the record that is read there: what was withdrawn is none
abbrev pub record_read : Shape → Image → List ℕ → Option (List ℕ)
record_read shape image place = option_and_then record_of (item_of shape image place)

-- A crash may leave this item, or none, at this place.
abbrev pub MayHold : Shape → (ℕ → Block → Type 0) → List ℕ → Option Item → Type 0
MayHold shape may place item = MayFind may item (way_to shape place)

-- What a call leaves at a place where this item is, or none, as it gives a record to the place, or
-- takes the one there away.
abbrev pub left_by : Shape → Option Item → Option (List ℕ) → Option Item
left_by (KeyedShape part) now bytes = option_map Standing bytes
left_by (NumberedShape part) now bytes = left_in part.relative now bytes

-- which items, or none, a call adds to what places may hold
abbrev pub Nothing : List ℕ → Option Item → Type 0
Nothing place item = ⊥

-- one at one place
abbrev pub Just : List ℕ → Option Item → List ℕ → Option Item → Type 0
Just at new place item = (place ≡ at) × (item ≡ new)

-- what might be held before, and also what A allows
abbrev pub MayAlsoHold : Shape → (ℕ → Block → Type 0) → (List ℕ → Option Item → Type 0) → List ℕ
    → Option Item → Type 0
MayAlsoHold shape may A place item = MayHold shape may place item ⊎ A place item

-- The image stands for some content in blocks of the part alone, and each place of it has what O
-- allows.
pub record HasOnly (shape : Shape) (owners : Owners) (O : List ℕ → Option Item
    → Type 0) (image : Image) : Type 0 where
  pub content : Content
  pub stands : StandsFor shape image content
  pub within : StaysIn shape owners image
  pub each : (place : List ℕ) → O place (item_at content place)

-- Calls that put into the part's blocks alone made `new` of `old`, and added at most what A allows
-- to what its places may hold: in each image of each of their moments, whether they failed or not,
-- and from then on.
pub record AddsTo (shape : Shape) (owners : Owners) (A : List ℕ → Option Item
    → Type 0) (old new : Seen) : Type 0 where
  pub touches : Touches (InPart shape owners)
      (HasOnly shape owners (MayAlsoHold shape old.may A)) old new
  pub rest : (place : List ℕ) (item : Option Item) → MayHold shape new.may place item
      → MayAlsoHold shape old.may A place item
  pub sound : IsSound shape owners new

-- each place has the item that it had
abbrev pub SameRecords : Shape → Image → Image → Type 0
SameRecords shape old new = (place : List ℕ) → item_of shape new place ≡ item_of shape old place

-- this place was given this record, or its own was taken away, and each other has what it had
pub record SetsOne (shape : Shape) (at : List ℕ) (bytes : Option (List ℕ)) (old new : Image)
    : Type 0
  where
    pub here : item_of shape new at ≡ left_by shape (item_of shape old at) bytes
    pub others : (place : List ℕ) → place ≢ at → item_of shape new place ≡ item_of shape old place

-- Once the listed blocks are forced, a crash leaves the current item alone at the place.
abbrev pub IsDueTo : Shape → List ℕ → Seen → List ℕ → Type 0
IsDueTo shape listed now place =
    (item : Option Item) → MayFind (MayOnceForced listed now) item (way_to shape place)
    → item ≡ item_of shape now.cur place

-- What has to be forced for a place is what had to be, and these blocks.
abbrev pub DueMore : Shape → List ℕ → Seen → Seen → Type 0
DueMore shape put old new = (listed : List ℕ) (place : List ℕ) → IsDueTo shape listed old place
    → ((n : ℕ) → Contains put n → Contains listed n) → IsDueTo shape listed new place

-- The same of a record set at one place. What has to be forced for that place is what had to be,
-- and these blocks; for each other place only what had to be: each content that a crash may leave
-- of a block was allowed before, or is the new one, which has the current item there too.
abbrev pub DueMoreAt : Shape → List ℕ → List ℕ → Seen → Seen → Type 0
DueMoreAt shape at put old new = (listed : List ℕ) (place : List ℕ)
    → IsDueTo shape listed old place
    → ((place ≢ at) ⊎ ((n : ℕ) → Contains put n → Contains listed n))
    → IsDueTo shape listed new place

-- A crash leaves the current item alone at the place.
abbrev pub IsFirm : Shape → Seen → List ℕ → Type 0
IsFirm shape now place = (item : Option Item) → MayHold shape now.may place item
    → item ≡ item_of shape now.cur place

-- ---- what calls answer

-- what stands in the way of a record of this length at this place, with this many free areas and
-- with this kept
abbrev pub room_of : Shape → Known → Image → ℕ → Lengths → List ℕ → ℕ → Room
room_of (KeyedShape part) known image free kept place n =
    keyed_room part known.split known.move image free kept place n
room_of (NumberedShape part) known image free kept place n =
    numbered_room part known.tail image free place n

-- a record of this length has room beside what stands there and what is kept
abbrev pub fits_at : Shape → Known → Image → Lengths → List ℕ → ℕ → Bool
fits_at (KeyedShape part) known image kept place n = keyed_fits part image kept place n
fits_at (NumberedShape part) known image kept place n =
    numbered_fits part known.tail image place n

-- the stage of a split under way that comes before any change at the place
abbrev pub stage_of : Shape → Known → Image → List ℕ → Option StageKind
stage_of (KeyedShape part) known image place =
    keyed_stage part known.split known.move image place
stage_of (NumberedShape part) known image place = None

-- each place waits for the stage that it waited for
abbrev pub SameStages : Shape → Known → Known → Image → Image → Type 0
SameStages shape before after old new = (place : List ℕ)
    → stage_of shape after new place ≡ stage_of shape before old place

-- the blocks are as the split under way left them
abbrev pub IsUnderWay : Shape → Known → Seen → Type 0
IsUnderWay (KeyedShape part) known now = KeyedUnderWay part known.split now
    × MoveUnderWay part known.move now × ((known.split ≡ None) ⊎ (known.move ≡ None))
    × IsPastClaim known.move
IsUnderWay (NumberedShape part) known now = Unit {0}

-- the area that the split under way claimed, which no chain reaches yet, is the part's own
abbrev pub OwnsClaimed : Shape → Owners → Known → Type 0
OwnsClaimed (KeyedShape part) owners known = OwnsInto part owners known.move
OwnsClaimed (NumberedShape part) owners known = Unit {0}

-- the blocks that were met are as they were
abbrev pub AreMet : Shape → Known → Image → Type 0
AreMet (KeyedShape part) known image =
    KnowsAreas part known.areas known.ends image × All (IsChainMet part image) known.met
    × (known.used ≡ intervals_in part image)
AreMet (NumberedShape part) known image = KnowsChain part known image

-- The blocks are as the part knows them: by its split under way, and those that it met.
pub record Knows (shape : Shape) (known : Known) (now : Seen) : Type 0 where
  pub way : IsUnderWay shape known now
  pub blocks : AreMet shape known now.cur

-- the stages that may come before a record: those of the split of one interval, or the one that
-- makes the chain of areas longer
abbrev pub IsStageOf : Shape → StageKind → Type 0
IsStageOf (KeyedShape part) kind = IsIntervalStage kind ⊎ IsAreaStage kind
IsStageOf (NumberedShape part) kind = kind ≡ Extend

-- a stage comes before such a record
abbrev pub IsStageDue : Shape → Known → Image → ℕ → Lengths → List ℕ → ℕ → Type 0
IsStageDue shape known image free kept place n =
    (kind : StageKind) × (room_of shape known image free kept place n ≡ Stage kind)

-- the part got the least free area
abbrev pub IsClaimed : PartNo → List (Option PartNo) → List (Option PartNo) → Type 0
IsClaimed part old new = (area : ℕ) × (least_free old ≡ Some area)
    × (new ≡ slice_set old area (Some part))

-- what a stage leaves of the owners of areas
abbrev pub OwnersAfter : PartNo → StageKind → List (Option PartNo) → List (Option PartNo) → Type 0
OwnersAfter part CaClaim old new = (new ≡ old) ⊎ IsClaimed part old new
OwnersAfter part Post old new = (new ≡ old) ⊎ IsClaimed part old new
OwnersAfter part Extend old new = (new ≡ old) ⊎ IsClaimed part old new
OwnersAfter part stage old new = new ≡ old

-- the same areas, in whatever order
pub record HoldsSame (areas after : List ℕ) : Type 0 where
  pub many : length after ≡ length areas
  pub kept : (area : ℕ) → Contains areas area → Contains after area
  pub none : (area : ℕ) → Contains after area → Contains areas area

-- the least free area is the part's now and the last one that it holds
pub record HoldsMore (part : PartNo) (areas after : List ℕ) (old new : List (Option PartNo))
    : Type 0
  where
    pub area : ℕ
    pub least : least_free old ≡ Some area
    pub more : after ≡ areas ++ area ∷ []
    pub owned : new ≡ slice_set old area (Some part)

-- The areas that a part holds in memory go with those that it owns: both stay, or it has one more.
abbrev pub KeepsChain : Shape → List ℕ → List ℕ → List (Option PartNo) → List (Option PartNo)
    → Type 0
KeepsChain shape areas after old new = (HoldsSame areas after × (new ≡ old))
    ⊎ HoldsMore (part_no shape) areas after old new

-- how many stages a part may still do, with this many areas free on the volume
abbrev pub left_of : Shape → Known → ℕ → ℕ
left_of (KeyedShape part) known free = keyed_left part known free
left_of (NumberedShape part) known free = numbered_left part known free

-- What a stage leaves, where this many areas were free before it and are free now: fewer stages
-- than before, and as many intervals more as it adds.
pub record HasMore (shape : Shape) (kind : StageKind) (old new : Known) (free now : ℕ) : Type 0
  where
    pub fewer : left_of shape new now < left_of shape old free
    pub used : new.used ≡ old.used + added_by kind

-- the owners are those of as many areas as the volume has
abbrev pub HasOwners : Shape → List (Option PartNo) → Type 0
HasOwners (KeyedShape part) areas = length areas ≡ area_count part.geometry
HasOwners (NumberedShape part) areas = length areas ≡ area_count part.geometry

-- how many areas a part owns
abbrev pub owned_count : PartNo → List (Option PartNo) → ℕ
owned_count part areas = length (filter (is_owner part) areas)

-- The areas that a part holds, as it keeps them in memory: those of its chain, and of a keyed part
-- the one that the split of an area under way claimed.
abbrev pub held_by : Shape → Known → List ℕ
held_by (KeyedShape part) known = areas_held known
held_by (NumberedShape part) known = known.areas

-- a part owns as many areas as it holds
abbrev pub OwnsChain : Shape → Known → List (Option PartNo) → Type 0
OwnsChain shape known areas = owned_count (part_no shape) areas ≡ length (held_by shape known)

-- the blocks of the areas that the part holds
abbrev pub InHeld : Shape → Known → ℕ → Type 0
InHeld (KeyedShape part) known n =
    (area : ℕ) × Contains (areas_held known) area × InArea (area_of part area) n
InHeld (NumberedShape part) known n =
    (area : ℕ) × Contains known.areas area × IsInArea part area n

-- the blocks of an area that a stage of the part may claim
abbrev pub InClaimed : Shape → ℕ → ℕ → Type 0
InClaimed (KeyedShape part) area n = InArea (area_of part area) n
InClaimed (NumberedShape part) area n = IsInArea part area n

-- The part has the blocks that it had, and those of the least free area too, which were nobody's,
-- as a stage may claim it; and no other part has less.
pub record MayGrow (shape : Shape) (areas : List (Option PartNo)) (owners grown : Owners) : Type 0
  where
    pub kept : (n part : ℕ) → owners n ≡ Some part → grown n ≡ Some part
    pub free : (area : ℕ) → least_free areas ≡ Some area → (n : ℕ) → InClaimed shape area n
        → owners n ≡ None
    pub claimed : (area : ℕ) → least_free areas ≡ Some area → (n : ℕ) → InClaimed shape area n
        → InPart shape grown n

abbrev pub given : Option (Bor (List ℕ)) → Option (List ℕ)
given None = None
given (Some bytes) = Some bytes.now

-- what is given is a record that may stand at the place, or none
abbrev pub IsGiven : Shape → List ℕ → Option (Bor (List ℕ)) → Type 0
IsGiven shape place bytes = IfSome (given bytes) (IsRecordOf shape place)

-- a length that a record may have where one of that length is kept: at most that, and of an
-- entry-sequenced part that alone
abbrev pub MayGoBack : Shape → ℕ → ℕ → Type 0
MayGoBack (KeyedShape part) kept n = n ≤ kept
MayGoBack (NumberedShape part) kept n = IsKeptLength part.relative kept n

-- There is room for what is given: it has room at its place, or one is kept there as long as which
-- it may be, or a record is taken away.
abbrev pub HasRoomFor : Shape → Known → Image → Lengths → List ℕ → Option (List ℕ) → Type 0
HasRoomFor shape known image kept place None = Unit {0}
HasRoomFor shape known image kept place (Some bytes) =
    IsTrue (fits_at shape known image kept place (length bytes))
    ⊎ ((n : ℕ) × (length_at kept place ≡ Some n) × MayGoBack shape n (length bytes))

-- It may be set: no stage of a split is left at its place, and there is room for it.
pub record CanSet (shape : Shape) (known : Known) (image : Image) (kept : Lengths)
    (place : List ℕ) (bytes : Option (List ℕ)) : Type 0 where
  pub no_stage : stage_of shape known image place ≡ None
  pub room : HasRoomFor shape known image kept place bytes

-- The place is the least with a record that the search may find.
pub record IsNextPlace (shape : Shape) (image : Image) (from : Whence) (place : List ℕ) : Type 0
  where
    pub allowed : IsTrue (allows from place)
    pub some : record_read shape image place ≢ None
    pub least : (other : List ℕ) → IsTrue (allows from other) → place_cmp other place ≡ Less
        → record_read shape image other ≡ None

-- there is no such place
abbrev pub HasNoNext : Shape → Image → Whence → Type 0
HasNoNext shape image from = (place : List ℕ) → IsTrue (allows from place)
    → record_read shape image place ≡ None

abbrev pub NextIs : Shape → Image → Whence → Bool → List ℕ → Type 0
NextIs shape image from true place = IsNextPlace shape image from place
NextIs shape image from false place = HasNoNext shape image from

-- Nothing is ever withdrawn from the part: it isn't entry-sequenced.
abbrev pub WithdrawsNone : Shape → Type 0
WithdrawsNone (KeyedShape part) = Unit {0}
WithdrawsNone (NumberedShape part) = part.relative ≡ true

-- the address that the next record of this length gets: of an entry-sequenced part alone
abbrev pub address_of : Shape → Known → ℕ → Option ℕ
address_of (KeyedShape part) known n = None
address_of (NumberedShape part) known n = address_by part.relative part known.tail n
