-- Splits of areas of a keyed part: the last entries of a head move to another area, in stages
-- (DFSMS Using Data Sets, control area splits). How many stay is for who begins the split to say:
-- one at least, and not all. The stages are this project's own rule.
use Rattle.std.specs.Prelude.{◌≡◌, ◌≢◌, ℕ, suc, ◌+◌, ◌-◌, ◌<◌, false, List, [], ◌∷◌}
use Rattle.std.specs.Prelude.{length, take, drop, Option, Some, None, Contains, slice_get}
use Rattle.std.specs.Prelude.{if◌then◌else◌, nat_eq}
use Rattle.vr_types.specs.Geometry.{area_count}
use Rattle.vr_types.specs.Image.{Block, Image, block_at}
use Rattle.vr_types.specs.Seen.{Seen, Only}
use Rattle.vr_types.specs.declared.unit.StageKind.{StageKind}
use Rattle.vr_types.specs.declared.unit.StageKind.TheVariants.{CaClaim, CaCopy, CaLink, CaSwitch}
use Rattle.vr_seqset.specs.Entry.{Entry}
use Rattle.vr_seqset.specs.Reading.{record_in}
use Rattle.vr_seqset.specs.SequenceSet.{IsSequenceSet, SequenceSet}
use Rattle.vr_space.specs.Owners.{Owners}
use Rattle.vr_space.specs.Areas.{IsOwnedArea, KeyedChain, area_of, areas_in, head_in, head_of}
use Rattle.vr_space.specs.Keyed.{Keyed, entries_of, entry_block}
use Rattle.vr_space.specs.Split.{MoveNow}
use Rattle.vr_space.specs.UnderWay.{interval_block}

-- ---- the two heads

-- the same entries, with one interval each, numbered from this one on
abbrev pub numbered_from : ℕ → List Entry → List Entry
numbered_from n [] = []
numbered_from n (entry ∷ entries) =
    record { intervals = n ∷ []; high = entry.high } ∷ numbered_from (suc n) entries

-- where the ranges of these entries end, which begin at the low place
abbrev pub end_from : List ℕ → List Entry → List ℕ
end_from low [] = low
end_from low (entry ∷ entries) = end_from entry.high entries

-- where those of the entries that stay end
abbrev pub cut_of : ℕ → SequenceSet → List ℕ
cut_of stay s = end_from s.low (take stay s.entries)

-- the record of the area that gets the others: it goes on from where those end, to where the area
-- went on
abbrev pub upper_record : ℕ → SequenceSet → SequenceSet
upper_record stay s = record {
  first = false;
  part = s.part;
  next = s.next;
  top = 0;
  index_area = None;
  low = cut_of stay s;
  entries = numbered_from 0 (drop stay s.entries);
}

-- the record of the area that keeps them, which leads to this one
abbrev pub lower_record : ℕ → ℕ → SequenceSet → SequenceSet
lower_record stay into s = record s { next = Some into; entries = take stay s.entries }

-- the head of the area with so many entries less: its record, in a block of its size
pub record IsUpper (part : Keyed) (stay : ℕ) (top upper : Block) : Type 0 where
  pub spelled : IsSequenceSet part.area upper (upper_record stay (record_in top))
  pub size : length upper ≡ part.size

pub record IsLower (part : Keyed) (stay into : ℕ) (top lower : Block) : Type 0 where
  pub spelled : IsSequenceSet part.area lower (lower_record stay into (record_in top))
  pub size : length lower ≡ part.size

-- Interval j of the area `into` is a copy of that of the entry of number stay + j of the area, and
-- a crash leaves this content alone.
pub record IsCopy (part : KeyedChain) (area into stay j : ℕ) (now : Seen) : Type 0 where
  pub entry : Entry
  pub is : slice_get (entries_of (head_in part now.cur area)) (stay + j) ≡ Some entry
  pub stable : Only now (interval_block (area_of part into) j)
      (λ block. block ≡ block_at now.cur (entry_block (area_of part area) entry))

-- Each interval that moves is copied, and the head of the area `into` has them: a crash leaves this
-- alone. So the old head may be shortened.
pub record IsMoved (part : KeyedChain) (area into stay : ℕ) (now : Seen) : Type 0 where
  pub upper : Block
  pub is_upper : IsUpper (area_of part area) stay (head_in part now.cur area) upper
  pub stable : Only now (head_of part into) (λ block. block ≡ upper)
  pub copies : (j : ℕ) → stay + j < length (entries_of (head_in part now.cur area))
      → IsCopy part area into stay j now

-- ---- a split under way

-- how many entries move
abbrev pub moving : MoveNow → ℕ
moving move = move.entries - move.stay

-- a stage of an area split
abbrev pub IsAreaStage : StageKind → Type 0
IsAreaStage CaClaim = Unit {0}
IsAreaStage CaCopy = Unit {0}
IsAreaStage CaLink = Unit {0}
IsAreaStage CaSwitch = Unit {0}
IsAreaStage stage = ⊥

-- Interval j of the area that gets them is a copy, as the blocks are now.
pub record HasCopy (part : KeyedChain) (move : MoveNow) (j : ℕ) (image : Image) : Type 0 where
  pub entry : Entry
  pub is : slice_get (entries_of (head_in part image move.area)) (move.stay + j) ≡ Some entry
  pub same : block_at image (interval_block (area_of part move.into) j)
      ≡ block_at image (entry_block (area_of part move.area) entry)

-- the area that gets them is one of the volume's, and none of the chain
pub record IsAside (part : KeyedChain) (move : MoveNow) (image : Image) : Type 0 where
  pub there : move.into < area_count part.geometry
  pub apart : Contains (areas_in part image) move.into → ⊥

-- what the stages before this one left
abbrev pub IsReadyTo : StageKind → KeyedChain → MoveNow → Seen → Type 0
IsReadyTo CaClaim part move now = move.copied ≡ 0
IsReadyTo CaCopy part move now = IsAside part move now.cur × (move.copied < moving move)
    × ((j : ℕ) → j < move.copied → HasCopy part move j now.cur)
IsReadyTo CaLink part move now = IsAside part move now.cur
    × ((j : ℕ) → j < moving move → HasCopy part move j now.cur)
IsReadyTo CaSwitch part move now = IsAside part move now.cur
    × IsMoved part move.area move.into move.stay now
IsReadyTo stage part move now = ⊥

-- The blocks are as the split under way left them: its area is one of the chain, with as many
-- entries as it had, of which some stay and some move.
pub record IsMoving (part : KeyedChain) (move : MoveNow) (now : Seen) : Type 0 where
  pub inside : Contains (areas_in part now.cur) move.area
  pub entries : length (entries_of (head_in part now.cur move.area)) ≡ move.entries
  pub some : 0 < move.stay
  pub fewer : move.stay < move.entries
  pub ready : IsReadyTo move.stage part move now

-- the blocks of a part are as its split under way left them
abbrev pub MoveUnderWay : KeyedChain → Option MoveNow → Seen → Type 0
MoveUnderWay part None now = Unit {0}
MoveUnderWay part (Some move) now = IsMoving part move now

-- the area that gets the entries is the part's own, once it is claimed
abbrev pub OwnsInto : KeyedChain → Owners → Option MoveNow → Type 0
OwnsInto part owners None = Unit {0}
OwnsInto part owners (Some move) = move.stage ≢ CaClaim → IsOwnedArea part owners move.into

-- a stage that a split of an area has reached once it has claimed another
abbrev pub IsPastClaimStage : StageKind → Type 0
IsPastClaimStage CaCopy = Unit {0}
IsPastClaimStage CaLink = Unit {0}
IsPastClaimStage CaSwitch = Unit {0}
IsPastClaimStage stage = ⊥

-- Between two calls no split of an area is under way, or one that has claimed an area.
abbrev pub IsPastClaim : Option MoveNow → Type 0
IsPastClaim None = Unit {0}
IsPastClaim (Some move) = IsPastClaimStage move.stage

-- ---- the chain once a split is done

-- the areas of a chain, with one more after this one
abbrev pub with_area : ℕ → ℕ → List ℕ → List ℕ
with_area area into [] = []
with_area area into (one ∷ areas) =
    if nat_eq one area then one ∷ into ∷ areas else one ∷ with_area area into areas

-- and where each ends, where this one ends at the cut now, and the other where it ended
abbrev pub with_end : ℕ → List ℕ → List ℕ → List (List ℕ) → List (List ℕ)
with_end area cut [] ends = []
with_end area cut (one ∷ areas) [] = []
with_end area cut (one ∷ areas) (end ∷ ends) =
    if nat_eq one area then cut ∷ end ∷ ends else end ∷ with_end area cut areas ends
