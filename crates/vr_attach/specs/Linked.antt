-- Where the blocks of a keyed part stand for no content in areas of its own: the first block of the
-- walk with a broken rule, and the least rule that is broken there. The walk goes from area to
-- area: the head, then the interval of each entry in their order, then the area that comes next.
-- Written over what the blocks spell, apart from the walk of the code. The rules and their numbers
-- are this project's own.
use Rattle.std.specs.Prelude.{◌≡◌, ◌≢◌, ◌⊎◌, ℕ, zero, suc, ◌<◌, List, [], ◌∷◌, length, take}
use Rattle.std.specs.Prelude.{replicate, All, Contains, Option, Some, None, IfSome, is_none}
use Rattle.std.specs.Prelude.{slice_get}
use Rattle.std.specs.Borrow.{Bor}
use Rattle.std.specs.Option.{option_map}
use Rattle.vr_types.specs.Geometry.{area_count}
use Rattle.vr_types.specs.Image.{Block, Image, block_at}
use Rattle.vr_seqset.specs.Entry.{Entry}
use Rattle.vr_seqset.specs.Reading.{record_in}
use Rattle.vr_space.specs.Keyed.{IsHead, Keyed, entries_of, low_of}
use Rattle.vr_space.specs.Part.{KeyedShape, Stands}
use Rattle.vr_space.specs.Rosters.{after_next}
use Rattle.vr_space.specs.Areas.{KeyedChain, area_of, areas_in, end_of, head_in, head_of}
use Rattle.vr_attach.specs.Damage.{HoldsNth, IsBadInterval, IsLeastBroken, IsOfPart, NamesAreas}
use Rattle.vr_attach.specs.Damage.{SpellsRecord, rule_number}
use Rattle.vr_attach.specs.declared.rule.Rule.{Rule}
use Rattle.vr_attach.specs.declared.rule.Rule.TheVariants as rules

-- ---- a head

-- A record that the head of an area may be whose ranges begin at the low place: it has the flag of
-- the first where there is none, and no other has it. Parts have no index yet, and no records of
-- several intervals: so it names no index, and each entry has one interval.
pub record IsRecordAt (part : Keyed) (low : Option (List ℕ)) (top : Block) : Type 0 where
  pub spells : SpellsRecord part top
  pub first : (record_in top).first ≡ is_none low
  pub index : (record_in top).top ≡ 0
  pub index_area : (record_in top).index_area ≡ None
  pub single : All (λ (entry : Entry). length entry.intervals ≡ 1) (entries_of top)

-- Its ranges begin where those of the area before end, and where no area comes next they end at the
-- greatest place.
pub record GoesOnFrom (part : Keyed) (low : Option (List ℕ)) (top : Block) : Type 0 where
  pub begins : low_of top ≡ low
  pub ends : (record_in top).next ≡ None → end_of top ≡ Some (replicate part.key 255)

-- Which rules the head of an area breaks, which is `area` of `areas`. What isn't spelled names no
-- area.
abbrev pub LinkBreaks : Keyed → ℕ → ℕ → Option (List ℕ) → Block → Rule → Type 0
LinkBreaks part area areas low top rules.AreaNumber =
    SpellsRecord part top × (NamesAreas areas (record_in top) → ⊥)
LinkBreaks part area areas low top rules.AreaTwice =
    SpellsRecord part top × ((record_in top).next ≡ Some area)
LinkBreaks part area areas low top rules.SequenceSet = IsRecordAt part low top → ⊥
LinkBreaks part area areas low top rules.PartNumber = IsOfPart part (record_in top) → ⊥
LinkBreaks part area areas low top rules.Places = GoesOnFrom part low top → ⊥
LinkBreaks part area areas low top rules.ControlInterval = ⊥
LinkBreaks part area areas low top rules.EndOfFile = ⊥
LinkBreaks part area areas low top rules.Record = ⊥
LinkBreaks part area areas low top rules.Order = ⊥
LinkBreaks part area areas low top rules.Roster = ⊥
LinkBreaks part area areas low top rules.Slots = ⊥

-- it breaks none
abbrev pub IsTopSound : Keyed → ℕ → ℕ → Option (List ℕ) → Block → Type 0
IsTopSound part area areas low top = (rule : Rule) → LinkBreaks part area areas low top rule → ⊥

-- What a head is that breaks none: a head of the part, which goes on from the low place, and leads
-- to no area but another one of the volume.
pub record IsGoodTop (part : Keyed) (area areas : ℕ) (low : Option (List ℕ)) (top : Block) : Type 0
  where
    pub head : IsHead part top
    pub goes : GoesOnFrom part low top
    pub there : IfSome (record_in top).next (λ (next : ℕ). next < areas)
    pub other : (record_in top).next ≢ Some area

-- the low place where it is lent
abbrev pub low_lent : Option (Bor (List ℕ)) → Option (List ℕ)
low_lent low = option_map (λ (place : Bor (List ℕ)). place.now) low

-- ---- one area

-- Neither its head nor the interval of one of its entries breaks a rule.
pub record IsKeyedAreaSound (part : Keyed) (area areas : ℕ) (low : Option (List ℕ)) (image : Image)
    : Type 0 where
  pub head : IsTopSound part area areas low (block_at image part.head)
  pub intervals : (i : ℕ) → i < length (entries_of (block_at image part.head))
      → HoldsNth part (block_at image part.head) image i

-- Block n is its head, and breaks the rule.
pub record IsBadTop (part : Keyed) (area areas : ℕ) (low : Option (List ℕ)) (image : Image) (n : ℕ)
    (rule : Rule) : Type 0 where
  pub block : n ≡ part.head
  pub rule_is : IsLeastBroken (LinkBreaks part area areas low (block_at image n)) rule

-- Block n is the interval of an entry under a head that breaks none, and breaks the rule.
pub record IsBadUnderTop (part : Keyed) (area areas : ℕ) (low : Option (List ℕ)) (image : Image)
    (n : ℕ) (rule : Rule) : Type 0 where
  pub head : IsTopSound part area areas low (block_at image part.head)
  pub interval : IsBadInterval part (block_at image part.head) image n rule

-- the area breaks the rule at block n
abbrev pub IsKeyedAreaBad : Keyed → ℕ → ℕ → Option (List ℕ) → Image → ℕ → Rule → Type 0
IsKeyedAreaBad part area areas low image n rule =
    IsBadTop part area areas low image n rule ⊎ IsBadUnderTop part area areas low image n rule

-- ---- the walk

-- the areas of the chain from one on, each with the place at which its ranges are to begin
abbrev pub links_after : KeyedChain → Image → ℕ → ℕ → Option (List ℕ)
    → List (ℕ × Option (List ℕ))
links_after part image zero area low = []
links_after part image (suc k) area low =
    (area, low) ∷ after_next []
    (λ next. links_after part image k next (end_of (head_in part image area)))
    (record_in (head_in part image area)).next

abbrev pub links_in : KeyedChain → Image → List (ℕ × Option (List ℕ))
links_in part image = links_after part image (area_count part.geometry) part.first None

-- neither the head of an area of the chain nor the interval of one of its entries breaks a rule
abbrev pub IsAreaWhole : KeyedChain → Image → ℕ × Option (List ℕ) → Type 0
IsAreaWhole part image link =
    IsKeyedAreaSound (area_of part link.0) link.0 (area_count part.geometry) link.1 image

-- the area was reached before: it is taken, or one of those of the chain up to the one at `at`
abbrev pub IsLinkedBefore : KeyedChain → (ℕ → Type 0) → Image → ℕ → ℕ → Type 0
IsLinkedBefore part Taken image at area =
    Taken area ⊎ Contains (take (suc at) (areas_in part image)) area

-- The areas of the chain before the one at `at` break no rule, and each of them leads to an area
-- that wasn't reached before.
pub record IsLinkedTo (part : KeyedChain) (Taken : ℕ → Type 0) (image : Image) (at : ℕ) : Type 0
  where
    pub sound : (i : ℕ) (link : ℕ × Option (List ℕ)) → i < at
        → slice_get (links_in part image) i ≡ Some link → IsAreaWhole part image link
    pub new : (i : ℕ) (link : ℕ × Option (List ℕ)) (next : ℕ) → i < at
        → slice_get (links_in part image) i ≡ Some link
        → (record_in (head_in part image link.0)).next ≡ Some next
        → IsLinkedBefore part Taken image i next → ⊥

-- Block n is the head of an area of the chain, and breaks the rule.
abbrev pub IsBadLink : KeyedChain → Image → ℕ × Option (List ℕ) → ℕ → Rule → Type 0
IsBadLink part image link n rule =
    IsBadTop (area_of part link.0) link.0 (area_count part.geometry) link.1 image n rule

-- Block n is the interval of an entry under a head that breaks none, and breaks the rule.
abbrev pub IsBadUnderLink : KeyedChain → Image → ℕ × Option (List ℕ) → ℕ → Rule → Type 0
IsBadUnderLink part image link n rule =
    IsBadUnderTop (area_of part link.0) link.0 (area_count part.geometry) link.1 image n rule

-- Block n is the head of an area that was reached before, to which a whole area leads.
pub record IsLinkedTwice (part : KeyedChain) (Taken : ℕ → Type 0) (image : Image) (at : ℕ)
    (link : ℕ × Option (List ℕ)) (n : ℕ) (rule : Rule) : Type 0 where
  pub whole : IsAreaWhole part image link
  pub next : ℕ
  pub leads : (record_in (head_in part image link.0)).next ≡ Some next
  pub before : IsLinkedBefore part Taken image at next
  pub block : n ≡ head_of part next
  pub rule_is : rule ≡ rules.AreaTwice

-- The part stands for no content, in areas of its own: block n is the first that breaks a rule, and
-- this is the least that it breaks. The areas of which Taken is true are those of other parts.
pub record IsLinkedDamagedAt (part : KeyedChain) (Taken : ℕ → Type 0) (image : Image) (n : ℕ)
    (rule : Rule) : Type 0 where
  pub at : ℕ
  pub link : ℕ × Option (List ℕ)
  pub is : slice_get (links_in part image) at ≡ Some link
  pub walked : IsLinkedTo part Taken image at
  pub shown : IsBadLink part image link n rule ⊎ IsBadUnderLink part image link n rule
      ⊎ IsLinkedTwice part Taken image at link n rule

-- by the number of the rule
pub record IsLinkedShown (part : KeyedChain) (Taken : ℕ → Type 0) (image : Image)
    (block number : ℕ) : Type 0 where
  pub rule : Rule
  pub number_is : number ≡ rule_number rule
  pub damaged : IsLinkedDamagedAt part Taken image block rule

-- The blocks stand for a content, and no area of the chain but the first is one of which Taken is
-- true.
pub record StandsAlone (part : KeyedChain) (Taken : ℕ → Type 0) (image : Image) : Type 0 where
  pub content : Stands (KeyedShape part) image
  pub alone : (area : ℕ) → Contains (areas_in part image) area → area ≢ part.first → Taken area → ⊥
