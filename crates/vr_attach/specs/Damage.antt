-- Which rules a block of one area of a keyed part breaks, written over what the block spells, apart
-- from the walk of the code. The rules and their numbers are this project's own.
use Rattle.std.specs.Prelude.{◌≡◌, ℕ, ◌<◌, false, IsTrue, length, All, Some, IfSome, map}
use Rattle.std.specs.List.{slice_get}
use Rattle.std.specs.List.Sorted.{IsStrictlySortedBy}
use Rattle.vr_types.specs.Content.{place_cmp}
use Rattle.vr_types.specs.Image.{Block, Image, block_at}
use Rattle.vr_ci_match.specs.declared.form.Form.TheVariants.{Plain}
use Rattle.vr_ci_match.specs.declared.form.Shape.TheVariants as shapes
use Rattle.vr_ci.specs.Interval as ci
use Rattle.vr_seqset.specs.Entry.{Entry}
use Rattle.vr_seqset.specs.SequenceSet.{SequenceSet, IsSequenceSet}
use Rattle.vr_seqset.specs.Reading.{record_in}
use Rattle.vr_space.specs.Room.{Range, is_in}
use Rattle.vr_space.specs.Keyed.{Keyed, IsKept, HoldsRange, entries_of, entry_block, key_of, low_of}
use Rattle.vr_space.specs.Keyed.{range_of}
use Rattle.vr_space.specs.Search.{low_before}
use Rattle.vr_attach.specs.declared.rule.Rule.{Rule}
use Rattle.vr_attach.specs.declared.rule.Rule.TheVariants as rules

-- the number that a rule is shown by
abbrev pub rule_number : Rule → ℕ
rule_number rules.AreaNumber = 3
rule_number rules.AreaTwice = 4
rule_number rules.SequenceSet = 5
rule_number rules.PartNumber = 6
rule_number rules.Places = 7
rule_number rules.ControlInterval = 8
rule_number rules.EndOfFile = 9
rule_number rules.Record = 10
rule_number rules.Order = 11
rule_number rules.Roster = 13
rule_number rules.Slots = 14

-- A rule is broken, and none with a lower number.
pub record IsLeastBroken (Breaks : Rule → Type 0) (rule : Rule) : Type 0 where
  pub broken : Breaks rule
  pub least : (other : Rule) → rule_number other < rule_number rule → Breaks other → ⊥

-- ---- the head

-- the block of a head spells a sequence-set record
pub record SpellsRecord (part : Keyed) (top : Block) : Type 0 where
  pub spelled : IsSequenceSet part.area top (record_in top)
  pub size : length top ≡ part.size

-- each area that a record names is one of the volume's
pub record NamesAreas (areas : ℕ) (s : SequenceSet) : Type 0 where
  pub next : IfSome s.next (λ area. area < areas)
  pub index : IfSome s.index_area (λ area. area < areas)

-- the part and the place length are those of the catalog
pub record IsOfPart (part : Keyed) (s : SequenceSet) : Type 0 where
  pub number : s.part ≡ part.part
  pub key : length s.low ≡ part.key

-- ---- an interval

-- the block spells this control interval
pub record Spells (part : Keyed) (block : Block) (value : ci.Interval) : Type 0 where
  pub spelled : ci.IsInterval Plain block value
  pub size : length block ≡ part.size

-- It has records, each live and valid. Parts have no segments yet.
pub record HasRecords (part : Keyed) (value : ci.Interval) : Type 0 where
  pub shape : value.shape ≡ shapes.Records
  pub kept : All (IsKept part) value.items

-- They stand in the order of their keys, and none beyond the range unless it is busy.
pub record AreInOrder (part : Keyed) (range : Range) (value : ci.Interval) : Type 0 where
  pub ascends : IsStrictlySortedBy place_cmp
      (map (λ (item : ci.Item). key_of part item.bytes) value.items)
  pub within : value.busy ≡ false
      → All (λ (item : ci.Item). IsTrue (is_in range (key_of part item.bytes))) value.items

-- which rules the interval of a range breaks
abbrev pub IntervalBreaks : Keyed → Range → Block → Rule → Type 0
IntervalBreaks part range block rules.AreaNumber = ⊥
IntervalBreaks part range block rules.AreaTwice = ⊥
IntervalBreaks part range block rules.SequenceSet = ⊥
IntervalBreaks part range block rules.PartNumber = ⊥
IntervalBreaks part range block rules.Places = ⊥
IntervalBreaks part range block rules.ControlInterval =
    (value : ci.Interval) → Spells part block value → ⊥
IntervalBreaks part range block rules.EndOfFile =
    (value : ci.Interval) × Spells part block value × (value.shape ≡ shapes.EndOfFile)
IntervalBreaks part range block rules.Record =
    (value : ci.Interval) × Spells part block value × (HasRecords part value → ⊥)
IntervalBreaks part range block rules.Order =
    (value : ci.Interval) × Spells part block value × (AreInOrder part range value → ⊥)
IntervalBreaks part range block rules.Roster = ⊥
IntervalBreaks part range block rules.Slots = ⊥

-- ---- the intervals of a head

-- the interval of the entry of this number is one of its range
abbrev pub HoldsNth : Keyed → Block → Image → ℕ → Type 0
HoldsNth part top image i = (entry : Entry) → slice_get (entries_of top) i ≡ Some entry
    → HoldsRange part (range_of (low_before (low_of top) (entries_of top) i) entry)
    (block_at image (entry_block part entry))

-- Block n is the interval of an entry, and breaks the rule; those of the entries before it break
-- none.
pub record IsBadInterval (part : Keyed) (top : Block) (image : Image) (n : ℕ) (rule : Rule) : Type 0
  where
    pub number : ℕ
    pub entry : Entry
    pub is : slice_get (entries_of top) number ≡ Some entry
    pub before : (i : ℕ) → i < number → HoldsNth part top image i
    pub block : n ≡ entry_block part entry
    pub rule_is : IsLeastBroken (IntervalBreaks part
        (range_of (low_before (low_of top) (entries_of top) number) entry) (block_at image n)) rule
