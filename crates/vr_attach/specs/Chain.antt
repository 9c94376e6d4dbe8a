-- Where the blocks of an entry-sequenced or relative part stand for no content: the first block of
-- the walk with a broken rule, and the least rule that is broken there. The walk goes from area to
-- area: the roster, then each interval that is used, then the area that comes next. Written over
-- what the blocks spell, apart from the walk of the code. The rules and their numbers are this
-- project's own.
use Rattle.std.specs.Prelude.{◌≡◌, ◌⊎◌, ℕ, ◌<◌, suc, Bool, true, false, length, Some, IfSome}
use Rattle.std.specs.Prelude.{Contains, take, slice_get}
use Rattle.std.specs.List.{AllByRecursion}
use Rattle.vr_types.specs.Geometry.{area_count}
use Rattle.vr_types.specs.Image.{Block, Image, block_at}
use Rattle.vr_ci_match.specs.declared.form.Form.{Form}
use Rattle.vr_ci_match.specs.declared.form.Form.TheVariants as forms
use Rattle.vr_ci_match.specs.declared.form.Shape.TheVariants as shapes
use Rattle.vr_ci.specs.Interval as ci
use Rattle.vr_seqset.specs.Roster.{IsRoster}
use Rattle.vr_seqset.specs.Reading.{roster_in}
use Rattle.vr_space.specs.Rosters.{Numbered, chain_of, interval_in, roster_at, roster_block}
use Rattle.vr_space.specs.Entries.{IsEntry}
use Rattle.vr_space.specs.Numbered.{IsFilled}
use Rattle.vr_space.specs.Slots.{IsSlots}
use Rattle.vr_attach.specs.Damage.{IsLeastBroken, rule_number}
use Rattle.vr_attach.specs.declared.rule.Rule.{Rule}
use Rattle.vr_attach.specs.declared.rule.Rule.TheVariants as rules

-- ---- a roster

-- the block of a roster spells one
pub record SpellsRoster (part : Numbered) (top : Block) : Type 0 where
  pub spelled : IsRoster part.geometry.area top (roster_in top)
  pub size : length top ≡ part.geometry.size

-- it spells one, and leads on only where its area is used whole
pub record LeadsOn (part : Numbered) (top : Block) : Type 0 where
  pub spells : SpellsRoster part top
  pub whole : IfSome (roster_in top).next (λ (next : ℕ). (roster_in top).used ≡ part.geometry.area)

-- Which rules the roster of an area breaks. What isn't spelled names no area and no part.
abbrev pub RosterBreaks : Numbered → Block → Rule → Type 0
RosterBreaks part top rules.AreaNumber = SpellsRoster part top
    × (IfSome (roster_in top).next (λ (next : ℕ). next < area_count part.geometry) → ⊥)
RosterBreaks part top rules.AreaTwice = ⊥
RosterBreaks part top rules.SequenceSet = ⊥
RosterBreaks part top rules.PartNumber =
    SpellsRoster part top × ((roster_in top).part ≡ part.part → ⊥)
RosterBreaks part top rules.Places = ⊥
RosterBreaks part top rules.ControlInterval = ⊥
RosterBreaks part top rules.EndOfFile = ⊥
RosterBreaks part top rules.Record = ⊥
RosterBreaks part top rules.Order = ⊥
RosterBreaks part top rules.Roster = LeadsOn part top → ⊥
RosterBreaks part top rules.Slots = ⊥

-- it breaks none
abbrev pub IsRosterSound : Numbered → Block → Type 0
IsRosterSound part top = (rule : Rule) → RosterBreaks part top rule → ⊥

-- ---- an interval

-- the block spells a control interval of some form
pub record SpellsInterval (part : Numbered) (block : Block) (value : ci.Interval) : Type 0 where
  pub form : Form
  pub spelled : ci.IsInterval form block value
  pub size : length block ≡ part.geometry.size

-- which rules an interval of slots breaks
abbrev pub SlotsBreak : Numbered → Block → Rule → Type 0
SlotsBreak part block rules.AreaNumber = ⊥
SlotsBreak part block rules.AreaTwice = ⊥
SlotsBreak part block rules.SequenceSet = ⊥
SlotsBreak part block rules.PartNumber = ⊥
SlotsBreak part block rules.Places = ⊥
SlotsBreak part block rules.ControlInterval =
    (value : ci.Interval) → SpellsInterval part block value → ⊥
SlotsBreak part block rules.EndOfFile = (value : ci.Interval) × SpellsInterval part block value
    × (value.shape ≡ shapes.EndOfFile)
SlotsBreak part block rules.Record = ⊥
SlotsBreak part block rules.Order = ⊥
SlotsBreak part block rules.Roster = ⊥
SlotsBreak part block rules.Slots = IsSlots part block → ⊥

-- the block spells a control interval of records
pub record SpellsRecords (part : Numbered) (block : Block) (value : ci.Interval) : Type 0 where
  pub spelled : ci.IsInterval forms.Plain block value
  pub size : length block ≡ part.geometry.size

-- It has records that an entry-sequenced part may have, and isn't busy. Parts have no segments yet.
pub record HasEntries (part : Numbered) (value : ci.Interval) : Type 0 where
  pub shape : value.shape ≡ shapes.Records
  pub idle : value.busy ≡ false
  pub each : AllByRecursion (IsEntry part) value.items

-- which rules an interval of records breaks
abbrev pub EntriesBreak : Numbered → Block → Rule → Type 0
EntriesBreak part block rules.AreaNumber = ⊥
EntriesBreak part block rules.AreaTwice = ⊥
EntriesBreak part block rules.SequenceSet = ⊥
EntriesBreak part block rules.PartNumber = ⊥
EntriesBreak part block rules.Places = ⊥
EntriesBreak part block rules.ControlInterval =
    (value : ci.Interval) → SpellsRecords part block value → ⊥
EntriesBreak part block rules.EndOfFile = (value : ci.Interval) × SpellsRecords part block value
    × (value.shape ≡ shapes.EndOfFile)
EntriesBreak part block rules.Record =
    (value : ci.Interval) × SpellsRecords part block value × (HasEntries part value → ⊥)
EntriesBreak part block rules.Order = ⊥
EntriesBreak part block rules.Roster = ⊥
EntriesBreak part block rules.Slots = ⊥

-- by the kind of the part
abbrev pub FilledBreaksBy : Bool → Numbered → Block → Rule → Type 0
FilledBreaksBy true part block rule = SlotsBreak part block rule
FilledBreaksBy false part block rule = EntriesBreak part block rule

abbrev pub FilledBreaks : Numbered → Block → Rule → Type 0
FilledBreaks part block rule = FilledBreaksBy part.relative part block rule

-- ---- the walk

-- the roster of an area and each of its used intervals break no rule
pub record IsAreaSound (part : Numbered) (image : Image) (area : ℕ) : Type 0 where
  pub roster : IsRosterSound part (block_at image (roster_block part area))
  pub intervals : (interval : ℕ) → interval < (roster_at part image area).used
      → IsFilled part (block_at image (interval_in part area interval))

-- the area was reached before: it is taken, or one of those of the chain up to the one at `at`
abbrev pub IsReachedBefore : Numbered → (ℕ → Type 0) → Image → ℕ → ℕ → Type 0
IsReachedBefore part Taken image at area =
    Taken area ⊎ Contains (take (suc at) (chain_of part image)) area

-- The areas of the chain before the one at `at` break no rule, and each of them leads to an area
-- that wasn't reached before.
pub record IsWalkedTo (part : Numbered) (Taken : ℕ → Type 0) (image : Image) (at : ℕ) : Type 0
  where
    pub sound : (i area : ℕ) → i < at → slice_get (chain_of part image) i ≡ Some area
        → IsAreaSound part image area
    pub new : (i area next : ℕ) → i < at → slice_get (chain_of part image) i ≡ Some area
        → (roster_at part image area).next ≡ Some next
        → IsReachedBefore part Taken image i next → ⊥

-- Block n is the roster of an area of the chain, and breaks the rule.
pub record IsBadRoster (part : Numbered) (image : Image) (area n : ℕ) (rule : Rule) : Type 0 where
  pub block : n ≡ roster_block part area
  pub rule_is : IsLeastBroken (RosterBreaks part (block_at image n)) rule

-- Block n is a used interval of an area of the chain, and breaks the rule; the roster and the
-- intervals before it break none.
pub record IsBadFilled (part : Numbered) (image : Image) (area n : ℕ) (rule : Rule) : Type 0 where
  pub roster : IsRosterSound part (block_at image (roster_block part area))
  pub interval : ℕ
  pub used : interval < (roster_at part image area).used
  pub before : (other : ℕ) → other < interval
      → IsFilled part (block_at image (interval_in part area other))
  pub block : n ≡ interval_in part area interval
  pub rule_is : IsLeastBroken (FilledBreaks part (block_at image n)) rule

-- Block n is the roster of an area that was reached before, to which a sound area leads.
pub record IsReachedTwice (part : Numbered) (Taken : ℕ → Type 0) (image : Image) (at area n : ℕ)
    (rule : Rule) : Type 0 where
  pub sound : IsAreaSound part image area
  pub next : ℕ
  pub leads : (roster_at part image area).next ≡ Some next
  pub before : IsReachedBefore part Taken image at next
  pub block : n ≡ roster_block part next
  pub rule_is : rule ≡ rules.AreaTwice

-- The part stands for no content, in areas of its own: block n is the first that breaks a rule, and
-- this is the least that it breaks. The areas of which Taken is true are those of other parts.
pub record IsChainDamagedAt (part : Numbered) (Taken : ℕ → Type 0) (image : Image) (n : ℕ)
    (rule : Rule) : Type 0 where
  pub at : ℕ
  pub area : ℕ
  pub is : slice_get (chain_of part image) at ≡ Some area
  pub walked : IsWalkedTo part Taken image at
  pub shown : IsBadRoster part image area n rule ⊎ IsBadFilled part image area n rule
      ⊎ IsReachedTwice part Taken image at area n rule

-- by the number of the rule
pub record IsChainShown (part : Numbered) (Taken : ℕ → Type 0) (image : Image) (block number : ℕ)
    : Type 0 where
  pub rule : Rule
  pub number_is : number ≡ rule_number rule
  pub damaged : IsChainDamagedAt part Taken image block rule
