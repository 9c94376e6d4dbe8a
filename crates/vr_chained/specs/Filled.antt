-- What is read of one interval of a part, and what setting one of its items leaves of it. The rules
-- are this project's own.
use Rattle.std.specs.Prelude.{◌≡◌, ◌≢◌, ◌≤◌, ◌<◌, ℕ, Bool, true, false, List, [], length, Option}
use Rattle.std.specs.Prelude.{None, IfSome, option_and_then}
use Rattle.vr_types.specs.Content.{record_of}
use Rattle.vr_types.specs.Image.{Block}
use Rattle.vr_entries.specs.Entry.{LengthsAfter, MayBeSet}
use Rattle.vr_space.specs.Entries.{entry_item}
use Rattle.vr_space.specs.Keyed.{items_of}
use Rattle.vr_space.specs.Numbered.{IsFilled, item_in, left_in, span_of}
use Rattle.vr_space.specs.Rosters.{Numbered}

-- the record at one of its places: what was withdrawn is none
abbrev pub record_in : Numbered → ℕ → Block → Option (List ℕ)
record_in part at block = option_and_then record_of (item_in part at block)

-- The place is the first one with a record, from another on.
pub record IsFirstHeld (part : Numbered) (block : Block) (from at : ℕ) : Type 0 where
  pub from_is : from ≤ at
  pub below_is : at < span_of part
  pub some : record_in part at block ≢ None
  pub none : (other : ℕ) → from ≤ other → other < at → record_in part other block ≡ None

-- what may be given at one of its places: a slot's record has the slot's length
abbrev pub MayBeGivenBy : Bool → Numbered → ℕ → Option (List ℕ) → Block → Type 0
MayBeGivenBy true part at bytes block =
    IfSome bytes (λ (given : List ℕ). length given ≡ part.most)
MayBeGivenBy false part at bytes block = MayBeSet part at bytes block

abbrev pub MayBeGiven : Numbered → ℕ → Option (List ℕ) → Block → Type 0
MayBeGiven part at bytes block = MayBeGivenBy part.relative part at bytes block

-- the lengths of an entry-sequenced part's items stay, but for one that is added at the end
abbrev pub KeepsLengths : Bool → ℕ → Option (List ℕ) → Block → Block → Type 0
KeepsLengths true at bytes old new = Unit {0}
KeepsLengths false at bytes old new =
    LengthsAfter (entry_item at (items_of old)) at bytes (items_of old) (items_of new)

-- The item at one of its places is what a call leaves there that gives this, and each other stays.
pub record IsItemSet (part : Numbered) (at : ℕ) (bytes : Option (List ℕ)) (old new : Block) : Type 0
  where
    pub filled : IsFilled part new
    pub here : item_in part at new ≡ left_in part.relative (item_in part at old) bytes
    pub others : (other : ℕ) → other < span_of part → other ≢ at
        → item_in part other new ≡ item_in part other old
    pub lengths : KeepsLengths part.relative at bytes old new

-- The interval has no item at any place.
pub record IsUnfilled (part : Numbered) (block : Block) : Type 0 where
  pub filled : IsFilled part block
  pub none : (at : ℕ) → item_in part at block ≡ None
  pub items : part.relative ≡ false → items_of block ≡ []
