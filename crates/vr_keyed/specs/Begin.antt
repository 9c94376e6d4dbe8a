-- Which split begins where a record lacks room, and how many entries of an area stay then. The
-- rules are this project's own.
use Rattle.std.specs.Prelude.{◌≡◌, ◌≤◌, ◌<◌, ◌-◌, ◌/◌, ◌&&◌, ℕ, Bool, List, IsSome, Some, None}
use Rattle.std.specs.Prelude.{false, true, length, is_none, if◌then◌else◌}
use Rattle.vr_types.specs.Image.{Block}
use Rattle.vr_seqset.specs.Reading.{entry_of, record_in}
use Rattle.vr_seqset.specs.SequenceSet.{SequenceSet}
use Rattle.vr_keyed.specs.declared.begin.Beginning.{Beginning}
use Rattle.vr_keyed.specs.declared.begin.Beginning.TheVariants.{Area, Interval}
use Rattle.vr_space.specs.Keyed.{Keyed, entries_of}
use Rattle.vr_space.specs.Room.{is_above}
use Rattle.vr_space.specs.Split.{can_grow, free_interval}

-- the place is past the ranges of all entries but the last, of two at least: it is above the high
-- place of the last but one
abbrev pub is_past_others : SequenceSet → List ℕ → Bool
is_past_others head place =
    is_above (Some (entry_of head (length head.entries - 2)).high) place

-- How many entries of a head stay where its area is split for a record at this place: of these
-- entries the first half, the greater one of an odd number; of the last area of a chain all but the
-- last, where the place is past them.
abbrev pub entries_staying : SequenceSet → List ℕ → ℕ
entries_staying head place =
    if is_none head.next && is_past_others head place
    then length head.entries - 1
    else length head.entries - length head.entries / 2

-- The area is split: none of its intervals is free, an area of the volume is, this is how many
-- entries its head has, and this how many of them stay.
pub record IsWhole (part : Keyed) (top : Block) (place : List ℕ) (free entries stay : ℕ) : Type 0
  where
    pub none : free_interval part top ≡ None
    pub grows : can_grow free top ≡ true
    pub count : entries ≡ length (entries_of top)
    pub staying : stay ≡ entries_staying (record_in top) place

-- it is the one that begins under the head for a record at this place, with this many areas free
abbrev pub IsBeginning : Keyed → Block → List ℕ → ℕ → Beginning → Type 0
IsBeginning part top place free Interval = IsSome (free_interval part top)
IsBeginning part top place free (Area entries stay) = IsWhole part top place free entries stay

-- none begins
pub record HasNoBeginning (part : Keyed) (top : Block) (free : ℕ) : Type 0 where
  pub none : free_interval part top ≡ None
  pub stays : can_grow free top ≡ false

-- as many entries as a split of an area takes, of which some stay and some move, with an area free
abbrev pub AreFew : Keyed → ℕ → Beginning → Type 0
AreFew part free Interval = Unit {0}
AreFew part free (Area entries stay) =
    (1 ≤ free) × (0 < stay) × (stay < entries) × (entries ≤ part.area)
