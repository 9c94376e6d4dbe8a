-- The first area of a part without records, as it is written: of each of its blocks that a reader
-- comes to, a crash leaves the current content alone. The rules are this project's own.
use Rattle.std.specs.Prelude.{◌≡◌, [], length, None, false}
use Rattle.vr_types.specs.Image.{Block, Image, block_at}
use Rattle.vr_types.specs.Seen.{Seen}
use Rattle.vr_ci_match.specs.declared.form.Form.TheVariants.{Plain}
use Rattle.vr_ci_match.specs.declared.form.Shape.TheVariants as shapes
use Rattle.vr_ci.specs.Interval as ci
use Rattle.vr_seqset.specs.Roster.{IsRoster, Roster}
use Rattle.vr_seqset.specs.SequenceSet.{IsSequenceSet}
use Rattle.vr_space.specs.Keyed.{Keyed}
use Rattle.vr_space.specs.Rosters.{Numbered, roster_block}
use Rattle.vr_space.specs.UnderWay.{IsStable, interval_block}
use Rattle.vr_start.specs.FirstHead.{first_record}

-- nothing is said of the images of a call
abbrev pub Anything : Image → Type 0
Anything image = Unit {0}

-- ---- of a key-sequenced part

-- a control interval without records
abbrev pub no_records : ci.Interval
no_records = record {
  shape = shapes.Records;
  items = [];
  busy = false;
}

-- The block is the head of the first area, or its interval 0.
pub record IsFirstHead (part : Keyed) (top : Block) : Type 0 where
  pub spelled : IsSequenceSet part.area top (first_record part)
  pub size : length top ≡ part.size

pub record IsFirstInterval (part : Keyed) (block : Block) : Type 0 where
  pub spelled : ci.IsInterval Plain block no_records
  pub size : length block ≡ part.size

-- The area has both.
pub record HasFirstArea (part : Keyed) (image : Image) : Type 0 where
  pub head : IsFirstHead part (block_at image part.head)
  pub interval : IsFirstInterval part (block_at image (interval_block part 0))

-- And a crash leaves these alone.
pub record IsFirstArea (part : Keyed) (now : Seen) : Type 0 where
  pub has : HasFirstArea part now.cur
  pub one_head : IsStable now part.head
  pub one_interval : IsStable now (interval_block part 0)

-- ---- of an entry-sequenced or relative part

-- no interval of the area is used, and no area comes next
abbrev pub first_roster : Numbered → Roster
first_roster part = record { used = 0; part = part.part; next = None }

-- The block is that roster.
pub record IsFirstTop (part : Numbered) (top : Block) : Type 0 where
  pub roster : IsRoster part.geometry.area top (first_roster part)
  pub size : length top ≡ part.geometry.size

-- The first area of the part has it, and a crash leaves it alone.
pub record IsFirstRoster (part : Numbered) (now : Seen) : Type 0 where
  pub has : IsFirstTop part (block_at now.cur (roster_block part part.first))
  pub one_roster : IsStable now (roster_block part part.first)
