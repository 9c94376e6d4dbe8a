-- What is seen of a keyed part on blocks.
use Rattle.std.specs.Prelude.{◌≡◌, ◌+◌, ◌-◌, ◌^◌, ◌++◌, ◌∷◌, [], ℕ, List, Option, None, Some}
use Rattle.std.specs.Prelude.{Contains, min}
use Rattle.std.specs.Option.{option_map}
use Rattle.vr_types.specs.declared.unit.StageKind.{StageKind}
use Rattle.vr_types.specs.declared.unit.StageKind.TheVariants.{CaClaim, CiSwitch}
use Rattle.vr_space.specs.Areas.{KeyedChain, area_by, area_of}
use Rattle.vr_space.specs.Keyed.{InArea}
use Rattle.vr_space.specs.Split.{AreaSplit, MoveNow, SplitNow}
use Rattle.vr_space.specs.Met.{Met}
use Rattle.vr_space.specs.Known.{Known}
use Rattle.vr_attach.specs.Areas.{AreasNow}

-- the splits of a part, of which at most one is under way: of an interval, or of an area
pub record Splitting : Type 0 where
  pub part : KeyedChain
  pub split : Option AreaSplit
  pub move : Option MoveNow

-- Where it is, its areas in the order of their chain, where the ranges of each end, and how many
-- intervals their heads lead to; the split of an interval or of an area that is under way, what it
-- met last and how many intervals it may keep, and which blocks its last `set` put.
pub record Owned : Type 0 where
  pub part : KeyedChain
  pub areas : List ℕ
  pub ends : List (List ℕ)
  pub intervals : ℕ
  pub split : Option AreaSplit
  pub move : Option MoveNow
  pub met : List Met
  pub most : ℕ
  pub put : List ℕ

-- a split of one of its areas
abbrev pub split_at : ℕ → Option SplitNow → Option AreaSplit
split_at area split = option_map (λ (now : SplitNow). record { area = area; split = now }) split

-- What it keeps in memory of its blocks. How many intervals it may keep is of no account there.
abbrev pub known_by : AreasNow → Option AreaSplit → Option MoveNow → List Met → Known
known_by chain split move met = record {
  split = split;
  move = move;
  met = met;
  most = 0;
  areas = chain.areas;
  ends = chain.ends;
  used = chain.intervals;
  tail = None;
}

-- its areas, with their count
abbrev pub chain_of : Owned → AreasNow
chain_of keyed = record {
  part = keyed.part;
  areas = keyed.areas;
  ends = keyed.ends;
  intervals = keyed.intervals;
}

-- with how many intervals it may keep
abbrev pub known_of : Owned → Known
known_of keyed = record (known_by (chain_of keyed) keyed.split keyed.move keyed.met) {
  most = keyed.most;
}

-- how many intervals are counted once a stage is done: a switch adds one, up to the end of the
-- counter's type
abbrev pub counted_by : StageKind → ℕ → ℕ
counted_by CiSwitch count = min (count + 1) (2 ^ 64 - 1)
counted_by stage count = count

-- the same, with these splits
abbrev pub known_in : AreasNow → Splitting → List Met → Known
known_in chain splits met = known_by chain splits.split splits.move met

-- what was met is a block of the area of its place, by the areas in memory
pub record IsMine (chain : AreasNow) (met : Met) : Type 0 where
  pub area : ℕ
  pub is : area_by chain.areas chain.ends met.place ≡ Some area
  pub inside : InArea (area_of chain.part area) met.number

-- a block of one of the areas in memory
abbrev pub InAreas : AreasNow → ℕ → Type 0
InAreas chain n = (area : ℕ) × Contains chain.areas area × InArea (area_of chain.part area) n

-- the stage of a split of an area that is next
abbrev pub stage_of_move : Option MoveNow → Option StageKind
stage_of_move move = option_map (λ (one : MoveNow). one.stage) move

-- the areas that the part holds: those of its chain, and the one that a split claimed
abbrev pub held_at : StageKind → List ℕ → ℕ → List ℕ
held_at CaClaim areas into = areas
held_at stage areas into = areas ++ into ∷ []

abbrev pub held_now : List ℕ → Option MoveNow → List ℕ
held_now areas None = areas
held_now areas (Some move) = held_at move.stage areas move.into
