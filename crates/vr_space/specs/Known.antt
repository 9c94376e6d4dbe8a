-- What a part keeps in memory of its blocks. Above the part nobody reads what is in it. The rules
-- are this project's own.
use Rattle.std.specs.Prelude.{◌≡◌, ℕ, ◌+◌, ◌<◌, ◌≤◌, List, [], ◌∷◌, ◌++◌, length, map}
use Rattle.std.specs.Prelude.{Contains, Option, Some, None}
use Rattle.vr_space.specs.Entries.{Tail}
use Rattle.vr_space.specs.Met.{Met}
use Rattle.vr_space.specs.Split.{AreaSplit, MoveNow}

-- The split of an interval that is under way, or that of an area; the intervals that `room` met and
-- that are kept, and how many of them may be; the areas of its chain in their order, of a keyed part
-- where the ranges of each end; how many intervals its heads lead to, or its rosters use; and of an
-- entry-sequenced part where its last item ends.
pub record Known : Type 0 where
  pub split : Option AreaSplit
  pub move : Option MoveNow
  pub met : List Met
  pub most : ℕ
  pub areas : List ℕ
  pub ends : List (List ℕ)
  pub used : ℕ
  pub tail : Option Tail

-- the places that were met
abbrev pub places_met : Known → List (List ℕ)
places_met known = map (λ (one : Met). one.place) known.met

-- a place that was met
abbrev pub HasMet : Known → List ℕ → Type 0
HasMet known place = Contains (places_met known) place

-- each place that was met still is
abbrev pub KeepsMet : Known → Known → Type 0
KeepsMet old new = (place : List ℕ) → HasMet old place → HasMet new place

-- What a part has met once it met the place: one place more at most, and as long as fewer were met
-- than may be, each place that was met before.
pub record MeetsPlace (place : List ℕ) (old new : Known) : Type 0 where
  pub here : HasMet new place
  pub many : length new.met ≤ length old.met + 1
  pub kept : length old.met < old.most → KeepsMet old new
  pub most : new.most ≡ old.most

-- the areas that it holds: those of its chain, and the one that a split claimed, which comes last
abbrev pub held_with : List ℕ → Option MoveNow → List ℕ
held_with areas None = areas
held_with areas (Some move) = areas ++ move.into ∷ []

abbrev pub areas_held : Known → List ℕ
areas_held known = held_with known.areas known.move
