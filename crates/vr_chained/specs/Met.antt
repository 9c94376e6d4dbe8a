-- What is kept of the intervals of the places that were met. The rules are this project's own.
use Rattle.std.specs.Prelude.{◌≡◌, ◌<◌, ◌≤◌, ◌+◌, ℕ, List, [], None, All, Contains, length, map, take}
use Rattle.std.specs.Prelude.{Bool, bytes_eq, vec_len}
use Rattle.vr_space.specs.Met.{Met}
use Rattle.vr_space.specs.Rosters.{Numbered}
use Rattle.vr_chained.specs.declared.met.MetBlock.{MetBlock}
use Rattle.vr_chained.specs.declared.met.Mets.{Mets}

-- what is kept of one: it has no range of places
abbrev pub met_in : MetBlock → Met
met_in met = record {
  place = met.place.place;
  range = record { low = None; high = [] };
  number = met.number;
  block = met.bytes.items;
}

-- it has room for a place, and for a block of this size
pub record IsMetOf (size : ℕ) (met : MetBlock) : Type 0 where
  pub place : met.place.room ≡ 4
  pub bytes : vec_len met.bytes ≡ size

-- each slot has room for an interval of the part
abbrev pub AreMetsOf : Numbered → Mets → Type 0
AreMetsOf part mets = All (IsMetOf part.geometry.size) mets.slots.items

-- those that were met
abbrev pub mets_in : Mets → List Met
mets_in mets = map met_in (take mets.filled mets.slots.items)

-- their places
abbrev pub met_places : List Met → List (List ℕ)
met_places met = map (λ (one : Met). one.place) met

-- a place of one of them
abbrev pub HasMetPlace : List Met → List ℕ → Type 0
HasMetPlace met place = Contains (met_places met) place

-- whether this was met at the place
abbrev pub is_at : List ℕ → MetBlock → Bool
is_at place met = bytes_eq met.place.place place

-- What was met once the place was met too: one more at most, and as long as fewer than may be kept
-- were met, all that was.
pub record MeetsNext (place : List ℕ) (most : ℕ) (old new : List Met) : Type 0 where
  pub here : HasMetPlace new place
  pub many : length new ≤ length old + 1
  pub kept : length old < most → (other : List ℕ) → HasMetPlace old other → HasMetPlace new other
