-- The roster of an area of an entry-sequenced or relative data set (DFSMS Using Data Sets): how
-- many of its control intervals are used, and which area comes next. Its bytes are this project's
-- own.
use Rattle.std.specs.Prelude.{◌≡◌, ℕ, ◌<◌, ◌≤◌, ◌^◌, List, ◌∷◌, ◌++◌, length, replicate, Option}
use Rattle.vr_types.specs.BlockSize.{IsBlockSize}
use Rattle.vr_types.specs.Fields.{two, four, area_field, IsArea, padded}

pub record Roster : Type 0 where
  pub used : ℕ
  pub part : ℕ
  pub next : Option ℕ

-- `R`, and the fields at 2, 8 and 12
unfoldable pub roster_bytes : Roster → List ℕ
roster_bytes r = 82 ∷ 0 ∷ two r.used ++ replicate 4 0 ++ four r.part ++ four (area_field r.next)

-- the block of that size which spells the roster
abbrev pub block_of_roster : ℕ → Roster → List ℕ
block_of_roster size r = padded size (roster_bytes r)

-- The rules of a roster in a block of the size, of an area of that many intervals. That each area
-- but
-- the last is used whole is a rule of the chain.
pub record KeepsRosterRules (intervals size : ℕ) (r : Roster) : Type 0 where
  pub block : IsBlockSize size
  pub used : r.used ≤ intervals
  pub field : r.used < 2 ^ 16
  pub part : r.part < 2 ^ 32
  pub next : IsArea r.next

-- The block is the roster's, in an area of that many intervals.
pub record IsRoster (intervals : ℕ) (block : List ℕ) (r : Roster) : Type 0 where
  pub rules : KeepsRosterRules intervals (length block) r
  pub spelled : block ≡ block_of_roster (length block) r
