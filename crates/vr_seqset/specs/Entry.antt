-- An entry of a sequence-set record: the intervals that hold its records, and the place up to which
-- it holds them.
use Rattle.std.specs.Prelude.{◌≡◌, ℕ, zero, suc, ◌+◌, ◌*◌, ◌<◌, List, [], ◌∷◌, ◌++◌, length, take}
use Rattle.std.specs.Prelude.{drop}
use Rattle.std.specs.List.{flat_map}
use Rattle.vr_types.specs.Fields.{two, two_at}

pub record Entry : Type 0 where
  pub intervals : List ℕ
  pub high : List ℕ

-- the number of intervals, their numbers, and the high place
unfoldable pub entry_bytes : Entry → List ℕ
entry_bytes entry = two (length entry.intervals) ++ flat_map two entry.intervals ++ entry.high

-- it has an interval, and a high place of the length
pub record IsWhole (place : ℕ) (entry : Entry) : Type 0 where
  pub some : 0 < length entry.intervals
  pub high : length entry.high ≡ place

-- that many numbers, one after another
unfoldable pub numbers_in : ℕ → List ℕ → List ℕ
numbers_in zero bytes = []
numbers_in (suc n) bytes = two_at 0 bytes ∷ numbers_in n (drop 2 bytes)

-- the first entry that the bytes spell, with places of the length
unfoldable pub entry_in : ℕ → List ℕ → Entry
entry_in place bytes = record {
  intervals = numbers_in (two_at 0 bytes) (drop 2 bytes);
  high = take place (drop (2 + 2 * two_at 0 bytes) bytes);
}

-- that many entries that the bytes spell, one after another
unfoldable pub entries_in : ℕ → ℕ → List ℕ → List Entry
entries_in zero place bytes = []
entries_in (suc n) place bytes = entry_in place bytes ∷ entries_in n place
    (drop (2 + 2 * two_at 0 bytes + place) bytes)
