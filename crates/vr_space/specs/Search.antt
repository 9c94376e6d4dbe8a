-- Where a place is found in a head or among the records of an interval.
use Rattle.std.specs.Prelude.{◌≡◌, ◌↔◌, ℕ, zero, suc, ◌+◌, ◌≤◌, IsTrue, List, [], ◌∷◌, All}
use Rattle.std.specs.Prelude.{map, take, drop, length}
use Rattle.std.specs.Prelude.{Option, Some, IfSome, slice_get, slice_index}
use Rattle.std.specs.Borrow.{Bor}
use Rattle.std.specs.List.{position}
use Rattle.std.specs.Option.{option_map}
use Rattle.std.specs.Ordering.{is_le}
use Rattle.std.specs.declared.cmp.Ordering.TheVariants.{Less}
use Rattle.vr_types.specs.Content.{place_cmp}
use Rattle.vr_types.specs.Image.{Block}
use Rattle.vr_ci.specs.Interval as ci
use Rattle.vr_seqset.specs.Entry.{Entry}
use Rattle.vr_seqset.specs.Search.{reaches as entry_reaches}
use Rattle.vr_space.specs.Room.{Range}
use Rattle.vr_space.specs.Keyed.{Keyed, key_of, entries_of, entry_in, items_of, low_of, range_of}
use Rattle.vr_space.specs.declared.search.FoundEntry.{FoundEntry}

-- where the range of an entry of this number begins: at the end of the one before
abbrev pub low_before : Option (List ℕ) → List Entry → ℕ → Option (List ℕ)
low_before low entries zero = low
low_before low [] (suc i) = low
low_before low (entry ∷ entries) (suc i) = low_before (Some entry.high) entries i

-- the range of an entry that was found
abbrev pub range_found : FoundEntry → Range
range_found found = record {
  low = option_map (λ (low : Bor (List ℕ)). low.now) found.low;
  high = found.high.now;
}

-- The places that bound its range have this length.
pub record HasPlaces (key : ℕ) (found : FoundEntry) : Type 0 where
  pub low : IfSome found.low (λ low. length low.now ≡ key)
  pub high : length found.high.now ≡ key

-- It is the entry whose range holds the place.
pub record IsEntryFor (top : Block) (place : List ℕ) (found : FoundEntry) : Type 0 where
  pub entry : Entry
  pub reaches : entry_in top place ≡ Some (range_found found, entry)
  pub interval : found.interval ≡ slice_index entry.intervals 0
  pub number : slice_get (entries_of top) found.number ≡ Some entry
  pub first : position (entry_reaches place) (entries_of top) ≡ Some found.number
  pub last : IsTrue found.last ↔ (found.number + 1 ≡ length (entries_of top))

-- It is the entry of its number, with its range.
pub record IsEntryAt (top : Block) (n : ℕ) (found : FoundEntry) : Type 0 where
  pub entry : Entry
  pub number : slice_get (entries_of top) n ≡ Some entry
  pub range : range_found found ≡ range_of (low_before (low_of top) (entries_of top) n) entry
  pub interval : found.interval ≡ slice_index entry.intervals 0

-- the keys of the records of a block
abbrev pub keys_of : Keyed → Block → List (List ℕ)
keys_of part block = map (λ (item : ci.Item). key_of part item.bytes) (items_of block)

-- So many first keys are at the place or before it, and the others past it.
pub record AreUpTo (keys : List (List ℕ)) (place : List ℕ) (n : ℕ) : Type 0 where
  pub within : n ≤ length keys
  pub upto : All (λ (key : List ℕ). IsTrue (is_le (place_cmp key place))) (take n keys)
  pub past : All (λ (key : List ℕ). place_cmp place key ≡ Less) (drop n keys)
