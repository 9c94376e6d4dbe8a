-- Lengths that are gathered.
use Rattle.std.specs.Prelude.{◌≡◌, ◌<◌, ◌≤◌, ◌-◌, ◌/◌, ℕ, List, Option, All, length, map, filter}
use Rattle.std.specs.Prelude.{if◌then◌else◌}
use Rattle.std.specs.Borrow.{Bor}
use Rattle.std.specs.Option.{option_map}
use Rattle.vr_ci.specs.Interval as ci
use Rattle.vr_space.specs.Room.{Lengths, Range, is_in, with_length}
use Rattle.vr_space.specs.Keyed.{Keyed, key_of, placed, length_of}
use Rattle.vr_types.specs.Content.{Placed}
use Rattle.vr_split.specs.Weights.{LengthsRoom}

-- the lengths of those of these records that are in the range
abbrev pub lengths_among : Keyed → Range → List ci.Item → Lengths
lengths_among part range items =
    map length_of (filter (λ (entry : Placed). is_in range entry.0) (map (placed part) items))

-- the low place that is lent, if there is one
abbrev pub low_lent : Option (Bor (List ℕ)) → Option (List ℕ)
low_lent low = option_map (λ (place : Bor (List ℕ)). place.now) low

-- with one record more, if it is in the range
abbrev pub with_record : Keyed → Range → Lengths → List ℕ → Lengths
with_record part range lengths bytes =
    if is_in range (key_of part bytes)
    then with_length lengths (key_of part bytes) (length bytes) else lengths

-- each place has this many bytes
abbrev pub ArePlaces : ℕ → Lengths → Type 0
ArePlaces key lengths = All (λ (entry : List ℕ × ℕ). length entry.0 ≡ key) lengths

-- Lengths that have room in an interval have it here, and so has one place more.
pub record HasRoomFor (part : Keyed) (room : LengthsRoom) : Type 0 where
  pub count : (part.size - 4) / 3 < room.count
  pub bytes : part.key ≤ room.bytes
