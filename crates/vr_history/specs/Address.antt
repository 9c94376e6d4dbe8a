-- Where an entry-sequenced data set puts the next record, and how many areas a record of an
-- entry-sequenced or a relative data set needs (DFSMS Using Data Sets, relative byte addresses and
-- slots). How much of a control interval is used is this project's own rule of room.
use Rattle.std.specs.Prelude.{ℕ, ◌+◌, ◌-◌, ◌*◌, ◌/◌, Bool, true, false, cond, List, [], ◌∷◌, Option}
use Rattle.std.specs.Prelude.{Some, None, ◌==◌, ◌&&◌, nat_le, length, filter, map, sum}
use Rattle.std.specs.Int.{w32, from_be_bytes, div_ceil}
use Rattle.vr_types.specs.Content.{Content, Placed, Item, Standing, Withdrawn}
use Rattle.vr_types.specs.declared.unit.Kind.{Kind}
use Rattle.vr_types.specs.declared.unit.Kind.TheVariants.{Keyed, Entry, Relative}

-- the bytes that an item takes, withdrawn or not
abbrev pub length_of : Item → ℕ
length_of (Standing bytes) = length bytes
length_of (Withdrawn n) = n

-- the number that a place of four bytes is
abbrev pub number_of : List ℕ → ℕ
number_of place = from_be_bytes w32 place

-- a record that one interval has no room for is kept in segments
abbrev pub is_spanned : ℕ → ℕ → Bool
is_spanned size length = nat_le (size - 6) length

-- how many intervals a record of this length takes
abbrev pub intervals_for : ℕ → ℕ → ℕ
intervals_for size length = cond (is_spanned size length) (div_ceil length (size - 10)) 1

-- the interval in which a record at an address ends
abbrev pub last_interval : ℕ → ℕ → ℕ → ℕ
last_interval size address length = address / size + intervals_for size length - 1

-- the last item of a content, if there is one
abbrev pub last_item : Content → Option Placed
last_item [] = None
last_item (placed ∷ []) = Some placed
last_item (placed ∷ next ∷ rest) = last_item (next ∷ rest)

abbrev pub begins_in : ℕ → ℕ → Placed → Bool
begins_in size interval placed = number_of placed.0 / size == interval

-- the room that the items which begin in an interval take there
abbrev pub room_taken : ℕ → ℕ → Content → ℕ
room_taken size interval content =
    sum (map (λ placed. length_of placed.1 + 3) (filter (begins_in size interval) content))

abbrev pub lengths_taken : ℕ → ℕ → Content → ℕ
lengths_taken size interval content =
    sum (map (λ placed. length_of placed.1) (filter (begins_in size interval) content))

-- a plain record goes after the last item where that is a plain one and leaves room for it, else,
-- as a spanned one, to the start of the next interval
abbrev pub next_after : ℕ → Content → ℕ → Option Placed → ℕ
next_after size content new None = 0
next_after size content new (Some last) =
    let interval = last_interval size (number_of last.0) (length_of last.1) in
    cond (not_spanned (length_of last.1)
    && (not_spanned new && nat_le (room_taken size interval content + new + 3) (size - 4)))
    (interval * size + lengths_taken size interval content)
    ((interval + 1) * size)
  where
    not_spanned : ℕ → Bool
    not_spanned n = cond (is_spanned size n) false true

abbrev pub next_address : ℕ → Content → ℕ → ℕ
next_address size content new = next_after size content new (last_item content)

-- the slots of an interval, and the interval of a slot, which are numbered from 1
abbrev pub slots_in : ℕ → ℕ → ℕ
slots_in size length = (size - 4) / (length + 3)

-- the last interval that a record at a place takes: none for a key-sequenced data set, where
-- the layout decides
abbrev pub interval_needed : Kind → ℕ → ℕ → List ℕ → ℕ → Option ℕ
interval_needed Keyed size maximum place length = None
interval_needed Entry size maximum place length = Some (last_interval size (number_of place) length)
interval_needed Relative size maximum place length =
    Some ((number_of place - 1) / slots_in size maximum)

-- how many areas of that many intervals are needed beside those that the part has
abbrev pub areas_needed : ℕ → ℕ → ℕ → ℕ
areas_needed intervals owned last = div_ceil (last + 1) intervals - owned
