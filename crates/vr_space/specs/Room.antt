-- Room for what stands in an interval and what is kept for its places: the longer of both at each
-- place, and three bytes. The rules are this project's own.
use Rattle.std.specs.Prelude.{ℕ, ◌+◌, ◌-◌, ◌≤◌, Bool, true, List, [], ◌∷◌}
use Rattle.std.specs.Prelude.{Option, Some, None, max, filter, map, ◌&&◌}
use Rattle.std.specs.Prelude.{nat_le}
use Rattle.std.specs.List.Sorted.{IsStrictlySortedBy}
use Rattle.std.specs.declared.cmp.Ordering.{Ordering}
use Rattle.std.specs.declared.cmp.Ordering.TheVariants.{Less, Equal, Greater}
use Rattle.std.specs.Ordering.{is_le, is_lt}
use Rattle.vr_types.specs.Content.{place_cmp}

-- places with the length of a record at each
abbrev pub Lengths : Type 0
Lengths = List (List ℕ × ℕ)

abbrev pub AscendLengths : Lengths → Type 0
AscendLengths lengths = IsStrictlySortedBy place_cmp (map (λ (entry : List ℕ × ℕ). entry.0) lengths)

pub none_ascend : AscendLengths []
unfolding IsStrictlySortedBy
none_ascend = tt

abbrev pub length_by : Ordering → ℕ → Option ℕ → Option ℕ
length_by Less here further = further
length_by Equal here further = Some here
length_by Greater here further = further

-- the length at a place
abbrev pub length_at : Lengths → List ℕ → Option ℕ
length_at [] place = None
length_at (entry ∷ lengths) place =
    length_by (place_cmp place entry.0) entry.1 (length_at lengths place)

abbrev pub lengthen_by : Ordering → List ℕ → ℕ → List ℕ × ℕ → Lengths → Lengths → Lengths
lengthen_by Less place n entry lengths further = (place, n) ∷ entry ∷ lengths
lengthen_by Equal place n entry lengths further = (entry.0, max n entry.1) ∷ lengths
lengthen_by Greater place n entry lengths further = entry ∷ further

-- with room for this length at a place: the longer of it and what is there
abbrev pub with_length : Lengths → List ℕ → ℕ → Lengths
with_length [] place n = (place, n) ∷ []
with_length (entry ∷ lengths) place n =
    lengthen_by (place_cmp place entry.0) place n entry lengths (with_length lengths place n)

-- with room for each of these
abbrev pub with_lengths : Lengths → Lengths → Lengths
with_lengths lengths [] = lengths
with_lengths lengths (entry ∷ more) = with_lengths (with_length lengths entry.0 entry.1) more

-- the bytes that the records need: three for each beside its own
abbrev pub weight : Lengths → ℕ
weight [] = 0
weight (entry ∷ lengths) = entry.1 + 3 + weight lengths

-- Records go into one interval while their weight is at most its size less 4.
abbrev pub HaveRoom : ℕ → Lengths → Type 0
HaveRoom size lengths = weight lengths ≤ size - 4

abbrev pub have_room : ℕ → Lengths → Bool
have_room size lengths = nat_le (weight lengths) (size - 4)

-- a range of places: above the low one, where there is one, and up to the high one
pub record Range : Type 0 where
  pub low : Option (List ℕ)
  pub high : List ℕ

abbrev pub is_above : Option (List ℕ) → List ℕ → Bool
is_above None place = true
is_above (Some low) place = is_lt (place_cmp low place)

abbrev pub is_in : Range → List ℕ → Bool
is_in range place = is_above range.low place && is_le (place_cmp place range.high)

-- those of a range
abbrev pub lengths_in : Range → Lengths → Lengths
lengths_in range lengths = filter (λ (entry : List ℕ × ℕ). is_in range entry.0) lengths
