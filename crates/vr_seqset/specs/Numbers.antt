-- The interval numbers of an area under a sequence-set record: which there are, and that each is
-- used once. The rules are this project's own.
use Rattle.std.specs.Prelude.{◌≡◌, ℕ, ◌<◌, Bool, false, List, All, nat_eq, slice_index_or, ◌+◌, ◌-◌}
use Rattle.std.specs.Prelude.{◌/◌, min}
use Rattle.std.specs.List.{IsDistinct, list_any}

-- How many intervals of an area of that many are used under a sequence-set record: as many as find
-- room in a block of the size, each in an entry of its own with a high place of the length.
abbrev pub intervals_used : ℕ → ℕ → ℕ → ℕ
intervals_used intervals size place = min intervals ((size - 32 - place) / (4 + place))

-- each is below the limit, and none comes twice
pub record AreOnceBelow (limit : ℕ) (numbers : List ℕ) : Type 0 where
  pub below : All (λ n. n < limit) numbers
  pub once : IsDistinct nat_eq numbers

-- below the limit exactly the numbers are marked
abbrev pub Marks : ℕ → List Bool → List ℕ → Type 0
Marks limit seen numbers = (n : ℕ) → n < limit
    → slice_index_or seen n false ≡ list_any (nat_eq n) numbers
