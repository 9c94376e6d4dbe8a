-- The volumes of a step at the places of their numbers, as they come out of their latches. These
-- rules are this project's own.
use Rattle.std.specs.Prelude.{◌≡◌, ℕ, suc, List, [], ◌∷◌, Option, IfSome, IsSomeAnd, ⊤}
use Rattle.std.specs.Prelude.{count_by, is_some, length}
use Rattle.vr_worker.specs.Latched.{LatchedNow}

-- how many places have a volume
abbrev pub taken : {V : Type 0} → List (Option (LatchedNow V)) → ℕ
taken {V} places = count_by (λ (one : Option (LatchedNow V)). is_some one) places

-- the volume has this number
abbrev pub IsOfPlace : {V : Type 0} → (V → ℕ) → ℕ → LatchedNow V → Type 0
IsOfPlace number place latched = number latched.volume ≡ place

-- from this place on, the volume at a place that has one has the number of the place
abbrev pub AreAt : {V : Type 0} → (V → ℕ) → ℕ → List (Option (LatchedNow V)) → Type 0
AreAt number place [] = ⊤
AreAt number place (one ∷ rest) = IfSome one (IsOfPlace number place)
    × AreAt number (suc place) rest

-- from this place on, each place has the volume of its number
abbrev pub AreWhole : {V : Type 0} → (V → ℕ) → ℕ → List (Option (LatchedNow V)) → Type 0
AreWhole number place [] = ⊤
AreWhole number place (one ∷ rest) = IsSomeAnd one (IsOfPlace number place)
    × AreWhole number (suc place) rest

-- this many places, with volumes at those of their numbers
pub record ArePut {V : Type 0} (number : V → ℕ) (count : ℕ)
    (places : List (Option (LatchedNow V))) : Type 0 where
  pub many : length places ≡ count
  pub placed : AreAt number 0 places
