-- Places with the length of the longest record at each, in room that was taken once. The rules are
-- this project's own.
use Rattle.std.specs.Prelude.{◌≡◌, ◌⊎◌, ◌<◌, ◌≤◌, ℕ, IsTrue, List, All, None, length, take, drop}
use Rattle.std.specs.List.{HoldsAt}
use Rattle.std.specs.Ordering.{is_le}
use Rattle.std.specs.declared.cmp.Ordering.TheVariants.{Less}
use Rattle.vr_types.specs.Content.{place_cmp}
use Rattle.vr_space.specs.Room.{Lengths, length_at}

-- the places with their lengths, how many there may be, and how many bytes each may have
pub record LengthsRoom : Type 0 where
  pub lengths : Lengths
  pub count : ℕ
  pub bytes : ℕ

-- this many places are below this one, and the others at it or past it
pub record IsPosition (lengths : Lengths) (place : List ℕ) (n : ℕ) : Type 0 where
  pub within : n ≤ length lengths
  pub below : All (λ (entry : List ℕ × ℕ). place_cmp entry.0 place ≡ Less) (take n lengths)
  pub past : All (λ (entry : List ℕ × ℕ). IsTrue (is_le (place_cmp place entry.0)))
      (drop n lengths)

-- the place stands at this position
abbrev pub StandsAt : Lengths → ℕ → List ℕ → Type 0
StandsAt lengths at place = (at < length lengths)
    × HoldsAt (λ (entry : List ℕ × ℕ). entry.0 ≡ place) lengths at

-- the place isn't there, and there is no room for one more place, or for one so long
pub record HasNoRoom (room : LengthsRoom) (place : List ℕ) : Type 0 where
  pub absent : length_at room.lengths place ≡ None
  pub full : (room.count ≤ length room.lengths) ⊎ (room.bytes < length place)
