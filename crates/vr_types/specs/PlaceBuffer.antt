-- A place with room for others.
use Rattle.std.specs.Prelude.{ℕ, List}

-- the place, and how many bytes it may have without taking memory
pub record PlaceRoom : Type 0 where
  pub place : List ℕ
  pub room : ℕ
