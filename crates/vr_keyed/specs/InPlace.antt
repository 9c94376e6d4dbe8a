-- The record at a place, that is written over by one of the same length. The rules are this
-- project's own.
use Rattle.std.specs.Prelude.{◌≡◌, ℕ, List, ◌∷◌, ◌++◌, length}
use Rattle.std.specs.List.{flat_map}
use Rattle.vr_ci.specs.Interval as ci
use Rattle.vr_space.specs.Keyed.{Keyed, key_of}

-- Among these items one of this length has the place for its key, and its bytes begin here.
pub record StandsHere (part : Keyed) (place : List ℕ) (len at : ℕ) (items : List ci.Item)
    : Type 0 where
  pub before : List ci.Item
  pub item : ci.Item
  pub after : List ci.Item
  pub parts : items ≡ before ++ item ∷ after
  pub begins : at ≡ length (flat_map ci.bytes_of before)
  pub long : length item.bytes ≡ len
  pub key : key_of part item.bytes ≡ place
