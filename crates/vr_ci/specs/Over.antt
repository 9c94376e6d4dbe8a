-- Where a record stands that is written over.
use Rattle.std.specs.Prelude.{◌≡◌, ℕ, true, List, ◌∷◌, ◌++◌, length}
use Rattle.std.specs.List.{flat_map}
use Rattle.vr_ci.specs.Interval.{Item, bytes_of}

-- Among these items stands a live one of this length, between these, and its bytes begin here.
pub record StandsAt (items before : List Item) (old : Item) (after : List Item) (at len : ℕ)
    : Type 0 where
  pub parts : items ≡ before ++ old ∷ after
  pub place : at ≡ length (flat_map bytes_of before)
  pub live : old.live ≡ true
  pub long : length old.bytes ≡ len
