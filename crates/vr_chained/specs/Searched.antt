-- Which places a search comes to: bytes at others or past them, and the numbers with a record. The
-- rules are those of relative byte addresses and relative record numbers (DFSMS Using Data Sets).
use Rattle.std.specs.Prelude.{◌≡◌, ◌≢◌, ℕ, ◌≤◌, ◌<◌, Bool, true, false, List, None, ◌++◌}
use Rattle.std.specs.Prelude.{replicate, take}
use Rattle.std.specs.Ordering.{is_le, is_lt}
use Rattle.vr_types.specs.Content.{place_cmp}
use Rattle.vr_types.specs.Fields.{four}
use Rattle.vr_types.specs.Image.{Image}
use Rattle.vr_space.specs.Part.{NumberedShape, record_read}
use Rattle.vr_space.specs.Rosters.{Numbered}
use Rattle.vr_space.specs.Numbered.{number_of}

-- at these bytes or past them, or past them alone
abbrev pub is_from : Bool → List ℕ → List ℕ → Bool
is_from false bytes place = is_le (place_cmp bytes place)
is_from true bytes place = is_lt (place_cmp bytes place)

-- the number of the first four of these bytes, with zeros after them where there are fewer
abbrev pub number_from : List ℕ → ℕ
number_from bytes = number_of (take 4 (bytes ++ replicate 4 0))

-- the most bytes whose own number has a place at them or past them, or past them alone
abbrev pub longest : Bool → ℕ
longest false = 4
longest true = 3

-- ---- the places with a record, by their numbers

-- none of the places from a number on, below another, has a record
abbrev pub HasNoneRead : Numbered → Image → ℕ → ℕ → Type 0
HasNoneRead part image from below = (number : ℕ) → from ≤ number → number < below
    → record_read (NumberedShape part) image (four number) ≡ None

-- the place of this number is the first of them that has one
pub record IsFirstRead (part : Numbered) (image : Image) (from below number : ℕ) : Type 0 where
  pub from_is : from ≤ number
  pub below_is : number < below
  pub some : record_read (NumberedShape part) image (four number) ≢ None
  pub none : HasNoneRead part image from number
