-- Which places a search begins with, and what is kept for the places of parts.
use Rattle.std.specs.Prelude.{ℕ, Bool, true, List, [], ◌∷◌, map, filter, Option, Some, None}
use Rattle.std.specs.Ordering.{is_le, is_lt}
use Rattle.vr_types.specs.Content.{place_cmp}
use Rattle.vr_space.specs.declared.whence.Whence.{Whence}
use Rattle.vr_space.specs.declared.whence.Whence.TheVariants.{Start, At, After, Above}
use Rattle.vr_space.specs.Room.{Lengths}

-- the place is one that the search may find
abbrev pub allows : Whence → List ℕ → Bool
allows Start place = true
allows (At from) place = is_le (place_cmp from.now place)
allows (After from) place = is_lt (place_cmp from.now place)
allows (Above low) place = is_lt (place_cmp low.now place)

abbrev pub first_of : List (List ℕ) → Option (List ℕ)
first_of [] = None
first_of (place ∷ places) = Some place

-- the least of ascending places that it may find
abbrev pub first_allowed : Whence → List (List ℕ) → Option (List ℕ)
first_allowed from places = first_of (filter (allows from) places)

abbrev pub places_kept : Lengths → List (List ℕ)
places_kept lengths = map (λ (entry : List ℕ × ℕ). entry.0) lengths
