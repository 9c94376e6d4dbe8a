-- Where a walk of the records of a content goes on, which is in the order of their places. The
-- rules are this project's own.
use Rattle.std.specs.Prelude.{ℕ, Bool, true, List, Option, Some, None}
use Rattle.std.specs.Ordering.{is_le, is_lt}
use Rattle.vr_types.specs.Content.{place_cmp}

-- a place after this one
abbrev pub is_after : List ℕ → List ℕ → Bool
is_after last place = is_lt (place_cmp last place)

-- a place at which a walk begins: from this one on, or from the first of all
abbrev pub is_from : Option (List ℕ) → List ℕ → Bool
is_from None place = true
is_from (Some from) place = is_le (place_cmp from place)

-- where a walk goes on that came to this last place, or is at its start
abbrev pub is_coming : Option (List ℕ) → Option (List ℕ) → List ℕ → Bool
is_coming from None place = is_from from place
is_coming from (Some last) place = is_after last place
