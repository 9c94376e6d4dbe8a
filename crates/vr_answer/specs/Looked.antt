-- The one place whose record decides a request: the one that it reads, named or found, or the one
-- that it changes (DFSMS Using Data Sets, GET, POINT, PUT and ERASE).
use Rattle.std.specs.Prelude.{ℕ, List, Option, option_and_then}
use Rattle.std.specs.Option.{option_or}
use Rattle.vr_history.specs.Case.{Case}
use Rattle.vr_history.specs.Change.{place_changed, record_held}
use Rattle.vr_history.specs.Found.{place_read}

abbrev pub place_looked_at : Case → Option (List ℕ)
place_looked_at case = option_or (place_read case) (place_changed case)

-- the record that stands there
abbrev pub record_looked_at : Case → Option (List ℕ)
record_looked_at case = option_and_then (record_held case) (place_looked_at case)
