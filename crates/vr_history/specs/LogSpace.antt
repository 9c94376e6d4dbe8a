-- The space of the log that a request needs: a before record for each place that it changes first
-- in its unit, those of pairs among them, and the end record of a unit that begins with it. The
-- rule is this project's own.
use Rattle.std.specs.Prelude.{ℕ, ◌+◌, not, cond, List, [], ◌∷◌, ◌++◌, Option, Some, None, filter}
use Rattle.std.specs.Prelude.{map, flat_map, sum, option_to_list, option_map}
use Rattle.std.specs.Option.{option_map_or}
use Rattle.vr_types.specs.LogSpace.{before_length, end_length}
use Rattle.vr_history.specs.Case.{Case}
use Rattle.vr_history.specs.Change.{PairMove, old_record, pair_moves, place_changed}
use Rattle.vr_history.specs.Opened.{base_of}
use Rattle.vr_history.specs.State.{is_live, is_logged}

-- a place that a change logs, with the record that stood there
pub record Logging : Type 0 where
  pub part : ℕ
  pub place : List ℕ
  pub old : Option (List ℕ)

-- in an alternate index the pair is both the place and the record
abbrev pub pair_removed : PairMove → List ℕ → Logging
pair_removed move key =
    record { part = move.alternate.part; place = key ++ move.place; old = Some (key ++ move.place) }

abbrev pub pair_added : PairMove → List ℕ → Logging
pair_added move key = record { part = move.alternate.part; place = key ++ move.place; old = None }

abbrev pub pair_loggings : PairMove → List Logging
pair_loggings move = option_to_list (option_map (pair_removed move) move.given_up)
    ++ option_to_list (option_map (pair_added move) move.taken)

abbrev pub base_logging : Case → List ℕ → Logging
base_logging case place = record { part = base_of case; place = place; old = old_record case }

-- all places that a change logs, the base first
abbrev pub loggings_at : Case → List ℕ → List Logging
loggings_at case place = base_logging case place ∷ flat_map pair_loggings (pair_moves case)

abbrev pub loggings : Case → List Logging
loggings case = option_map_or (loggings_at case) (place_changed case) []

-- those for which the unit has no before record yet
abbrev pub new_loggings : Case → List Logging
new_loggings case =
    filter (λ logging. not (is_logged case.state case.unit logging.part logging.place))
    (loggings case)

abbrev pub need_for : Logging → ℕ
need_for logging = before_length logging.place logging.old

abbrev pub log_need : Case → ℕ
log_need case =
    sum (map need_for (new_loggings case)) + cond (is_live case.state case.unit) 0 end_length
