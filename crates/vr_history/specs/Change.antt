-- What a request changes: one place of the base cluster, and with it the pairs of each alternate
-- index over it that is built (DFSMS Using Data Sets, upgrade of alternate indexes). The state, the
-- reply and the committed contents share these words.
use Rattle.std.specs.Prelude.{ℕ, Bool, true, false, not, cond, List, [], Option, Some, None, length}
use Rattle.std.specs.Prelude.{filter, map, bytes_eq, option_map, option_and_then, unwrap_or}
use Rattle.std.specs.Int.{w32, to_be_bytes}
use Rattle.std.specs.Option.{option_map_or}
use Rattle.vr_altkey.specs.Pairs.{field_of}
use Rattle.vr_catalog.specs.Catalog.{Alternate}
use Rattle.vr_catalog.specs.declared.definition.Definition.{Definition}
use Rattle.vr_catalog.specs.Definition.{key_of}
use Rattle.vr_types.specs.Content.{Item, Standing, record_at}
use Rattle.vr_types.specs.declared.request.Request.{Request}
use Rattle.vr_types.specs.declared.request.Request.TheVariants.{Get, Point, Add, Update, Erase}
use Rattle.vr_types.specs.declared.request.Request.TheVariants.{EndReq, Commit, Backout}
use Rattle.vr_types.specs.declared.unit.Kind.{Kind}
use Rattle.vr_types.specs.declared.unit.Kind.TheVariants.{Keyed, Entry, Relative}
use Rattle.vr_history.specs.Address.{next_address}
use Rattle.vr_history.specs.Case.{Case, dropped, is_add, new_record}
use Rattle.vr_history.specs.Opened.{opened, definition_in, base_of, built_over}

-- what stands at a place of a part from now on, if anything
pub record Change : Type 0 where
  pub part : ℕ
  pub place : List ℕ
  pub new : Option Item

-- the place of an added record: its key, the next address, or the slot that the request names
abbrev pub place_by : Kind → Case → Definition → Option (List ℕ) → List ℕ → List ℕ
place_by Keyed case definition named bytes = key_of definition bytes
place_by Entry case definition named bytes =
    to_be_bytes w32
    (next_address case.geometry.size (case.state.contents (base_of case)) (length bytes))
place_by Relative case definition named bytes = unwrap_or named []

abbrev pub place_added : Case → Definition → Option (List ℕ) → List ℕ → List ℕ
place_added case definition named bytes = place_by definition.kind case definition named bytes

-- the place that a request changes: that of the record added, or of the one held for update
abbrev pub place_asked : Case → Request → Option (List ℕ)
place_asked case (Add file place bytes) =
    option_map (λ definition. place_added case definition place bytes) (definition_in (opened case))
place_asked case (Update file bytes) = dropped case
place_asked case (Erase file) = dropped case
place_asked case (Get file find update integrity) = None
place_asked case (Point file find) = None
place_asked case (EndReq file) = None
place_asked case Commit = None
place_asked case Backout = None

abbrev pub place_changed : Case → Option (List ℕ)
place_changed case = place_asked case case.request

-- the one change to the base cluster of a request that is done
abbrev pub change_of : Case → Option Change
change_of case =
    option_map (λ place. record {
      part = base_of case;
      place = place;
      new =
          option_map Standing (new_record case.request);
    }) (place_changed case)

-- the record that a change takes the place of: none for an add
abbrev pub record_held : Case → List ℕ → Option (List ℕ)
record_held case place = record_at (case.state.contents (base_of case)) place

abbrev pub old_record : Case → Option (List ℕ)
old_record case =
    cond (is_add case.request) None (option_and_then (record_held case) (place_changed case))

-- how a change moves the pair of one alternate index: the key that it gives up, and the key that it
-- takes
pub record PairMove : Type 0 where
  pub alternate : Alternate
  pub place : List ℕ
  pub given_up : Option (List ℕ)
  pub taken : Option (List ℕ)

abbrev pub field_in : Alternate → Option (List ℕ) → Option (List ℕ)
field_in alternate bytes =
    option_and_then (field_of alternate.key_length alternate.key_offset) bytes

abbrev pub move_of : Case → List ℕ → Alternate → PairMove
move_of case place alternate =
    record {
      alternate = alternate;
      place = place;
      given_up =
          field_in alternate (old_record case);
      taken = field_in alternate (new_record case.request);
    }

-- both keys, or neither, and the same
abbrev pub is_same_key : Option (List ℕ) → Option (List ℕ) → Bool
is_same_key None None = true
is_same_key None (Some key) = false
is_same_key (Some key) None = false
is_same_key (Some key) (Some other) = bytes_eq key other

abbrev pub moves_key : PairMove → Bool
moves_key move = not (is_same_key move.given_up move.taken)

-- the pairs that a request changes, by the part numbers of their alternates
abbrev pub moves_at : Case → List ℕ → List PairMove
moves_at case place =
    filter moves_key (map (move_of case place) (built_over case.state (base_of case)))

abbrev pub pair_moves : Case → List PairMove
pair_moves case = option_map_or (moves_at case) (place_changed case) []
