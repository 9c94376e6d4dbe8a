-- Which record a read finds: of the records of the base cluster, or through a path of the pairs of
-- an alternate index, the first that the read asks for (DFSMS Using Data Sets, GET and POINT). A
-- read with consistency also finds what another live unit of recovery may bring back; this last
-- rule is this project's own.
use Rattle.std.specs.Prelude.{ℕ, Bool, true, false, not, cond, List, [], ◌∷◌, ◌++◌, Option, Some}
use Rattle.std.specs.Prelude.{None, ◌==◌, ◌&&◌, take, filter, filter_map, bytes_eq, option_map}
use Rattle.std.specs.Prelude.{option_and_then}
use Rattle.std.specs.Ordering.{is_lt, is_le}
use Rattle.vr_types.specs.Locks.{same_unit}
use Rattle.vr_altkey.specs.Pairs.{field_of}
use Rattle.vr_types.specs.Content.{Content, Item, record_of, place_cmp}
use Rattle.vr_types.specs.declared.position.Stand.{Stand}
use Rattle.vr_types.specs.declared.position.Stand.TheVariants.{Start, At, After, End}
use Rattle.vr_types.specs.declared.position.Stand.TheVariants.{None as Nowhere}
use Rattle.vr_types.specs.declared.request.Find.{Find}
use Rattle.vr_types.specs.declared.request.Find.TheVariants.{Next, Equal, AtLeast}
use Rattle.vr_types.specs.declared.unit.Unit.{Unit as UnitOfRecovery}
use Rattle.vr_history.specs.Case.{Case, file_of, find_of, sees_kept}
use Rattle.vr_history.specs.Opened.{Opened, Unknown, Cluster, ByPath, opened, base_of}
use Rattle.vr_history.specs.State.{BeforeImage}

-- a record that a read may find: where it comes in the order of the read, its place in the base,
-- and its bytes
pub record Candidate : Type 0 where
  pub at : List ℕ
  pub base : List ℕ
  pub bytes : List ℕ

-- a record with its place in the base
abbrev pub Standing_at : Type 0
Standing_at = List ℕ × List ℕ

abbrev pub standing_at : List ℕ → Option Item → Option Standing_at
standing_at place item = option_map (λ bytes. (place, bytes)) (option_and_then record_of item)

abbrev pub records_in : Content → List Standing_at
records_in content = filter_map (λ placed. standing_at placed.0 (Some placed.1)) content

-- the records of a part that other units may bring back
abbrev pub kept_by_others : UnitOfRecovery → ℕ → List BeforeImage → List Standing_at
kept_by_others unit part befores =
    filter_map (λ kept. standing_at kept.place kept.old)
    (filter (λ kept. not (same_unit unit kept.unit) && kept.part == part) befores)

-- through a path a record comes where its pair does, and not at all where it is too short for the
-- field
abbrev pub candidate_in : Opened → Standing_at → Option Candidate
candidate_in Unknown record_at = None
candidate_in (Cluster definition) record_at =
    Some (record { at = record_at.0; base = record_at.0; bytes = record_at.1 })
candidate_in (ByPath definition alternate) record_at =
    option_map (λ field. record {
      at = field ++ record_at.0;
      base = record_at.0;
      bytes =
          record_at.1;
    }) (field_of alternate.key_length alternate.key_offset record_at.1)

abbrev pub seen_by : Bool → Case → List Standing_at
seen_by true case = records_in (case.state.contents (base_of case))
    ++ kept_by_others case.unit (base_of case) case.state.befores
seen_by false case = records_in (case.state.contents (base_of case))

abbrev pub candidates : Case → List Candidate
candidates case = filter_map (candidate_in (opened case)) (seen_by (sees_kept case.request) case)

-- a sequential read goes on from where its file stands
abbrev pub is_past : Stand → List ℕ → Bool
is_past Start at = true
is_past (At place) at = is_le (place_cmp place at)
is_past (After place) at = is_lt (place_cmp place at)
is_past End at = false
is_past Nowhere at = false

-- through a path a direct read asks for the pairs of a key
abbrev pub is_at : Opened → List ℕ → List ℕ → Bool
is_at Unknown place at = false
is_at (Cluster definition) place at = bytes_eq place at
is_at (ByPath definition alternate) key at = bytes_eq key (take alternate.key_length at)

abbrev pub is_asked : Opened → Stand → Find → Candidate → Bool
is_asked opened stand Next candidate = is_past stand candidate.at
is_asked opened stand (Equal place) candidate = is_at opened place candidate.at
is_asked opened stand (AtLeast place) candidate = is_le (place_cmp place candidate.at)

abbrev pub lower_of : Candidate → Option Candidate → Candidate
lower_of candidate None = candidate
lower_of candidate (Some other) = cond (is_le (place_cmp candidate.at other.at)) candidate other

-- the candidate that comes first, of two at one place the one that is listed first
abbrev pub lowest : List Candidate → Option Candidate
lowest [] = None
lowest (candidate ∷ others) = Some (lower_of candidate (lowest others))

abbrev pub stand_of : Case → Option Stand
stand_of case =
    option_map (λ file. (case.state.positions case.unit.deck file.slot).stand)
    (file_of case.request)

abbrev pub found_from : Case → Stand → Find → Option Candidate
found_from case stand find = lowest (filter (is_asked (opened case) stand find) (candidates case))

-- the record that a read finds
abbrev pub found : Case → Option Candidate
found case = option_and_then
    (λ stand. option_and_then (found_from case stand) (find_of case.request)) (stand_of case)

-- a read of a cluster by a key, an address or a slot asks for that place, whether a record stands
-- there or not; any other asks for the place that it finds
abbrev pub place_in : Opened → Find → Option Candidate → Option (List ℕ)
place_in (Cluster definition) (Equal place) found = Some place
place_in (Cluster definition) Next found = option_map (λ candidate. candidate.base) found
place_in (Cluster definition) (AtLeast place) found = option_map (λ candidate. candidate.base) found
place_in (ByPath definition alternate) find found = option_map (λ candidate. candidate.base) found
place_in Unknown find found = None

abbrev pub place_read : Case → Option (List ℕ)
place_read case =
    option_and_then (λ find. place_in (opened case) find (found case)) (find_of case.request)
