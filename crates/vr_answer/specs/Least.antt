-- The place that a read which searches comes to: the first, in the order of places, of those that
-- it asks for at which a record stands (DFSMS Using Data Sets, sequential GET, GET of a key at
-- least the one given, and POINT), or at which another live unit may bring one back, where the read
-- sees such places; this last rule is this project's own.
use Rattle.std.specs.Prelude.{◌≡◌, ◌≢◌, ℕ, Bool, true, false, not, ◌==◌, ◌&&◌, cond, List}
use Rattle.std.specs.Prelude.{Option, Some, None, bytes_eq, is_some, option_and_then, option_map}
use Rattle.std.specs.List.{list_any}
use Rattle.std.specs.Ordering.{is_le}
use Rattle.std.specs.declared.cmp.Ordering.TheVariants.{Less}
use Rattle.vr_catalog.specs.declared.definition.Definition.{Definition}
use Rattle.vr_types.specs.Content.{Ascends, place_cmp, record_of}
use Rattle.vr_types.specs.Locks.{same_unit}
use Rattle.vr_types.specs.declared.position.Stand.{Stand}
use Rattle.vr_types.specs.declared.request.Find.{Find}
use Rattle.vr_types.specs.declared.request.Find.TheVariants.{Next, Equal, AtLeast}
use Rattle.vr_types.specs.declared.unit.Unit.{Unit as UnitOfRecovery}
use Rattle.vr_history.specs.Case.{Case, find_of, sees_kept}
use Rattle.vr_history.specs.Change.{record_held}
use Rattle.vr_history.specs.Found.{found, is_past, kept_by_others, place_read, stand_of}
use Rattle.vr_history.specs.Opened.{Cluster, base_of, opened}
use Rattle.vr_history.specs.RefusedRecord.{record_read}
use Rattle.vr_history.specs.State.{BeforeImage}
use Rattle.vr_answer.specs.Looked.{place_looked_at, record_looked_at}

-- which places a read of a cluster asks for
abbrev pub asks_for : Stand → Find → List ℕ → Bool
asks_for stand Next at = is_past stand at
asks_for stand (Equal place) at = bytes_eq place at
asks_for stand (AtLeast place) at = is_le (place_cmp place at)

-- Of the places that are asked for this one has something, and no lower one has.
pub record IsLeast (asked : List ℕ → Bool) (Has : List ℕ → Type 0) (place : List ℕ) : Type 0 where
  pub asked_for : asked place ≡ true
  pub has : Has place
  pub lower_none : (lower : List ℕ) → asked lower ≡ true → place_cmp lower place ≡ Less
      → Has lower → ⊥

-- the least place of those that are asked for that has something, or None where none has
abbrev pub IsLeastWith : (List ℕ → Bool) → (List ℕ → Type 0) → Option (List ℕ) → Type 0
IsLeastWith asked Has None = (place : List ℕ) → asked place ≡ true → Has place → ⊥
IsLeastWith asked Has (Some place) = IsLeast asked Has place

-- the lesser of two places, or the one that there is
abbrev pub lesser : Option (List ℕ) → Option (List ℕ) → Option (List ℕ)
lesser None other = other
lesser (Some one) None = Some one
lesser (Some one) (Some other) = cond (is_le (place_cmp one other)) (Some one) (Some other)

-- a record stands at a place
abbrev pub StandsAt : Case → List ℕ → Type 0
StandsAt case place = record_held case place ≢ None

-- a before-image of another unit brings a record back at a place
abbrev pub brings_back : UnitOfRecovery → ℕ → List ℕ → BeforeImage → Bool
brings_back unit part place kept =
    (not (same_unit unit kept.unit) && kept.part == part)
    && (is_some (option_and_then record_of kept.old) && bytes_eq place kept.place)

-- a record that another unit may bring back is listed at a place
abbrev pub is_kept_at : Case → List ℕ → Bool
is_kept_at case place =
    list_any (λ kept. bytes_eq place kept.0)
    (kept_by_others case.unit (base_of case) case.state.befores)

abbrev pub KeptAt : Case → List ℕ → Type 0
KeptAt case place = is_kept_at case place ≡ true

-- what a read comes to of these two, where it sees what may be brought back, and where it doesn't
abbrev pub first_seen : Bool → Option (List ℕ) → Option (List ℕ) → Option (List ℕ)
first_seen true standing kept = lesser standing kept
first_seen false standing kept = standing

-- The least place at which a record stands, and the least at which one may be brought back, of the
-- places that a read asks for; the second is asked for only where the read sees such places.
pub record AreLeast (case : Case) (stand : Stand) (find : Find) (standing kept : Option (List ℕ))
    : Type 0 where
  pub stands : IsLeastWith (asks_for stand find) (StandsAt case) standing
  pub brought_back : sees_kept case.request ≡ true
      → IsLeastWith (asks_for stand find) (KeptAt case) kept

-- a read of a cluster, whose records are in the order of their places, from where its file stands
pub record IsReadOf (case : Case) (definition : Definition) (stand : Stand) (find : Find)
    : Type 0 where
  pub on : opened case ≡ Cluster definition
  pub ascends : Ascends (case.state.contents (base_of case))
  pub stands : stand_of case ≡ Some stand
  pub finds : find_of case.request ≡ Some find

-- a read that names no place, so that it is searched for
abbrev pub Searches : Find → Type 0
Searches Next = Unit {0}
Searches (Equal place) = ⊥
Searches (AtLeast place) = Unit {0}

-- A read comes to a place, or to none, and to the record that stands there.
pub record ComesTo (case : Case) (at : Option (List ℕ)) : Type 0 where
  pub place : place_read case ≡ at
  pub bytes : record_read case ≡ option_and_then (record_held case) at
  pub looked_at : place_looked_at case ≡ at
  pub looked_bytes : record_looked_at case ≡ option_and_then (record_held case) at

-- where the record comes that a read finds, in the order of the read
abbrev pub found_at : Case → Option (List ℕ)
found_at case = option_map (λ candidate. candidate.at) (found case)
