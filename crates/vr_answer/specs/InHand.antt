-- What a volume has in memory of a request that it meets, beside the state that it stands for.
use Rattle.std.specs.Prelude.{◌≡◌, Bool, false}
use Rattle.std.specs.Option.{option_copied, option_map_or}
use Rattle.vr_history.specs.Case.{Case, dropped}
use Rattle.vr_history.specs.Change.{place_changed}
use Rattle.vr_history.specs.Found.{stand_of}
use Rattle.vr_history.specs.Opened.{base_of, catalog_of}
use Rattle.vr_history.specs.RefusedFile.{is_catalog_changing}
use Rattle.vr_history.specs.RefusedRoom.{free_areas}
use Rattle.vr_history.specs.State.{State, is_live, is_logged}
use Rattle.vr_answer.specs.declared.case.Case.{Case as CaseInHand}
use Rattle.vr_answer.specs.declared.case.Looked.{Looked as LookedInHand}
use Rattle.vr_answer.specs.Here.{stand_here}
use Rattle.vr_answer.specs.Looked.{place_looked_at, record_looked_at}
use Rattle.vr_answer.specs.Numbered.{AreNumbersOf}
use Rattle.vr_answer.specs.Scope.{HasNoneBuilt}

-- the request as it meets the whole volume
abbrev pub whole : CaseInHand → State → Case
whole case state = record {
  geometry = case.geometry;
  state = state;
  unit = case.unit;
  request =
      case.request.now;
}

-- What is in memory of the catalog, of the request's file and of the stop is what the state has, and
-- requests on its catalog are answered here.
pub record IsFileOf (case : CaseInHand) (state : State) : Type 0 where
  pub catalog : case.catalog.now ≡ catalog_of state
  -- the place that the request's file holds for update
  pub held : option_copied case.held ≡ dropped (whole case state)
  -- where it stands
  pub stand : stand_here case ≡ stand_of (whole case state)
  pub stopped : case.stopped ≡ state.stopped
  pub changing : case.catalog_changing ≡ is_catalog_changing (whole case state)
  pub unbuilt : HasNoneBuilt state

-- All that is in memory is: the locks too, the space that is left, and what is known of a data set
-- whose places are numbers.
pub record IsCaseOf (case : CaseInHand) (state : State) : Type 0 where
  pub file : IsFileOf case state
  pub locks : case.locks.now ≡ state.locks
  pub free : case.free ≡ free_areas (whole case state)
  pub used : case.used ≡ state.used
  pub numbers : AreNumbersOf (option_copied case.address) case.areas (whole case state)

-- a fact of each state that has this of the request's file, and of each that has all
abbrev pub InEachFile : CaseInHand → (Case → Type 0) → Type 0
InEachFile case fact = (state : State) → IsFileOf case state → fact (whole case state)

abbrev pub InEach : CaseInHand → (Case → Type 0) → Type 0
InEach case fact = (state : State) → IsCaseOf case state → fact (whole case state)

-- what a request comes to, whoever found it: its place, and the record that stands there
pub record IsLookedAt (looked : LookedInHand) (case : Case) : Type 0 where
  pub place : option_copied looked.place ≡ place_looked_at case
  pub present : option_copied looked.present ≡ record_looked_at case

-- and of each in which the request comes to this place and this record
abbrev pub InEachWith : CaseInHand → LookedInHand → (Case → Type 0) → Type 0
InEachWith case looked fact = (state : State) → IsCaseOf case state
    → IsLookedAt looked (whole case state) → fact (whole case state)

-- the log has a before record of the place that is changed
abbrev pub is_place_logged : Case → Bool
is_place_logged case =
    option_map_or (λ place. is_logged case.state case.unit (base_of case) place)
    (place_changed case) false

-- and of each where the log has, or hasn't, a before record of the place that is changed, and of
-- the unit at all
abbrev pub InEachLogged : CaseInHand → LookedInHand → Bool → Bool → (Case → Type 0) → Type 0
InEachLogged case looked logged live fact = (state : State) → IsCaseOf case state
    → IsLookedAt looked (whole case state)
    → logged ≡ is_place_logged (whole case state) → live ≡ is_live state case.unit
    → fact (whole case state)
