-- Facts of each state that what is in memory agrees with and in which a change meets this record at
-- the place that it names. The words are this project's own.
use Rattle.std.specs.Prelude.{◌≡◌, ℕ, Bool, List, Option}
use Rattle.vr_history.specs.Case.{Case}
use Rattle.vr_history.specs.State.{State, is_live}
use Rattle.vr_answer.specs.InHand.{IsCaseOf, is_place_logged, whole}
use Rattle.vr_answer.specs.Looked.{record_looked_at}
use Rattle.vr_answer.specs.declared.case.Case.{Case as CaseInHand}

abbrev pub InEachWith : CaseInHand → Option (List ℕ) → (Case → Type 0) → Type 0
InEachWith case present fact = (state : State) → IsCaseOf case state
    → present ≡ record_looked_at (whole case state) → fact (whole case state)

-- and where the log has, or hasn't, a before record of the place, and of the unit at all
abbrev pub InEachLogged : CaseInHand → Option (List ℕ) → Bool → Bool → (Case → Type 0) → Type 0
InEachLogged case present logged live fact = (state : State) → IsCaseOf case state
    → present ≡ record_looked_at (whole case state)
    → logged ≡ is_place_logged (whole case state) → live ≡ is_live state case.unit
    → fact (whole case state)
