-- What the entry of a request leaves of the state, field by field, where no alternate index is built.
use Rattle.std.specs.Prelude.{◌≡◌, ℕ, ◌+◌, Bool, true, false, cond, List, [], ◌∷◌, ◌++◌}
use Rattle.std.specs.Prelude.{option_map}
use Rattle.vr_types.specs.Content.{Standing}
use Rattle.vr_types.specs.declared.position.Position.{Position}
use Rattle.vr_types.specs.declared.position.Stand.{Stand}
use Rattle.vr_types.specs.declared.position.Stand.TheVariants.{None as Nowhere}
use Rattle.vr_types.specs.declared.request.FileRef.{FileRef}
use Rattle.vr_types.specs.declared.unit.Integrity.{Integrity}
use Rattle.vr_types.specs.declared.unit.Integrity.TheVariants.{Nri, Cr, Cre}
use Rattle.vr_types.specs.declared.unit.Mode.TheVariants.{Exclusive, Shared}
use Rattle.vr_history.specs.Case.{Case, file_of, new_record}
use Rattle.vr_history.specs.Change.{Change, old_record}
use Rattle.vr_history.specs.Effects.{as_logged, drops_held, holding, image_kept, locks}
use Rattle.vr_history.specs.Effects.{moves_file, standing, with_change}
use Rattle.vr_history.specs.LogSpace.{Logging, log_need}
use Rattle.vr_history.specs.Names.{record_name, with_locks}
use Rattle.vr_history.specs.Opened.{base_of}
use Rattle.vr_history.specs.State.{State, is_kept, is_logged}

-- the state in which the request's file holds nothing
abbrev pub let_go : Case → State
let_go case = drops_held case.unit.deck (file_of case.request) case.state

-- the change of a request at its place: the record that it gives, or none
abbrev pub change_at : Case → List ℕ → Change
change_at case place = record {
  part = base_of case;
  place = place;
  new =
      option_map Standing (new_record case.request);
}

-- the place that it logs
abbrev pub logging_at : Case → List ℕ → Logging
logging_at case place = record { part = base_of case; place = place; old = old_record case }

-- A change is made at one place. It takes one lock, keeps what stood there where its unit hasn't
-- yet, and logs it where its unit hasn't yet.
pub record IsMade (case : Case) (place : List ℕ) (to : ℕ → ℕ → Position)
    (after : State) : Type 0 where
  pub contents : after.contents ≡ with_change (change_at case place) case.state.contents
  pub locks : after.locks ≡ with_locks case.unit Exclusive (record_name case place ∷ [])
      case.state.locks
  pub befores : after.befores
      ≡ cond (is_kept case.state case.unit (base_of case) place) case.state.befores
      (case.state.befores ++ image_kept case.state case.unit (change_at case place) ∷ [])
  pub logged : after.logged
      ≡ case.state.logged ++ cond (is_logged case.state case.unit (base_of case) place) []
      (as_logged case.unit (logging_at case place) ∷ [])
  pub used : after.used ≡ case.state.used + log_need case
  pub positions : after.positions ≡ to
  pub numbers : after.numbers ≡ case.state.numbers
  pub owned : after.owned ≡ case.state.owned
  pub stopped : after.stopped ≡ case.state.stopped

-- and the request's file holds nothing then
abbrev pub IsChanged : Case → List ℕ → State → Type 0
IsChanged case place after = IsMade case place (let_go case).positions after

-- A read for update takes the lock of its place, and its file holds the place; one with CRE keeps a
-- shared lock; any other leaves the state in which its file holds nothing.
abbrev pub held_at : Case → FileRef → List ℕ → State
held_at case on place = moves_file case.unit.deck on.slot (holding place)
    (locks case.unit Exclusive (record_name case place ∷ []) (let_go case))

abbrev pub shared_at : Case → List ℕ → State
shared_at case place = locks case.unit Shared (record_name case place ∷ []) (let_go case)

abbrev pub read_leaves : Case → FileRef → List ℕ → Bool → Integrity → State
read_leaves case on place true integrity = held_at case on place
read_leaves case on place false Nri = let_go case
read_leaves case on place false Cr = let_go case
read_leaves case on place false Cre = shared_at case place

-- the file stands here from now on
abbrev pub stands_as : Case → FileRef → Stand → State → State
stands_as case on stand state = moves_file case.unit.deck on.slot (standing stand) state

-- an ENDREQ
abbrev pub stands_nowhere : Case → FileRef → State
stands_nowhere case on =
    moves_file case.unit.deck on.slot (standing Nowhere) (let_go case)
