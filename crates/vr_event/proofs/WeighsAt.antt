-- What is known of a change at its place.
use Rattle.std.proofs.Common.{◌≡◌, ◌==◌, ℕ, false, List, Option, Some, None, sym, ap}
use Rattle.std.proofs.Common.{◌∙◌}
use Rattle.std.specs.Option.{option_and_then, option_map_or}
use Rattle.vr_types.specs.Content.{record_at}
use Rattle.vr_types.specs.declared.geometry.Geometry.{Geometry}
use Rattle.vr_types.specs.declared.request.Request.{Request}
use Rattle.vr_types.specs.declared.request.Request.TheVariants.{Get, Point, Add, Update, Erase}
use Rattle.vr_types.specs.declared.request.Request.TheVariants.{EndReq, Commit, Backout}
use Rattle.vr_types.specs.declared.unit.Unit.{Unit as UnitOfRecovery}
use Rattle.vr_history.specs.Case.{Case}
use Rattle.vr_history.specs.Change.{place_changed, record_held}
use Rattle.vr_history.specs.Opened.{base_of}
use Rattle.vr_history.specs.State.{State, is_logged}
use Rattle.vr_history.specs.Step.{case_of}
use Rattle.vr_undo.specs.Records.{is_logged_in}
use Rattle.vr_answer.specs.InHand.{is_place_logged}
use Rattle.vr_answer.specs.Looked.{record_looked_at}
use Rattle.vr_event.specs.Putting.{IsAskedAt, IsReadyAt, IsRefusedBy}

none-some : {X : Type 0} {x : X} → None ≡ Some x → ⊥
none-some same = cc

-- a change looks at the place that it changes
pub looked-changed : (geometry : Geometry) (state : State) (unit : UnitOfRecovery)
    (request : Request) (place : List ℕ)
    → place_changed (case_of geometry state unit request) ≡ Some place
    → record_looked_at (case_of geometry state unit request)
    ≡ record_held (case_of geometry state unit request) place
looked-changed geometry state unit (Add on named bytes) place is =
    let w : Case = case_of geometry state unit (Add on named bytes) in
    ap (λ (o : Option (List ℕ)). option_and_then (record_held w) o) is
looked-changed geometry state unit (Update on bytes) place is =
    let w : Case = case_of geometry state unit (Update on bytes) in
    ap (λ (o : Option (List ℕ)). option_and_then (record_held w) o) is
looked-changed geometry state unit (Erase on) place is =
    let w : Case = case_of geometry state unit (Erase on) in
    ap (λ (o : Option (List ℕ)). option_and_then (record_held w) o) is
looked-changed geometry state unit (Get on find update integrity) place is = absurd (none-some is)
looked-changed geometry state unit (Point on find) place is = absurd (none-some is)
looked-changed geometry state unit (EndReq on) place is = absurd (none-some is)
looked-changed geometry state unit Commit place is = absurd (none-some is)
looked-changed geometry state unit Backout place is = absurd (none-some is)

module _ (case : Case) (part : ℕ) (place : List ℕ) (asked : IsAskedAt case part place) where
  looked : record_looked_at case ≡ record_held case place
  looked = looked-changed case.geometry case.state case.unit case.request place asked.place_is

  -- the record that is looked at is that of the place
  pub looked-at : record_looked_at case ≡ record_at (case.state.contents part) place
  looked-at = looked ∙ ap (λ (n : ℕ). record_at (case.state.contents n) place) asked.base

  -- whether the log has the place
  pub logs-here : is_logged_in case.unit part place case.state.logged ≡ is_place_logged case
  logs-here = sym
      (ap (λ (o : Option (List ℕ)). option_map_or
      (λ (at : List ℕ). is_logged case.state case.unit (base_of case) at) o false) asked.place_is
      ∙ ap (λ (n : ℕ). is_logged case.state case.unit n place) asked.base)

  -- where nothing refuses it, it is ready
  pub ready-at : (old : Option (List ℕ)) → old ≡ record_looked_at case → IsRefusedBy case None
      → IsReadyAt case place old
  ready-at old is none = record {
    current = asked.current;
    not_catalog = ap (λ (n : ℕ). n == 0) asked.base ∙ asked.not_catalog;
    place_is = asked.place_is;
    old_is = is ∙ looked;
    unheld = none.0;
    unfull = none.1;
  }
