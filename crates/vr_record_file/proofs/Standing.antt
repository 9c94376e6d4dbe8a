-- What locks are looked at for.
use Rattle.std.proofs.Common.{◌≡◌, ℕ, false, List, [], ◌∷◌, Option, Some, None, refl}
use Rattle.std.proofs.Common.{sym, ap, ◌∙◌}
use Rattle.std.specs.Option.{option_map}
use Rattle.std.proofs.lemmas.Option.{none-some}
use Rattle.vr_types.specs.Locks.{Lock, first_conflict, same_unit}
use Rattle.vr_types.specs.declared.geometry.Geometry.{Geometry}
use Rattle.vr_types.specs.declared.lock_name.LockName.TheVariants.{Record}
use Rattle.vr_types.specs.declared.reply.Refusal.{Refusal}
use Rattle.vr_types.specs.declared.reply.Refusal.TheVariants.{Stopped}
use Rattle.vr_types.specs.declared.reply.Reply.TheVariants.{Refused}
use Rattle.vr_types.specs.declared.request.Request.{Request}
use Rattle.vr_types.specs.declared.unit.Mode.{Mode}
use Rattle.vr_types.specs.declared.unit.Unit.{Unit as UnitOfRecovery}
use Rattle.vr_history.specs.Case.{Case}
use Rattle.vr_history.specs.RefusedFile.{no_file}
use Rattle.vr_history.specs.Replies.{IsAnswered, all_refusals, done_by, first_of, refused_or}
use Rattle.vr_history.specs.State.{Logged, State, opening_state}
use Rattle.vr_history.specs.Step.{case_of}
use Rattle.vr_answer.proofs.CallerLemmas.{kept_in_the_way}
use Rattle.vr_record_file.specs.Now.{IsLockedIn}

-- a logged place is locked as a before-image of it is
pub logged_in_the_way : (locks : List Lock) (logged : Logged) (unit : UnitOfRecovery) (mode : Mode)
    → IsLockedIn locks logged → same_unit unit logged.unit ≡ false
    → first_conflict locks unit mode (Record (record { 0 = logged.part }) logged.place) ≡ None → ⊥
logged_in_the_way locks logged unit mode is apart none =
    kept_in_the_way (record (opening_state (λ part. []) []) { locks = locks }) (record {
      unit = logged.unit;
      part = logged.part;
      place = logged.place;
      old = None;
    }) unit mode is apart none

-- the first refusal of a volume that has stopped
abbrev pub first_or : Option Refusal → ℕ → Refusal
first_or None stamp = Stopped stamp
first_or (Some refusal) stamp = refusal

pub first_stopped : (o : Option Refusal) (stopped : Option ℕ) (stamp : ℕ)
    (rest : List (Option Refusal)) → stopped ≡ Some stamp
    → first_of (o ∷ option_map Stopped stopped ∷ rest) ≡ Some (first_or o stamp)
first_stopped None stopped stamp rest is =
    ap (λ (s : Option ℕ). first_of (option_map Stopped s ∷ rest)) is
first_stopped (Some refusal) stopped stamp rest is = refl

pub stopped_alike : (geometry : Geometry) (state : State) (unit : UnitOfRecovery)
    (request : Request) (locks : List Lock) (stamp : ℕ) (refusal : Refusal)
    → state.stopped ≡ Some stamp
    → IsAnswered (case_of geometry (record state { locks = locks }) unit request)
    (Refused refusal)
    → IsAnswered (case_of geometry state unit request) (Refused refusal)
stopped_alike geometry state unit request locks stamp refusal stopped answered =
    let case : Case = case_of geometry state unit request in
    let other : Case = case_of geometry (record state { locks = locks }) unit request in
    let first : first_of (all_refusals case) ≡ Some (first_or (no_file case) stamp) =
    first_stopped (no_file case) state.stopped stamp _ stopped in
    let first_other : first_of (all_refusals other) ≡ Some (first_or (no_file case) stamp) =
    first_stopped (no_file case) state.stopped stamp _ stopped in (
      answered.0 ∙ ap (λ (o : Option Refusal). refused_or o (done_by other request)) first_other
          ∙ sym (ap (λ (o : Option Refusal). refused_or o (done_by case request)) first),
      λ none. absurd (none-some (first_or (no_file case) stamp) (sym none ∙ first)),
    )
