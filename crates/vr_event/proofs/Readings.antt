-- What the entry of a read and of an ENDREQ leaves of a volume.
use Rattle.std.proofs.Common.{◌≡◌, ◌∷◌, ◌++◌, [], ℕ, Bool, true, false, List, Option, Some}
use Rattle.std.proofs.Common.{None, refl, ap, sym, ◌∙◌, subst}
use Rattle.std.specs.Option.{option_and_then, option_map, option_map_or}
use Rattle.vr_browse.specs.declared.positions.FilePosition.{FilePosition}
use Rattle.vr_types.specs.Locks.{Lock}
use Rattle.vr_types.specs.Seen.{Seen}
use Rattle.vr_types.specs.declared.geometry.Geometry.{Geometry}
use Rattle.vr_types.specs.declared.reply.Reply.TheVariants.{Done}
use Rattle.vr_types.specs.declared.request.FileRef.{FileRef}
use Rattle.vr_types.specs.declared.request.Find.{Find}
use Rattle.vr_types.specs.declared.request.Request.{Request}
use Rattle.vr_types.specs.declared.request.Request.TheVariants.{EndReq, Get, Point}
use Rattle.vr_types.specs.declared.unit.Integrity.{Integrity}
use Rattle.vr_types.specs.declared.unit.Integrity.TheVariants.{Nri, Cr, Cre}
use Rattle.vr_types.specs.declared.position.Stand.TheVariants.{At}
use Rattle.vr_types.specs.declared.unit.Mode.{Mode}
use Rattle.vr_types.specs.declared.unit.Mode.TheVariants.{Exclusive, Shared}
use Rattle.vr_types.specs.declared.unit.Unit.{Unit as UnitOfRecovery}
use Rattle.vr_history.specs.declared.entry.Entry.{Entry}
use Rattle.vr_history.specs.declared.entry.What.{What}
use Rattle.vr_history.specs.declared.entry.What.TheVariants.{Asked}
use Rattle.vr_history.specs.Case.{Case, file_of}
use Rattle.vr_history.specs.Effects.{drops_held, holding, locks, moves_file}
use Rattle.vr_history.specs.Found.{Candidate, found, place_read}
use Rattle.vr_history.specs.Legal.{state_of}
use Rattle.vr_history.specs.Names.{lock_names}
use Rattle.vr_history.specs.State.{State}
use Rattle.vr_history.specs.Step.{after_what, case_of, keeps_read, read_on}
use Rattle.vr_history.proofs.CallerLemmas.{state_of-append}
use Rattle.vr_answer.proofs.CallerLemmas.{after_endreq}
use Rattle.vr_record_file.specs.Now.{FileNow, IsStateOf, entry_next, state_now, with_event}
use Rattle.vr_event.specs.Alike.{AreAlike}
use Rattle.vr_event.specs.Volume.{IsHeld, VolumeNow}
use Rattle.vr_event.proofs.Entering.{alike_dropped, alike_stands, held-alike}

module _ (geometry : Geometry) (opening : State) (entries : List Entry) (entry : Entry)
    (request : Request) (feedback : ℕ) (shown bytes : Option (List ℕ))
    (what : entry.what ≡ Asked request (Done feedback shown bytes)) where
  abbrev before : State
  before = state_of geometry opening entries

  -- an ENDREQ
  pub alike-ended : (on : FileRef) → request ≡ EndReq on
      → AreAlike before (state_of geometry opening (entries ++ entry ∷ []))
  alike-ended on is =
      let leaves = state_of-append geometry opening entries entry
      ∙ ap (after_what geometry before entry.unit entry.stamp)
      (what ∙ ap (λ (r : Request). Asked r (Done feedback shown bytes)) is)
      ∙ after_endreq geometry before entry.unit on feedback shown bytes in
      subst (AreAlike before) (sym leaves) (record {
        contents = refl;
        befores = refl;
        logged = refl;
        used = refl;
        numbers = refl;
        owned = refl;
      })

  -- the lock that a read keeps, and the place that its file holds
  alike-holds : (case : Case) (state : State) (file : Option FileRef) (at : Option (List ℕ))
      → AreAlike before state → AreAlike before
      (option_map_or (λ (file : FileRef). option_map_or
      (λ (place : List ℕ). moves_file case.unit.deck file.slot (holding place) state) at state)
      file state)
  alike-holds case state None at alike = alike
  alike-holds case state (Some file) None alike = alike
  alike-holds case state (Some file) (Some place) alike = record {
    contents = alike.contents;
    befores = alike.befores;
    logged = alike.logged;
    used = alike.used;
    numbers = alike.numbers;
    owned = alike.owned;
  }

  alike-locks : (case : Case) (mode : Mode) (state : State) → AreAlike before state
      → AreAlike before (locks case.unit mode (lock_names case case.request) state)
  alike-locks case mode state alike = record {
    contents = alike.contents;
    befores = alike.befores;
    logged = alike.logged;
    used = alike.used;
    numbers = alike.numbers;
    owned = alike.owned;
  }

  alike-kept : (case : Case) (update : Bool) (integrity : Integrity) (state : State)
      → AreAlike before state → AreAlike before (keeps_read case update integrity state)
  alike-kept case true integrity state alike =
      alike-holds case (locks case.unit Exclusive (lock_names case case.request) state)
      (file_of case.request) (place_read case) (alike-locks case Exclusive state alike)
  alike-kept case false Nri state alike = alike
  alike-kept case false Cr state alike = alike
  alike-kept case false Cre state alike = alike-locks case Shared state alike

  -- a GET
  pub alike-read : (on : FileRef) (find : Find) (update : Bool) (integrity : Integrity)
      → request ≡ Get on find update integrity
      → AreAlike before (state_of geometry opening (entries ++ entry ∷ []))
  alike-read on find update integrity is =
      let case : Case = case_of geometry before entry.unit (Get on find update integrity) in
      let leaves = state_of-append geometry opening entries entry
      ∙ ap (after_what geometry before entry.unit entry.stamp)
      (what ∙ ap (λ (r : Request). Asked r (Done feedback shown bytes)) is) in
      let dropped : State = drops_held entry.unit.deck (Some on) before in
      subst (AreAlike before) (sym leaves)
      (alike_stands entry.unit.deck (Some on)
      (option_and_then (λ (candidate : Candidate). read_on find candidate.at) (found case))
      (keeps_read case update integrity dropped)
      (alike-kept case update integrity dropped (alike_dropped entry.unit.deck (Some on) before)))

  -- a POINT
  pub alike-point : (on : FileRef) (find : Find) → request ≡ Point on find
      → AreAlike before (state_of geometry opening (entries ++ entry ∷ []))
  alike-point on find is =
      let case : Case = case_of geometry before entry.unit (Point on find) in
      let leaves = state_of-append geometry opening entries entry
      ∙ ap (after_what geometry before entry.unit entry.stamp)
      (what ∙ ap (λ (r : Request). Asked r (Done feedback shown bytes)) is) in
      subst (AreAlike before) (sym leaves)
      (alike_stands entry.unit.deck (Some on)
      (option_map (λ (candidate : Candidate). At candidate.at) (found case))
      (drops_held entry.unit.deck (Some on) before)
      (alike_dropped entry.unit.deck (Some on) before))

-- An entry that leaves the state alike leaves a volume that is held so.
pub held-entered : {B : Type 0} (seen : B → Seen) (opening : State) (volume : VolumeNow B)
    (to : FileNow) (after : ℕ) (unit : UnitOfRecovery) (line : ℕ) (what : What)
    (locks : List Lock) (files : List FilePosition) (room : ℕ)
    → to ≡ with_event after unit line what
    (record volume.file { locks = locks; files = files; files_room = room })
    → AreAlike (state_now opening volume.file) (state_of volume.file.geometry opening
    (volume.file.entries ++ entry_next volume.file.entries after unit line what ∷ []))
    → IsHeld seen opening volume → IsStateOf opening to
    → IsHeld seen opening (record volume { file = to })
held-entered seen opening volume to after unit line what locks files room leaves alike held file =
    held-alike seen opening volume to (ap (λ (f : FileNow). f.geometry) leaves)
    (ap (λ (f : FileNow). f.stopped) leaves)
    (subst (λ (f : FileNow). AreAlike (state_now opening volume.file) (state_now opening f))
    (sym leaves) alike) held file
