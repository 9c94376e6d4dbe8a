-- That no file is moved by a request of another.
use Rattle.std.proofs.Common.{◌≡◌, ℕ, Bool, true, false, ◌==◌, ◌&&◌, eq-eqb, ne_eqb, refl, ap, ◌∙◌}
use Rattle.std.proofs.Common.{sym, true≢false, List, [], ◌∷◌, Some, None}
use Rattle.std.specs.Prelude.{Option, cond, filter, if◌then◌else◌, IsTrue, ◌||◌}
use Rattle.std.specs.Option.{option_and_then, option_map, option_map_or}
use mathlib.Core.Logic.{dite}
use native.Mathlib.Decide.{ℕ_discrete}
use Rattle.vr_types.specs.Position.{unheld}
use Rattle.vr_types.specs.declared.geometry.Geometry.{Geometry}
use Rattle.vr_types.specs.declared.position.Position.{Position}
use Rattle.vr_types.specs.declared.position.Stand.{Stand}
use Rattle.vr_types.specs.declared.position.Stand.TheVariants.{At, None as Nowhere}
use Rattle.vr_types.specs.declared.reply.Reply.{Reply}
use Rattle.vr_types.specs.declared.reply.Reply.TheVariants.{Done, Refused}
use Rattle.vr_types.specs.declared.request.FileRef.{FileRef}
use Rattle.vr_types.specs.declared.request.Find.{Find}
use Rattle.vr_types.specs.declared.request.Request.{Request}
use Rattle.vr_types.specs.declared.request.Request.TheVariants.{Get, Point, Add, Update, Erase}
use Rattle.vr_types.specs.declared.request.Request.TheVariants.{EndReq, Commit, Backout}
use Rattle.vr_types.specs.declared.unit.Integrity.{Integrity}
use Rattle.vr_types.specs.declared.unit.Integrity.TheVariants.{Nri, Cr, Cre}
use Rattle.vr_types.specs.declared.unit.Mode.TheVariants.{Exclusive}
use Rattle.vr_types.specs.declared.unit.Unit.{Unit as UnitOfRecovery}
use Rattle.vr_history.specs.declared.entry.Entry.{Entry}
use Rattle.vr_history.specs.declared.entry.What.{What}
use Rattle.vr_history.specs.declared.entry.What.TheVariants.{Asked, Undone, Claimed, Split, Faulted}
use Rattle.vr_history.specs.Case.{Case, file_of}
use Rattle.vr_history.specs.Change.{Change, change_of}
use Rattle.vr_history.specs.Committed.{is_commit}
use Rattle.vr_history.specs.Effects.{changes, contents_left, drops_held, ends_unit, gives_back}
use Rattle.vr_history.specs.Effects.{has_part, holding, is_utility_live, last_kept, locks}
use Rattle.vr_history.specs.Effects.{moves_file, parts_laid, standing, takes_out, without_unit}
use Rattle.vr_history.specs.Found.{Candidate, found, place_read}
use Rattle.vr_history.specs.Legal.{is_backout, state_of}
use Rattle.vr_history.specs.Names.{lock_names}
use Rattle.vr_history.specs.Opened.{catalog_of}
use Rattle.vr_history.specs.State.{BeforeImage, Owned, State}
use Rattle.vr_history.specs.Step.{after_asked, after_what, case_of, change_back, done_effect}
use Rattle.vr_history.specs.Step.{keeps_read, keeps_shared, makes, makes_change}
use Rattle.vr_history.specs.Step.{read_on, stand_refused, stands_in, state_after}
use Rattle.vr_job.specs.Moved.{AreElsewhere, Ends, HasSlot, IsOn, file_asked}
use Rattle.vr_job.specs.Moved.{is_done_end, is_end}

apart : (d s deck slot : ℕ) → (d ≡ deck → s ≡ slot → ⊥) → (d == deck && s == slot) ≡ false
apart d s deck slot other = dite (ℕ_discrete d deck)
    (λ same_deck. ap (λ (same : Bool). same && s == slot) (eq-eqb d deck same_deck)
    ∙ ne_eqb s slot (other same_deck))
    (λ other_deck. ap (λ (same : Bool). same && s == slot) (ne_eqb d deck other_deck))

-- a file that isn't this one
moved_apart : (deck slot : ℕ) (to : Position → Position) (state : State) (d s : ℕ)
    → (d ≡ deck → s ≡ slot → ⊥)
    → (moves_file deck slot to state).positions d s ≡ state.positions d s
moved_apart deck slot to state d s other =
    ap (λ (same : Bool). if same then to (state.positions d s) else state.positions d s)
    (apart d s deck slot other)

-- What the effects of a request leave of a file that it isn't on.
module _ (d s deck : ℕ) where
  drops_apart : (file : Option FileRef) (state : State) → (d ≡ deck → HasSlot s file → ⊥)
      → (drops_held deck file state).positions d s ≡ state.positions d s
  drops_apart None state other = refl
  drops_apart (Some file) state other = moved_apart deck file.slot unheld state d s other

  stands_apart : (file : Option FileRef) (stand : Option Stand) (state : State)
      → (d ≡ deck → HasSlot s file → ⊥)
      → (stands_in deck file stand state).positions d s ≡ state.positions d s
  stands_apart None stand state other = refl
  stands_apart (Some file) None state other = refl
  stands_apart (Some file) (Some stand) state other =
      moved_apart deck file.slot (standing stand) state d s other

  holds_apart : (file : FileRef) (place : Option (List ℕ)) (state : State)
      → (d ≡ deck → s ≡ file.slot → ⊥)
      → (option_map_or (λ (at : List ℕ). moves_file deck file.slot (holding at) state) place
      state).positions d s ≡ state.positions d s
  holds_apart file None state other = refl
  holds_apart file (Some at) state other =
      moved_apart deck file.slot (holding at) state d s other

-- a lock that a read keeps moves no file
shared_stays : (case : Case) (integrity : Integrity) (state : State)
    → (keeps_shared case integrity state).positions ≡ state.positions
shared_stays case Nri state = refl
shared_stays case Cr state = refl
shared_stays case Cre state = refl

-- nor does a change, made or put back
change_stays : (case : Case) (change : Option Change) (state : State)
    → (option_map_or (λ (one : Change). makes case one state) change state).positions
    ≡ state.positions
change_stays case None state = refl
change_stays case (Some change) state = refl

back_stays : (unit : UnitOfRecovery) (state : State) (kept : Option BeforeImage)
    → (option_map_or (λ (one : BeforeImage). takes_out unit (changes (change_back state one) state))
    kept state).positions ≡ state.positions
back_stays unit state None = refl
back_stays unit state (Some kept) = refl

-- nor what is given back once no utility is live
cond_stays : (b : Bool) (one other : State) → other.positions ≡ one.positions
    → (cond b one other).positions ≡ one.positions
cond_stays true one other same = refl
cond_stays false one other same = same

given_back_stays : (state : State) → (gives_back state).positions ≡ state.positions
given_back_stays state = cond_stays (is_utility_live state) state (record state {
  contents = contents_left state;
  owned = filter (λ (owned : Owned). has_part (parts_laid (catalog_of state)) owned.part)
      state.owned;
}) refl

-- the end of a unit
end_apart : (unit : UnitOfRecovery) (state : State) (d s : ℕ) → (d ≡ unit.deck → ⊥)
    → (ends_unit unit state).positions d s ≡ state.positions d s
end_apart unit state d s other =
    ap (λ (p : ℕ → ℕ → Position). p d s) (given_back_stays (without_unit unit state))
    ∙ ap (λ (same : Bool). if same then unheld (state.positions d s) else state.positions d s)
    (ne_eqb d unit.deck other)

end_here : (unit : UnitOfRecovery) (state : State) (d s : ℕ) → d ≡ unit.deck
    → (ends_unit unit state).positions d s ≡ unheld (state.positions d s)
end_here unit state d s same_deck =
    ap (λ (p : ℕ → ℕ → Position). p d s) (given_back_stays (without_unit unit state))
    ∙ ap (λ (same : Bool). if same then unheld (state.positions d s) else state.positions d s)
    (eq-eqb d unit.deck same_deck)

-- A request, whatever its reply, and a file that it isn't on.
module _ (geometry : Geometry) (before : State) (unit : UnitOfRecovery) (d s : ℕ) where
  read_apart : (file : FileRef) (find : Find) (update wants : Bool) (integrity : Integrity)
      (state : State) → (d ≡ unit.deck → s ≡ file.slot → ⊥)
      → (keeps_read (case_of geometry before unit (Get file find update integrity)) wants integrity
      state).positions d s ≡ state.positions d s
  read_apart file find update true integrity state other =
      let case = case_of geometry before unit (Get file find update integrity) in
      holds_apart d s unit.deck file (place_read case)
      (locks unit Exclusive (lock_names case case.request) state) other
  read_apart file find update false integrity state other =
      ap (λ (p : ℕ → ℕ → Position). p d s)
      (shared_stays (case_of geometry before unit (Get file find update integrity)) integrity state)

  made_apart : (request : Request) (state : State)
      → (makes_change (case_of geometry before unit request) state).positions d s
      ≡ state.positions d s
  made_apart request state =
      let case = case_of geometry before unit request in
      ap (λ (p : ℕ → ℕ → Position). p d s) (change_stays case (change_of case) state)

  done_apart : (request : Request) (state : State)
      → (d ≡ unit.deck → HasSlot s (file_of request) → ⊥)
      → (d ≡ unit.deck → IsTrue (is_commit request || is_backout request) → ⊥)
      → (done_effect (case_of geometry before unit request) request state).positions d s
      ≡ state.positions d s
  done_apart (Get file find update integrity) state other going =
      let case = case_of geometry before unit (Get file find update integrity) in
      stands_apart d s unit.deck (Some file)
      (option_and_then (λ (candidate : Candidate). read_on find candidate.at) (found case))
      (keeps_read case update integrity state) other
      ∙ read_apart file find update update integrity state other
  done_apart (Point file find) state other going =
      let case = case_of geometry before unit (Point file find) in
      stands_apart d s unit.deck (Some file)
      (option_map (λ (candidate : Candidate). At candidate.at) (found case)) state other
  done_apart (Add file place bytes) state other going = made_apart (Add file place bytes) state
  done_apart (Update file bytes) state other going = made_apart (Update file bytes) state
  done_apart (Erase file) state other going = made_apart (Erase file) state
  done_apart (EndReq file) state other going =
      stands_apart d s unit.deck (Some file) (Some Nowhere) state other
  done_apart Commit state other going = end_apart unit state d s (λ same. going same refl)
  done_apart Backout state other going = end_apart unit state d s (λ same. going same refl)

  asked_apart : (request : Request) (reply : Reply)
      → (d ≡ unit.deck → HasSlot s (file_of request) → ⊥)
      → (d ≡ unit.deck → IsTrue (is_done_end request reply) → ⊥)
      → (after_asked (case_of geometry before unit request) reply).positions d s
      ≡ before.positions d s
  asked_apart request (Done feedback place bytes) other going =
      done_apart request (drops_held unit.deck (file_of request) before) other going
      ∙ drops_apart d s unit.deck (file_of request) before other
  asked_apart request (Refused refusal) other going =
      stands_apart d s unit.deck (file_of request) (stand_refused request refusal)
      (drops_held unit.deck (file_of request) before) other
      ∙ drops_apart d s unit.deck (file_of request) before other

  what_apart : (stamp : ℕ) (what : What) → (d ≡ unit.deck → HasSlot s (file_asked what) → ⊥)
      → (d ≡ unit.deck → IsTrue (is_end what) → ⊥)
      → (after_what geometry before unit stamp what).positions d s ≡ before.positions d s
  what_apart stamp (Asked request reply) other going = asked_apart request reply other going
  what_apart stamp (Undone part place) other going =
      ap (λ (p : ℕ → ℕ → Position). p d s) (back_stays unit before (last_kept before unit))
  what_apart stamp (Claimed part area) other going = refl
  what_apart stamp (Split part) other going = refl
  what_apart stamp (Faulted fault) other going = refl

  -- the end of the unit of its deck
  asked_end : (request : Request) (reply : Reply) → d ≡ unit.deck
      → IsTrue (is_done_end request reply)
      → (after_asked (case_of geometry before unit request) reply).positions d s
      ≡ unheld (before.positions d s)
  asked_end Commit (Done feedback place bytes) same ends = end_here unit before d s same
  asked_end Backout (Done feedback place bytes) same ends = end_here unit before d s same
  asked_end (Get file find update integrity) (Done feedback place bytes) same ends =
      absurd (true≢false (sym ends))
  asked_end (Point file find) (Done feedback place bytes) same ends =
      absurd (true≢false (sym ends))
  asked_end (Add file at added) (Done feedback place bytes) same ends =
      absurd (true≢false (sym ends))
  asked_end (Update file added) (Done feedback place bytes) same ends =
      absurd (true≢false (sym ends))
  asked_end (Erase file) (Done feedback place bytes) same ends =
      absurd (true≢false (sym ends))
  asked_end (EndReq file) (Done feedback place bytes) same ends =
      absurd (true≢false (sym ends))
  asked_end request (Refused refusal) same ends = absurd (true≢false (sym ends))

  what_end : (stamp : ℕ) (what : What) → d ≡ unit.deck → IsTrue (is_end what)
      → (after_what geometry before unit stamp what).positions d s
      ≡ unheld (before.positions d s)
  what_end stamp (Asked request reply) same ends = asked_end request reply same ends
  what_end stamp (Undone part place) same ends = absurd (true≢false (sym ends))
  what_end stamp (Claimed part area) same ends = absurd (true≢false (sym ends))
  what_end stamp (Split part) same ends = absurd (true≢false (sym ends))
  what_end stamp (Faulted fault) same ends = absurd (true≢false (sym ends))

-- the same of an entry
pub entry_apart : (geometry : Geometry) (state : State) (entry : Entry) (deck slot : ℕ)
    → (IsOn deck slot entry → ⊥) → (Ends deck entry → ⊥)
    → (state_after geometry state entry).positions deck slot ≡ state.positions deck slot
entry_apart geometry state entry deck slot other going =
    what_apart geometry state entry.unit deck slot entry.stamp entry.what
    (λ same on. other (same, on)) (λ same ends. going (same, ends))

pub entry_end : (geometry : Geometry) (state : State) (entry : Entry) (deck slot : ℕ)
    → Ends deck entry
    → (state_after geometry state entry).positions deck slot ≡ unheld (state.positions deck slot)
entry_end geometry state entry deck slot ends =
    what_end geometry state entry.unit deck slot entry.stamp entry.what ends.0 ends.1

-- where a file stands stays, whether or not the entry ends a unit of its deck
stand_apart : (geometry : Geometry) (state : State) (entry : Entry) (deck slot : ℕ) (ends : Bool)
    → is_end entry.what ≡ ends → (IsOn deck slot entry → ⊥)
    → ((state_after geometry state entry).positions deck slot).stand
    ≡ (state.positions deck slot).stand
stand_apart geometry state entry deck slot true test other = dite
    (ℕ_discrete deck entry.unit.deck)
    (λ same. ap (λ (p : Position). p.stand) (entry_end geometry state entry deck slot
    (same, test)))
    (λ differs. ap (λ (p : Position). p.stand) (entry_apart geometry state entry deck slot other
    (λ ends. differs ends.0)))
stand_apart geometry state entry deck slot false test other =
    ap (λ (p : Position). p.stand) (entry_apart geometry state entry deck slot other
    (λ ends. true≢false (sym ends.1 ∙ test)))

pub stand_through : (geometry : Geometry) (state : State) (entries : List Entry) (deck slot : ℕ)
    → AreElsewhere deck slot entries
    → ((state_of geometry state entries).positions deck slot).stand
    ≡ (state.positions deck slot).stand
stand_through geometry state [] deck slot elsewhere = refl
stand_through geometry state (entry ∷ entries) deck slot elsewhere =
    stand_through geometry (state_after geometry state entry) entries deck slot elsewhere.1
    ∙ stand_apart geometry state entry deck slot (is_end entry.what) refl elsewhere.0
