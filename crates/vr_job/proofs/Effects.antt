-- What an entry of a history leaves of the contents, the before-images and the units of its state.
use Rattle.std.proofs.Common.{◌≡◌, ◌∙◌, ◌+◌, ◌==◌, ◌&&◌, ◌||◌, ◌⊎◌, inl, inr, ℕ, Bool, true, false}
use Rattle.std.proofs.Common.{cond, if◌then◌else◌, List, [], ◌∷◌, ◌++◌, Option, Some, None, ap}
use Rattle.std.proofs.Common.{bytes_eq, eq-eqb, filter, map, not, refl, subst, sym}
use Rattle.std.specs.Prelude.{flat_map, option_map}
use Rattle.std.specs.List.{list_any}
use Rattle.std.specs.Option.{option_map_or}
use Rattle.std.proofs.lemmas.Bool.{false≢true}
use Rattle.std.proofs.lemmas.Slice.Eq.{bytes_eq-Decides}
use Rattle.vr_types.specs.Content.{Content, Standing, item_at}
use Rattle.vr_types.specs.Locks.{same_unit}
use Rattle.vr_types.specs.declared.geometry.Geometry.{Geometry}
use Rattle.vr_types.specs.declared.position.Stand.{Stand}
use Rattle.vr_types.specs.declared.position.Stand.TheVariants.{None as Nowhere}
use Rattle.vr_types.specs.declared.reply.Reply.{Reply}
use Rattle.vr_types.specs.declared.reply.Reply.TheVariants.{Done, Refused}
use Rattle.vr_types.specs.declared.request.FileRef.{FileRef}
use Rattle.vr_types.specs.declared.request.Find.{Find}
use Rattle.vr_types.specs.declared.request.Request.{Request}
use Rattle.vr_types.specs.declared.request.Request.TheVariants.{Get, Point, Add, Update, Erase}
use Rattle.vr_types.specs.declared.request.Request.TheVariants.{EndReq, Commit, Backout}
use Rattle.vr_types.specs.declared.unit.Integrity.{Integrity}
use Rattle.vr_types.specs.declared.unit.Integrity.TheVariants.{Nri, Cr, Cre}
use Rattle.vr_types.specs.declared.unit.Mode.TheVariants.{Shared, Exclusive}
use Rattle.vr_types.specs.declared.unit.Unit.{Unit as UnitOfRecovery}
use Rattle.vr_catalog.specs.Catalog.{parts_in}
use Rattle.vr_history.specs.Case.{Case, file_of, new_record}
use Rattle.vr_history.specs.Change.{Change, change_of, pair_moves, place_changed}
use Rattle.vr_history.specs.Effects.{as_logged, drops_held, ends_unit, has_part, holding}
use Rattle.vr_history.specs.Effects.{image_kept, is_other}
use Rattle.vr_history.specs.Effects.{is_utility_live, locks, moves_file, with_change, without_unit}
use Rattle.vr_history.specs.LogSpace.{Logging, base_logging, loggings_at, new_loggings}
use Rattle.vr_history.specs.LogSpace.{pair_loggings}
use Rattle.vr_history.specs.Names.{lock_names}
use Rattle.vr_history.specs.Opened.{base_of, catalog_of}
use Rattle.vr_history.specs.State.{BeforeImage, Logged, State, is_kept, is_logged}
use Rattle.vr_history.specs.Step.{after_asked, case_of, holds, makes}
use Rattle.vr_history.specs.Step.{stands_in}
use Rattle.vr_history.proofs.CallerLemmas.{unit_self}

-- these stay
pub record Stays (old new : State) : Type 0 where
  pub contents : new.contents ≡ old.contents
  pub befores : new.befores ≡ old.befores
  pub logged : new.logged ≡ old.logged
  pub numbers : new.numbers ≡ old.numbers

-- one change is made, and the unit's first one of its place is kept, which is logged
pub record IsMade (unit : UnitOfRecovery) (change : Change) (old new : State) : Type 0 where
  pub contents : new.contents ≡ with_change change old.contents
  pub image : BeforeImage
  pub image_unit : image.unit ≡ unit
  pub image_part : image.part ≡ change.part
  pub image_place : image.place ≡ change.place
  pub image_old : image.old ≡ item_at (old.contents change.part) change.place
  pub befores : new.befores
      ≡ cond (is_kept old unit change.part change.place) old.befores (old.befores ++ image ∷ [])
  pub more : List Logged
  pub grown : new.logged ≡ old.logged ++ more
  pub logs : is_logged new unit change.part change.place ≡ true
  pub numbers : new.numbers ≡ old.numbers

-- the number of the unit's deck is the next one
abbrev pub raised : UnitOfRecovery → (ℕ → ℕ) → ℕ → ℕ
raised unit numbers deck = if deck == unit.deck then numbers deck + 1 else numbers deck

-- a unit ends, and its before-images go; each part has what it had, or nothing
pub record IsEnded (unit : UnitOfRecovery) (old new : State) : Type 0 where
  pub catalog : new.contents 0 ≡ old.contents 0
  pub contents : (part : ℕ) → (new.contents part ≡ old.contents part) ⊎ (new.contents part ≡ [])
  pub befores : new.befores ≡ filter (λ (kept : BeforeImage). is_other unit kept.unit) old.befores
  pub logged : new.logged ≡ filter (λ (log : Logged). is_other unit log.unit) old.logged
  pub numbers : new.numbers ≡ raised unit old.numbers

-- ---- what moves positions and takes locks

stays-none : (state : State) → Stays state state
stays-none state = record { contents = refl; befores = refl; logged = refl; numbers = refl }

stays-then : (a b c : State) → Stays a b → Stays b c → Stays a c
stays-then a b c first second = record {
  contents = second.contents ∙ first.contents;
  befores = second.befores ∙ first.befores;
  logged = second.logged ∙ first.logged;
  numbers = second.numbers ∙ first.numbers;
}

stays-stand : (deck : ℕ) (file : Option FileRef) (stand : Option Stand) (state : State)
    → Stays state (stands_in deck file stand state)
stays-stand deck None stand state = stays-none state
stays-stand deck (Some file) None state = stays-none state
stays-stand deck (Some file) (Some stand) state =
    record { contents = refl; befores = refl; logged = refl; numbers = refl }

stays-drop : (deck : ℕ) (file : Option FileRef) (state : State)
    → Stays state (drops_held deck file state)
stays-drop deck None state = stays-none state
stays-drop deck (Some file) state = record { contents = refl; befores = refl; logged = refl; numbers = refl }

stays-hold : (deck slot : ℕ) (place : Option (List ℕ)) (state : State)
    → Stays state (option_map_or (λ at. moves_file deck slot (holding at) state) place state)
stays-hold deck slot None state = stays-none state
stays-hold deck slot (Some place) state =
    record { contents = refl; befores = refl; logged = refl; numbers = refl }

-- ---- what a change logs

-- a log record is of this place of a unit
abbrev pub is_log_at : UnitOfRecovery → ℕ → List ℕ → Logged → Bool
is_log_at unit part place log =
    same_unit unit log.unit && (log.part == part && bytes_eq place log.place)

pub any-left : {X : Type 0} (test : X → Bool) (xs more : List X) → list_any test xs ≡ true
    → list_any test (xs ++ more) ≡ true
any-left test [] more is = absurd (false≢true is)
any-left test (x ∷ xs) more is = by_test (test x) is (any-left test xs more)
  where
    by_test : (b : Bool) → (b || list_any test xs) ≡ true
        → (list_any test xs ≡ true → list_any test (xs ++ more) ≡ true)
        → (b || list_any test (xs ++ more)) ≡ true
    by_test true is further = refl
    by_test false is further = further is

pub or-right : (b c : Bool) → c ≡ true → (b || c) ≡ true
or-right true c is = refl
or-right false c is = is

any-right : {X : Type 0} (test : X → Bool) (xs more : List X) → list_any test more ≡ true
    → list_any test (xs ++ more) ≡ true
any-right test [] more is = is
any-right test (x ∷ xs) more is = or-right (test x) _ (any-right test xs more is)

module _ (case : Case) where
  -- those of them that are of places which the unit has not logged yet
  abbrev new_of : List Logging → List Logging
  new_of all = filter (λ (logging : Logging).
      not (is_logged case.state case.unit logging.part logging.place)) all

  abbrev LogsAt : ℕ → List ℕ → List Logging → Type 0
  LogsAt part place new = list_any (is_log_at case.unit part place)
      (case.state.logged ++ map (as_logged case.unit) new) ≡ true

  logs-here : (place : List ℕ) → is_log_at case.unit (base_of case) place
      (as_logged case.unit (base_logging case place)) ≡ true
  logs-here place = ap (λ (b : Bool). b && (base_of case == base_of case && bytes_eq place place))
      (unit_self case.unit)
      ∙ ap (λ (b : Bool). b && bytes_eq place place) (eq-eqb (base_of case) (base_of case) refl)
      ∙ (bytes_eq-Decides place place).1 refl

  logs-by : (place : List ℕ) (rest : List Logging) (b : Bool)
      → is_logged case.state case.unit (base_of case) place ≡ b
      → LogsAt (base_of case) place
      (cond (not b) (base_logging case place ∷ new_of rest) (new_of rest))
  logs-by place rest true logged = any-left (is_log_at case.unit (base_of case) place)
      case.state.logged (map (as_logged case.unit) (new_of rest)) logged
  logs-by place rest false logged = any-right (is_log_at case.unit (base_of case) place)
      case.state.logged (map (as_logged case.unit) (base_logging case place ∷ new_of rest))
      (ap (λ (b : Bool). b || list_any (is_log_at case.unit (base_of case) place)
      (map (as_logged case.unit) (new_of rest))) (logs-here place))

  abbrev change_at : List ℕ → Change
  change_at place = record {
    part = base_of case;
    place = place;
    new = option_map Standing (new_record case.request);
  }

  logs-place : (change : Change) (found : Option (List ℕ))
      → option_map change_at found ≡ Some change
      → LogsAt change.part change.place (new_of (option_map_or (loggings_at case) found []))
  logs-place change None same = absurd cc
  logs-place change (Some place) same =
      let so : change_at place ≡ change = cc in
      subst (λ (c : Change). LogsAt c.part c.place (new_of (loggings_at case place))) so
      (logs-by place (flat_map pair_loggings (pair_moves case))
      (is_logged case.state case.unit (base_of case) place) refl)

  -- the place that it changes is logged then
  change-logs : (change : Change) → change_of case ≡ Some change
      → LogsAt change.part change.place (new_loggings case)
  change-logs change is = logs-place change (place_changed case) is

-- ---- a request that is done

module _ (geometry : Geometry) (state : State) (unit : UnitOfRecovery) where
  abbrev after-done : Request → Reply → State
  after-done request reply = after_asked (case_of geometry state unit request) reply

  pub refused-stays : (request : Request) (reply : Reply) (refusal : _) → reply ≡ Refused refusal
      → Stays state (after-done request reply)
  refused-stays request reply refusal is = subst
      (λ (r : Reply). Stays state (after-done request r)) (sym is)
      (stays-then state (drops_held unit.deck (file_of request) state) _
      (stays-drop unit.deck (file_of request) state)
      (stays-stand unit.deck (file_of request) _ (drops_held unit.deck (file_of request) state)))

  read-stays : (file : FileRef) (find : Find) (update : Bool) (integrity : Integrity) (feedback : ℕ)
      (place bytes : Option (List ℕ))
      → Stays state (after-done (Get file find update integrity) (Done feedback place bytes))
  read-stays file find true integrity feedback place bytes =
      let case : Case = case_of geometry state unit (Get file find true integrity) in
      let dropped : State = drops_held unit.deck (Some file) state in
      let locked : State = locks unit Exclusive (lock_names case case.request) dropped in
      stays-then state dropped _ (stays-drop unit.deck (Some file) state)
      (stays-then dropped locked _ (record { contents = refl; befores = refl; logged = refl; numbers = refl })
      (stays-then locked (holds case locked) _ (stays-hold unit.deck file.slot _ locked)
      (stays-stand unit.deck (Some file) _ (holds case locked))))
  read-stays file find false Nri feedback place bytes =
      let dropped : State = drops_held unit.deck (Some file) state in
      stays-then state dropped _ (stays-drop unit.deck (Some file) state)
      (stays-stand unit.deck (Some file) _ dropped)
  read-stays file find false Cr feedback place bytes =
      let dropped : State = drops_held unit.deck (Some file) state in
      stays-then state dropped _ (stays-drop unit.deck (Some file) state)
      (stays-stand unit.deck (Some file) _ dropped)
  read-stays file find false Cre feedback place bytes =
      let case : Case = case_of geometry state unit (Get file find false Cre) in
      let dropped : State = drops_held unit.deck (Some file) state in
      let locked : State = locks unit Shared (lock_names case case.request) dropped in
      stays-then state dropped _ (stays-drop unit.deck (Some file) state)
      (stays-then dropped locked _ (record { contents = refl; befores = refl; logged = refl; numbers = refl })
      (stays-stand unit.deck (Some file) _ locked))

  -- a change is made, or there is none
  pub data MadeOr (request : Request) (new : State) : Type 0 where
    NoChange : change_of (case_of geometry state unit request) ≡ None → Stays state new
        → MadeOr request new
    OneChange : (change : Change) → change_of (case_of geometry state unit request) ≡ Some change
        → IsMade unit change state new → MadeOr request new

  pub make-or : (request : Request) (file : FileRef) (change : Option Change)
      → change_of (case_of geometry state unit request) ≡ change
      → MadeOr request (option_map_or
      (λ change. makes (case_of geometry state unit request) change
      (drops_held unit.deck (Some file) state)) change (drops_held unit.deck (Some file) state))
  make-or request file None is = NoChange is (stays-drop unit.deck (Some file) state)
  make-or request file (Some change) is = OneChange change is (record {
    contents = refl;
    image = image_kept (locks unit Exclusive
        (lock_names (case_of geometry state unit request) request)
        (drops_held unit.deck (Some file) state)) unit change;
    image_unit = refl;
    image_part = refl;
    image_place = refl;
    image_old = refl;
    befores = refl;
    more = map (as_logged unit) (new_loggings (case_of geometry state unit request));
    grown = refl;
    logs = change-logs (case_of geometry state unit request) change is;
    numbers = refl;
  })

  -- what a request leaves that is done
  pub data IsDone (request : Request) (new : State) : Type 0 where
    DoneNothing : Stays state new → IsDone request new
    DoneChange : MadeOr request new → IsDone request new
    DoneEnd : IsEnded unit state new → IsDone request new

  same-or-none : (b : Bool) (content : Content)
      → ((if b then content else []) ≡ content) ⊎ ((if b then content else []) ≡ [])
  same-or-none true content = inl refl
  same-or-none false content = inr refl

  either-ended : (b : Bool) (one other : State) → IsEnded unit state one
      → IsEnded unit state other → IsEnded unit state (cond b one other)
  either-ended true one other is instead = is
  either-ended false one other is instead = instead

  pub ends : IsEnded unit state (ends_unit unit state)
  ends = either-ended (is_utility_live (without_unit unit state)) (without_unit unit state) _
      (record {
        catalog = refl;
        contents = λ part. inl refl;
        befores = refl;
        logged = refl;
        numbers = refl;
      })
      (record {
        catalog = refl;
        contents = λ part.
            same-or-none (has_part (parts_in (catalog_of state)) part) (state.contents part);
        befores = refl;
        logged = refl;
        numbers = refl;
      })

  pub done-is : (request : Request) (feedback : ℕ) (place bytes : Option (List ℕ))
      → IsDone request (after-done request (Done feedback place bytes))
  done-is (Get file find update integrity) feedback place bytes =
      DoneNothing (read-stays file find update integrity feedback place bytes)
  done-is (Point file find) feedback place bytes = DoneNothing
      (stays-then state (drops_held unit.deck (Some file) state) _
      (stays-drop unit.deck (Some file) state)
      (stays-stand unit.deck (Some file) _ (drops_held unit.deck (Some file) state)))
  done-is (EndReq file) feedback place bytes = DoneNothing
      (stays-then state (drops_held unit.deck (Some file) state) _
      (stays-drop unit.deck (Some file) state)
      (stays-stand unit.deck (Some file) (Some Nowhere)
      (drops_held unit.deck (Some file) state)))
  done-is (Add file named record_bytes) feedback place bytes = DoneChange
      (make-or (Add file named record_bytes) file
      (change_of (case_of geometry state unit (Add file named record_bytes))) refl)
  done-is (Update file record_bytes) feedback place bytes = DoneChange
      (make-or (Update file record_bytes) file
      (change_of (case_of geometry state unit (Update file record_bytes))) refl)
  done-is (Erase file) feedback place bytes = DoneChange
      (make-or (Erase file) file (change_of (case_of geometry state unit (Erase file))) refl)
  done-is Commit feedback place bytes = DoneEnd ends
  done-is Backout feedback place bytes = DoneEnd ends
