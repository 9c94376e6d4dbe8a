-- A request as it meets a volume: everything that its answer and its effect are a function of.
use Rattle.std.specs.Prelude.{ℕ, Bool, true, false, List, Option, Some, None}
use Rattle.std.specs.Option.{option_and_then}
use Rattle.vr_types.specs.declared.geometry.Geometry.{Geometry}
use Rattle.vr_types.specs.declared.request.FileRef.{FileRef}
use Rattle.vr_types.specs.declared.request.Find.{Find}
use Rattle.vr_types.specs.declared.request.Request.{Request}
use Rattle.vr_types.specs.declared.request.Request.TheVariants.{Get, Point, Add, Update, Erase}
use Rattle.vr_types.specs.declared.request.Request.TheVariants.{EndReq, Commit, Backout}
use Rattle.vr_types.specs.declared.unit.Integrity.{Integrity}
use Rattle.vr_types.specs.declared.unit.Integrity.TheVariants.{Nri, Cr, Cre}
use Rattle.vr_types.specs.declared.unit.Unit.{Unit as UnitOfRecovery}
use Rattle.vr_history.specs.State.{State}

pub record Case : Type 0 where
  pub geometry : Geometry
  -- the state as the request meets it
  pub state : State
  pub unit : UnitOfRecovery
  pub request : Request

-- the file that a request is on
abbrev pub file_of : Request → Option FileRef
file_of (Get file find update integrity) = Some file
file_of (Point file find) = Some file
file_of (Add file place bytes) = Some file
file_of (Update file bytes) = Some file
file_of (Erase file) = Some file
file_of (EndReq file) = Some file
file_of Commit = None
file_of Backout = None

-- which record a read asks for
abbrev pub find_of : Request → Option Find
find_of (Get file find update integrity) = Some find
find_of (Point file find) = Some find
find_of (Add file place bytes) = None
find_of (Update file bytes) = None
find_of (Erase file) = None
find_of (EndReq file) = None
find_of Commit = None
find_of Backout = None

-- the record that a change gives its place
abbrev pub new_record : Request → Option (List ℕ)
new_record (Add file place bytes) = Some bytes
new_record (Update file bytes) = Some bytes
new_record (Get file find update integrity) = None
new_record (Point file find) = None
new_record (Erase file) = None
new_record (EndReq file) = None
new_record Commit = None
new_record Backout = None

abbrev pub is_add : Request → Bool
is_add (Add file place bytes) = true
is_add (Update file bytes) = false
is_add (Get file find update integrity) = false
is_add (Point file find) = false
is_add (Erase file) = false
is_add (EndReq file) = false
is_add Commit = false
is_add Backout = false

-- PUT update and ERASE act on the record that the file holds for update
abbrev pub acts_on_held : Request → Bool
acts_on_held (Update file bytes) = true
acts_on_held (Erase file) = true
acts_on_held (Add file place bytes) = false
acts_on_held (Get file find update integrity) = false
acts_on_held (Point file find) = false
acts_on_held (EndReq file) = false
acts_on_held Commit = false
acts_on_held Backout = false

-- a read with consistency asks also for what a live unit may bring back
abbrev pub is_consistent : Integrity → Bool
is_consistent Nri = false
is_consistent Cr = true
is_consistent Cre = true

abbrev pub or_for_update : Bool → Integrity → Bool
or_for_update true integrity = true
or_for_update false integrity = is_consistent integrity

abbrev pub sees_kept : Request → Bool
sees_kept (Get file find update integrity) = or_for_update update integrity
sees_kept (Point file find) = false
sees_kept (Add file place bytes) = false
sees_kept (Update file bytes) = false
sees_kept (Erase file) = false
sees_kept (EndReq file) = false
sees_kept Commit = false
sees_kept Backout = false

-- the place of the record that the request's file holds for update
abbrev pub dropped : Case → Option (List ℕ)
dropped case =
    option_and_then (λ file. (case.state.positions case.unit.deck file.slot).held)
    (file_of case.request)
