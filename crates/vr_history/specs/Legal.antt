-- Histories of a volume: the entries that were made on it, in order. The rules are this project's
-- own.
use Rattle.std.specs.Prelude.{◌≡◌, ◌+◌, ℕ, Bool, true, false, cond, List, [], ◌∷◌}
use Rattle.vr_types.specs.Locks.{same_unit}
use Rattle.vr_types.specs.declared.fault.DeviceFault.TheVariants.{Write}
use Rattle.vr_types.specs.declared.geometry.Geometry.{Geometry}
use Rattle.vr_types.specs.declared.reply.Refusal.TheVariants.{EndOfData, Duplicate, NotFound}
use Rattle.vr_types.specs.declared.reply.Refusal.TheVariants.{NoAddress, NoSpace, NoPosition, NoGet}
use Rattle.vr_types.specs.declared.reply.Refusal.TheVariants.{KeyChanged, LengthChanged, BadLength}
use Rattle.vr_types.specs.declared.reply.Refusal.TheVariants.{BadSlot, Held, LogFull, Stopped}
use Rattle.vr_types.specs.declared.reply.Refusal.TheVariants.{ReadFault, WriteFault, Memory}
use Rattle.vr_types.specs.declared.reply.Refusal.TheVariants.{NotAllowed, NoFile}
use Rattle.vr_types.specs.declared.reply.Reply.{Reply}
use Rattle.vr_types.specs.declared.reply.Reply.TheVariants.{Done, Refused}
use Rattle.vr_types.specs.declared.request.Request.{Request}
use Rattle.vr_types.specs.declared.request.Request.TheVariants.{Get, Point, Add, Update, Erase}
use Rattle.vr_types.specs.declared.request.Request.TheVariants.{EndReq, Commit, Backout}
use Rattle.vr_types.specs.declared.unit.Unit.{Unit as UnitOfRecovery}
use Rattle.vr_history.specs.declared.entry.Entry.{Entry}
use Rattle.vr_history.specs.declared.entry.What.{What}
use Rattle.vr_history.specs.declared.entry.What.TheVariants.{Asked, Undone, Claimed, Split, Faulted}
use Rattle.vr_history.specs.State.{State}
use Rattle.vr_history.specs.Step.{Step, state_after}

-- each entry is a step from the state that those before it give
abbrev pub AreSteps : Geometry → State → List Entry → Type 0
AreSteps geometry state [] = Unit {0}
AreSteps geometry state (entry ∷ entries) = Step geometry state entry
    × AreSteps geometry (state_after geometry state entry) entries

-- the state that entries give
abbrev pub state_of : Geometry → State → List Entry → State
state_of geometry state [] = state
state_of geometry state (entry ∷ entries) =
    state_of geometry (state_after geometry state entry) entries

-- A unit that has begun to undo asks for BACKOUT next.
abbrev pub is_backout : Request → Bool
is_backout Backout = true
is_backout Commit = false
is_backout (Get file find update integrity) = false
is_backout (Point file find) = false
is_backout (Add file place bytes) = false
is_backout (Update file bytes) = false
is_backout (Erase file) = false
is_backout (EndReq file) = false

abbrev pub backs_out : What → Bool → Bool
backs_out (Asked request reply) later = is_backout request
backs_out (Undone part place) later = later
backs_out (Claimed part area) later = later
backs_out (Split part) later = later
backs_out (Faulted fault) later = later

-- the unit's next request, if it has one, is a BACKOUT
abbrev pub asks_backout : UnitOfRecovery → List Entry → Bool
asks_backout unit [] = true
asks_backout unit (entry ∷ entries) =
    cond (same_unit unit entry.unit) (backs_out entry.what (asks_backout unit entries))
    (asks_backout unit entries)

abbrev pub BacksOutAfter : Entry → List Entry → What → Type 0
BacksOutAfter entry rest (Undone part place) = asks_backout entry.unit rest ≡ true
BacksOutAfter entry rest (Asked request reply) = Unit {0}
BacksOutAfter entry rest (Claimed part area) = Unit {0}
BacksOutAfter entry rest (Split part) = Unit {0}
BacksOutAfter entry rest (Faulted fault) = Unit {0}

abbrev pub BackOutOnceBegun : List Entry → Type 0
BackOutOnceBegun [] = Unit {0}
BackOutOnceBegun (entry ∷ entries) = BacksOutAfter entry entries entry.what
    × BackOutOnceBegun entries

-- A reply that the device failed to write is followed, at the next stamp, by the fault that stops
-- the volume.
abbrev pub is_fault_at : ℕ → What → List Entry → Type 0
is_fault_at stamp what [] = ⊥
is_fault_at stamp what (entry ∷ entries) = (entry.stamp ≡ stamp) × (entry.what ≡ what)

abbrev pub is_write_fault : Reply → Bool
is_write_fault (Done feedback place bytes) = false
is_write_fault (Refused WriteFault) = true
is_write_fault (Refused EndOfData) = false
is_write_fault (Refused (Duplicate part)) = false
is_write_fault (Refused NotFound) = false
is_write_fault (Refused NoAddress) = false
is_write_fault (Refused (NoSpace need free)) = false
is_write_fault (Refused NoPosition) = false
is_write_fault (Refused NoGet) = false
is_write_fault (Refused KeyChanged) = false
is_write_fault (Refused LengthChanged) = false
is_write_fault (Refused (BadLength length)) = false
is_write_fault (Refused BadSlot) = false
is_write_fault (Refused (Held holder name mode)) = false
is_write_fault (Refused (LogFull used need size)) = false
is_write_fault (Refused (Stopped stamp)) = false
is_write_fault (Refused ReadFault) = false
is_write_fault (Refused Memory) = false
is_write_fault (Refused NotAllowed) = false
is_write_fault (Refused NoFile) = false

abbrev pub StopsAfter : Entry → List Entry → What → Type 0
StopsAfter entry rest (Asked request reply) = is_write_fault reply ≡ true
    → is_fault_at (entry.stamp + 1) (Faulted Write) rest
StopsAfter entry rest (Undone part place) = Unit {0}
StopsAfter entry rest (Claimed part area) = Unit {0}
StopsAfter entry rest (Split part) = Unit {0}
StopsAfter entry rest (Faulted fault) = Unit {0}

abbrev pub StopAtWriteFaults : List Entry → Type 0
StopAtWriteFaults [] = Unit {0}
StopAtWriteFaults (entry ∷ entries) = StopsAfter entry entries entry.what
    × StopAtWriteFaults entries

-- A history is legal from a state: each entry is a step, a unit that undoes backs out, and a write
-- fault stops the volume at once.
pub record IsLegal (geometry : Geometry) (opening : State) (entries : List Entry) : Type 0 where
  pub steps : AreSteps geometry opening entries
  pub backs_out : BackOutOnceBegun entries
  pub stops : StopAtWriteFaults entries
