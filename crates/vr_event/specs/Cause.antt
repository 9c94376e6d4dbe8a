-- When a read may be refused for a fault of the device.
use Rattle.std.specs.Prelude.{◌≡◌, ◌<◌, ◌≤◌, ◌⊎◌, ℕ, Bool, true, false}
use Rattle.vr_types.specs.Faults.{Faults}
use Rattle.vr_types.specs.declared.reply.Refusal.{Refusal}
use Rattle.vr_types.specs.declared.reply.Refusal.TheVariants.{EndOfData, Duplicate, NotFound}
use Rattle.vr_types.specs.declared.reply.Refusal.TheVariants.{NoAddress, NoSpace, NoPosition, NoGet}
use Rattle.vr_types.specs.declared.reply.Refusal.TheVariants.{KeyChanged, LengthChanged, BadLength}
use Rattle.vr_types.specs.declared.reply.Refusal.TheVariants.{BadSlot, Held, LogFull, Stopped}
use Rattle.vr_types.specs.declared.reply.Refusal.TheVariants.{ReadFault, WriteFault}
use Rattle.vr_types.specs.declared.reply.Refusal.TheVariants.{Memory as NoMemory}
use Rattle.vr_types.specs.declared.reply.Refusal.TheVariants.{NotAllowed, NoFile}
use Rattle.vr_types.specs.declared.reply.Reply.{Reply}
use Rattle.vr_types.specs.declared.reply.Reply.TheVariants.{Done, Refused}
use Rattle.vr_types.specs.declared.request.Request.{Request}
use Rattle.vr_types.specs.declared.unit.Unit.{Unit as UnitOfRecovery}
use Rattle.vr_history.specs.Legal.{is_write_fault}
use Rattle.vr_record_file.specs.Now.{FileNow, failed}
use Rattle.vr_event.specs.Getting.{IsEntered}
use Rattle.vr_event.specs.declared.getting.Outcome.{Outcome}
use Rattle.vr_event.specs.declared.getting.Outcome.TheVariants as outcomes

-- a refusal that is a fault of the device
abbrev pub is_fault : Refusal → Bool
is_fault ReadFault = true
is_fault WriteFault = true
is_fault EndOfData = false
is_fault (Duplicate part) = false
is_fault NotFound = false
is_fault NoAddress = false
is_fault (NoSpace need free) = false
is_fault NoPosition = false
is_fault NoGet = false
is_fault KeyChanged = false
is_fault LengthChanged = false
is_fault (BadLength length) = false
is_fault BadSlot = false
is_fault (Held holder name mode) = false
is_fault (LogFull used need size) = false
is_fault (Stopped stamp) = false
is_fault NoMemory = false
is_fault NotAllowed = false
is_fault NoFile = false

-- the reply that an outcome is entered with
abbrev pub reply_of : Outcome → Reply
reply_of (outcomes.Refused refusal) = Refused refusal
reply_of (outcomes.Done reply names at held) = reply
reply_of (outcomes.Pointed reply at) = reply

-- it is a fault of the device
abbrev pub is_faulted : Reply → Bool
is_faulted (Done feedback place bytes) = false
is_faulted (Refused refusal) = is_fault refusal

-- a reply that is entered without a refusal is no fault of the device
abbrev pub IsCalmIn : Outcome → Type 0
IsCalmIn (outcomes.Refused refusal) = Unit {0}
IsCalmIn (outcomes.Done reply names at held) = is_faulted reply ≡ false
IsCalmIn (outcomes.Pointed reply at) = is_faulted reply ≡ false

-- ---- causes

-- A reply is a fault of the device only where the count of that fault rose, and neither count falls.
-- No fault is hidden: where the reply is none neither count rose, and where it isn't that of a write
-- no write or sync failed.
pub record HasReplyCause (before now : Faults) (reply : Reply) : Type 0 where
  pub reads : before.reads ≤ now.reads
  pub writes : before.writes ≤ now.writes
  pub read : reply ≡ Refused ReadFault → before.reads < now.reads
  pub write : reply ≡ Refused WriteFault → before.writes < now.writes
  pub calm : is_faulted reply ≡ false → now ≡ before
  pub unwritten : is_write_fault reply ≡ false → now.writes ≡ before.writes

-- what a read comes to has such a reply, which is a fault of the device only where it is a refusal
pub record HasOutcomeCause (before now : Faults) (outcome : Outcome) : Type 0 where
  pub reply : HasReplyCause before now (reply_of outcome)
  pub calm : IsCalmIn outcome

-- A request was entered with a reply that is a fault of the device only where the count of it rose.
-- It isn't that of a write, which stops the volume.
pub record IsEnteredFor (before now : Faults) (after : ℕ) (unit : UnitOfRecovery) (line : ℕ)
    (request : Request) (old new : FileNow) : Type 0 where
  pub entered : IsEntered after unit line request old new
  pub cause : HasReplyCause before now entered.reply
  pub going : is_write_fault entered.reply ≡ false

-- Neither count falls. The reply that is entered is a fault of the device only where the count of it
-- rose, and a fault of a write stops the volume only where the count of writes rose. Where the volume
-- didn't stop, no write or sync failed.
pub record HasGetCause (before now : Faults) (after : ℕ) (unit : UnitOfRecovery) (line : ℕ)
    (request : Request) (old new : FileNow) : Type 0 where
  pub reads : before.reads ≤ now.reads
  pub writes : before.writes ≤ now.writes
  pub entered : IsEnteredFor before now after unit line request old new
      ⊎ ((new ≡ failed after unit line request old) × (before.writes < now.writes))
  pub quiet : new.stopped ≡ old.stopped → now.writes ≡ before.writes
