-- What an event that reads a cluster through enters, and what goes on of its volume: it enters
-- nothing, or the fault of a write alone.
use Rattle.std.proofs.Common.{◌≡◌, ℕ, Bool, true, false, IsTrue, [], None, Result, Ok, Err, ap}
use Rattle.std.proofs.Common.{refl}
use Rattle.std.specs.Prelude.{IfOk, List, OnOk, Option, is_some}
use Rattle.vr_types.specs.Faults.{Faults}
use Rattle.vr_types.specs.Moments.{Guards}
use Rattle.vr_types.specs.Seen.{Left, Seen}
use Rattle.vr_types.specs.declared.fault.DeviceFault.TheVariants.{Read, Write}
use Rattle.vr_types.specs.declared.memory.OutOfMemory.{OutOfMemory}
use Rattle.vr_types.specs.declared.unit.Unit.{Unit as UnitOfRecovery}
use Rattle.vr_catalog.specs.declared.entry.CatEntry.{CatEntry}
use Rattle.vr_history.specs.State.{State}
use Rattle.vr_trace.specs.Visitors.{Visited}
use Rattle.vr_record_file.specs.Now.{FileNow, state_now}
use Rattle.vr_volume.specs.Crashes.{RecoversTo}
use Rattle.vr_ams_define.specs.Answers.{IsShownRead}
use Rattle.vr_ams_define.specs.Grown.{HasEntered}
use Rattle.vr_event.specs.Defining.{utility_unit}
use Rattle.vr_event.specs.Nearer.{EntersSplits}
use Rattle.vr_event.specs.Reading.{AreRead, HasReadFaults, HasReadFrom, HasVisited}
use Rattle.vr_event.specs.Reading.{IsReadEntered, IsReadThrough, ReadBy}
use Rattle.vr_event.specs.Volume.{Holds, IsHeld, IsWhole, VolumeNow}
use Rattle.vr_event.specs.declared.reading.ReadThrough.{ReadThrough}
use Rattle.vr_event.specs.declared.reading.ReadThrough.TheVariants.{Done, Fault}
use Rattle.vr_event.proofs.CallerLemmas.{has-read}
use Rattle.vr_job.specs.Answering.{IsReadOf, read_back_of}
use Rattle.vr_job.specs.Going.{WentOn}
use Rattle.vr_job.specs.Serving.{IsServing, shown_of}
use Rattle.vr_job.proofs.DefineShown.{shown_in}
use Rattle.vr_job.proofs.Kept.{AreSized}
use Rattle.vr_job.proofs.UtilityEvents.{still-made}
use Rattle.vr_job.proofs.UtilityGoing.{utility-entered, utility-goes, utility-serving}
use Rattle.vr_job.proofs.UtilityMade.{HasMadeBy, HasRisen, IsStillBy, none-rose, read-rose}
use Rattle.vr_job.proofs.UtilityMade.{still-by, write-rose}
use Rattle.vr_job.proofs.UtilityRuns.{still-run}

-- ---- by what it came to

-- a fault of a write stops the volume
abbrev has_failed : Result ReadThrough OutOfMemory → Bool
has_failed (Ok Done) = false
has_failed (Ok (Fault Read)) = false
has_failed (Ok (Fault Write)) = true
has_failed (Err why) = false

still-of : (after line : ℕ) (unit : UnitOfRecovery) (old new : FileNow)
    (result : Result ReadThrough OutOfMemory) → IsReadEntered result after unit line old new
    → IsStillBy (has_failed result) after unit line old new
still-of after line unit old new (Ok Done) is = is
still-of after line unit old new (Ok (Fault Read)) is = is
still-of after line unit old new (Ok (Fault Write)) is = is
still-of after line unit old new (Err why) is = is

risen-of : (before now : Faults) (result : Result ReadThrough OutOfMemory)
    → HasReadFaults before now result → HasRisen (has_failed result) before now
risen-of before now (Ok Done) is = none-rose before now is
risen-of before now (Ok (Fault Read)) is = read-rose before now is.0 is.1
risen-of before now (Ok (Fault Write)) is = write-rose before now is.0 is.1
risen-of before now (Err why) is = none-rose before now is

-- what it handed over is what the state has that the history gives
pub are-of : (through : ReadThrough) (entry : CatEntry) (from : Option (List ℕ))
    (records : List Visited) (opening : State) (file : FileNow)
    → AreRead through from ((state_now opening file).contents entry.part.0) records
    → IsReadOf through entry from records opening file
are-of Done entry from records opening file are = are
are-of (Fault fault) entry from records opening file are = tt

pub read-from : {B V : Type 0} (after : V → List ℕ → List ℕ → V) (done : V → Bool)
    (seen : B → Seen) (from : Option (List ℕ)) (part : ℕ) (volume : VolumeNow B) (old new : V)
    (tells : Bool) (result : Result ReadThrough OutOfMemory) → IsWhole seen volume
    → volume.file.stopped ≡ None → (IsTrue tells → Holds seen volume)
    → (IsTrue tells → IfOk result (λ (through : ReadThrough). (opening : State)
    → IsHeld seen opening volume → IsReadThrough after done through from
    ((state_now opening volume.file).contents part) old new))
    → OnOk result (HasVisited after done old new)
    → IfOk result (λ (through : ReadThrough).
    HasReadFrom after done tells seen through from part volume old new)
read-from after done seen from part volume old new tells (Ok through) whole going holds read visited =
    has-read after done seen from part volume old new whole going tells through holds read visited
read-from after done seen from part volume old new tells (Err why) whole going holds read visited =
    tt

-- the commands see what they saw, or that it stopped
pub read-shown : {B : Type 0} (after line : ℕ) (through : ReadThrough) (old new : VolumeNow B)
    → ReadBy through after (utility_unit old.file) line old.file new.file
    → IsShownRead (read_back_of through) (shown_of old) (shown_of new)
read-shown after line Done old new is = ap shown_in is
read-shown after line (Fault Read) old new is = ap shown_in is
read-shown after line (Fault Write) old new is = ap (λ (f : FileNow). is_some f.stopped) is

-- ---- what goes on

module _ {B : Type 0} (seen : B → Seen) (faults : B → Faults) (after line : ℕ)
    (result : Result ReadThrough OutOfMemory) (old new : VolumeNow B)
    (entered : IsReadEntered result after (utility_unit old.file) line old.file new.file) where
  still : IsStillBy (has_failed result) after (utility_unit old.file) line old.file new.file
  still = still-of after line (utility_unit old.file) old.file new.file result entered

  read-made : HasMadeBy (has_failed result) after line old.file new.file
  read-made = still-by after line old.file (has_failed result) new.file still

  -- the entries of the event come next
  pub read-entered : HasEntered line after old.file.entries new.file.entries
  read-entered = utility-entered seen faults after line (has_failed result) old new read-made

  -- the volume serves on
  pub read-serving : (tells : Bool) → IsWhole seen new
      → (IsTrue tells → (opening : State) → IsHeld seen opening old → IsHeld seen opening new)
      → IsServing tells seen old → IsServing tells seen new
  read-serving = utility-serving seen faults after line (has_failed result) old new read-made

  -- and goes on
  module _ (cause : HasReadFaults (faults old.blocks) (faults new.blocks) result)
      (going : old.file.stopped ≡ None) (before : IsWhole seen old) (whole : IsWhole seen new)
      (number : new.number ≡ old.number) where
    risen : HasRisen (has_failed result) (faults old.blocks) (faults new.blocks)
    risen = risen-of (faults old.blocks) (faults new.blocks) result cause

    pub read-went : (tells : Bool)
        → (IsTrue tells → (opening : State) → IsHeld seen opening old → IsHeld seen opening new)
        → (IsTrue tells → (opening : State) → IsHeld seen opening old
        → Guards (seen old.blocks) (seen new.blocks)
        (RecoversTo old.store.log.geometry old.number (state_now opening old.file) []))
        → (IsTrue tells → EntersSplits old new) → (IsTrue tells → AreSized (seen new.blocks))
        → (IsTrue tells → Left (seen new.blocks) (seen new.blocks).cur)
        → WentOn tells seen faults old new
    read-went tells held moments enters sized cur = record {
      on = utility-goes seen faults after line (has_failed result) old new read-made risen going
          whole number;
      held = held;
      run = λ told opening first run. still-run seen faults old new before whole going number
          (still-made after line (utility_unit old.file) refl old.file new.file going
          (faults old.blocks) (faults new.blocks) (has_failed result) still risen)
          opening first run (held told opening run.held) (sized told) (cur told)
          (moments told opening run.held) (enters told);
    }
