-- What an event of a count of a cluster enters, and what goes on of its volume: it enters nothing,
-- or the fault of a write alone.
use Rattle.std.proofs.Common.{◌≡◌, ℕ, Bool, true, false, IsTrue, [], None, Result, Ok, Err, ap}
use Rattle.std.proofs.Common.{refl}
use Rattle.std.specs.Prelude.{IfOk, is_some}
use Rattle.vr_types.specs.Faults.{Faults}
use Rattle.vr_types.specs.Moments.{Guards}
use Rattle.vr_types.specs.Seen.{Left, Seen}
use Rattle.vr_types.specs.declared.fault.DeviceFault.TheVariants.{Read, Write}
use Rattle.vr_types.specs.declared.memory.OutOfMemory.{OutOfMemory}
use Rattle.vr_types.specs.declared.unit.Unit.{Unit as UnitOfRecovery}
use Rattle.vr_catalog.specs.declared.entry.CatEntry.{CatEntry}
use Rattle.vr_history.specs.State.{State}
use Rattle.vr_record_file.specs.Now.{FileNow, state_now}
use Rattle.vr_volume.specs.Crashes.{RecoversTo}
use Rattle.vr_ams_define.specs.Answers.{IsShownCounted}
use Rattle.vr_ams_define.specs.Grown.{HasEntered}
use Rattle.vr_event.specs.Counts.{AreCounts, CountedBy, HasCountFaults, IsCountEntered}
use Rattle.vr_event.specs.Defining.{utility_unit}
use Rattle.vr_event.specs.Nearer.{EntersSplits}
use Rattle.vr_event.specs.Volume.{IsHeld, IsWhole, VolumeNow}
use Rattle.vr_event.specs.declared.counts.Count.{Count}
use Rattle.vr_event.specs.declared.counts.Count.TheVariants.{Counted, Fault}
use Rattle.vr_event.specs.declared.counts.Counts.{Counts}
use Rattle.vr_job.specs.Answering.{IsCountOf, counted_of}
use Rattle.vr_job.specs.Going.{WentOn}
use Rattle.vr_job.specs.Serving.{IsServing, shown_of}
use Rattle.vr_job.proofs.DefineShown.{shown_in}
use Rattle.vr_job.proofs.Kept.{AreSized}
use Rattle.vr_job.proofs.UtilityEvents.{still-made}
use Rattle.vr_job.proofs.UtilityGoing.{utility-entered, utility-goes, utility-serving}
use Rattle.vr_job.proofs.UtilityMade.{HasMadeBy, HasRisen, IsStillBy, none-rose, read-rose}
use Rattle.vr_job.proofs.UtilityMade.{still-by, write-rose}
use Rattle.vr_job.proofs.UtilityRuns.{still-run}

-- ---- by what it came to

-- a fault of a write stops the volume
abbrev has_failed : Result Count OutOfMemory → Bool
has_failed (Ok (Counted counts)) = false
has_failed (Ok (Fault Read)) = false
has_failed (Ok (Fault Write)) = true
has_failed (Err why) = false

still-of : (after line : ℕ) (unit : UnitOfRecovery) (old new : FileNow)
    (result : Result Count OutOfMemory) → IsCountEntered result after unit line old new
    → IsStillBy (has_failed result) after unit line old new
still-of after line unit old new (Ok (Counted counts)) is = is
still-of after line unit old new (Ok (Fault Read)) is = is
still-of after line unit old new (Ok (Fault Write)) is = is
still-of after line unit old new (Err why) is = is

risen-of : (before now : Faults) (result : Result Count OutOfMemory)
    → HasCountFaults before now result → HasRisen (has_failed result) before now
risen-of before now (Ok (Counted counts)) is = none-rose before now is
risen-of before now (Ok (Fault Read)) is = read-rose before now is.0 is.1
risen-of before now (Ok (Fault Write)) is = write-rose before now is.0 is.1
risen-of before now (Err why) is = none-rose before now is

-- what it counts is what the state has that the history gives
pub found-in : {B : Type 0} (seen : B → Seen) (entry : CatEntry) (old : VolumeNow B)
    (result : Result Count OutOfMemory)
    → IfOk result (λ (count : Count). (found : Counts) → count ≡ Counted found
    → (opening : State) → IsHeld seen opening old
    → AreCounts (state_now opening old.file) old.file.entries entry found)
    → (opening : State) → IsHeld seen opening old
    → IfOk result (λ (count : Count). IsCountOf count entry opening old.file)
found-in seen entry old (Ok (Counted counts)) is opening held = is counts refl opening held
found-in seen entry old (Ok (Fault fault)) is opening held = tt
found-in seen entry old (Err why) is opening held = tt

-- the commands see what they saw, or that it stopped
pub count-shown : {B : Type 0} (after line : ℕ) (count : Count) (old new : VolumeNow B)
    → CountedBy count after (utility_unit old.file) line old.file new.file
    → IsShownCounted (counted_of count) (shown_of old) (shown_of new)
count-shown after line (Counted counts) old new is = ap shown_in is
count-shown after line (Fault Read) old new is = ap shown_in is
count-shown after line (Fault Write) old new is = ap (λ (f : FileNow). is_some f.stopped) is

-- ---- what goes on

module _ {B : Type 0} (seen : B → Seen) (faults : B → Faults) (after line : ℕ)
    (result : Result Count OutOfMemory) (old new : VolumeNow B)
    (entered : IsCountEntered result after (utility_unit old.file) line old.file new.file) where
  still : IsStillBy (has_failed result) after (utility_unit old.file) line old.file new.file
  still = still-of after line (utility_unit old.file) old.file new.file result entered

  counted-made : HasMadeBy (has_failed result) after line old.file new.file
  counted-made = still-by after line old.file (has_failed result) new.file still

  -- the entries of the event come next
  pub count-entered : HasEntered line after old.file.entries new.file.entries
  count-entered = utility-entered seen faults after line (has_failed result) old new counted-made

  -- the volume serves on
  pub count-serving : (tells : Bool) → IsWhole seen new
      → (IsTrue tells → (opening : State) → IsHeld seen opening old → IsHeld seen opening new)
      → IsServing tells seen old → IsServing tells seen new
  count-serving = utility-serving seen faults after line (has_failed result) old new counted-made

  -- and goes on
  module _ (cause : HasCountFaults (faults old.blocks) (faults new.blocks) result)
      (going : old.file.stopped ≡ None) (before : IsWhole seen old) (whole : IsWhole seen new)
      (number : new.number ≡ old.number) where
    risen : HasRisen (has_failed result) (faults old.blocks) (faults new.blocks)
    risen = risen-of (faults old.blocks) (faults new.blocks) result cause

    pub count-went : (tells : Bool)
        → (IsTrue tells → (opening : State) → IsHeld seen opening old → IsHeld seen opening new)
        → (IsTrue tells → (opening : State) → IsHeld seen opening old
        → Guards (seen old.blocks) (seen new.blocks)
        (RecoversTo old.store.log.geometry old.number (state_now opening old.file) []))
        → (IsTrue tells → EntersSplits old new) → (IsTrue tells → AreSized (seen new.blocks))
        → (IsTrue tells → Left (seen new.blocks) (seen new.blocks).cur)
        → WentOn tells seen faults old new
    count-went tells held moments enters sized cur = record {
      on = utility-goes seen faults after line (has_failed result) old new counted-made risen going
          whole number;
      held = held;
      run = λ told opening first run. still-run seen faults old new before whole going number
          (still-made after line (utility_unit old.file) refl old.file new.file going
          (faults old.blocks) (faults new.blocks) (has_failed result) still risen)
          opening first run (held told opening run.held) (sized told) (cur told)
          (moments told opening run.held) (enters told);
    }
