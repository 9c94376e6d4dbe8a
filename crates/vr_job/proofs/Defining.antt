-- What goes on of a volume over an event of a definition of a cluster.
use Rattle.std.proofs.Common.{◌≡◌, ◌<◌, ℕ, Bool, IsTrue, Some, refl, subst}
use Rattle.std.specs.Prelude.{IfOk, Result, Ok, Err}
use Rattle.vr_types.specs.Faults.{Faults}
use Rattle.vr_types.specs.Geometry.{IsAllowed, area_count}
use Rattle.vr_types.specs.Seen.{Left, Seen}
use Rattle.vr_types.specs.declared.fault.DeviceFault.TheVariants.{Read, Write}
use Rattle.vr_types.specs.declared.memory.OutOfMemory.{OutOfMemory}
use Rattle.vr_types.specs.declared.unit.AreaNo.{AreaNo}
use Rattle.vr_catalog.proofs.CallerLemmas.{spells}
use Rattle.vr_catalog.specs.Record.{entry_of, spelling}
use Rattle.vr_catalog.specs.declared.entry.CatEntry.{CatEntry}
use Rattle.vr_history.specs.State.{State}
use Rattle.vr_ams_define.specs.Grown.{HasEntered}
use Rattle.vr_event.proofs.CallerLemmas.{area-entry, area-small}
use Rattle.vr_event.specs.DefineSteps.{HasCome, HasComeHeld, MayDefineNow}
use Rattle.vr_event.specs.Defining.{HasDefineFaults, IsNewCluster, entry_with_area, utility_unit}
use Rattle.vr_event.specs.Nearer.{EntersSplits}
use Rattle.vr_event.specs.Volume.{IsHeld, VolumeNow}
use Rattle.vr_event.specs.declared.define.Define.{Define}
use Rattle.vr_event.specs.declared.define.Define.TheVariants.{Again, Done, Fault, Full, Held}
use Rattle.vr_event.specs.declared.define.Define.TheVariants.{NoArea, NoRoom}
use Rattle.vr_job.specs.Going.{GoesOn, WentOn}
use Rattle.vr_job.specs.Serving.{IsServing}
use Rattle.vr_job.proofs.DefineMade.{has_failed, made-by}
use Rattle.vr_job.proofs.DefineRuns.{defined-run}
use Rattle.vr_job.proofs.Kept.{AreSized}
use Rattle.vr_job.proofs.UtilityGoing.{utility-entered, utility-goes, utility-serving}
use Rattle.vr_job.proofs.UtilityMade.{HasMadeBy, HasRisen, none-rose, read-rose, write-rose}

-- ---- the counts of faults

risen-by : (before now : Faults) (result : Result Define OutOfMemory)
    → HasDefineFaults before now result → HasRisen (has_failed result) before now
risen-by before now (Ok (Done area)) is = none-rose before now is
risen-by before now (Ok Again) is = none-rose before now is
risen-by before now (Ok NoArea) is = none-rose before now is
risen-by before now (Ok NoRoom) is = none-rose before now is
risen-by before now (Ok Held) is = none-rose before now is
risen-by before now (Ok Full) is = none-rose before now is
risen-by before now (Ok (Fault Read)) is = read-rose before now is.0 is.1
risen-by before now (Ok (Fault Write)) is = write-rose before now is.0 is.1
risen-by before now (Err why) is = none-rose before now is

-- ---- a new cluster

-- its record spells it, with any area of the volume
module _ {B : Type 0} (seen : B → Seen) (after : ℕ) (entry : CatEntry) (old : VolumeNow B)
    (is : IsNewCluster old.file.geometry old.file.catalog entry)
    (may : MayDefineNow seen after old) where
  pub area-spells : (area : AreaNo) → area.0 < area_count old.file.geometry
      → entry_of (spelling (entry_with_area entry area)) ≡ Some (entry_with_area entry area)
  area-spells area within = spells (spelling (entry_with_area entry area))
      (entry_with_area entry area) (record {
        entry_is = area-entry old.file.geometry old.file.catalog entry is area
            (area-small old.file.geometry area.0
            (subst IsAllowed (may.whole.geometry may.going) (may.whole.set may.going).allowed)
            within);
        spelled = refl;
      })

-- ---- what goes on

done-within : (P : AreaNo → Type 0) (result : Result Define OutOfMemory)
    → IfOk result (λ (define : Define). (area : AreaNo) → define ≡ Done area → P area)
    → (area : AreaNo) → result ≡ Ok (Done area) → P area
done-within P (Ok define) within area is = within area (same-ok is)
  where
    same-ok : ◌≡◌ {A = Result Define OutOfMemory} (Ok define) (Ok (Done area))
        → define ≡ Done area
    same-ok same = cc
done-within P (Err why) within area is = absurd (apart is)
  where
    apart : ◌≡◌ {A = Result Define OutOfMemory} (Err why) (Ok (Done area)) → ⊥
    apart same = cc

module _ {B : Type 0} (seen : B → Seen) (faults : B → Faults) (after line : ℕ) (entry : CatEntry)
    (result : Result Define OutOfMemory) (old new : VolumeNow B)
    (is : IsNewCluster old.file.geometry old.file.catalog entry)
    (may : MayDefineNow seen after old)
    (come : HasCome seen after (utility_unit old.file) line entry result old new) where
  defined-made : HasMadeBy (has_failed result) after line old.file new.file
  defined-made = made-by after line old.file old.number entry
      (area-spells seen after entry old is may) new.file result
      (done-within (λ area. area.0 < area_count old.file.geometry) result come.within) come.entered

  -- the entries of the event come next
  pub defined-entered : HasEntered line after old.file.entries new.file.entries
  defined-entered = utility-entered seen faults after line (has_failed result) old new defined-made

  -- the volume serves on
  pub defined-serving : (tells : Bool)
      → (IsTrue tells → (opening : State) → IsHeld seen opening old
      → HasComeHeld seen opening after (utility_unit old.file) line entry old new)
      → IsServing tells seen old → IsServing tells seen new
  defined-serving tells held = utility-serving seen faults after line (has_failed result) old new
      defined-made tells come.whole (λ told opening before. (held told opening before).held)

  -- and goes on
  module _ (cause : HasDefineFaults (faults old.blocks) (faults new.blocks) result) where
    defined-goes : GoesOn seen faults old new
    defined-goes = utility-goes seen faults after line (has_failed result) old new defined-made
        (risen-by (faults old.blocks) (faults new.blocks) result cause) may.going come.whole
        come.number

    pub defined-went : (tells : Bool)
        → (IsTrue tells → (opening : State) → IsHeld seen opening old
        → HasComeHeld seen opening after (utility_unit old.file) line entry old new)
        → (IsTrue tells → Left (seen old.blocks) (seen old.blocks).cur)
        → (IsTrue tells → AreSized (seen new.blocks))
        → (IsTrue tells → Left (seen new.blocks) (seen new.blocks).cur)
        → (IsTrue tells → EntersSplits old new) → WentOn tells seen faults old new
    defined-went tells held was sized cur enters = record {
      on = defined-goes;
      held = λ told opening before. (held told opening before).held;
      run = λ told opening first run. defined-run seen faults after line entry result old new is
          may come cause (held told) (was told) (sized told) (cur told) (enters told) opening first
          run;
    }
