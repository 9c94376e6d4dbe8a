-- What the run of a job comes to on the volumes of a shelf.
use Rattle.std.proofs.Common.{◌≡◌, ◌∙◌, ◌<◌, ◌+◌, inl, inr, ⊎_elim, ℕ, zero, suc, Bool}
use Rattle.std.proofs.Common.{List, [], ◌∷◌, ◌++◌, Result, Ok, Err, Some, None, Option, arith, refl}
use Rattle.std.proofs.Common.{sym, ap, subst, drop, get_or, length, map, take}
use Rattle.std.specs.Prelude.{All, Contains, IsErr, IsOk, IsTrue, is_ok, is_some, slice_get}
use Rattle.std.proofs.lemmas.List.{append-nil, length-map, map-append}
use Rattle.std.proofs.lemmas.List.Elements.{All-cons, All-nil}
use Rattle.vr_types.specs.Faults.{Faults}
use Rattle.vr_types.specs.Seen.{Seen}
use Rattle.vr_types.specs.declared.geometry.Geometry.{Geometry}
use Rattle.vr_catalog.specs.declared.entry.CatEntry.{CatEntry}
use Rattle.vr_history.specs.Merged.{in_order, numbered_from, part_of_deck}
use Rattle.vr_history.specs.State.{State}
use Rattle.vr_history.specs.declared.entry.Entry.{Entry}
use Rattle.vr_job_text.specs.declared.job.JobStep.{JobStep}
use Rattle.vr_event.specs.Volume.{IsHeld, VolumeNow}
use Rattle.vr_recover.specs.declared.open_no.OpenNo.{OpenNo}
use Rattle.vr_recover.specs.declared.open_no.OpenNo.TheVariants as opens
use Rattle.vr_worker.specs.Decks.{IsUsedUp}
use Rattle.vr_worker.specs.Steps.{AreGapless, AreOfSteps, AreSinceSteps, ComeInSteps, HasAsked}
use Rattle.vr_worker.specs.Steps.{IsSinceSteps}
use Rattle.vr_worker.proofs.CallerLemmas.{gapless-none}
use Rattle.vr_job_ends.specs.declared.job_end.End.{End}
use Rattle.vr_job_ends.specs.declared.job_end.End.TheVariants.{Line, Ran, Unsynced}
use Rattle.vr_trace.specs.Laws.{AreRising, entry_of, of_deck}
use Rattle.vr_trace.specs.declared.ending.EndLine.{EndLine}
use Rattle.vr_trace.specs.declared.ending.EndLine.TheVariants.{DeviceFault, StampsUsedUp}
use Rattle.vr_trace.specs.declared.report.StepReport.{StepReport}
use Rattle.vr_trace.specs.declared.no.RunNo.{RunNo}
use Rattle.vr_trace.specs.declared.no.RunNo.TheVariants as nos
use Rattle.vr_job.specs.Faultless.{has_stopped}
use Rattle.vr_job.specs.Going.{Follows}
use Rattle.vr_job.specs.OpenEnds.{IsOpenLine, open_line}
use Rattle.vr_job.specs.Reported.{AreBound, AreReportedFrom, IsCatalogAt, VolumeFrom}
use Rattle.vr_job.specs.Shelf.{Answer, AreClosing, AreOpen, Closing, HaveClosed, HaveOpened}
use Rattle.vr_job.specs.Shelf.{HaveRun, HaveRunWhere, IsClosing, IsRest, IsUnsynced, Opening}
use Rattle.vr_job.specs.Shelf.{catalog_of, end_of, entries_on}
use Rattle.vr_job.specs.ShelfRun.{AreEmpty, AreVolumeRuns, AsAsked, ByClosing, ByOpening}
use Rattle.vr_job.specs.ShelfRun.{IsShelfEnd, IsShelfRun, VolumeOf, WereRun, run_end, run_line}
use Rattle.vr_job.specs.ShelfRun.{volume_from}
use Rattle.vr_job.specs.VolumeRun.{HasFaultCause, IsFaultEnd, IsNotOpen}
use Rattle.vr_job.specs.VolumeRun.{IsOpen, IsUnopened, IsVolumeRun}
use Rattle.vr_job.proofs.Devices.{same-some}
use Rattle.vr_job.proofs.AnsweredBy.{IsHeldFrom}
use Rattle.vr_job.proofs.Reported.{are-bound, froms_of, reported-from, reported-none}
use Rattle.vr_job.proofs.Shelves.{no_state}
use Rattle.vr_job.proofs.VolumeRuns.{ended-rose, volume-run, was-run}

-- ---- ends

line-is : (one other : EndLine) → Line one ≡ Line other → one ≡ other
line-is one other same = cc

fault-number : (one other : ℕ) → DeviceFault one ≡ DeviceFault other → one ≡ other
fault-number one other same = cc

-- requests that weren't all answered end a job by no device's fault
asked-no-fault : (fault : RunNo) (number : ℕ) → IsFaultEnd number (Line (run_line fault)) → ⊥
asked-no-fault nos.Stamps number (inl same) = cc
asked-no-fault nos.Stamps number (inr same) = cc
asked-no-fault nos.Memory number (inl same) = cc
asked-no-fault nos.Memory number (inr same) = cc

ran-no-fault : (number : ℕ) → IsFaultEnd number Ran → ⊥
ran-no-fault number (inl same) = cc
ran-no-fault number (inr same) = cc

-- a device that failed to sync does by its own
unsynced-is : (failing number : ℕ) → IsFaultEnd number (Unsynced failing) → failing ≡ number
unsynced-is failing number (inl same) = absurd cc
unsynced-is failing number (inr same) = cc

-- and a volume that isn't opened by no other's
open-line-is : (unopened number : ℕ) (fault : OpenNo) → open_line unopened fault ≡ DeviceFault number
    → unopened ≡ number
open-line-is unopened number (opens.Damaged block rule) same = absurd cc
open-line-is unopened number (opens.Version found) same = absurd cc
open-line-is unopened number (opens.Unserved block cause) same = absurd cc
open-line-is unopened number opens.Read same = fault-number unopened number same
open-line-is unopened number opens.Write same = fault-number unopened number same
open-line-is unopened number opens.Memory same = absurd cc

open-line-other : (unopened number : ℕ) (line : EndLine) → IsOpenLine unopened line
    → (unopened ≡ number → ⊥) → IsFaultEnd number (Line line) → ⊥
open-line-other unopened number line shown other (inl same) = other
    (open-line-is unopened number shown.0 (sym shown.1 ∙ line-is line (DeviceFault number) same))
open-line-other unopened number line shown other (inr same) = cc

-- nor does it say that stamps are used up
open-line-stamps : (unopened : ℕ) (fault : OpenNo) → open_line unopened fault ≡ StampsUsedUp → ⊥
open-line-stamps unopened (opens.Damaged block rule) same = cc
open-line-stamps unopened (opens.Version found) same = cc
open-line-stamps unopened (opens.Unserved block cause) same = cc
open-line-stamps unopened opens.Read same = cc
open-line-stamps unopened opens.Write same = cc
open-line-stamps unopened opens.Memory same = cc

-- stamps are used up where that is said
line-stamps : (fault : RunNo) → Line (run_line fault) ≡ Line StampsUsedUp → fault ≡ nos.Stamps
line-stamps nos.Stamps same = refl
line-stamps nos.Memory same = absurd cc

-- nothing is of no step
of-none : (steps : List JobStep) → AreOfSteps steps []
of-none [] = refl
of-none (step ∷ steps) = ([], [], refl, (λ k entry near. absurd (omega (arith, near))), of-none steps)

-- a volume that wasn't opened has no shape of which anything is said
no_shape : Geometry
no_shape = record { size = 0; blocks = 0; log = 0; area = 0 }

module _ {D : Type 0} (tells : Bool) (seen : D → Seen) (faults : D → Faults)
    (steps : List JobStep) where
  abbrev Since : VolumeNow D → VolumeNow D → Type 0
  Since = IsSinceSteps entries_on (Follows tells seen faults) steps

  -- each volume is since the one that was opened
  abbrev AreSince : List (Opening D) → List (Closing D) → Type 0
  AreSince [] [] = Unit {0}
  AreSince (one ∷ others) [] = ⊥
  AreSince [] (one ∷ others) = ⊥
  AreSince (opening ∷ openings) (closing ∷ closings) = Since opening.volume closing.volume
      × AreSince openings closings

  -- the volumes of a run, and what each has of these
  abbrev catalogs-in : List (VolumeOf D) → List (List CatEntry)
  catalogs-in volumes = map (λ (one : VolumeOf D). one.catalog) volumes

  abbrev histories-in : List (VolumeOf D) → List (List Entry)
  histories-in volumes = map (λ (one : VolumeOf D). one.entries) volumes

  abbrev froms-in : List (VolumeOf D) → List VolumeFrom
  froms-in volumes = map volume_from volumes

  abbrev volumes-of : List (Opening D) → List (Closing D) → List (VolumeOf D)
  volumes-of [] closings = []
  volumes-of (opening ∷ openings) [] = []
  volumes-of (opening ∷ openings) (closing ∷ closings) = record {
    geometry = opening.volume.file.geometry;
    opening = opening.state;
    catalog = opening.volume.file.catalog;
    entries = closing.entries;
    device = opening.device;
    ended = closing.volume.blocks;
    left = closing.left;
  } ∷ volumes-of openings closings

  abbrev volumes_in : List (Opening D) → List (VolumeNow D)
  volumes_in openings = map (λ (one : Opening D). one.volume) openings

  abbrev volumes_at : List (Closing D) → List (VolumeNow D)
  volumes_at closings = map (λ (one : Closing D). one.volume) closings

  each-since : (openings : List (Opening D)) (closings : List (Closing D))
      → AreSinceSteps entries_on (Follows tells seen faults) steps (volumes_in openings)
      (volumes_at closings)
      → AreSince openings closings
  each-since [] [] is = tt
  each-since (one ∷ others) [] is = absurd (omega (arith, is.count))
  each-since [] (one ∷ others) is = absurd (omega (arith, is.count))
  each-since (opening ∷ openings) (closing ∷ closings) is = (
    is.each 0 opening.volume (omega arith),
    each-since openings closings (record {
      count = omega (arith, is.count);
      each = λ place volume near. is.each (suc place) volume (omega (arith, near));
    }),
  )

  -- volumes that were opened and nothing else are since themselves
  each-itself : (openings : List (Opening D)) (closings : List (Closing D)) (number : ℕ)
      → AreOpen tells seen faults number openings
      → volumes_at closings ≡ volumes_in openings → AreSince openings closings
  each-itself [] [] number opens_so same = tt
  each-itself (one ∷ others) [] number opens_so same = absurd cc
  each-itself [] (one ∷ others) number opens_so same = absurd cc
  each-itself (opening ∷ openings) (closing ∷ closings) number opens_so same =
      let head : closing.volume ≡ opening.volume = cc in
      let tail : volumes_at closings ≡ volumes_in openings = cc in (
        record {
          is_later = inl head;
          of_steps = subst (AreOfSteps steps)
              (sym (ap entries_on head ∙ opens_so.0.on.begins)) (of-none steps);
        },
        each-itself openings closings (number + 1) opens_so.1 tail,
      )

  devices-are : (openings : List (Opening D)) (closings : List (Closing D))
      → AreSince openings closings
      → map (λ (one : Opening D). one.device) openings
      ≡ map (λ (one : VolumeOf D). one.device) (volumes-of openings closings)
  devices-are [] [] since = refl
  devices-are (one ∷ others) [] since = absurd since
  devices-are [] (one ∷ others) since = absurd since
  devices-are (opening ∷ openings) (closing ∷ closings) since =
      ap (λ (them : List D). opening.device ∷ them) (devices-are openings closings since.1)

  left-are : (openings : List (Opening D)) (closings : List (Closing D))
      → AreSince openings closings
      → map (λ (one : Closing D). one.left) closings
      ≡ map (λ (one : VolumeOf D). one.left) (volumes-of openings closings)
  left-are [] [] since = refl
  left-are (one ∷ others) [] since = absurd since
  left-are [] (one ∷ others) since = absurd since
  left-are (opening ∷ openings) (closing ∷ closings) since =
      ap (λ (them : List D). closing.left ∷ them) (left-are openings closings since.1)

  entries-are : (openings : List (Opening D)) (closings : List (Closing D))
      → AreSince openings closings
      → map (λ (one : Closing D). one.entries) closings
      ≡ map (λ (one : VolumeOf D). one.entries) (volumes-of openings closings)
  entries-are [] [] since = refl
  entries-are (one ∷ others) [] since = absurd since
  entries-are [] (one ∷ others) since = absurd since
  entries-are (opening ∷ openings) (closing ∷ closings) since =
      ap (λ (them : List (List Entry)). closing.entries ∷ them)
      (entries-are openings closings since.1)

  catalogs-are : (openings : List (Opening D)) (closings : List (Closing D))
      → AreSince openings closings
      → map catalog_of (volumes_in openings) ≡ catalogs-in (volumes-of openings closings)
  catalogs-are [] [] since = refl
  catalogs-are (one ∷ others) [] since = absurd since
  catalogs-are [] (one ∷ others) since = absurd since
  catalogs-are (opening ∷ openings) (closing ∷ closings) since =
      ap (λ (them : List (List CatEntry)). opening.volume.file.catalog ∷ them)
      (catalogs-are openings closings since.1)

  -- the states in which they were opened
  abbrev state-at : List (Opening D) → ℕ → State
  state-at [] place = no_state
  state-at (opening ∷ openings) zero = opening.state
  state-at (opening ∷ openings) (suc place) = state-at openings place

  -- what reports speak of
  froms-are : (openings : List (Opening D)) (closings : List (Closing D))
      → AreSince openings closings → AreClosing tells seen faults closings
      → froms_of (state-at openings) (volumes_in openings) (volumes_at closings)
      ≡ froms-in (volumes-of openings closings)
  froms-are [] [] since closed = refl
  froms-are (one ∷ others) [] since closed = absurd since
  froms-are [] (one ∷ others) since closed = absurd since
  froms-are (opening ∷ openings) (closing ∷ closings) since closed =
      ap (λ (entries : List Entry). from-with opening entries
      ∷ froms_of (state-at openings) (volumes_in openings) (volumes_at closings))
      (sym closed.0.entries_are)
      ∙ ap (λ (them : List VolumeFrom). from-with opening closing.entries ∷ them)
      (froms-are openings closings since.1 closed.1)
    where
      from-with : Opening D → List Entry → VolumeFrom
      from-with one entries = record {
        geometry = one.volume.file.geometry;
        opening = one.state;
        catalog = one.volume.file.catalog;
        entries = entries;
      }

  -- what is owed of each by how the job ended
  abbrev AreOwed : End → ℕ → List (Opening D) → List (Closing D) → Type 0
  AreOwed end number [] closings = Unit {0}
  AreOwed end number (opening ∷ openings) [] = Unit {0}
  AreOwed end number (opening ∷ openings) (closing ∷ closings) =
      (end ≡ Ran → closing.result ≡ Ok tt)
      × HasFaultCause number (faults opening.device) (faults closing.left) end
      × AreOwed end (number + 1) openings closings

  each-run : (end : End) (number : ℕ) (openings : List (Opening D))
      (closings : List (Closing D)) → AreOpen tells seen faults number openings
      → AreSince openings closings → AreClosing tells seen faults closings
      → AreOwed end number openings closings
      → AreVolumeRuns tells seen faults steps end number (volumes-of openings closings)
  each-run end number [] closings opens_so since closing owed = tt
  each-run end number (one ∷ others) [] opens_so since closing owed = tt
  each-run end number (opening ∷ openings) (closing ∷ closings) opens_so since closed owed = (
    volume-run tells seen faults number steps opening.device opening.volume closing.result
        closing.left closing.entries opens_so.0.on (record {
          end = closing.volume;
          later = since.0.is_later;
          of_steps = since.0.of_steps;
          closed = closed.0.closed;
          entries_are = closed.0.entries_are;
        }) opening.state opens_so.0.state_is end owed.0 owed.1,
    each-run end (number + 1) openings closings opens_so.1 since.1 closed.1 owed.2,
  )

  -- each was opened and run
  each-ran : (end : End) (number : ℕ) (openings : List (Opening D)) (closings : List (Closing D))
      → AreOpen tells seen faults number openings → AreSince openings closings
      → AreClosing tells seen faults closings → AreOwed end number openings closings → IsTrue tells
      → WereRun tells seen faults end number (volumes-of openings closings)
  each-ran end number [] closings opens_so since closing owed told = tt
  each-ran end number (one ∷ others) [] opens_so since closing owed told = tt
  each-ran end number (opening ∷ openings) (closing ∷ closings) opens_so since closed owed told = (
    was-run tells seen faults number steps opening.device opening.volume closing.result
        closing.left closing.entries opens_so.0.on (record {
          end = closing.volume;
          later = since.0.is_later;
          of_steps = since.0.of_steps;
          closed = closed.0.closed;
          entries_are = closed.0.entries_are;
        }) opening.state opens_so.0.state_is end owed.0 told,
    each-ran end (number + 1) openings closings opens_so.1 since.1 closed.1 owed.2 told,
  )

  -- ---- where a device failed to sync

  -- the closing of this number failed
  abbrev FailsAt : ℕ → ℕ → List (Closing D) → Type 0
  FailsAt failing number [] = Unit {0}
  FailsAt failing number (closing ∷ closings) = (failing ≡ number → IsErr closing.result)
      × FailsAt failing (number + 1) closings

  past-fails : (failing number : ℕ) (closings : List (Closing D)) → failing < number
      → FailsAt failing number closings
  past-fails failing number [] past = tt
  past-fails failing number (closing ∷ closings) past = (
    λ same. absurd (omega (arith, same, past)),
    past-fails failing (number + 1) closings (omega (arith, past)),
  )

  one-fails : (failing number at : ℕ) (closings : List (Closing D)) (one : Closing D)
      → number + at ≡ failing → slice_get closings at ≡ Some one → IsErr one.result
      → FailsAt failing number closings
  one-fails failing number at [] one is there failed = tt
  one-fails failing number zero (closing ∷ closings) one is there failed = (
    λ same. subst (λ (c : Closing D). IsErr c.result) (sym (same-some closing one there)) failed,
    past-fails failing (number + 1) closings (omega (arith, is)),
  )
  one-fails failing number (suc at) (closing ∷ closings) one is there failed = (
    λ same. absurd (omega (arith, same, is)),
    one-fails failing (number + 1) at closings one (omega (arith, is)) there failed,
  )

  -- then its device counted it
  closing-rose : (number : ℕ) (opening : Opening D) (closing : Closing D)
      → IsOpen tells seen faults number opening.device opening.volume
      → Since opening.volume closing.volume → IsClosing tells seen faults closing
      → IsErr closing.result
      → (faults opening.device).writes < (faults closing.left).writes
  closing-rose number opening closing opens_so since closed failed =
      ended-rose tells seen faults number steps opening.device opening.volume closing.result
      closing.left closing.entries opens_so (record {
        end = closing.volume;
        later = since.is_later;
        of_steps = since.of_steps;
        closed = closed.closed;
        entries_are = closed.entries_are;
      }) failed

  owed-closing : (failing number : ℕ) (openings : List (Opening D)) (closings : List (Closing D))
      → AreOpen tells seen faults number openings → AreSince openings closings
      → AreClosing tells seen faults closings → FailsAt failing number closings
      → AreOwed (Unsynced failing) number openings closings
  owed-closing failing number [] closings opens_so since closed fails = tt
  owed-closing failing number (one ∷ others) [] opens_so since closed fails = tt
  owed-closing failing number (opening ∷ openings) (closing ∷ closings) opens_so since closed fails = (
    λ ran. absurd cc,
    λ fault. inr (closing-rose number opening closing opens_so.0.on since.0 closed.0
        (fails.0 (unsynced-is failing number fault))),
    owed-closing failing (number + 1) openings closings opens_so.1 since.1 closed.1 fails.1,
  )

  -- the volume of a closing, of which the device failed, as was counted then
  failed-at : (number at : ℕ) (openings : List (Opening D)) (closings : List (Closing D))
      (one : Closing D) → AreOpen tells seen faults number openings → AreSince openings closings
      → AreClosing tells seen faults closings → slice_get closings at ≡ Some one
      → IsErr one.result
      → (volume : VolumeOf D) × (slice_get (volumes-of openings closings) at ≡ Some volume)
      × ((faults volume.ended).writes < (faults volume.left).writes)
  failed-at number at openings [] one opens_so since closed there failed = absurd cc
  failed-at number at [] (closing ∷ closings) one opens_so since closed there failed = absurd since
  failed-at number zero (opening ∷ openings) (closing ∷ closings) one opens_so since closed there
      failed = (
        _,
        refl,
        closed.0.closed.fails
            (subst (λ (c : Closing D). IsErr c.result) (sym (same-some closing one there)) failed),
      )
  failed-at number (suc at) (opening ∷ openings) (closing ∷ closings) one opens_so since closed there
      failed =
      failed-at (number + 1) at openings closings one opens_so.1 since.1 closed.1 there failed

  -- where none failed, or the requests weren't all answered, no device's fault ends the job
  owed-none : (number : ℕ) (openings : List (Opening D)) (closings : List (Closing D))
      → IsUnsynced closings None → AreOwed Ran number openings closings
  owed-none number [] closings none = tt
  owed-none number (one ∷ others) [] none = tt
  owed-none number (opening ∷ openings) (closing ∷ closings) none = (
    λ ran. none.0,
    λ fault. absurd (ran-no-fault number fault),
    owed-none (number + 1) openings closings none.1,
  )

  owed-asked : (fault : RunNo) (number : ℕ) (openings : List (Opening D))
      (closings : List (Closing D)) → AreOwed (Line (run_line fault)) number openings closings
  owed-asked fault number [] closings = tt
  owed-asked fault number (one ∷ others) [] = tt
  owed-asked fault number (opening ∷ openings) (closing ∷ closings) = (
    λ ran. absurd cc,
    λ by. absurd (asked-no-fault fault number by),
    owed-asked fault (number + 1) openings closings,
  )

  -- ---- where a volume was not opened

  -- the line of one is of no other
  owed-opening : (line : EndLine) (unopened number : ℕ) (openings : List (Opening D))
      (closings : List (Closing D)) → IsOpenLine unopened line
      → number + length openings ≡ unopened → AreOwed (Line line) number openings closings
  owed-opening line unopened number [] closings shown is = tt
  owed-opening line unopened number (one ∷ others) [] shown is = tt
  owed-opening line unopened number (opening ∷ openings) (closing ∷ closings) shown is = (
    λ ran. absurd cc,
    λ fault. absurd (open-line-other unopened number line shown
        (λ equal. omega (arith, equal, is)) fault),
    owed-opening line unopened (number + 1) openings closings shown (omega (arith, is)),
  )

  -- a volume that stays as it was
  abbrev untouched : D → VolumeOf D
  untouched device = record {
    geometry = no_shape;
    opening = no_state;
    catalog = [];
    entries = [];
    device = device;
    ended = device;
    left = device;
  }

  untouched-devices : (devices : List D)
      → devices ≡ map (λ (one : VolumeOf D). one.device) (map untouched devices)
  untouched-devices [] = refl
  untouched-devices (device ∷ devices) =
      ap (λ (them : List D). device ∷ them) (untouched-devices devices)

  untouched-left : (devices : List D)
      → devices ≡ map (λ (one : VolumeOf D). one.left) (map untouched devices)
  untouched-left [] = refl
  untouched-left (device ∷ devices) =
      ap (λ (them : List D). device ∷ them) (untouched-left devices)

  untouched-entries : (devices : List D)
      → map (λ (device : D). []) devices
      ≡ map (λ (one : VolumeOf D). one.entries) (map untouched devices)
  untouched-entries [] = refl
  untouched-entries (device ∷ devices) =
      ap (λ (them : List (List Entry)). [] ∷ them) (untouched-entries devices)

  untouched-run : (line : EndLine) (unopened number : ℕ) (device : D)
      → IsOpenLine unopened line → unopened < number
      → IsVolumeRun tells seen faults number steps no_shape no_state [] (Line line) [] device
      device device
  untouched-run line unopened number device shown past = record {
    stamped = tt;
    of_steps = of-none steps;
    never_fall = record { reads = omega arith; writes = omega arith };
    never_fall_closing = record { reads = omega arith; writes = omega arith };
    synced = λ ran. absurd cc;
    cause = λ fault. absurd (open-line-other unopened number line shown
        (λ equal. omega (arith, equal, past)) fault);
    faulted = λ same k entry near. absurd (omega (arith, near));
    refused_reads = omega arith;
    run = λ told. inr (inr (record {
      none = refl;
      same = refl;
      line = line;
      end_is = refl;
      earlier = unopened;
      lesser = past;
      shown = shown;
    }));
  }

  untouched-runs : (line : EndLine) (unopened number : ℕ) (devices : List D)
      → IsOpenLine unopened line → unopened < number
      → AreVolumeRuns tells seen faults steps (Line line) number (map untouched devices)
  untouched-runs line unopened number [] shown past = tt
  untouched-runs line unopened number (device ∷ devices) shown past = (
    untouched-run line unopened number device shown past,
    untouched-runs line unopened (number + 1) devices shown (omega (arith, past)),
  )

  -- one that was not opened: what is said of it, and of its run
  unopened-is : (line : EndLine) (number : ℕ) (device left : D) → IsTrue tells
      → IsNotOpen tells seen faults number device left line
      → IsUnopened tells number (Line line) [] (seen device) (seen left)
  unopened-is line number device left told is = record {
    none = refl;
    line = line;
    end_is = refl;
    shown = is.shown told;
    kept = is.kept;
    unwritten = is.unwritten told;
    moments = is.any_moment told;
    items = is.items told;
  }

  unopened-run : (line : EndLine) (number : ℕ) (device left : D)
      → IsNotOpen tells seen faults number device left line
      → IsVolumeRun tells seen faults number steps no_shape no_state [] (Line line) [] device left
      left
  unopened-run line number device left is = record {
    stamped = tt;
    of_steps = of-none steps;
    never_fall = is.never_fall;
    never_fall_closing = record { reads = omega arith; writes = omega arith };
    synced = λ ran. absurd cc;
    cause = λ fault. ⊎_elim (λ same. is.cause (line-is line (DeviceFault number) same))
        (λ same. absurd cc) fault;
    faulted = λ same k entry near. absurd (omega (arith, near));
    refused_reads = omega (arith, is.never_fall.reads);
    run = λ told. inr (inl (unopened-is line number device left told is));
  }

  -- ---- lists of volumes

  runs-append : (end : End) (number : ℕ) (volumes more : List (VolumeOf D))
      → AreVolumeRuns tells seen faults steps end number volumes
      → AreVolumeRuns tells seen faults steps end (number + length volumes) more
      → AreVolumeRuns tells seen faults steps end number (volumes ++ more)
  runs-append end number [] more runs next = subst
      (λ (n : ℕ). AreVolumeRuns tells seen faults steps end n more) (omega arith) next
  runs-append end number (volume ∷ volumes) more runs next = (
    runs.0,
    runs-append end (number + 1) volumes more runs.1
        (subst (λ (n : ℕ). AreVolumeRuns tells seen faults steps end n more) (omega arith) next),
  )

  as-many : (openings : List (Opening D)) (closings : List (Closing D)) → AreSince openings closings
      → length (volumes-of openings closings) ≡ length openings
  as-many [] [] since = refl
  as-many (one ∷ others) [] since = absurd since
  as-many [] (one ∷ others) since = absurd since
  as-many (opening ∷ openings) (closing ∷ closings) since =
      ap suc (as-many openings closings since.1)

  next-is : (volumes more : List (VolumeOf D)) (one : VolumeOf D)
      → slice_get (volumes ++ one ∷ more) (length volumes) ≡ Some one
  next-is [] more one = refl
  next-is (volume ∷ volumes) more one = next-is volumes more one

  closing-entries : (closings : List (Closing D)) → AreClosing tells seen faults closings
      → map entries_on (volumes_at closings) ≡ map (λ (one : Closing D). one.entries) closings
  closing-entries [] closed = refl
  closing-entries (closing ∷ closings) closed =
      ap (λ (es : List Entry). es ∷ map entries_on (volumes_at closings)) (sym closed.0.entries_are)
      ∙ ap (λ (them : List (List Entry)). closing.entries ∷ them) (closing-entries closings closed.1)

  -- a volume that shows that stamps are used up
  used-at : (openings : List (Opening D)) (closings : List (Closing D)) (at : ℕ)
      (one : VolumeNow D) → AreSince openings closings → AreClosing tells seen faults closings
      → at < length (volumes_at closings) → get_or (volumes_at closings) at one ≡ one
      → (volume : VolumeOf D) × (slice_get (volumes-of openings closings) at ≡ Some volume)
      × (volume.entries ≡ one.file.entries)
  used-at openings [] at one since closed near is = absurd (omega (arith, near))
  used-at [] (closing ∷ closings) at one since closed near is = absurd since
  used-at (opening ∷ openings) (closing ∷ closings) zero one since closed near is =
      (_, refl, closed.0.entries_are ∙ ap entries_on is)
  used-at (opening ∷ openings) (closing ∷ closings) (suc at) one since closed near is =
      used-at openings closings at one since.1 closed.1 (omega (arith, near)) is

  -- ---- histories without an entry

  empty-append : (volumes more : List (VolumeOf D)) → AreEmpty volumes → AreEmpty more
      → AreEmpty (volumes ++ more)
  empty-append [] more one next = next
  empty-append (volume ∷ volumes) more one next = (one.0, empty-append volumes more one.1 next)

  empty-untouched : (devices : List D) → AreEmpty (map untouched devices)
  empty-untouched [] = tt
  empty-untouched (device ∷ devices) = (refl, empty-untouched devices)

  -- of volumes that were opened and nothing else
  empty-opened : (openings : List (Opening D)) (closings : List (Closing D)) (number : ℕ)
      → AreOpen tells seen faults number openings → volumes_at closings ≡ volumes_in openings
      → AreClosing tells seen faults closings → AreEmpty (volumes-of openings closings)
  empty-opened [] closings number opens_so same closed = tt
  empty-opened (one ∷ others) [] number opens_so same closed = tt
  empty-opened (opening ∷ openings) (closing ∷ closings) number opens_so same closed =
      let head : closing.volume ≡ opening.volume = cc in
      let tail : volumes_at closings ≡ volumes_in openings = cc in (
        closed.0.entries_are ∙ ap entries_on head ∙ opens_so.0.on.begins,
        empty-opened openings closings (number + 1) opens_so.1 tail closed.1,
      )

  none-numbered : (number : ℕ) (volumes : List (VolumeOf D)) → AreEmpty volumes
      → numbered_from number (map (λ (one : VolumeOf D). one.entries) volumes) ≡ []
  none-numbered number [] empty = refl
  none-numbered number (volume ∷ volumes) empty =
      ap (λ (es : List Entry). map (λ entry. record { volume = number; entry = entry }) es
      ++ numbered_from (number + 1) (map (λ (one : VolumeOf D). one.entries) volumes)) empty.0
      ∙ none-numbered (number + 1) volumes empty.1

  abbrev lacks : Result (Unit {0}) RunNo
  lacks = Err nos.Memory

  -- nothing is asked, and the catalogs are those that the volumes had
  none-asked : (volumes : List (VolumeOf D)) → AreEmpty volumes
      → HasAsked (λ (number : ℕ). catalogs-in volumes) steps lacks (histories-in volumes)
  none-asked volumes empty = record {
    count = 0;
    next = λ deck. [];
    asked = λ deck own. ap (λ them. part_of_deck deck (in_order them))
        (none-numbered 0 volumes empty);
    prefixes = λ deck own. (_, refl);
    whole = tt;
    rising = λ deck. subst (λ them. AreRising (of_deck deck (in_order them)))
        (sym (none-numbered 0 volumes empty)) tt;
  }

  empty-at : (volumes : List (VolumeOf D)) (place : ℕ) (entries : List Entry) → AreEmpty volumes
      → slice_get (histories-in volumes) place ≡ Some entries → entries ≡ []
  empty-at [] place entries empty is = absurd cc
  empty-at (volume ∷ volumes) zero entries empty is =
      sym (same-some volume.entries entries is) ∙ empty.0
  empty-at (volume ∷ volumes) (suc place) entries empty is =
      empty-at volumes place entries empty.1 is

  none-then : (volumes : List (VolumeOf D)) → AreEmpty volumes → (number place : ℕ)
      (catalog given : List CatEntry) (entries : List Entry)
      → slice_get (catalogs-in volumes) place ≡ Some catalog
      → slice_get (histories-in volumes) place ≡ Some entries
      → slice_get (catalogs-in volumes) place ≡ Some given
      → IsCatalogAt number steps catalog entries given
  none-then volumes empty number place catalog given entries first_is now_is given_is = record {
    first = [];
    cut = record {
      rest = [];
      entries_are = empty-at volumes place entries empty now_is;
      of_before = of-none (take number steps);
      of_after = of-none (drop number steps);
    };
    is = same-some given catalog (sym given_is ∙ first_is);
  }

  none-bound : (volumes : List (VolumeOf D)) → AreEmpty volumes
      → AreBound steps (catalogs-in volumes) (histories-in volumes)
      (λ (number : ℕ). catalogs-in volumes)
  none-bound volumes empty = record {
    count = λ number. length-map volumes (λ (one : VolumeOf D). one.catalog)
        ∙ sym (length-map volumes (λ (one : VolumeOf D). one.entries));
    each = none-then volumes empty;
  }

  -- and then nothing comes of any step
  none-in-steps : (volumes : List (VolumeOf D)) → AreEmpty volumes
      → ComeInSteps steps (map (λ (one : VolumeOf D). one.entries) volumes)
  none-in-steps volumes empty = subst (λ them. AreOfSteps steps (map entry_of (in_order them)))
      (sym (none-numbered 0 volumes empty)) (of-none steps)

  -- nor is a stamp left out
  each-empty : (volumes : List (VolumeOf D)) → AreEmpty volumes
      → All (λ (one : VolumeOf D). one.entries ≡ []) volumes
  each-empty [] empty = All-nil (λ (one : VolumeOf D). one.entries ≡ [])
  each-empty (volume ∷ volumes) empty = All-cons (λ (one : VolumeOf D). one.entries ≡ []) volume
      volumes empty.0 (each-empty volumes empty.1)

  -- ---- the whole

  -- a volume that was opened has no history yet, shows that it hasn't stopped, and is held from the
  -- state in which it was opened
  abbrev OpensAt : State → VolumeNow D → Type 0
  OpensAt state volume = (volume.file.entries ≡ []) × IsHeldFrom tells seen state volume

  open-at : (openings : List (Opening D)) (number place : ℕ) (volume : VolumeNow D)
      → AreOpen tells seen faults number openings
      → slice_get (volumes_in openings) place ≡ Some volume
      → OpensAt (state-at openings place) volume
  open-at [] number place volume opens_so is = absurd cc
  open-at (opening ∷ openings) number zero volume opens_so is =
      subst (OpensAt opening.state) (same-some opening.volume volume is) (
        opens_so.0.on.begins,
        record {
          shows = ap is_some opens_so.0.on.going ∙ ap has_stopped (sym opens_so.0.on.begins);
          held = λ told. subst (λ (state : State). IsHeld seen state opening.volume)
              (sym (opens_so.0.state_is told)) (opens_so.0.on.held told).run.held;
        },
      )
  open-at (opening ∷ openings) number (suc place) volume opens_so is =
      open-at openings (number + 1) place volume opens_so.1 is

  module _ (devices unopened shelf : List D) (volumes ran : List (VolumeNow D))
      (histories : List (List Entry)) (reports : List StepReport)
      (by : Result (Unit {0}) RunNo) (unsynced : Option ℕ)
      (closed : HaveClosed tells seen faults ran shelf histories unsynced) where
    abbrev closings : List (Closing D)
    closings = closed.each

    abbrev Run : End → Type 0
    Run end = IsShelfRun tells seen faults steps end reports
        (histories ++ map (λ (device : D). []) unopened) devices (shelf ++ unopened)

    module _ (value : Unit {0}) (opened : HaveOpened tells seen faults devices volumes unopened (Ok value))
        (has_run : HaveRun tells seen faults steps by reports volumes ran) where
      abbrev openings : List (Opening D)
      openings = opened.first

      since : AreSince openings closings
      since = each-since openings closings
          (subst (λ (them : List (VolumeNow D)).
          AreSinceSteps entries_on (Follows tells seen faults) steps them (volumes_at closings))
          opened.volumes_are
          (subst (AreSinceSteps entries_on (Follows tells seen faults) steps volumes)
          closed.volumes_are has_run.since))

      abbrev all : List (VolumeOf D)
      all = volumes-of openings closings

      kept-are : histories ++ map (λ (device : D). []) unopened ≡ histories-in all
      kept-are = ap (λ (them : List D). histories ++ map (λ (device : D). []) them)
          opened.rest_is.1
          ∙ append-nil histories ∙ closed.histories_are ∙ entries-are openings closings since

      abbrev states : ℕ → State
      states = state-at openings

      opens-at : (place : ℕ) (volume : VolumeNow D) → slice_get volumes place ≡ Some volume
          → OpensAt (states place) volume
      opens-at place volume there = open-at openings 0 place volume opened.opens
          (ap (λ (them : List (VolumeNow D)). slice_get them place) (sym opened.volumes_are)
          ∙ there)

      begins : (place : ℕ) (volume : VolumeNow D) → slice_get volumes place ≡ Some volume
          → volume.file.entries ≡ []
      begins place volume there = (opens-at place volume there).0

      held : (place : ℕ) (volume : VolumeNow D) → slice_get volumes place ≡ Some volume
          → IsHeldFrom tells seen (states place) volume
      held place volume there = (opens-at place volume there).1

      first-catalogs : map catalog_of volumes ≡ catalogs-in all
      first-catalogs = ap (λ (them : List (VolumeNow D)). map catalog_of them) opened.volumes_are
          ∙ catalogs-are openings closings since

      first-froms : froms_of states volumes ran ≡ froms-in all
      first-froms = ap (λ (them : List (VolumeNow D)). froms_of states them ran)
          opened.volumes_are
          ∙ ap (froms_of states (volumes_in openings)) closed.volumes_are
          ∙ froms-are openings closings since closed.closing

      abbrev by_number : ℕ → List (List CatEntry)
      by_number = has_run.done.catalogs

      -- the histories as they are handed out
      abbrev kept : List (List Entry)
      kept = histories ++ map (λ (device : D). []) unopened

      ran-entries : map entries_on ran ≡ kept
      ran-entries = ap (λ (them : List (VolumeNow D)). map entries_on them) closed.volumes_are
          ∙ closing-entries closings closed.closing ∙ entries-are openings closings since
          ∙ sym kept-are

      bound-so : AreBound steps (catalogs-in all) kept by_number
      bound-so = subst (λ (them : List (List Entry)).
          AreBound steps (catalogs-in all) them by_number) ran-entries
          (subst (λ (them : List (List CatEntry)).
          AreBound steps them (map entries_on ran) by_number) first-catalogs
          (are-bound tells seen faults volumes ran states begins held steps by_number
          has_run.done.bound))

      reported-so : AreReportedFrom tells [] (froms-in all) steps reports
      reported-so = subst (λ (them : List VolumeFrom). AreReportedFrom tells [] them steps reports)
          first-froms (reported-from tells seen faults volumes ran states begins held by_number
          [] steps reports has_run.done.reported)

      -- however the job ended
      with-end : (end : End) → AreOwed end 0 openings closings
          → (end ≡ Line StampsUsedUp → by ≡ Err nos.Stamps)
          → IsShelfEnd tells seen faults all by end → Run end
      with-end end owed stamps ends = record {
        volumes = all;
        old_are = opened.devices_are
            ∙ ap (λ (them : List D). map (λ (one : Opening D). one.device) openings ++ them)
            opened.rest_is.0
            ∙ append-nil (map (λ (one : Opening D). one.device) openings)
            ∙ devices-are openings closings since;
        new_are = ap (λ (them : List D). shelf ++ them) opened.rest_is.1
            ∙ append-nil shelf ∙ closed.shelf_is ∙ left-are openings closings since;
        histories_are = kept-are;
        runs = each-run end 0 openings closings opened.opens since closed.closing owed;
        by = by;
        catalogs = by_number;
        bound = bound-so;
        asked = subst (HasAsked by_number steps by) ran-entries has_run.done.asked;
        in_steps = subst (ComeInSteps steps) ran-entries has_run.in_steps;
        gapless = subst (AreGapless steps) ran-entries has_run.gapless;
        reported = reported-so;
        all_reported = has_run.done.all_reported;
        stamps = λ used.
            let shown = has_run.stamps (stamps used) in
            let there = subst (λ (them : List (VolumeNow D)). Contains them shown.volume)
            closed.volumes_are shown.one in
            let found = used-at openings closings there.0 shown.volume since closed.closing there.1
            there.2 in (
              there.0,
              found.0,
              found.1,
              subst IsUsedUp (sym found.2) shown.used,
            );
        ends = ends;
      }

    -- all volumes were run
    ran-all : (value : Unit {0})
        (opened : HaveOpened tells seen faults devices volumes unopened (Ok value))
        (has_run : HaveRun tells seen faults steps by reports volumes ran) (end : End)
        → AreOwed end 0 opened.first closings → IsTrue tells
        → WereRun tells seen faults end 0 (volumes-of opened.first closings)
    ran-all value opened has_run end owed told = each-ran end 0 opened.first closings opened.opens
        (since value opened has_run) closed.closing owed told

    opened-run : (value : Unit {0})
        → HaveOpened tells seen faults devices volumes unopened (Ok value)
        → (asked : Result (Unit {0}) RunNo) → by ≡ asked
        → HaveRun tells seen faults steps by reports volumes ran → (failed : Option ℕ)
        → unsynced ≡ failed → Run (end_of (Ok value) asked failed)
    opened-run value opened (Err fault) is has_run failed same =
        let owed = owed-asked fault 0 opened.first closings in
        with-end value opened has_run (Line (run_line fault)) owed
        (λ used. is ∙ ap Err (line-stamps fault used))
        (AsAsked (ap run_end (sym is)) (ran-all value opened has_run _ owed))
    opened-run value opened (Ok done) is has_run None same =
        let owed = owed-none 0 opened.first closings
        (subst (IsUnsynced closings) same closed.unsynced_is) in
        with-end value opened has_run Ran owed
        (λ used. absurd cc) (AsAsked (ap run_end (sym is)) (ran-all value opened has_run _ owed))
    opened-run value opened (Ok done) is has_run (Some failing) same =
        let fails : IsUnsynced closings (Some failing) =
        subst (IsUnsynced closings) same closed.unsynced_is in
        let one = failed-at 0 failing opened.first closings fails.0 opened.opens
        (since value opened has_run) closed.closing fails.1 fails.2 in
        let owed = owed-closing failing 0 opened.first closings opened.opens
        (since value opened has_run)
        closed.closing (one-fails failing 0 failing closings fails.0 (omega arith) fails.1 fails.2) in
        with-end value opened has_run (Unsynced failing) owed
        (λ used. absurd cc)
        (ByClosing (subst IsOk (sym is) refl) failing one.0 one.1 refl one.2
        (ran-all value opened has_run _ owed))

    unopened-shelf : (end : EndLine)
        → HaveOpened tells seen faults devices volumes unopened (Err end) → ran ≡ volumes
        → reports ≡ [] → Run (Line end)
    unopened-shelf end opened same none = record {
      volumes = all;
      old_are = opened.devices_are
          ∙ ap (λ (them : List D). map (λ (one : Opening D). one.device) openings ++ them) rest.3
          ∙ ap (λ (them : List D). them ++ device ∷ after) (devices-are openings closings since)
          ∙ ap (λ (them : List D). map (λ (one : VolumeOf D). one.device) first ++ device ∷ them)
          (untouched-devices after)
          ∙ sym (map-append (λ (one : VolumeOf D). one.device) first more);
      new_are = ap (λ (them : List D). shelf ++ them) rest.4
          ∙ ap (λ (them : List D). them ++ left ∷ after)
          (closed.shelf_is ∙ left-are openings closings since)
          ∙ ap (λ (them : List D). map (λ (one : VolumeOf D). one.left) first ++ left ∷ them)
          (untouched-left after)
          ∙ sym (map-append (λ (one : VolumeOf D). one.left) first more);
      histories_are = kept-are;
      runs = runs-append (Line end) 0 first more
          (each-run (Line end) 0 openings closings opened.opens since closed.closing
          (owed-opening end (length openings) 0 openings closings fault.line (omega arith)))
          (subst (λ (n : ℕ). AreVolumeRuns tells seen faults steps (Line end) n more)
          (omega (arith, as-many openings closings since)) (
            unopened-run end (length openings) device left fault,
            untouched-runs end (length openings) (length openings + 1) after fault.line (omega arith),
          ));
      by = Err nos.Memory;
      catalogs = λ (number : ℕ). catalogs-in all;
      bound = subst (λ (them : List (List Entry)). AreBound steps (catalogs-in all) them
          (λ (number : ℕ). catalogs-in all)) (sym kept-are) (none-bound all all-empty);
      asked = subst (HasAsked (λ (number : ℕ). catalogs-in all) steps lacks)
          (sym kept-are) (none-asked all all-empty);
      in_steps = subst (ComeInSteps steps) (sym kept-are) (none-in-steps all all-empty);
      gapless = subst (AreGapless steps) (sym kept-are)
          (gapless-none (λ (one : VolumeOf D). one.entries) steps all (each-empty all all-empty));
      reported = subst (AreReportedFrom tells [] (froms-in all) steps) (sym none)
          (reported-none tells [] (froms-in all) steps);
      all_reported = tt;
      stamps = λ used. absurd (open-line-stamps (length openings) fault.line.0
          (sym fault.line.1 ∙ line-is end StampsUsedUp used));
      ends = ByOpening (length openings) one end
          (subst (λ (n : ℕ). slice_get all n ≡ Some one) (as-many openings closings since)
          (next-is first (map untouched after) one)) refl fault.line
          (λ told. unopened-is end (length openings) device left told fault) all-empty;
    }
      where
        openings : List (Opening D)
        openings = opened.first

        rest : IsRest tells seen faults (length openings) (Err end) opened.rest unopened
        rest = opened.rest_is

        device : D
        device = rest.0

        left : D
        left = rest.1

        after : List D
        after = rest.2

        fault : IsNotOpen tells seen faults (length openings) device left end
        fault = rest.5

        together : volumes_at closings ≡ volumes_in openings
        together = sym closed.volumes_are ∙ same ∙ opened.volumes_are

        since : AreSince openings closings
        since = each-itself openings closings 0 opened.opens together

        one : VolumeOf D
        one = record {
          geometry = no_shape;
          opening = no_state;
          catalog = [];
          entries = [];
          device = device;
          ended = left;
          left = left;
        }

        first : List (VolumeOf D)
        first = volumes-of openings closings

        more : List (VolumeOf D)
        more = one ∷ map untouched after

        all : List (VolumeOf D)
        all = first ++ more

        all-empty : AreEmpty all
        all-empty = empty-append first more
            (empty-opened openings closings 0 opened.opens together closed.closing)
            (refl, empty-untouched after)

        kept-are : histories ++ map (λ (d : D). []) unopened
            ≡ map (λ (one : VolumeOf D). one.entries) all
        kept-are = ap (λ (them : List D). histories ++ map (λ (d : D). []) them) rest.4
            ∙ ap (λ (them : List (List Entry)). them ++ [] ∷ map (λ (d : D). []) after)
            (closed.histories_are ∙ entries-are openings closings since)
            ∙ ap (λ (them : List (List Entry)). map (λ (one : VolumeOf D). one.entries) first
            ++ [] ∷ them) (untouched-entries after)
            ∙ sym (map-append (λ (one : VolumeOf D). one.entries) first more)

    -- volumes that were opened, run and closed
    pub shelf-run : (opened : Answer)
        → HaveOpened tells seen faults devices volumes unopened opened
        → HaveRunWhere (is_ok opened) tells seen faults steps by reports volumes ran
        → Run (end_of opened by unsynced)
    shelf-run (Ok value) opened has_run =
        opened-run value opened by refl has_run unsynced refl
    shelf-run (Err end) opened has_run = unopened-shelf end opened has_run.0 has_run.2
