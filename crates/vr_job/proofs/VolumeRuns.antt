-- What the run of a job comes to on one of its volumes, from its opening to the end.
use Rattle.std.proofs.Common.{◌≡◌, ◌<◌, ◌∙◌, ◌⊎◌, inl, inr, ⊎_elim, ℕ, Bool, true, false, List, []}
use Rattle.std.proofs.Common.{Result, Ok, Err, None, Option, arith, refl, sym, ap, subst}
use Rattle.std.proofs.Common.{◌≤◌, ◌+◌, ◌++◌}
use Rattle.std.specs.Prelude.{IsErr, IsSome, IsTrue, OnOk}
use Rattle.std.proofs.lemmas.Bool.{true≢false}
use Rattle.std.proofs.lemmas.List.{append-nil}
use Rattle.vr_types.specs.Faults.{Faults}
use Rattle.vr_types.specs.Image.{Image}
use Rattle.vr_types.specs.Moments.{Guards}
use Rattle.vr_types.specs.Seen.{Left, Seen}
use Rattle.vr_types.specs.Blocks.{AllForced, Keeps}
use Rattle.vr_types.specs.declared.fault.Failed.{Failed}
use Rattle.vr_types.proofs.CallerLemmas.{guards-keeps, guards-then, guards-weaken}
use Rattle.vr_types.specs.declared.geometry.Geometry.{Geometry}
use Rattle.vr_history.specs.Merged.{IsStamped}
use Rattle.vr_history.specs.State.{State, opening_state}
use Rattle.vr_history.specs.declared.entry.Entry.{Entry}
use Rattle.vr_job_text.specs.declared.job.JobStep.{JobStep}
use Rattle.vr_job_ends.specs.declared.job_end.End.{End}
use Rattle.vr_job_ends.specs.declared.job_end.End.TheVariants.{Ran}
use Rattle.vr_record_file.specs.Now.{state_now}
use Rattle.vr_event.specs.Opening.{owned_in}
use Rattle.vr_event.specs.Volume.{AreServed, IsWhole, VolumeNow}
use Rattle.vr_mount.specs.Areas.{AreOwners}
use Rattle.vr_store.proofs.CallerLemmas.{stored-left}
use Rattle.vr_recover.specs.Opening.{HasContents, IsLeftOpening}
use Rattle.vr_recover.specs.Recovered.{KeepsAll}
use Rattle.vr_volume.specs.Crashes.{RecoversTo}
use Rattle.vr_volume.specs.PutBack.{images_of}
use Rattle.vr_job.specs.Crash.{IsLeftBy}
use Rattle.vr_job.specs.Faultless.{AreFaultless}
use Rattle.vr_job.proofs.Faultless.{faultless-none}
use Rattle.vr_job.proofs.Stopping.{stopped-fewer}
use Rattle.vr_job.specs.Going.{GoesOn, HasRun, WentOn}
use Rattle.vr_job.specs.ReadFaults.{read_faults}
use Rattle.vr_job.specs.OpenEnds.{NeverFall}
use Rattle.vr_job.specs.Opened.{IsOpenHeld}
use Rattle.vr_job.specs.VolumeRun.{HasEnded, HasFaultCause, IsOpen, IsRun, IsRunFrom, IsVolumeRun}
use Rattle.vr_job.specs.VolumeRun.{opening_of}

-- a volume on which nothing was asked
goes-start : {B : Type 0} (seen : B → Seen) (faults : B → Faults) (volume : VolumeNow B)
    → IsWhole seen volume → GoesOn seen faults volume volume
goes-start seen faults volume whole = record {
  whole = whole;
  number = refl;
  geometry = refl;
  catalog = refl;
  decks = λ deck has. has;
  made = [];
  entries = sym (append-nil volume.file.entries);
  stamped = λ before. before;
  reads = omega arith;
  writes = omega arith;
  stops = λ same. refl;
  quiet = λ same. refl;
  stays = λ stamp is. is;
  faultless = λ same before. before;
  shows = λ before. before;
}

-- what a crash may leave after calls that put nothing, it might have left before
keeps-left : (tells : Bool) (old new : Seen) (image : Image) → IsTrue tells → Keeps tells old new
    → Left new image → Left old image
keeps-left tells old new image told keeps left = record {
  length_is = left.length_is ∙ keeps.count_same;
  each = λ n below. keeps.adds_none told n _ below
      (left.each n (omega (arith, below, keeps.count_same)));
}

not-stopped : (stopped : Bool) (at : Option ℕ) → (IsTrue stopped → IsSome at) → at ≡ None
    → stopped ≡ false
not-stopped false at has none = refl
not-stopped true at has none = absurd (true≢false (sym (subst IsSome none (has refl))))

-- what is owed where a device was synced
on-ok : (result : Result (Unit {0}) Failed) (P : Type 0) → result ≡ Ok tt → OnOk result P → P
on-ok (Ok given) P synced is = is
on-ok (Err failed) P synced is = absurd cc

module _ {D : Type 0} (tells : Bool) (seen : D → Seen) (faults : D → Faults) (number : ℕ)
    (steps : List JobStep) (first : D) (volume : VolumeNow D) (result : Result (Unit {0}) Failed)
    (device : D) (entries : List Entry)
    (opens_so : IsOpen tells seen faults number first volume)
    (ended : HasEnded tells seen faults steps volume result device entries) where
  abbrev end : VolumeNow D
  end = ended.end

  went : WentOn tells seen faults volume end
  went = ⊎_elim
      (λ same. subst (λ (v : VolumeNow D). WentOn tells seen faults volume v) (sym same) (record {
        on = goes-start seen faults volume opens_so.whole;
        held = λ told opening held. held;
        run = λ told opening from run. run;
      }))
      (λ on. on) ended.later

  on : GoesOn seen faults volume end
  on = went.on

  so-far : NeverFall (faults first) (faults end.blocks)
  so-far = record {
    reads = omega (arith, opens_so.never_fall.reads, on.reads);
    writes = omega (arith, opens_so.never_fall.writes, on.writes);
  }

  -- where the device failed to sync, its count rose
  pub ended-rose : IsErr result → (faults first).writes < (faults device).writes
  ended-rose failed = omega (arith, so-far.writes, ended.closed.fails failed)

  -- where no write failed, none did in a request
  none-failed : (faults device).writes ≡ (faults first).writes
      → (faults end.blocks).writes ≡ (faults volume.blocks).writes
  none-failed same = omega (
    arith,
    same,
    opens_so.never_fall.writes,
    on.writes,
    ended.closed.counts.writes,
  )

  ended-faultless : (faults device).writes ≡ (faults first).writes → AreFaultless entries
  ended-faultless same = subst AreFaultless (sym ended.entries_are)
      (on.faultless (none-failed same) (faultless-none volume.file.entries opens_so.begins))

  -- each reply 904 of the run is one that the count of reads rose for
  ended-reads : (faults first).reads + read_faults entries ≤ (faults device).reads
  ended-reads = omega (
    arith,
    opens_so.never_fall.reads,
    on.reads,
    ended.closed.counts.reads,
    ap read_faults made-alone,
  )
    where
      made-alone : entries ≡ on.made
      made-alone = ended.entries_are ∙ on.entries
          ∙ ap (λ (them : List Entry). them ++ on.made) opens_so.begins

  ended-going : (faults device).writes ≡ (faults first).writes → end.file.stopped ≡ None
  ended-going same = on.stops (none-failed same) ∙ opens_so.going

  -- and where it didn't stop, none did up to what the requests left
  ended-unfailed : end.file.stopped ≡ None → (faults end.blocks).writes ≡ (faults first).writes
  ended-unfailed goes = on.quiet (goes ∙ sym opens_so.going)
      ∙ ap (λ (f : Faults). f.writes) opens_so.quiet

  -- what was synced is forced, unless the volume had stopped
  unstopped-forced : result ≡ Ok tt → IsTrue tells → end.file.stopped ≡ None
      → AllForced (seen device).count (seen device).cur (seen device).may
  unstopped-forced synced told goes = on-ok result _ synced
      (ended.closed.forced told (not-stopped ended.closed.stopped end.file.stopped
      ended.closed.has_stopped goes))

  ended-stamped : IsStamped 0 entries
  ended-stamped = subst (IsStamped 0) (sym ended.entries_are)
      (on.stamped (subst (IsStamped 0) (sym opens_so.begins) tt))

  -- by the state in which it was opened
  module _ (from : State) (from_is : (told : IsTrue tells) → from
      ≡ opening_of (opens_so.held told).contents (opens_so.held told).owners)
      (by : End) (synced : by ≡ Ran → result ≡ Ok tt) (told : IsTrue tells) where
    held : IsOpenHeld seen faults number (seen first) volume
    held = opens_so.held told

    abbrev old : Seen
    old = seen first

    abbrev opening : State
    opening = opening_state held.contents (owned_in held.owners)

    run : HasRun seen faults opening volume.blocks end
    run = went.run told opening volume.blocks held.run

    same-geometry : end.file.geometry ≡ volume.file.geometry
    same-geometry = on.geometry

    same-number : end.number ≡ number
    same-number = on.number ∙ opens_so.number_is

    -- what it had as it was opened, by its shape and its number then
    was : HasContents number volume.file.geometry held.contents old
    was = record {
      volume = held.volume_is;
      whole = held.whole;
      ascends = held.ascends;
      others = held.others;
    }

    abbrev Opens : Geometry → ℕ → Type 0
    Opens geometry n = (has : HasContents n geometry held.contents old)
        × Guards old (seen volume.blocks) (IsLeftOpening n geometry held.contents old has)

    -- and by those that it has at the end
    had : Opens end.file.geometry end.number
    had = subst (λ (g : Geometry). Opens g end.number) (sym same-geometry)
        (subst (λ (n : ℕ). Opens volume.file.geometry n) (sym same-number)
        (was, opens_so.items told volume.file.geometry held.contents was))

    abbrev Keeping : Image → Type 0
    Keeping image = KeepsAll end.file.geometry end.number (images_of had.0.whole.log.records)
        held.contents image

    abbrev MayLeave : Image → Type 0
    MayLeave image = Left old image ⊎ Keeping image
        ⊎ IsLeftBy end.file.geometry end.number opening end.file.entries image

    each-moment : Guards old (seen end.blocks) MayLeave
    each-moment = guards-then old (seen volume.blocks) (seen end.blocks) MayLeave
        (guards-weaken old (seen volume.blocks)
        (IsLeftOpening end.number end.file.geometry held.contents old had.0) MayLeave had.1
        (λ image is. ⊎_elim (λ before. inl before) (λ keeps. inr (inl keeps)) is))
        (guards-weaken (seen volume.blocks) (seen end.blocks)
        (IsLeftBy end.file.geometry end.number opening end.file.entries) MayLeave run.left
        (λ image is. inr (inr is)))

    at-end : IsRun tells seen faults end.number volume.file.geometry volume.file.catalog by
        end.file.entries first end.blocks device
    at-end = record {
      geometry = end.file.geometry;
      shape_is = sym same-geometry;
      contents = held.contents;
      owners = held.owners;
      volume = had.0.volume;
      whole = had.0.whole;
      ascends = had.0.ascends;
      others = had.0.others;
      catalog_is = held.catalog_is;
      served = subst (λ (g : Geometry). AreServed g volume.file.catalog)
          (sym same-geometry) opens_so.whole.served;
      legal = run.held.file.legal;
      keeps_catalog = run.keeps_catalog;
      moments = guards-keeps tells old (seen end.blocks) (seen device) MayLeave each-moment
          ended.closed.keeps told;
      opened = volume.blocks;
      owners_are = subst (λ (g : Geometry). AreOwners g volume.file.catalog
          (seen volume.blocks).cur held.owners) (sym same-geometry) held.owners_are;
      quiet = opens_so.quiet;
      opens = had.1;
      events = run.events;
      leaves = guards-keeps tells (seen volume.blocks) (seen end.blocks) (seen device)
          (IsLeftBy end.file.geometry end.number opening end.file.entries) run.left
          ended.closed.keeps told;
      closes = ended.closed.keeps;
      goes = λ same. sym run.held.file.now.stopped ∙ ended-going same;
      unfailed = λ goes. ended-unfailed (run.held.file.now.stopped ∙ goes);
      kept = λ goes image left.
          let stops = run.held.file.now.stopped ∙ goes in
          subst (λ (g : Geometry). RecoversTo g end.number (state_now opening end.file) [] image)
          (on.whole.geometry stops)
          (stored-left end.number end.store (state_now opening end.file) (seen end.blocks)
          (run.held.stored stops) image
          (keeps-left tells (seen end.blocks) (seen device) image told ended.closed.keeps left));
      stopped = λ stops. stopped-fewer end.file.geometry end.number opening end.file.entries
          (seen end.blocks) (seen device)
          (λ image left. keeps-left tells (seen end.blocks) (seen device) image told
          ended.closed.keeps left)
          (run.stopped (λ none. stops (sym run.held.file.now.stopped ∙ none)));
      forced = λ ran goes. unstopped-forced (synced ran) told (run.held.file.now.stopped ∙ goes);
    }

    abbrev Ran-as : ℕ → List Entry → Type 0
    Ran-as n es = IsRunFrom tells seen faults n volume.file.geometry from volume.file.catalog by es
        first end.blocks device

    ended-run : Ran-as number entries
    unfolding at-end held
    ended-run = subst (λ (es : List Entry). Ran-as number es) (sym ended.entries_are)
        (subst (λ (n : ℕ). Ran-as n end.file.entries) same-number
        (record { run = at-end; opening_is = from_is told }))

  -- where the device reports its contents, such a volume was run
  pub was-run : (from : State) → ((told : IsTrue tells) → from
      ≡ opening_of (opens_so.held told).contents (opens_so.held told).owners)
      → (by : End) → (by ≡ Ran → result ≡ Ok tt) → IsTrue tells
      → IsRunFrom tells seen faults number volume.file.geometry from volume.file.catalog by entries
      first end.blocks device
  was-run from from_is by synced told = ended-run from from_is by synced told

  -- a volume that was opened, run and closed, by how the job ended
  pub volume-run : (from : State) → ((told : IsTrue tells) → from
      ≡ opening_of (opens_so.held told).contents (opens_so.held told).owners)
      → (by : End) → (by ≡ Ran → result ≡ Ok tt)
      → HasFaultCause number (faults first) (faults device) by
      → IsVolumeRun tells seen faults number steps volume.file.geometry from volume.file.catalog by
      entries first end.blocks device
  volume-run from from_is by synced cause = record {
    stamped = ended-stamped;
    of_steps = subst (Rattle.vr_worker.specs.Steps.AreOfSteps steps) (sym ended.entries_are)
        ended.of_steps;
    never_fall = so-far;
    never_fall_closing = ended.closed.counts;
    synced = λ ran. on-ok result _ (synced ran) ended.closed.ok;
    cause = cause;
    faulted = ended-faultless;
    refused_reads = ended-reads;
    run = λ told. inl (ended-run from from_is by synced told);
  }
