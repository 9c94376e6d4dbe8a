-- What an event of a definition of a cluster leaves of a run, from each opening.
use Rattle.std.proofs.Common.{◌≡◌, ◌∙◌, ◌<◌, inl, inr, ℕ, List, [], ◌∷◌, ◌++◌}
use Rattle.std.proofs.Common.{Result, ap, refl, subst, sym, ⊎_elim}
use Rattle.std.proofs.lemmas.List.{append_cancel_left}
use Rattle.vr_types.specs.Faults.{Faults}
use Rattle.vr_types.specs.Geometry.{area_count}
use Rattle.vr_types.specs.Image.{Image}
use Rattle.vr_types.specs.Moments.{Guards}
use Rattle.vr_types.specs.Seen.{Left, Seen}
use Rattle.vr_types.specs.declared.geometry.Geometry.{Geometry}
use Rattle.vr_types.specs.declared.memory.OutOfMemory.{OutOfMemory}
use Rattle.vr_types.specs.declared.unit.AreaNo.{AreaNo}
use Rattle.vr_types.specs.declared.unit.Unit.{Unit as UnitOfRecovery}
use Rattle.vr_types.proofs.CallerLemmas.{guards-weaken}
use Rattle.vr_catalog.specs.declared.entry.CatEntry.{CatEntry}
use Rattle.vr_history.specs.Effects.{ends_unit, stops}
use Rattle.vr_history.specs.Legal.{AreSteps, state_of}
use Rattle.vr_history.specs.State.{State}
use Rattle.vr_history.specs.declared.entry.Entry.{Entry}
use Rattle.vr_record_file.specs.Now.{state_now}
use Rattle.vr_event.specs.Defining.{HasDefineFaults, IsLeftDefining, IsNewCluster, file_defined}
use Rattle.vr_event.specs.Defining.{file_in_doubt, utility_unit}
use Rattle.vr_event.specs.DefineSteps.{HasCome, HasComeHeld, MayDefineNow}
use Rattle.vr_event.specs.Nearer.{EntersSplits}
use Rattle.vr_event.specs.Volume.{IsHeld, VolumeNow}
use Rattle.vr_event.specs.declared.define.Define.{Define}
use Rattle.vr_volume.specs.Crashes.{RecoversTo}
use Rattle.vr_job.specs.Committed.{KeepTheCatalog}
use Rattle.vr_job.specs.Crash.IsLeftAt.{Counted}
use Rattle.vr_job.specs.Definitions.{AreBegun}
use Rattle.vr_job.specs.Events.{IsLeftWhile}
use Rattle.vr_job.specs.Going.{HasRun}
use Rattle.vr_job.proofs.Crashing.{left-while}
use Rattle.vr_job.proofs.DefineCatalog.{begun-keep, recorded-lack}
use Rattle.vr_job.proofs.DefineEvents.{IsDefineMade, begun-of, begun-recorded}
use Rattle.vr_job.proofs.DefineEvents.{claim-of, commit-of, defined-entries, define-made}
use Rattle.vr_job.proofs.DefineEvents.{doubted-entries, fault-of, refused-of}
use Rattle.vr_job.proofs.DefineImages.{ended-recovers, stopped-recovers}
use Rattle.vr_job.proofs.Keeping.{state-both}
use Rattle.vr_job.proofs.Kept.{AreSized}
use Rattle.vr_job.proofs.Stopping.{step-at}
use Rattle.vr_job.proofs.UtilityRuns.{still-keep, utility-run}

module _ {B : Type 0} (seen : B → Seen) (faults : B → Faults) (after line : ℕ) (entry : CatEntry)
    (result : Result Define OutOfMemory) (old new : VolumeNow B)
    (cluster : IsNewCluster old.file.geometry old.file.catalog entry)
    (may : MayDefineNow seen after old)
    (come : HasCome seen after (utility_unit old.file) line entry result old new)
    (cause : HasDefineFaults (faults old.blocks) (faults new.blocks) result) where
  abbrev unit : UnitOfRecovery
  unit = utility_unit old.file

  abbrev geometry : Geometry
  geometry = old.file.geometry

  -- what it adds to the history
  made-in : IsDefineMade old.number after line unit entry old.file new.file (faults old.blocks)
      (faults new.blocks)
  made-in = define-made old.number after line unit refl entry old.file new.file may.going
      (faults old.blocks) (faults new.blocks) result come.entered cause

  made-are : (made : List Entry) → new.file.entries ≡ old.file.entries ++ made
      → made-in.event.made ≡ made
  made-are made entries = append_cancel_left old.file.entries made-in.event.made made
      (sym made-in.event.entries ∙ entries)

  module _ (opening : State) (first : B) (run : HasRun seen faults opening first old)
      (held-by : HasComeHeld seen opening after (utility_unit old.file) line entry old new)
      (was : Left (seen old.blocks) (seen old.blocks).cur) (sized : AreSized (seen new.blocks))
      (cur : Left (seen new.blocks) (seen new.blocks).cur) (enters : EntersSplits old new) where
    abbrev before : State
    before = state_now opening old.file

    held : IsHeld seen opening new
    held = held-by.held

    -- the state after it
    state-is : state_now opening new.file ≡ state_of geometry before made-in.event.made
    state-is = ap (λ (g : Geometry). state_of g opening new.file.entries) made-in.event.geometry
        ∙ ap (state_of geometry opening) made-in.event.entries
        ∙ state-both geometry opening old.file.entries made-in.event.made

    steps : AreSteps geometry opening (old.file.entries ++ made-in.event.made)
    steps = subst (AreSteps geometry opening) made-in.event.entries
        (subst (λ (g : Geometry). AreSteps g opening new.file.entries) made-in.event.geometry
        held.file.legal.steps)

    -- the area of a new part is one of the volume
    area-below : (area : AreaNo) (rest : List Entry)
        → made-in.event.made ≡ begun-of old.number after line unit entry area old.file ++ rest
        → area.0 < area_count geometry
    area-below area rest are = (step-at geometry opening old.file.entries
        (claim-of old.number after line unit entry area old.file) _
        (subst (λ (made : List Entry). AreSteps geometry opening (old.file.entries ++ made)) are
        steps)).below

    -- ---- what an image recovers to at each moment

    abbrev While : Image → Type 0
    While = IsLeftWhile geometry old.number opening old.file.entries made-in.event.made

    at-rest : (image : Image) → RecoversTo geometry old.number before [] image → While image
    at-rest image rests = left-while geometry old.number opening old.file.entries
        made-in.event.made [] image (inl refl) rests

    module _ (area : AreaNo) where
      abbrev begun : List Entry
      begun = begun-of old.number after line unit entry area old.file

      abbrev commit : Entry
      commit = commit-of old.number after line unit entry area old.file

      abbrev refused : Entry
      refused = refused-of old.number after line unit entry area old.file

      abbrev fault : Entry
      fault = fault-of old.number after line unit entry area old.file

      abbrev with-record : State
      with-record = state_of geometry before begun

      recorded-by : AreBegun begun
      recorded-by = inr (inl (
        unit,
        entry.part,
        area,
        _,
        begun-recorded old.number after line unit entry area old.file refl,
      ))

      -- its unit counts in the state in which its record stands
      counted-by : (image : Image) → RecoversTo geometry old.number with-record (unit ∷ []) image
          → RecoversTo geometry old.number
          (state_of geometry opening (old.file.entries ++ begun)) (unit ∷ []) image
      counted-by image = subst (λ (s : State). RecoversTo geometry old.number s (unit ∷ []) image)
          (sym (state-both geometry opening old.file.entries begun))

      while-done : (image : Image)
          → new.file ≡ file_defined old.number after unit line entry area old.file
          → RecoversTo geometry old.number (state_now opening new.file) (unit ∷ []) image
          → While image
      while-done image is recovers =
          let are : made-in.event.made ≡ begun ++ commit ∷ [] = made-are (begun ++ commit ∷ [])
          (defined-entries old.number after line unit entry area old.file new.file is) in
          let lack = recorded-lack seen opening old run.held may.whole may.going was entry cluster
          area (area-below area (commit ∷ []) are) after line unit in
          let ends : state_now opening new.file ≡ ends_unit unit with-record =
          state-is ∙ ap (state_of geometry before) are in
          record {
            first = begun;
            rest = commit ∷ [];
            made_are = are;
            begun = recorded-by;
            left = Counted (unit ∷ []) (inr (commit, [], refl, inl refl, refl))
                (counted-by image (ended-recovers unit with-record lack geometry old.number image
                (subst (λ (s : State).
                RecoversTo geometry old.number s (unit ∷ []) image) ends recovers)));
          }

      while-doubted : (image : Image)
          → new.file ≡ file_in_doubt old.number after unit line entry area old.file
          → RecoversTo geometry old.number (state_now opening new.file) (unit ∷ []) image
          → While image
      while-doubted image is recovers =
          let are : made-in.event.made ≡ begun ++ refused ∷ fault ∷ [] =
          made-are (begun ++ refused ∷ fault ∷ [])
          (doubted-entries old.number after line unit entry area old.file new.file is) in
          let stopped : state_now opening new.file ≡ stops fault.stamp with-record =
          state-is ∙ ap (state_of geometry before) are in
          record {
            first = begun;
            rest = refused ∷ fault ∷ [];
            made_are = are;
            begun = recorded-by;
            left = Counted (unit ∷ []) (inr (refused, fault ∷ [], refl, inr refl, refl))
                (counted-by image (stopped-recovers geometry old.number fault.stamp with-record
                (unit ∷ []) image (subst (λ (s : State).
                RecoversTo geometry old.number s (unit ∷ []) image) stopped recovers)));
          }

    in-while : (image : Image) → IsLeftDefining geometry old.number opening after unit line entry
        old.file new.file image → While image
    in-while image is = ⊎_elim (at-rest image)
        (λ defined. ⊎_elim
        (λ done. while-done defined.0.0 image done defined.1)
        (λ doubt. while-doubted defined.0.0 image doubt defined.1) defined.0.1) is

    while-guards : Guards (seen old.blocks) (seen new.blocks) While
    while-guards = guards-weaken (seen old.blocks) (seen new.blocks)
        (IsLeftDefining geometry old.number opening after unit line entry old.file new.file) While
        (subst (λ (g : Geometry). Guards (seen old.blocks) (seen new.blocks)
        (IsLeftDefining g old.number opening after unit line entry old.file new.file))
        (may.whole.geometry may.going) held-by.moments) in-while

    -- ---- the catalog

    made-keep : KeepTheCatalog geometry before made-in.event.made
    made-keep = ⊎_elim (still-keep geometry before made-in.event.made)
        (λ add. subst (KeepTheCatalog geometry before) (sym add.2)
        (begun-keep seen opening old run.held may.whole may.going was entry cluster add.0
        (area-below add.0 add.1 add.2) after line unit refl add.1
        (still-keep geometry _ add.1 add.3))) made-in.by

    -- ---- the run

    on-run : HasRun seen faults opening first new
    on-run = utility-run seen faults old new may.whole may.going come.whole come.number
        made-in.event opening first run held-by.held sized cur while-guards made-keep enters

-- An event of a definition goes on with what a crash leaves at each moment, event by event.
pub defined-run : {B : Type 0} (seen : B → Seen) (faults : B → Faults) (after line : ℕ)
    (entry : CatEntry) (result : Result Define OutOfMemory) (old new : VolumeNow B)
    → IsNewCluster old.file.geometry old.file.catalog entry → MayDefineNow seen after old
    → HasCome seen after (utility_unit old.file) line entry result old new
    → HasDefineFaults (faults old.blocks) (faults new.blocks) result
    → ((opening : State) → IsHeld seen opening old
    → HasComeHeld seen opening after (utility_unit old.file) line entry old new)
    → Left (seen old.blocks) (seen old.blocks).cur → AreSized (seen new.blocks)
    → Left (seen new.blocks) (seen new.blocks).cur → EntersSplits old new
    → (opening : State) (first : B) → HasRun seen faults opening first old
    → HasRun seen faults opening first new
defined-run seen faults after line entry result old new cluster may come cause held was sized cur
    enters opening first run = on-run seen faults after line entry result old new cluster may come
    cause opening first run (held opening run.held) was sized cur enters
