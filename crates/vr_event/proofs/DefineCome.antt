-- What a step of a DEFINE leaves, from before the step that went before it.
use Rattle.std.proofs.Common.{◌≡◌, ◌<◌, ◌≢◌, ◌∙◌, ◌+◌, ◌≤◌, ℕ, []}
use Rattle.std.proofs.Common.{None, refl, sym, ap, subst, inl, inr, arith, ◌⊎◌}
use Rattle.std.proofs.Common.{⊎_elim}
use Rattle.std.specs.Prelude.{IfOk, Result, Ok, Err}
use Rattle.std.proofs.lemmas.Option.{none-some}
use Rattle.std.proofs.lemmas.Result.{IfOk-weaker}
use Rattle.vr_types.specs.Geometry.{area_count}
use Rattle.vr_types.specs.Locks.{first_conflict}
use Rattle.vr_types.specs.LogSpace.{IsLogFull}
use Rattle.vr_types.specs.Moments.{Guards}
use Rattle.vr_types.specs.Seen.{Seen}
use Rattle.vr_types.specs.Space.{least_free}
use Rattle.vr_types.specs.declared.fault.DeviceFault.TheVariants.{Write}
use Rattle.vr_types.specs.declared.memory.OutOfMemory.{OutOfMemory}
use Rattle.vr_types.specs.declared.unit.AreaNo.{AreaNo}
use Rattle.vr_types.specs.declared.unit.Mode.TheVariants.{Exclusive}
use Rattle.vr_types.specs.declared.unit.Unit.{Unit as UnitOfRecovery}
use Rattle.vr_types.proofs.CallerLemmas.{guards-then, guards-weaken}
use Rattle.vr_attach.specs.Laid.{shape_of}
use Rattle.vr_catalog.specs.declared.entry.CatEntry.{CatEntry}
use Rattle.vr_log.specs.Live.{used_by}
use Rattle.vr_log.specs.LogNow.{LogNow}
use Rattle.vr_history.specs.State.{State}
use Rattle.vr_record_file.specs.Defining.{entry_name, need_to_define}
use Rattle.vr_record_file.specs.Now.{FileNow, faulted, state_now}
use Rattle.vr_volume.specs.Crashes.{RecoversTo}
use Rattle.vr_store.specs.Store.{StoreNow, shape_among}
use Rattle.vr_event.specs.DefineSteps.{HasCome, HasComeHeld, IsLater}
use Rattle.vr_event.specs.Defining.{EnteredBy, IsDefineEntered, IsLeftDefining}
use Rattle.vr_event.specs.Defining.{entry_place, entry_with_area, file_defined}
use Rattle.vr_event.specs.Defining.{file_in_doubt, with_cluster}
use Rattle.vr_event.specs.Volume.{AreServed, IsHeld, IsWhole, VolumeNow}
use Rattle.vr_event.specs.declared.define.Define.{Define}
use Rattle.vr_event.specs.declared.define.Define.TheVariants.{Done, Fault, Full, Held, NoArea}
use Rattle.vr_event.proofs.Served.{served_same}
use Rattle.vr_event.proofs.Stepped.{held-at}
use Rattle.vr_event.proofs.Wholes.{whole-stopped}

module _ {B : Type 0} (seen : B → Seen) (after : ℕ) (unit : UnitOfRecovery) (line : ℕ)
    (entry : CatEntry) where
  -- what was committed before
  pub left-before : (opening : State) (a b : Seen) (old : VolumeNow B) (to : FileNow)
      → Guards a b (RecoversTo old.store.log.geometry old.number (state_now opening old.file) [])
      → Guards a b (IsLeftDefining old.store.log.geometry old.number opening after unit line entry
      old.file to)
  left-before opening a b old to guards = guards-weaken a b
      (RecoversTo old.store.log.geometry old.number (state_now opening old.file) [])
      (IsLeftDefining old.store.log.geometry old.number opening after unit line entry old.file to)
      guards (λ image one. inl one)

  -- A step that entered nothing and took no area went before.
  pub come-after : (result : Result Define OutOfMemory) (old mid new : VolumeNow B)
      → mid.file ≡ old.file → mid.number ≡ old.number
      → (least_free mid.store.space ≡ None → least_free old.store.space ≡ None)
      → mid.store.log ≡ old.store.log
      → HasCome seen after unit line entry result mid new
      → HasCome seen after unit line entry result old new
  come-after result old mid new file number least log come = record {
    whole = come.whole;
    entered = subst (λ (f : FileNow).
        IsDefineEntered result old.number after unit line entry f new.file) file
        (subst (λ (n : ℕ). IsDefineEntered result n after unit line entry mid.file new.file) number
        come.entered);
    parts = subst (λ (f : FileNow). IfOk result (λ (define : Define). (area : AreaNo)
        → define ≡ Done area → shape_among new.store.parts entry.part.0
        ≡ shape_of f.geometry (entry_with_area entry area))) file come.parts;
    within = subst (λ (f : FileNow). IfOk result (λ (define : Define). (area : AreaNo)
        → define ≡ Done area → area.0 < area_count f.geometry)) file come.within;
    no_area = IfOk-weaker result (λ (define : Define). define ≡ NoArea
        → least_free mid.store.space ≡ None) (λ (define : Define). define ≡ NoArea
        → least_free old.store.space ≡ None) (λ define none is. least (none is)) come.no_area;
    kept_out = subst (λ (f : FileNow). IfOk result (λ (define : Define). define ≡ Held
        → first_conflict f.locks unit Exclusive (entry_name (entry_place entry)) ≢ None)) file
        come.kept_out;
    full = subst (λ (l : LogNow). IfOk result (λ (define : Define). define ≡ Full
        → IsLogFull l.geometry (used_by l.records) (need_to_define (entry_place entry)))) log
        come.full;
    number = come.number ∙ number;
    generation = subst (λ (l : LogNow). new.file.stopped ≡ None
        → new.store.log.generation ≤ l.generation + 1) log come.generation;
  }

  -- and what it recovers to
  pub come-held-after : (opening : State) (old mid new : VolumeNow B) → mid.file ≡ old.file
      → mid.number ≡ old.number → mid.store.log ≡ old.store.log
      → Guards (seen old.blocks) (seen mid.blocks) (RecoversTo old.store.log.geometry old.number
      (state_now opening old.file) [])
      → HasComeHeld seen opening after unit line entry mid new
      → HasComeHeld seen opening after unit line entry old new
  come-held-after opening old mid new file number log before come = record {
    held = come.held;
    moments = guards-then (seen old.blocks) (seen mid.blocks) (seen new.blocks)
        (IsLeftDefining old.store.log.geometry old.number opening after unit line entry old.file
        new.file)
        (left-before opening (seen old.blocks) (seen mid.blocks) old new.file before)
        (subst (λ (f : FileNow). Guards (seen mid.blocks) (seen new.blocks) (IsLeftDefining
        old.store.log.geometry old.number opening after unit line entry f new.file)) file
        (subst (λ (n : ℕ). Guards (seen mid.blocks) (seen new.blocks) (IsLeftDefining
        old.store.log.geometry n opening after unit line entry mid.file new.file)) number
        (subst (λ (l : LogNow). Guards (seen mid.blocks) (seen new.blocks) (IsLeftDefining
        l.geometry mid.number opening after unit line entry mid.file new.file)) log
        come.moments)));
  }

  -- ---- without a definition

  -- a step that is neither done nor refused by what is in memory
  pub come-later : (define : Define) (old new : VolumeNow B) → IsWhole seen new
      → EnteredBy define old.number after unit line entry old.file new.file → IsLater define
      → new.number ≡ old.number → new.store.log.generation ≡ old.store.log.generation
      → HasCome seen after unit line entry (Ok define) old new
  come-later define old new whole entered later number generation = record {
    whole = whole;
    entered = entered;
    parts = λ area is. absurd (later.not_done area is);
    within = λ area is. absurd (later.not_done area is);
    no_area = λ is. absurd (later.not_area is);
    kept_out = λ is. absurd (later.not_held is);
    full = λ is. absurd (later.not_full is);
    number = number;
    generation = λ going. omega (arith, generation);
  }

  -- one that is refused leaves all as it was
  pub come-same : (result : Result Define OutOfMemory) (old new : VolumeNow B) → IsWhole seen new
      → IsDefineEntered result old.number after unit line entry old.file old.file
      → new.file ≡ old.file → new.number ≡ old.number → new.store.log ≡ old.store.log
      → IfOk result (λ (define : Define). (area : AreaNo) → define ≡ Done area → ⊥)
      → IfOk result (λ (define : Define). define ≡ NoArea → least_free old.store.space ≡ None)
      → IfOk result (λ (define : Define). define ≡ Held → first_conflict old.file.locks unit
      Exclusive (entry_name (entry_place entry)) ≢ None)
      → IfOk result (λ (define : Define). define ≡ Full → IsLogFull old.store.log.geometry
      (used_by old.store.log.records) (need_to_define (entry_place entry)))
      → HasCome seen after unit line entry result old new
  come-same result old new whole entered file number log not-done no-area kept-out full = record {
    whole = whole;
    entered = subst (λ (f : FileNow).
        IsDefineEntered result old.number after unit line entry old.file f) (sym file) entered;
    parts = never (λ area. shape_among new.store.parts entry.part.0
        ≡ shape_of old.file.geometry (entry_with_area entry area)) result not-done;
    within = never (λ area. area.0 < area_count old.file.geometry) result not-done;
    no_area = no-area;
    kept_out = kept-out;
    full = full;
    number = number;
    generation = λ going. omega (arith, ap (λ (l : LogNow). l.generation) log);
  }
    where
      never : (P : AreaNo → Type 0) (result : Result Define OutOfMemory)
          → IfOk result (λ (define : Define). (area : AreaNo) → define ≡ Done area → ⊥)
          → IfOk result (λ (define : Define). (area : AreaNo) → define ≡ Done area → P area)
      never P (Ok define) not-done = λ area is. absurd (not-done area is)
      never P (Err why) not-done = tt

  -- what is in memory is in the way
  pub come-hindered : (define : Define) (old : VolumeNow B) → IsWhole seen old
      → (define ≡ Held) ⊎ (define ≡ Full)
      → (define ≡ Held → first_conflict old.file.locks unit Exclusive
      (entry_name (entry_place entry)) ≢ None)
      → (define ≡ Full → IsLogFull old.store.log.geometry (used_by old.store.log.records)
      (need_to_define (entry_place entry)))
      → HasCome seen after unit line entry (Ok define) old old
  come-hindered define old whole is kept-out full = ⊎_elim
      (λ held. come-same (Ok define) old old whole
      (subst (λ (d : Define). EnteredBy d old.number after unit line entry old.file old.file)
      (sym held) refl) refl refl refl (λ area is. held-not-done area (sym held ∙ is))
      (λ is. absurd (held-not-area (sym held ∙ is))) kept-out full)
      (λ lacks. come-same (Ok define) old old whole
      (subst (λ (d : Define). EnteredBy d old.number after unit line entry old.file old.file)
      (sym lacks) refl) refl refl refl (λ area is. full-not-done area (sym lacks ∙ is))
      (λ is. absurd (full-not-area (sym lacks ∙ is))) kept-out full) is
    where
      held-not-done : (one : AreaNo) → Held ≡ Done one → ⊥
      held-not-done one is = cc

      held-not-area : Held ≡ NoArea → ⊥
      held-not-area is = cc

      full-not-done : (one : AreaNo) → Full ≡ Done one → ⊥
      full-not-done one is = cc

      full-not-area : Full ≡ NoArea → ⊥
      full-not-area is = cc

  -- ---- with a definition

  -- a volume is what its fields are
  whole-at : (final : VolumeNow B) (number : ℕ) (store : StoreNow) (blocks : B)
      → final.number ≡ number → final.store ≡ store → final.blocks ≡ blocks
      → IsWhole seen (record { blocks = blocks; number = number; store = store; file = final.file })
      → IsWhole seen final
  whole-at final number store blocks numbers stores same whole =
      subst (λ (b : B). IsWhole seen (record final { blocks = b })) (sym same)
      (subst (λ (n : ℕ). IsWhole seen (record final { blocks = blocks; number = n })) (sym numbers)
      (subst (λ (s : StoreNow). IsWhole seen
      (record final { blocks = blocks; number = number; store = s })) (sym stores) whole))

  pub come-done : (define : Define) (area : AreaNo) (old final : VolumeNow B) (store : StoreNow)
      (blocks : B) → define ≡ Done area → area.0 < area_count old.file.geometry
      → final.file ≡ file_defined old.number after unit line entry area old.file
      → final.number ≡ old.number → final.store ≡ store → final.blocks ≡ blocks
      → IsWhole seen (record old { blocks = blocks; store = store; file = final.file })
      → shape_among store.parts entry.part.0
      ≡ shape_of old.file.geometry (entry_with_area entry area)
      → store.log.generation ≤ old.store.log.generation + 1
      → HasCome seen after unit line entry (Ok define) old final
  come-done define area old final store blocks done below file number stores same whole shape
      generation =
      record {
        whole = whole-at final old.number store blocks number stores same whole;
        entered = subst (λ (d : Define).
            EnteredBy d old.number after unit line entry old.file final.file) (sym done) file;
        parts = λ other is. ap (λ (s : StoreNow). shape_among s.parts entry.part.0) stores
            ∙ shape
            ∙ ap (λ (a : AreaNo). shape_of old.file.geometry (entry_with_area entry a))
            (same-area area other (sym done ∙ is));
        within = λ other is. subst (λ (a : AreaNo). a.0 < area_count old.file.geometry)
            (same-area area other (sym done ∙ is)) below;
        no_area = λ is. absurd (done-not-none area (sym done ∙ is));
        kept_out = λ is. absurd (done-not-held area (sym done ∙ is));
        full = λ is. absurd (done-not-full area (sym done ∙ is));
        number = number;
        generation = λ going. subst
            (λ (s : StoreNow). s.log.generation ≤ old.store.log.generation + 1) (sym stores)
            generation;
      }
    where
      same-area : (one other : AreaNo) → Done one ≡ Done other → one ≡ other
      same-area one other is = cc

      done-not-none : (one : AreaNo) → Done one ≡ NoArea → ⊥
      done-not-none one is = cc

      done-not-held : (one : AreaNo) → Done one ≡ Held → ⊥
      done-not-held one is = cc

      done-not-full : (one : AreaNo) → Done one ≡ Full → ⊥
      done-not-full one is = cc

  -- ---- with a fault of a write

  pub come-failed : (define : Define) (old final : VolumeNow B) → define ≡ Fault Write
      → EnteredBy (Fault Write) old.number after unit line entry old.file final.file
      → final.number ≡ old.number → AreServed final.file.geometry final.file.catalog
      → (final.file.stopped ≡ None → ⊥)
      → HasCome seen after unit line entry (Ok define) old final
  come-failed define old final fault entered number served stopped = record {
    whole = whole-stopped seen final served stopped;
    entered = subst (λ (d : Define).
        EnteredBy d old.number after unit line entry old.file final.file) (sym fault) entered;
    parts = λ other is. absurd (not-done other (sym fault ∙ is));
    within = λ other is. absurd (not-done other (sym fault ∙ is));
    no_area = λ is. absurd (not-none (sym fault ∙ is));
    kept_out = λ is. absurd (not-held (sym fault ∙ is));
    full = λ is. absurd (not-full (sym fault ∙ is));
    number = number;
    generation = λ going. absurd (stopped going);
  }
    where
      not-done : (one : AreaNo) → Fault Write ≡ Done one → ⊥
      not-done one is = cc

      not-none : Fault Write ≡ NoArea → ⊥
      not-none is = cc

      not-held : Fault Write ≡ Held → ⊥
      not-held is = cc

      not-full : Fault Write ≡ Full → ⊥
      not-full is = cc

  -- nothing of the definition was done
  pub come-faulted : (define : Define) (old final : VolumeNow B) → define ≡ Fault Write
      → final.file ≡ faulted after unit line old.file → final.number ≡ old.number
      → AreServed old.file.geometry old.file.catalog
      → HasCome seen after unit line entry (Ok define) old final
  come-faulted define old final fault file number served = come-failed define old final fault
      (inl file) number
      (served_same old.file.geometry final.file.geometry _ final.file.catalog
      (ap (λ (f : FileNow). f.geometry) file) (ap (λ (f : FileNow). f.catalog) file) served)
      (λ going. none-some _ (sym going ∙ ap (λ (f : FileNow). f.stopped) file))

  -- or the unit is in doubt
  pub come-in-doubt : (define : Define) (area : AreaNo) (old final : VolumeNow B)
      → define ≡ Fault Write → area.0 < area_count old.file.geometry
      → final.file ≡ file_in_doubt old.number after unit line entry area old.file
      → final.number ≡ old.number
      → AreServed old.file.geometry
      (with_cluster (entry_with_area entry area) old.file.catalog)
      → HasCome seen after unit line entry (Ok define) old final
  come-in-doubt define area old final fault below file number served = come-failed define old final
      fault (inr (area, file, below)) number
      (served_same old.file.geometry final.file.geometry _ final.file.catalog
      (ap (λ (f : FileNow). f.geometry) file) (ap (λ (f : FileNow). f.catalog) file) served)
      (λ going. none-some _ (sym going ∙ ap (λ (f : FileNow). f.stopped) file))

  -- what is held, by the fields of the volume after it
  pub come-held : (opening : State) (old final : VolumeNow B) (store : StoreNow) (blocks : B)
      (file : FileNow) → final.file ≡ file → final.number ≡ old.number → final.store ≡ store
      → final.blocks ≡ blocks
      → IsHeld seen opening (record old { blocks = blocks; store = store; file = file })
      → Guards (seen old.blocks) (seen blocks) (IsLeftDefining old.store.log.geometry old.number
      opening after unit line entry old.file file)
      → HasComeHeld seen opening after unit line entry old final
  come-held opening old final store blocks file files number stores same held moments = record {
    held = held-at seen opening final blocks old.number store same number stores
        (subst (λ (f : FileNow). IsHeld seen opening
        (record { blocks = blocks; number = old.number; store = store; file = f })) (sym files)
        held);
    moments = subst (λ (b : B). Guards (seen old.blocks) (seen b) (IsLeftDefining
        old.store.log.geometry old.number opening after unit line entry old.file final.file))
        (sym same)
        (subst (λ (f : FileNow). Guards (seen old.blocks) (seen blocks) (IsLeftDefining
        old.store.log.geometry old.number opening after unit line entry old.file f)) (sym files)
        moments);
  }
