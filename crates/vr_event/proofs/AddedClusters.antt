-- A cluster that is prepared is defined on a volume: what the store asks for, and what the volume
-- is once the store has answered and that is entered.
use Rattle.std.proofs.Common.{◌≡◌, ◌≢◌, ◌∙◌, ◌+◌, ◌<◌, ◌≤◌, ◌⊎◌, [], ℕ, Bool, true}
use Rattle.std.proofs.Common.{false}
use Rattle.std.proofs.Common.{List, Some, None, refl, sym, ap, subst, length, arith}
use Rattle.std.proofs.Common.{cond, true≢false, ⊎_elim}
use Rattle.std.proofs.lemmas.List.{get_or-set_same}
use Rattle.std.proofs.lemmas.Option.{none-some}
use Rattle.std.proofs.lemmas.List.Quantifiers.{position-Some}
use Rattle.std.specs.Prelude.{Err, IfSome, Ok, Result, is_none, slice_set}
use Rattle.vr_types.specs.Geometry.{area_count}
use Rattle.vr_types.specs.Image.{Image}
use Rattle.vr_types.specs.Locks.{first_conflict}
use Rattle.vr_types.specs.LogSpace.{before_length, end_length, log_size}
use Rattle.vr_types.specs.Moments.{Guards}
use Rattle.vr_types.specs.Seen.{Left, Seen}
use Rattle.vr_types.specs.Space.{free_count, least_free}
use Rattle.vr_types.specs.declared.fault.DeviceFault.TheVariants.{Write}
use Rattle.vr_types.specs.declared.lock_name.LockName.{LockName}
use Rattle.vr_types.specs.declared.unit.Mode.TheVariants.{Exclusive}
use Rattle.vr_types.specs.declared.unit.PartNo.{PartNo}
use Rattle.vr_types.specs.declared.unit.Unit.{Unit as UnitOfRecovery}
use Rattle.vr_catalog.specs.Catalog.{definition_in}
use Rattle.vr_catalog.specs.Definition.{catalog_definition, key_of}
use Rattle.vr_catalog.specs.Record.{spelling}
use Rattle.vr_catalog.specs.declared.definition.Definition.{Definition}
use Rattle.vr_catalog.specs.declared.entry.CatEntry.{CatEntry}
use Rattle.vr_log.specs.Live.{is_in, live_in, used_by}
use Rattle.vr_log.specs.LogNow.{with_record}
use Rattle.vr_log.specs.declared.record.EndKind.TheVariants.{Committed}
use Rattle.vr_history.specs.State.{State}
use Rattle.vr_record_file.specs.Defining.{IsDefined, MayDefine, defined, entry_name}
use Rattle.vr_record_file.specs.Defining.{failed_to_define, need_to_define}
use Rattle.vr_record_file.specs.Now.{FileNow, IsStateOf, faulted, state_now}
use Rattle.vr_space.specs.Part.{IsPlaceOf, IsRecordOf, Shape}
use Rattle.vr_start.specs.Startable.{IsStartable}
use Rattle.vr_volume.specs.Crashes.{RecoversTo}
use Rattle.vr_volume.specs.EndedLog.{IsEndedLog}
use Rattle.vr_store.specs.Define.{HasNewShape, IsDefining, IsFullFor, entry_before, entry_need}
use Rattle.vr_store.specs.Store.{IsSet, IsStored, StoreNow, part_among, shape_among}
use Rattle.vr_store.specs.declared.no.DefineNo.{DefineNo}
use Rattle.vr_store.specs.declared.no.DefineNo.TheVariants as refusals
use Rattle.vr_event.specs.DefineSteps.{HasCome, HasComeHeld, MayAdd, MayDefineNow}
use Rattle.vr_event.specs.Defining.{IsNewCluster, entry_place, entry_with_area}
use Rattle.vr_event.specs.Defining.{file_defined, file_in_doubt, with_cluster}
use Rattle.vr_event.specs.NewCluster.{IsPreparedFor}
use Rattle.vr_event.specs.Volume.{AreServed, IsHeld, VolumeNow}
use Rattle.vr_event.specs.declared.define.Define.{Define}
use Rattle.vr_event.specs.declared.define.Define.TheVariants.{Done, Fault}
use Rattle.vr_event.specs.declared.new_cluster.NewCluster.{NewCluster}
use Rattle.vr_event.proofs.Areas.{owned-same}
use Rattle.vr_event.proofs.CatalogPart.{catalog-place, catalog-record, held-faulted}
use Rattle.vr_event.proofs.Definable.{defined-is, defining, doubt-is, ended-generation, held-after}
use Rattle.vr_event.proofs.Definable.{left-defined, left-in-doubt, may-define}
use Rattle.vr_event.proofs.DefineCome.{come-done, come-faulted, come-held, come-in-doubt}
use Rattle.vr_event.proofs.DefineCome.{left-before}
use Rattle.vr_event.proofs.DefineWhole.{can-start, not-there, part-shape, served-with}
use Rattle.vr_event.proofs.DefineWhole.{whole-after}
use Rattle.vr_event.proofs.Makes.{need-before}
use Rattle.vr_event.proofs.Prepared.{prepared-defined, prepared-doubt, prepared-key}
use Rattle.vr_event.proofs.Prepared.{prepared-length, prepared-may, prepared-place}
use Rattle.vr_event.proofs.Prepared.{prepared-stored}
use Rattle.vr_event.proofs.Wholes.{held-moved}

-- ---- an error of the store

pub memory-apart : refusals.Memory ≡ refusals.Fault Write → ⊥
memory-apart is = cc

module _ {B : Type 0} (seen : B → Seen) (after line : ℕ) (entry : CatEntry) (old : VolumeNow B)
    (new : NewCluster) (unit : UnitOfRecovery) (ready : MayAdd seen after unit entry new old) where
  abbrev one : CatEntry
  one = entry_with_area entry new.area

  abbrev may : MayDefineNow seen after old
  may = ready.may

  abbrev is : IsNewCluster old.file.geometry old.file.catalog entry
  is = ready.entry_is

  abbrev prepared : IsPreparedFor old.number old.file.catalog entry new.area new
  prepared = ready.new_is

  abbrev least : least_free old.store.space ≡ Some new.area.0
  least = ready.least

  -- ---- what the store asks for

  pub added-fresh : part_among old.store.parts new.part.0 ≡ None
  added-fresh = ap (λ (p : PartNo). part_among old.store.parts p.0) prepared.part
      ∙ not-there seen old may.whole may.going entry is

  pub added-sizes : IsStartable old.store.log.geometry new.definition
  added-sizes = subst (IsStartable old.store.log.geometry) (sym prepared.definition)
      (can-start seen old may.whole may.going entry is new.area least)

  pub added-place : IfSome (shape_among old.store.parts 0)
      (λ (shape : Shape). IsPlaceOf shape new.place)
  added-place = catalog-place old.store.parts old.file.geometry (may.whole.laid may.going 0)
      new.place (prepared-place old.number old.file.catalog entry new prepared)

  pub added-item : (bytes : List ℕ) → bytes ≡ new.bytes → IfSome (shape_among old.store.parts 0)
      (λ (shape : Shape). IsRecordOf shape new.place bytes)
  added-item bytes same = catalog-record old.store.parts old.file.geometry
      (may.whole.laid may.going 0) new.place bytes
      (prepared-key old.number old.file.catalog entry new prepared
      ∙ ap (key_of catalog_definition) (sym same))
      (ap length same ∙ prepared-length old.number old.file.catalog entry new prepared)

  -- and the log isn't full for it
  pub added-room : {T : Type 0} (result : Result T DefineNo)
      → IsFullFor old.store.log (entry_need old.store.log unit new.place) result
      → result ≢ Err refusals.Full
  added-room result full is = of (is_in unit (live_in old.store.log.records)) refl
    where
      lacks : log_size old.store.log.geometry < used_by old.store.log.records
          + entry_need old.store.log unit new.place
      lacks = full.only is

      need : (live : Bool) → is_in unit (live_in old.store.log.records) ≡ live
          → entry_need old.store.log unit new.place
          ≡ before_length new.place None + cond live 0 end_length
      need live same = need-before unit (record { 0 = 0 }) new.place None
          (live_in old.store.log.records)
          ∙ ap (λ (b : Bool). before_length new.place None + cond b 0 end_length) same

      size : log_size old.store.log.geometry ≡ log_size old.file.geometry
      size = ap log_size (may.whole.geometry may.going)

      of : (live : Bool) → is_in unit (live_in old.store.log.records) ≡ live → ⊥
      of true same = omega (arith, lacks, need true same, size, ready.log)
      of false same = omega (arith, lacks, need false same, size, ready.log)

  -- ---- what it comes to

  -- its area is one of the volume's
  below : new.area.0 < area_count old.file.geometry
  below = omega (
    arith,
    (position-Some is_none old.store.space new.area.0 None least).0,
    (may.whole.set may.going).areas,
    ap area_count (may.whole.geometry may.going),
  )

  served-after : AreServed old.file.geometry (with_cluster one old.file.catalog)
  served-after = served-with seen old may.whole may.going entry is new.area least

  pub added-come : (define : Define) (final : VolumeNow B)
      (store : StoreNow) (blocks : B) → define ≡ Done new.area
      → final.file ≡ defined after unit line new.part new.area new.add new.shown new.commit
      new.catalog old.file
      → final.number ≡ old.number → final.store ≡ store → final.blocks ≡ blocks
      → IsSet store (seen blocks)
      → HasNewShape old.store.log.geometry new.part new.area new.definition old.store.parts
      store.parts
      → IsEndedLog (with_record old.store.log (entry_before unit new.place)) unit Committed
      store.log
      → HasCome seen after unit line entry (Ok define) old final
  added-come define final store blocks done leaves number stores same set shapes log =
      let file : final.file ≡ file_defined old.number after unit line entry new.area old.file =
      leaves ∙ prepared-defined old.number old.file.catalog entry new prepared after unit line
      old.file refl in
      let parts : HasNewShape old.store.log.geometry entry.part new.area (definition_in entry)
      old.store.parts store.parts =
      subst (λ (p : PartNo). HasNewShape old.store.log.geometry p new.area (definition_in entry)
      old.store.parts store.parts) prepared.part
      (subst (λ (d : Definition). HasNewShape old.store.log.geometry new.part new.area d
      old.store.parts store.parts) prepared.definition shapes) in
      let shape : final.file.geometry ≡ old.file.geometry = ap (λ (f : FileNow). f.geometry) file in
      let catalog : final.file.catalog ≡ with_cluster one old.file.catalog =
      ap (λ (f : FileNow). f.catalog) file in
      come-done seen after unit line entry define new.area old final store blocks done below file
      number stores same
      (whole-after seen old may.whole may.going entry is new.area least final.file store blocks
      shape catalog log.geometry parts set)
      (part-shape seen old may.whole may.going entry is new.area least final.file store blocks
      shape catalog log.geometry parts)
      (ended-generation old.store.log store.log (entry_before unit new.place) unit log)

  -- where a write failed, by whether its area was taken
  stays : least_free (slice_set old.store.space new.area.0 (Some new.part)) ≢ Some new.area.0
  stays again =
      let at = position-Some is_none old.store.space new.area.0 None least in
      let then = position-Some is_none
      (slice_set old.store.space new.area.0 (Some new.part)) new.area.0 None again in
      true≢false (sym then.1 ∙ ap is_none
      (get_or-set_same old.store.space new.area.0 (Some new.part) None at.0))

  pub failed-come : (define : Define) (final : VolumeNow B)
      (store : StoreNow) → define ≡ Fault Write → final.number ≡ old.number
      → (store.space ≡ old.store.space)
      ⊎ (store.space ≡ slice_set old.store.space new.area.0 (Some new.part))
      → (least_free store.space ≡ Some new.area.0
      → final.file ≡ faulted after unit line old.file)
      → (least_free store.space ≢ Some new.area.0
      → final.file ≡ failed_to_define after unit line new.part new.area new.add new.shown new.commit
      new.catalog old.file)
      → HasCome seen after unit line entry (Ok define) old final
  failed-come define final store fault number kept free taken = ⊎_elim
      (λ same. come-faulted seen after unit line entry define old final fault
      (free (ap least_free same ∙ least)) number may.whole.served)
      (λ set. come-in-doubt seen after unit line entry define new.area old final fault below
      (taken (λ again. stays (sym (ap least_free set) ∙ again))
      ∙ prepared-doubt old.number old.file.catalog entry new prepared after unit line old.file refl)
      number served-after) kept

  -- ---- what is held, where the device reports its contents

  module _ (opening : State) (held : IsHeld seen opening old)
      (left : Left (seen old.blocks) (seen old.blocks).cur) (bytes : List ℕ)
      (bytes-are : bytes ≡ new.bytes) where
    abbrev state : State
    state = state_now opening old.file

    abbrev now : Seen
    now = seen old.blocks

    -- by the states of the record file
    abbrev Stores : State → Type 0
    Stores to = IsDefining old.number old.store unit new.place bytes new.part new.area
        new.definition state to now

    abbrev Either : State → Image → Type 0
    Either to image = RecoversTo old.store.log.geometry old.number state [] image
        ⊎ RecoversTo old.store.log.geometry old.number to [] image

    unlocked-is : first_conflict old.file.locks unit Exclusive (entry_name (entry_place one))
        ≡ None
    unlocked-is = subst (λ (n : LockName). first_conflict old.file.locks unit Exclusive n ≡ None)
        prepared.name ready.unlocked

    room-is : used_by old.store.log.records + need_to_define (entry_place one)
        ≤ log_size old.file.geometry
    room-is = subst (λ (p : List ℕ). used_by old.store.log.records + need_to_define p
        ≤ log_size old.file.geometry) prepared.place ready.log

    abbrev to : FileNow
    to = file_defined old.number after unit line entry new.area old.file

    abbrev doubt : FileNow
    doubt = file_in_doubt old.number after unit line entry new.area old.file

    was-defined : IsDefined unit entry.part new.area (entry_place one) (spelling one) state
        (state_now opening to)
    was-defined = defined-is seen opening old held may.whole may.going left entry is new.area
        least unit ready.unit_is after line unlocked-is room-is

    added-defining : Stores (state_now opening to)
    added-defining = subst (λ (b : List ℕ). IsDefining old.number old.store unit new.place b
        new.part new.area new.definition state (state_now opening to) now) (sym bytes-are)
        (prepared-stored old.number old.file.catalog entry new prepared
        (λ place b part definition. IsDefining old.number old.store unit place b part new.area
        definition state (state_now opening to) now)
        (defining seen opening old held may.whole may.going left entry is new.area least unit
        ready.unit_is (state_now opening to) was-defined))

    added-may : MayDefine opening old.file unit new.part new.area new.add new.shown (spelling one)
        new.commit new.catalog
    added-may = prepared-may old.number old.file.catalog entry new prepared opening old.file unit
        (spelling one) refl
        (may-define seen opening old held may.whole may.going left entry is new.area least unit
        ready.unit_is unlocked-is room-is)

    served-held : (store : StoreNow) (blocks : B)
        → store.space ≡ slice_set old.store.space new.area.0 (Some new.part)
        → IsStateOf opening to
        → IsStored old.number store (state_now opening to) (seen blocks)
        → IsHeld seen opening (record old { blocks = blocks; store = store; file = to })
    served-held store blocks space file stored = held-after seen opening old held may.whole
        may.going left entry is new.area least unit ready.unit_is to store blocks refl refl
        (space ∙ ap (λ (p : PartNo). slice_set old.store.space new.area.0 (Some p)) prepared.part)
        was-defined.owned file (λ going. stored)

    pub done-held : (final : VolumeNow B) (store : StoreNow) (blocks : B)
        → final.file ≡ defined after unit line new.part new.area new.add new.shown new.commit
        new.catalog old.file
        → final.number ≡ old.number → final.store ≡ store → final.blocks ≡ blocks
        → store.space ≡ slice_set old.store.space new.area.0 (Some new.part)
        → (MayDefine opening old.file unit new.part new.area new.add new.shown (spelling one)
        new.commit new.catalog → IsStateOf opening final.file)
        → (Stores (state_now opening to)
        → IsStored old.number store (state_now opening to) (seen blocks))
        → (Stores (state_now opening to)
        → Guards now (seen blocks) (Either (state_now opening to)))
        → HasComeHeld seen opening after unit line entry old final
    done-held final store blocks leaves number stores same space of stored moments =
        let file : final.file ≡ to = leaves
        ∙ prepared-defined old.number old.file.catalog entry new prepared after unit line old.file
        refl in
        come-held seen after unit line entry opening old final store blocks to file number stores
        same
        (served-held store blocks space (subst (IsStateOf opening) file (of added-may))
        (stored added-defining))
        (left-defined seen opening old held may.whole may.going left entry is new.area least unit
        ready.unit_is after line unlocked-is room-is (seen blocks) (moments added-defining))

    -- a write failed, and nothing of it was logged
    faulted-held : (final : VolumeNow B) (store : StoreNow) (blocks : B)
        → final.file ≡ faulted after unit line old.file
        → final.number ≡ old.number → final.store ≡ store → final.blocks ≡ blocks
        → store.space ≡ old.store.space → IsStateOf opening final.file
        → Guards now (seen blocks)
        (RecoversTo old.store.log.geometry old.number state [])
        → HasComeHeld seen opening after unit line entry old final
    faulted-held final store blocks file number stores same space of moments =
        come-held seen after unit line entry opening old final store blocks
        (faulted after unit line old.file) file number stores same
        (held-faulted seen opening (record old { blocks = blocks; store = store })
        (faulted after unit line old.file) after unit line refl
        (record {
          file = held.file;
          free = ap free_count space ∙ held.free;
          owned = owned-same old.store.space store.space state.owned state.owned space refl
              held.owned;
        }) (subst (IsStateOf opening) file of))
        (left-before seen after unit line entry opening now (seen blocks) old
        (faulted after unit line old.file) moments)

    -- or its unit is in doubt
    doubted-held : (final : VolumeNow B) (store : StoreNow) (blocks : B)
        → final.file ≡ failed_to_define after unit line new.part new.area new.add new.shown
        new.commit new.catalog old.file
        → final.number ≡ old.number → final.store ≡ store → final.blocks ≡ blocks
        → store.space ≡ slice_set old.store.space new.area.0 (Some new.part)
        → IsStateOf opening final.file
        → Guards now (seen blocks) (Either (state_now opening to))
        → HasComeHeld seen opening after unit line entry old final
    doubted-held final store blocks leaves number stores same space of moments =
        let file : final.file ≡ doubt = leaves
        ∙ prepared-doubt old.number old.file.catalog entry new prepared after unit line old.file
        refl in
        let doubtful = doubt-is seen opening old held may.whole may.going left entry is new.area
        least unit ready.unit_is after line unlocked-is room-is in
        come-held seen after unit line entry opening old final store blocks doubt file number
        stores same
        (held-after seen opening old held may.whole may.going left entry is new.area least unit
        ready.unit_is doubt store blocks refl refl
        (space ∙ ap (λ (p : PartNo). slice_set old.store.space new.area.0 (Some p)) prepared.part)
        doubtful.owned (subst (IsStateOf opening) file of)
        (λ going. absurd (none-some _ (sym going))))
        (left-in-doubt seen opening old held may.whole may.going left entry is new.area least
        unit ready.unit_is after line unlocked-is room-is (seen blocks) moments)

    pub failed-held : (final : VolumeNow B) (store : StoreNow) (blocks : B)
        → final.number ≡ old.number → final.store ≡ store → final.blocks ≡ blocks
        → (store.space ≡ old.store.space)
        ⊎ (store.space ≡ slice_set old.store.space new.area.0 (Some new.part))
        → (least_free store.space ≡ Some new.area.0
        → final.file ≡ faulted after unit line old.file)
        → (least_free store.space ≢ Some new.area.0
        → final.file ≡ failed_to_define after unit line new.part new.area new.add new.shown
        new.commit new.catalog old.file)
        → (MayDefine opening old.file unit new.part new.area new.add new.shown (spelling one)
        new.commit new.catalog → IsStateOf opening final.file)
        → (store.space ≡ old.store.space → IsStored old.number old.store state now
        → Guards now (seen blocks) (RecoversTo old.store.log.geometry old.number state []))
        → (Stores (state_now opening to)
        → Guards now (seen blocks) (Either (state_now opening to)))
        → HasComeHeld seen opening after unit line entry old final
    failed-held final store blocks number stores same kept free taken of begun moments = ⊎_elim
        (λ space. faulted-held final store blocks (free (ap least_free space ∙ least)) number
        stores same space (of added-may) (begun space (held.stored may.going)))
        (λ space. doubted-held final store blocks
        (taken (λ again. stays (sym (ap least_free space) ∙ again))) number stores same space
        (of added-may) (moments added-defining)) kept

    -- it is refused
    pub refused-held : (store : StoreNow) (blocks : B) → store ≡ old.store
        → (IsStored old.number old.store state now → IsStored old.number store state (seen blocks))
        → (store.space ≡ old.store.space → IsStored old.number old.store state now
        → Guards now (seen blocks) (RecoversTo old.store.log.geometry old.number state []))
        → HasComeHeld seen opening after unit line entry old
        (record old { blocks = blocks; store = store })
    refused-held store blocks same stored begun =
        let space : store.space ≡ old.store.space = ap (λ (s : StoreNow). s.space) same in
        record {
          held = held-moved seen opening old store blocks space
              (λ going. stored (held.stored going)) held;
          moments = left-before seen after unit line entry opening now (seen blocks) old old.file
              (begun space (held.stored may.going));
        }
