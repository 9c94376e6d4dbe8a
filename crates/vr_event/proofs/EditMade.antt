-- An edit that is prepared is made on a volume: what the store asks for, and what the volume is once
-- the store has answered and that is entered.
use Rattle.std.proofs.Common.{◌≡◌, ◌≢◌, ◌∙◌, ◌+◌, ◌-◌, ◌^◌, ◌<◌, ◌≤◌, ◌⊎◌, [], ◌∷◌, ℕ, List, Option, Some}
use Rattle.std.proofs.Common.{None, refl, sym, ap, subst, length, arith, cond, map, All, true, Bool, false, if◌then◌else◌, ◌||◌}
use Rattle.std.proofs.lemmas.Option.{none-some, same_Some}
use Rattle.std.proofs.lemmas.List.Elements.{All-from_recursion, recursion_from_All}
use Rattle.std.specs.Prelude.{Err, IfSome, Ok, Result, option_map, sum}
use Rattle.std.specs.List.{AllByRecursion}
use Rattle.vr_types.specs.Content.{Standing, item_at}
use Rattle.vr_types.specs.Faults.{Faults}
use Rattle.vr_types.specs.Geometry.{area_count}
use Rattle.vr_types.specs.Image.{Image}
use Rattle.vr_types.specs.LogSpace.{before_length, end_length, log_size}
use Rattle.vr_types.specs.Moments.{Guards}
use Rattle.vr_types.specs.Seen.{Left, Seen}
use Rattle.vr_types.specs.Space.{free_count}
use Rattle.vr_types.specs.declared.fault.DeviceFault.{DeviceFault}
use Rattle.vr_types.specs.declared.fault.DeviceFault.TheVariants.{Read, Write}
use Rattle.vr_types.specs.declared.geometry.Geometry.{Geometry}
use Rattle.vr_types.specs.declared.unit.PartNo.{PartNo}
use Rattle.vr_types.specs.declared.unit.Unit.{Unit as UnitOfRecovery}
use Rattle.vr_attach.specs.Laid.{catalog_shape}
use Rattle.vr_edits.specs.Edits.{edited}
use Rattle.vr_edits.specs.declared.edit.CatalogEdit.{CatalogEdit}
use Rattle.vr_edits.specs.declared.edit.CatalogEdit.TheVariants.{Add, Alter, Delete, Rename}
use Rattle.vr_edits.proofs.CallerLemmas.{served-kept}
use Rattle.vr_log.specs.Live.{is_in, live_after, live_in, need_of_all, used_by}
use Rattle.vr_log.specs.LogNow.{LogNow, with_records}
use Rattle.vr_log.specs.Records.{HasLengths}
use Rattle.vr_log.specs.declared.record.EndKind.TheVariants.{Committed}
use Rattle.vr_log.specs.declared.record.LogRecord.{LogRecord}
use Rattle.vr_history.specs.State.{Owned, State}
use Rattle.vr_history.proofs.Same.{unit_self}
use Rattle.vr_record_file.specs.CatalogEdit.{IsCatalogEdited, MayEditCatalog, RecordChange}
use Rattle.vr_record_file.specs.CatalogEdit.{catalog_edited, entries_of, failed_to_edit, need_of}
use Rattle.vr_record_file.specs.Now.{FileNow, IsStateOf, state_now}
use Rattle.vr_space.specs.Part.{IsRecordOf, Shape}
use Rattle.vr_volume.specs.Crashes.{RecoversTo}
use Rattle.vr_volume.specs.Ended.{ended as ended-records}
use Rattle.vr_volume.specs.EndedLog.{IsEndedLog}
use Rattle.vr_volume.specs.EntryChanges.{AreApart as AreChangesApart, MayStand, logged_for}
use Rattle.vr_volume.specs.declared.setting.EntryChange.{EntryChange}
use Rattle.vr_store.specs.Cause.{HasDefineCause}
use Rattle.vr_store.specs.Define.{IsFullFor}
use Rattle.vr_store.specs.EntryChange.{HasShapesLeft, areas_left}
use Rattle.vr_store.specs.EntryChanges.{AreEntriesSettable, HaveEntries, IsChangingEntries}
use Rattle.vr_store.specs.EntryChanges.{entries_need}
use Rattle.vr_store.specs.Store.{IsSet, IsStored, StoreNow, shape_among}
use Rattle.vr_store.specs.declared.no.DefineNo.{DefineNo}
use Rattle.vr_store.specs.declared.no.DefineNo.TheVariants as refusals
use Rattle.vr_event.specs.CatalogEdit.{changes_of, entries_needed, file_edit_in_doubt, file_edited}
use Rattle.vr_event.specs.CatalogEdit.{log_for_edit}
use Rattle.vr_event.specs.CatalogEdit.{EditFaultsBy}
use Rattle.vr_event.specs.EditSteps.{HasEditCome, HasEditComeHeld, IsEditReady, IsOpenAt, MayEditNow}
use Rattle.vr_event.specs.PreparedEdit.{IsPreparedEdit, store_change, store_order}
use Rattle.vr_event.specs.Volume.{AreServed, IsHeld, VolumeNow}
use Rattle.vr_event.specs.declared.edit.Edit.{Edit}
use Rattle.vr_event.specs.declared.edit.Edit.TheVariants.{Done, Fault}
use Rattle.vr_event.specs.declared.prepared_edit.PreparedEdit.{PreparedEdit}
use Rattle.vr_event.proofs.Areas.{owned-same}
use Rattle.vr_event.proofs.EditCome.{come-done, come-held, come-in-doubt, left-before}
use Rattle.vr_event.proofs.EditFiles.{doubt-geometry, edited-kept}
use Rattle.vr_event.proofs.EditPrepared.{few-entries, prepared-doubt, prepared-edited, prepared-may}
use Rattle.vr_event.proofs.EditRecords.{IsKeyed, IsRecordAt, changes-apart, changes-keyed, few-changes, gone-some}
use Rattle.vr_event.proofs.EditRecords.{some-changes, sum-more}
use Rattle.vr_event.proofs.EditRooms.{edit-settable}
use Rattle.vr_event.proofs.EditStates.{apart-all, apart-order, catalog-laid, changing}
use Rattle.vr_event.proofs.EditStates.{doubt-owned, edited-is, held-after, in-order, kept-none}
use Rattle.vr_event.proofs.EditStates.{left-edited, left-in-doubt, may-edit, stand, stand-all}
use Rattle.vr_event.proofs.EditStates.{whole-edited}
use Rattle.vr_event.proofs.Makes.{need-before}

-- ---- what the log has of the records

-- once the unit is live, its end has its room
live-once : (unit : UnitOfRecovery) (change : RecordChange)
    → live_after [] (logged_for unit (store_change change)) ≡ unit ∷ []
unfolding live_after
live-once unit change = refl

live-still : (unit : UnitOfRecovery) (change : RecordChange)
    → live_after (unit ∷ []) (logged_for unit (store_change change)) ≡ unit ∷ []
unfolding live_after
live-still unit change = by-test (is_in unit (unit ∷ []))
    (ap (λ (b : Bool). b || false) (unit_self unit))
  where
    by-test : (b : Bool) → b ≡ true → (if b then unit ∷ [] else unit ∷ unit ∷ []) ≡ unit ∷ []
    by-test true is = refl
    by-test false is = absurd (cc)

need-more : (unit : UnitOfRecovery) (changes : List RecordChange)
    → need_of_all (unit ∷ []) (map (logged_for unit) (map store_change changes))
    ≡ sum (map need_of changes)
need-more unit [] = refl
need-more unit (change ∷ changes) =
    let first = need-before unit (record { 0 = 0 }) change.place change.old (unit ∷ [])
    ∙ ap (λ (b : Bool). before_length change.place change.old + cond b 0 end_length)
    (ap (λ (b : Bool). b || false) (unit_self unit)) in
    let rest = ap (λ (live : List UnitOfRecovery).
    need_of_all live (map (logged_for unit) (map store_change changes))) (live-still unit change)
    ∙ need-more unit changes in
    omega (
      arith,
      first,
      rest,
      sum-more change changes,
    )

need-all : (unit : UnitOfRecovery) (changes : List RecordChange) → changes ≢ []
    → need_of_all [] (map (logged_for unit) (map store_change changes))
    ≡ sum (map need_of changes) + end_length
need-all unit [] some = absurd (some refl)
need-all unit (change ∷ changes) some =
    let first = need-before unit (record { 0 = 0 }) change.place change.old [] in
    let rest = ap (λ (live : List UnitOfRecovery).
    need_of_all live (map (logged_for unit) (map store_change changes))) (live-once unit change)
    ∙ need-more unit changes in
    omega (
      arith,
      first,
      rest,
      sum-more change changes,
    )

-- the log after it
ended-once : (old new : LogNow) (records : List LogRecord) (unit : UnitOfRecovery)
    → IsEndedLog (with_records old records) unit Committed new
    → new.generation ≤ old.generation + 1
ended-once old new records unit ended =
    of (live_in (ended-records (with_records old records) unit Committed)) refl
  where
    of : (live : List UnitOfRecovery)
        → live_in (ended-records (with_records old records) unit Committed) ≡ live
        → new.generation ≤ old.generation + 1
    of [] is = omega (arith, (ended.begun is).1)
    of (first ∷ live) is = omega (arith, (ended.on (λ none. cons-nil first live (sym is ∙ none))).1)
      where
        cons-nil : (x : UnitOfRecovery) (xs : List UnitOfRecovery) → x ∷ xs ≡ [] → ⊥
        cons-nil x xs same = cc

order-sum : (edit : CatalogEdit)
    → sum (map need_of (store_order edit)) ≡ sum (map need_of (changes_of edit))
order-sum (Alter entry new) = refl
order-sum (Rename entry new) = omega arith
order-sum (Delete gone) = refl
order-sum (Add new) = refl

order-some : (edit : CatalogEdit) → changes_of edit ≢ [] → store_order edit ≢ []
order-some (Alter entry new) some none = some none
order-some (Rename entry new) some none = absurd cc
order-some (Delete gone) some none = some none
order-some (Add new) some none = some none

order-few : (edit : CatalogEdit) → length (store_order edit) ≡ length (changes_of edit)
order-few (Alter entry new) = refl
order-few (Rename entry new) = refl
order-few (Delete gone) = refl
order-few (Add new) = refl

as-long : (changes : List RecordChange) → length (map store_change changes) ≡ length changes
as-long [] = refl
as-long (change ∷ changes) = omega (arith, as-long changes)

map-some : (changes : List RecordChange) → changes ≢ [] → map store_change changes ≢ []
map-some [] some none = some refl
map-some (change ∷ changes) some none = cc

-- a fault that the store met is of a write, where it reads nothing
pub failed-faults : {T : Type 0} (before now : Faults) (result : Result T DefineNo)
    (why : DefineNo) (fault : DeviceFault) (answer : Edit) → HasDefineCause before now result
    → result ≡ Err why → why ≡ refusals.Fault fault → (why ≢ refusals.Fault Read)
    → answer ≡ Fault Write → EditFaultsBy answer before now
failed-faults before now (Ok x) why fault answer cause is of never same = absurd cc
failed-faults before now (Err other) why Read answer cause is of never same = absurd (never of)
failed-faults before now (Err other) why Write answer cause is of never same =
    subst (λ (a : Edit). EditFaultsBy a before now) (sym same)
    (cause.reads, cause.write (cc (is, of)))

-- out of memory is no fault
pub read-apart : refusals.Memory ≡ refusals.Fault Read → ⊥
read-apart is = cc

module _ {B : Type 0} (seen : B → Seen) (after line : ℕ) (edit : CatalogEdit) (old : VolumeNow B)
    (prepared : PreparedEdit) (unit : UnitOfRecovery)
    (ready : IsEditReady seen after unit edit prepared old) where
  abbrev may : MayEditNow seen after edit old
  may = ready.may

  abbrev is : IsPreparedEdit old.number old.file.catalog edit prepared
  is = ready.prepared_is

  abbrev for-store : List EntryChange
  for-store = map store_change (store_order edit)

  keyed : AllByRecursion IsKeyed (changes_of edit)
  keyed = changes-keyed old.file.geometry old.file.catalog edit may.edit_is

  some : changes_of edit ≢ []
  some = some-changes old.file.geometry old.file.catalog edit may.edit_is

  few : length (changes_of edit) < 65536
  few = few-changes old.file.geometry old.file.catalog edit may.edit_is

  -- ---- what the store asks for

  pub made-gone : IfSome prepared.gone (λ (part : PartNo). part.0 ≢ 0)
  made-gone = subst (λ (o : Option PartNo). IfSome o (λ (part : PartNo). part.0 ≢ 0))
      (sym is.gone) (gone-some old.file.geometry old.file.catalog edit may.edit_is)

  pub made-some : prepared.changes.items ≢ []
  made-some none = map-some (store_order edit) (order-some edit some) (sym is.changes ∙ none)

  pub made-few : length prepared.changes.items < 65536
  made-few = omega (arith, ap length is.changes, as-long (store_order edit), order-few edit, few)

  -- what holds of the changes holds of those that are prepared
  made-all : (P : List EntryChange → Type 0) → P for-store → P prepared.changes.items
  made-all P holds = subst P (sym is.changes) holds

  each-keyed : (changes : List RecordChange) → AllByRecursion IsKeyed changes
      → AllByRecursion (λ (change : EntryChange). length change.place ≡ 44) (map store_change changes)
  each-keyed [] all = tt
  each-keyed (change ∷ changes) all = (all.0.long, each-keyed changes all.1)

  pub made-places : All (λ (change : EntryChange). length change.place ≡ 44) prepared.changes.items
  made-places = made-all (All (λ (change : EntryChange). length change.place ≡ 44))
      (All-from_recursion (λ (change : EntryChange). length change.place ≡ 44) for-store
      (each-keyed (store_order edit) (in-order IsKeyed edit keyed)))

  of-length : (bytes : Option (List ℕ)) (place : List ℕ) → IfSome bytes (IsRecordAt place)
      → IfSome bytes (λ (b : List ℕ). length b < 2 ^ 32)
  of-length None place at = tt
  of-length (Some b) place at = omega (arith, at.1)

  each-long : (changes : List RecordChange) → AllByRecursion IsKeyed changes
      → AllByRecursion (λ (change : EntryChange). HasLengths (logged_for unit change))
      (map store_change changes)
  each-long [] all = tt
  each-long (change ∷ changes) all = (
    (omega (arith, all.0.long), of-length change.old change.place all.0.old),
    each-long changes all.1,
  )

  pub made-lengths : All (λ (change : EntryChange). HasLengths (logged_for unit change))
      prepared.changes.items
  made-lengths = made-all (All (λ (change : EntryChange). HasLengths (logged_for unit change)))
      (All-from_recursion (λ (change : EntryChange). HasLengths (logged_for unit change)) for-store
      (each-long (store_order edit) (in-order IsKeyed edit keyed)))

  pub made-apart : AreChangesApart prepared.changes.items
  made-apart = made-all AreChangesApart (apart-all (store_order edit) (apart-order edit
      (changes-apart old.file.geometry old.file.catalog edit may.edit_is)))

  -- each may stand in the catalog
  may-stand : (shape : Shape) → shape ≡ catalog_shape old.file.geometry
      → (changes : List RecordChange) → AllByRecursion IsKeyed changes
      → AllByRecursion (MayStand shape) (map store_change changes)
  may-stand shape same [] all = tt
  may-stand shape same (change ∷ changes) all = (
    subst (λ (s : Shape). MayStand s (store_change change)) (sym same)
        (all.0.long, record-at change.new all.0.new),
    may-stand shape same changes all.1,
  )
    where
      record-at : (new : Option (List ℕ)) → IfSome new (IsRecordAt change.place)
          → IfSome new (IsRecordOf (catalog_shape old.file.geometry) change.place)
      record-at None at = tt
      record-at (Some bytes) at =
          (record { least = omega (arith, at.1); most = omega (arith, at.1) }, at.0)

  pub made-stand : IfSome (shape_among old.store.parts 0)
      (λ (shape : Shape). All (MayStand shape) prepared.changes.items)
  made-stand = of (shape_among old.store.parts 0) (may.whole.laid may.going 0)
    where
      of : (found : Option Shape) → found ≡ Some (catalog_shape old.file.geometry)
          → IfSome found (λ (shape : Shape). All (MayStand shape) prepared.changes.items)
      of None same = tt
      of (Some shape) same = made-all (All (MayStand shape))
          (All-from_recursion (MayStand shape) for-store
          (may-stand shape (same_Some shape (catalog_shape old.file.geometry) same) (store_order edit) (in-order IsKeyed edit keyed)))

  -- and the log isn't full for it
  pub made-room : {T : Type 0} (result : Result T DefineNo)
      → IsFullFor old.store.log (entries_need old.store.log unit prepared.changes.items) result
      → result ≢ Err refusals.Full
  made-room result full failed =
      let lacks : log_size old.store.log.geometry < used_by old.store.log.records
      + entries_need old.store.log unit prepared.changes.items = full.only failed in
      let need : entries_need old.store.log unit prepared.changes.items ≡ log_for_edit edit =
      ap (λ (changes : List EntryChange). entries_need old.store.log unit changes) is.changes
      ∙ ap (λ (live : List UnitOfRecovery). need_of_all live (map (logged_for unit) for-store))
      ready.idle
      ∙ need-all unit (store_order edit) (order-some edit some)
      ∙ ap (λ (n : ℕ). n + end_length) (order-sum edit) in
      omega (arith, lacks, need, ready.log, ap log_size (may.whole.geometry may.going))

  -- its entries have room in the record file
  pub made-entries : entries_of prepared.steps.items + 2 ≤ entries_needed edit
  made-entries = omega (arith, ap entries_of is.steps, few-entries old.number (changes_of edit))

  pub made-stamps : entries_of prepared.steps.items < 131072
  made-stamps =
      omega (arith, ap entries_of is.steps, few-entries old.number (changes_of edit), few)

  -- ---- where the device reports its contents

  module _ (opening : State) (held : IsHeld seen opening old)
      (left : Left (seen old.blocks) (seen old.blocks).cur) where
    abbrev state : State
    state = state_now opening old.file

    abbrev now : Seen
    now = seen old.blocks

    pub made-entered : HaveEntries old.store prepared.changes.items now
    made-entered = record {
      number = old.number;
      state = state;
      stored = held.stored may.going;
      there = made-all (All (λ (change : EntryChange).
          item_at (state.contents 0) change.place ≡ option_map Standing change.before))
          (All-from_recursion (λ (change : EntryChange).
          item_at (state.contents 0) change.place ≡ option_map Standing change.before) for-store
          (stand-all (state.contents 0) (store_order edit) (in-order (λ (change : RecordChange).
          item_at (state.contents 0) change.place ≡ option_map Standing change.old) edit
          (stand seen opening old held left edit after may ready.idle unit ready.unit_is))));
    }

    pub made-settable : All (IsOpenAt old.store now.cur) prepared.changes.items
        → AreEntriesSettable old.store unit now.cur prepared.changes.items
    made-settable opens = made-all (AreEntriesSettable old.store unit now.cur)
        (edit-settable old.store now (may.whole.set may.going) left old.number state
        (held.stored may.going) old.store.log.geometry
        (catalog-laid seen opening old held left edit after may ready.idle unit ready.unit_is)
        (kept-none seen opening old held left edit after may ready.idle unit ready.unit_is)
        unit edit
        (stand seen opening old held left edit after may ready.idle unit ready.unit_is)
        (recursion_from_All (IsOpenAt old.store now.cur) for-store
        (subst (All (IsOpenAt old.store now.cur)) is.changes opens)))

    abbrev done : FileNow
    done = file_edited old.number after unit line edit old.file

    abbrev doubt : FileNow
    doubt = file_edit_in_doubt old.number after unit line edit old.file

    abbrev Stores : State → Type 0
    Stores next = IsChangingEntries old.number old.store unit prepared.changes.items prepared.gone
        state next now

    abbrev Either : State → Image → Type 0
    Either next image = RecoversTo old.store.log.geometry old.number state [] image
        ⊎ RecoversTo old.store.log.geometry old.number next [] image

    was-edited : IsCatalogEdited unit (changes_of edit) (edited edit old.file.catalog) state
        (state_now opening done)
    was-edited = edited-is seen opening old held left edit after may ready.idle unit ready.unit_is
        line ready.unlocked ready.log

    pub made-changing : Stores (state_now opening done)
    made-changing =
        subst (λ (changes : List EntryChange). IsChangingEntries old.number old.store unit changes
        prepared.gone state (state_now opening done) now) (sym is.changes)
        (subst (λ (gone : Option PartNo). IsChangingEntries old.number old.store unit for-store gone
        state (state_now opening done) now) (sym is.gone)
        (changing seen opening old held left edit after may ready.idle unit ready.unit_is
        (state_now opening done) was-edited))

    pub made-may : MayEditCatalog opening old.file unit prepared.steps.items (changes_of edit)
        prepared.commit prepared.catalog
    made-may = prepared-may old.number old.file edit prepared is opening unit (changes_of edit)
        (may-edit seen opening old held left edit after may ready.idle unit ready.unit_is
        ready.unlocked ready.log)

    pub made-held : (final : VolumeNow B) (store : StoreNow) (blocks : B)
        → final.file ≡ catalog_edited after unit line prepared.steps.items prepared.commit
        prepared.catalog old.file
        → final.number ≡ old.number → final.store ≡ store → final.blocks ≡ blocks
        → store.space ≡ areas_left prepared.gone old.store.space
        → (MayEditCatalog opening old.file unit prepared.steps.items (changes_of edit)
        prepared.commit prepared.catalog → IsStateOf opening final.file)
        → (Stores (state_now opening done)
        → IsStored old.number store (state_now opening done) (seen blocks))
        → (Stores (state_now opening done)
        → Guards now (seen blocks) (Either (state_now opening done)))
        → HasEditComeHeld seen opening after unit line edit old final
    made-held final store blocks leaves number stores same space of stored moments =
        let file : final.file ≡ done = leaves
        ∙ prepared-edited old.number old.file edit prepared is after unit line in
        come-held seen after unit line edit opening old final store blocks done file number
        stores same
        (held-after seen opening old held left edit after may ready.idle unit ready.unit_is done store
        blocks (edited-kept old.number after unit line edit old.file).geometry refl
        (space ∙ ap (λ (gone : Option PartNo). areas_left gone old.store.space) is.gone)
        was-edited.owned (subst (IsStateOf opening) file (of made-may))
        (λ going. stored made-changing))
        (left-edited seen opening old held left edit after may ready.idle unit ready.unit_is line
        ready.unlocked ready.log (seen blocks) (moments made-changing))

    -- a write failed: its unit is in doubt
    pub failed-held : (final : VolumeNow B) (store : StoreNow) (blocks : B)
        → final.file ≡ failed_to_edit after unit line prepared.steps.items prepared.commit
        prepared.catalog old.file
        → final.number ≡ old.number → final.store ≡ store → final.blocks ≡ blocks
        → store.space ≡ old.store.space
        → (MayEditCatalog opening old.file unit prepared.steps.items (changes_of edit)
        prepared.commit prepared.catalog → IsStateOf opening final.file)
        → (Stores (state_now opening done)
        → Guards now (seen blocks) (Either (state_now opening done)))
        → HasEditComeHeld seen opening after unit line edit old final
    failed-held final store blocks leaves number stores same space of moments =
        let file : final.file ≡ doubt = leaves
        ∙ prepared-doubt old.number old.file edit prepared is after unit line in
        let owned : (state_now opening doubt).owned ≡ state.owned =
        doubt-owned seen opening old held left edit after may ready.idle unit ready.unit_is line
        ready.unlocked ready.log in
        come-held seen after unit line edit opening old final store blocks doubt file number
        stores same
        (record {
          file = subst (IsStateOf opening) file (of made-may);
          free = ap free_count space ∙ held.free
              ∙ sym (ap (λ (g : Geometry).
              area_count g - length (state_now opening doubt).owned)
              (doubt-geometry old.number after unit line edit old.file)
              ∙ ap (λ (them : List Owned). area_count old.file.geometry - length them) owned);
          owned = owned-same old.store.space store.space state.owned
              (state_now opening doubt).owned space owned held.owned;
          unlaid = λ going. absurd (none-some _ (sym going));
          stored = λ going. absurd (none-some _ (sym going));
        })
        (left-in-doubt seen opening old held left edit after may ready.idle unit ready.unit_is line
        ready.unlocked ready.log (seen blocks) (moments made-changing))

    -- it is refused
    pub refused-held : (store : StoreNow) (blocks : B) → store ≡ old.store → blocks ≡ old.blocks
        → Guards now now (RecoversTo old.store.log.geometry old.number state [])
        → HasEditComeHeld seen opening after unit line edit old
        (record old { blocks = blocks; store = store })
    refused-held store blocks same kept moments =
        subst (λ (b : B). HasEditComeHeld seen opening after unit line edit old
        (record old { blocks = b; store = store })) (sym kept)
        (subst (λ (s : StoreNow). HasEditComeHeld seen opening after unit line edit old
        (record old { store = s })) (sym same) (record {
          held = held;
          moments = left-before seen after unit line edit opening now now old old.file moments;
        }))

  -- ---- what it comes to

  served-after : AreServed old.file.geometry (edited edit old.file.catalog)
  served-after = served-kept old.file.geometry old.file.catalog edit may.edit_is may.whole.served

  pub made-come : (answer : Edit) (final : VolumeNow B) (store : StoreNow) (blocks : B)
      → answer ≡ Done
      → final.file ≡ catalog_edited after unit line prepared.steps.items prepared.commit
      prepared.catalog old.file
      → final.number ≡ old.number → final.store ≡ store → final.blocks ≡ blocks
      → IsSet store (seen blocks) → HasShapesLeft prepared.gone old.store.parts store.parts
      → IsEndedLog (with_records old.store.log (map (logged_for unit) prepared.changes.items)) unit
      Committed store.log
      → HasEditCome seen after unit line edit (Ok answer) old final
  made-come answer final store blocks done leaves number stores same set shapes log =
      let file : final.file ≡ file_edited old.number after unit line edit old.file =
      leaves ∙ prepared-edited old.number old.file edit prepared is after unit line in
      come-done seen after unit line edit answer old final store blocks done file number
      stores same
      (whole-edited seen old edit after may final.file store blocks
      (ap (λ (f : FileNow). f.geometry) file
      ∙ (edited-kept old.number after unit line edit old.file).geometry)
      (ap (λ (f : FileNow). f.catalog) file) log.geometry
      (subst (λ (gone : Option PartNo). HasShapesLeft gone old.store.parts store.parts)
      is.gone shapes) set)
      (ended-once old.store.log store.log (map (logged_for unit) prepared.changes.items) unit log)

  pub failed-come : (answer : Edit) (final : VolumeNow B) → answer ≡ Fault Write
      → final.file ≡ failed_to_edit after unit line prepared.steps.items prepared.commit
      prepared.catalog old.file
      → final.number ≡ old.number
      → HasEditCome seen after unit line edit (Ok answer) old final
  failed-come answer final fault leaves number = come-in-doubt seen after unit line edit answer
      old final fault
      (leaves ∙ prepared-doubt old.number old.file edit prepared is after unit line) number
      served-after
