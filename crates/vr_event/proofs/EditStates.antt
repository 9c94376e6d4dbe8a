-- The catalog of a volume may be edited while no unit of recovery is live: what the store and the
-- record file ask for, by the state that the history gives.
use Rattle.std.proofs.Common.{◌≡◌, ◌≢◌, ◌∙◌, ◌+◌, ◌≤◌, ◌==◌, ◌||◌, ℕ, Bool, true, false, not}
use Rattle.std.proofs.Common.{cond, List, [], ◌∷◌, Option, Some, None, refl, sym, ap, subst, All}
use Rattle.std.proofs.Common.{arith, filter, if◌then◌else◌, length, map, nat_eq, true≢false}
use Rattle.std.proofs.Common.{◌⊎◌, inl, inr, ⊎_elim}
use Rattle.std.specs.Prelude.{IfSome, option_map}
use Rattle.std.specs.List.{AllByRecursion, list_any}
use Rattle.std.proofs.lemmas.List.Elements.{All-from_recursion}
use Rattle.std.proofs.lemmas.Option.{none-some}
use Rattle.vr_types.specs.Content.{Ascends, Content, Standing, item_at}
use Rattle.vr_types.specs.Geometry.{area_count}
use Rattle.vr_types.specs.Image.{Image}
use Rattle.vr_types.specs.LogSpace.{log_size}
use Rattle.vr_types.specs.Moments.{Guards}
use Rattle.vr_types.specs.Seen.{Left, Seen}
use Rattle.vr_types.specs.Space.{free_count}
use Rattle.vr_types.specs.declared.geometry.Geometry.{Geometry}
use Rattle.vr_types.specs.declared.request.Request.TheVariants.{Commit}
use Rattle.vr_types.specs.declared.unit.PartNo.{PartNo}
use Rattle.vr_types.specs.declared.unit.Unit.{Unit as UnitOfRecovery}
use Rattle.vr_types.proofs.CallerLemmas.{guards-weaken}
use Rattle.vr_attach.specs.Laid.{catalog_shape, shape_in}
use Rattle.vr_catalog.specs.Catalog.{entries_in, parts_in}
use Rattle.vr_catalog.specs.declared.entry.CatEntry.{CatEntry}
use Rattle.vr_edits.specs.Edits.{MayEdit, edited, goes, part_gone}
use Rattle.vr_edits.specs.declared.edit.CatalogEdit.{CatalogEdit}
use Rattle.vr_edits.specs.declared.edit.CatalogEdit.TheVariants.{Add, Alter, Delete, Rename}
use Rattle.vr_edits.proofs.CallerLemmas.{served-kept, shapes-kept}
use Rattle.vr_log.specs.Live.{live_in, used_by}
use Rattle.vr_log.specs.declared.record.LogRecord.{LogRecord}
use Rattle.vr_history.specs.Effects.{has_part, parts_laid}
use Rattle.vr_history.specs.Merged.{last_stamp}
use Rattle.vr_history.specs.State.{BeforeImage, Logged, Owned, State}
use Rattle.vr_record_file.specs.CatalogEdit.{AreApart, IsCatalogEdited, IsEditInDoubt}
use Rattle.vr_record_file.specs.CatalogEdit.{MayEditCatalog, RecordChange, with_records}
use Rattle.vr_record_file.specs.Now.{FileNow, IsStateOf, state_now}
use Rattle.vr_record_file.proofs.CatalogEdits.{edited_leaves, in_doubt_leaves}
use Rattle.vr_space.specs.Part.{IsPlaceOf, Shape}
use Rattle.vr_undo.specs.Records.{images_in, place_of}
use Rattle.vr_volume.specs.CatalogRules.{IsCatalog}
use Rattle.vr_volume.specs.Committed.{logged_of}
use Rattle.vr_volume.specs.Crashes.{RecoversTo}
use Rattle.vr_volume.specs.EntryChange.{is_gone, without_gone}
use Rattle.vr_volume.specs.EntryChanges.{AreApart as AreChangesApart, CanChangeEntries, with_changes}
use Rattle.vr_volume.specs.PutBack.{images_of, oldest}
use Rattle.vr_volume.specs.declared.setting.EntryChange.{EntryChange}
use Rattle.vr_volume.proofs.Alone.{is-own}
use Rattle.vr_store.specs.EntryChange.{HasShapesLeft, areas_left, number_gone}
use Rattle.vr_store.specs.EntryChanges.{IsChangingEntries}
use Rattle.vr_store.specs.Store.{IsSet, IsStored, StoreNow, shape_among}
use Rattle.vr_event.specs.CatalogEdit.{AreUnlocked, IsLeftEditing, changes_of, file_edit_in_doubt}
use Rattle.vr_event.specs.CatalogEdit.{file_edited, log_for_edit, steps_of}
use Rattle.vr_event.specs.Defining.{catalog_file, utility_unit}
use Rattle.vr_event.specs.EditSteps.{MayEditNow}
use Rattle.vr_event.specs.PreparedEdit.{store_change, store_order}
use Rattle.vr_event.specs.Volume.{IsHeld, IsWhole, VolumeNow}
use Rattle.vr_event.proofs.Areas.{owned-same, unlaid-same}
use Rattle.vr_event.proofs.ClusterItems.{items-named}
use Rattle.vr_event.proofs.ClusterRecords.{IsNamed}
use Rattle.vr_event.proofs.EditAreas.{free-of, gone-is, gone-lacks, length-after, owned-after}
use Rattle.vr_event.proofs.EditAreas.{unlaid-after}
use Rattle.vr_event.proofs.EditCatalog.{HasEntries, IsOfCatalog, catalog-edited, content-edited}
use Rattle.vr_event.proofs.EditCatalog.{put_all, records-at, records-others, store-contents}
use Rattle.vr_event.proofs.EditRecords.{IsKeyed, changes-apart, changes-keyed, changes-stand}
use Rattle.vr_event.proofs.EditRecords.{changes-unbuilt, some-changes, steps-are}
use Rattle.vr_event.proofs.Served.{served_same}
use Rattle.vr_event.proofs.UnitEnded.{unlaid}

-- ---- of a log without records

-- nothing is kept that could be put back
none-before : (befores : List BeforeImage)
    → ((part : ℕ) (place : List ℕ) (image : BeforeImage)
    → oldest befores part place ≡ Some image → ⊥) → befores ≡ []
none-before [] none = refl
none-before (first ∷ befores) none = absurd (none first.part first.place first
    (ap (λ (b : Bool). cond b (Some first) (oldest befores first.part first.place))
    (is-own first)))

-- nor has the log any
none-mapped : (images : List BeforeImage) → map place_of images ≡ [] → images ≡ []
none-mapped [] none = refl
none-mapped (first ∷ images) none = absurd cc

-- ---- as the store is given them

pub stand-all : (content : Content) (changes : List RecordChange)
    → AllByRecursion (λ (change : RecordChange).
    item_at content change.place ≡ option_map Standing change.old) changes
    → AllByRecursion (λ (change : EntryChange).
    item_at content change.place ≡ option_map Standing change.before) (map store_change changes)
stand-all content [] all = tt
stand-all content (change ∷ changes) all = (all.0, stand-all content changes all.1)

place-all : (geometry : Geometry) (changes : List RecordChange) → AllByRecursion IsKeyed changes
    → AllByRecursion (λ (change : EntryChange). IsPlaceOf (catalog_shape geometry) change.place)
    (map store_change changes)
place-all geometry [] all = tt
place-all geometry (change ∷ changes) all = (all.0.long, place-all geometry changes all.1)

pub apart-all : (changes : List RecordChange) → AreApart changes
    → AreChangesApart (map store_change changes)
apart-all [] apart = tt
apart-all (change ∷ changes) apart = (
  All-from_recursion (λ (other : EntryChange). other.place ≢ change.place)
      (map store_change changes) (each changes apart.0),
  apart-all changes apart.1,
)
  where
    each : (others : List RecordChange)
        → AllByRecursion (λ (other : RecordChange). other.place ≢ change.place) others
        → AllByRecursion (λ (other : EntryChange). other.place ≢ change.place)
        (map store_change others)
    each [] all = tt
    each (other ∷ others) all = (all.0, each others all.1)

-- what holds of the records in their order holds in the order of the store
pub in-order : (P : RecordChange → Type 0) (edit : CatalogEdit)
    → AllByRecursion P (changes_of edit) → AllByRecursion P (store_order edit)
in-order P (Alter entry new) all = all
in-order P (Rename entry new) all = (all.1.0, (all.0, tt))
in-order P (Delete gone) all = all
in-order P (Add new) all = all

pub apart-order : (edit : CatalogEdit) → AreApart (changes_of edit) → AreApart (store_order edit)
apart-order (Alter entry new) apart = apart
apart-order (Rename entry new) apart = (
  (λ same. apart.0.0 (sym same), tt),
  (tt, tt),
)
apart-order (Delete gone) apart = apart
apart-order (Add new) apart = apart

module _ {B : Type 0} (seen : B → Seen) (opening : State) (volume : VolumeNow B)
    (held : IsHeld seen opening volume)
    (left : Left (seen volume.blocks) (seen volume.blocks).cur) (edit : CatalogEdit) (stamp : ℕ)
    (may : MayEditNow seen stamp edit volume) (idle : live_in volume.store.log.records ≡ [])
    (unit : UnitOfRecovery) (unit-is : unit ≡ utility_unit volume.file) where
  abbrev state : State
  state = state_now opening volume.file

  abbrev store : StoreNow
  store = volume.store

  abbrev now : Seen
  now = seen volume.blocks

  abbrev geometry : Geometry
  geometry = store.log.geometry

  abbrev content : Content
  content = state.contents 0

  abbrev changes : List RecordChange
  changes = changes_of edit

  abbrev gone : Option PartNo
  gone = part_gone edit

  abbrev for-store : List EntryChange
  for-store = map store_change (store_order edit)

  going : volume.file.stopped ≡ None
  going = may.going

  whole : IsWhole seen volume
  whole = may.whole

  stored : IsStored volume.number store state now
  stored = held.stored going

  set : IsSet store now
  set = whole.set going

  none-logged : store.log.records ≡ []
  none-logged = set.idle idle

  pub catalog-laid : shape_among store.parts 0 ≡ Some (catalog_shape geometry)
  catalog-laid = whole.laid going 0 ∙ sym (ap (λ (g : Geometry). Some (catalog_shape g))
      (whole.geometry going))

  named : AllByRecursion IsNamed content
  named = items-named volume.number store state now left stored catalog-laid

  ascends : Ascends content
  ascends = stored.volume.laid.each 0

  -- the edit may be made of the catalog of the state
  may-of : MayEdit geometry (entries_in content) edit
  may-of = subst (λ (g : Geometry). MayEdit g (entries_in content) edit)
      (sym (whole.geometry going))
      (subst (λ (entries : List CatEntry). MayEdit volume.file.geometry entries edit)
      held.file.now.catalog may.edit_is)

  of-catalog : IsOfCatalog content
  of-catalog = record {
    named = named;
    ascends = ascends;
    distinct = stored.volume.laid.catalog.parts;
  }

  pub stand : AllByRecursion (λ (change : RecordChange).
      item_at content change.place ≡ option_map Standing change.old) changes
  stand = changes-stand content named ascends geometry edit may-of

  apart : AreApart changes
  apart = changes-apart geometry (entries_in content) edit may-of

  keyed : AllByRecursion IsKeyed changes
  keyed = changes-keyed geometry (entries_in content) edit may-of

  -- ---- the catalog after it

  entries-after : HasEntries (edited edit (entries_in content)) (put_all changes content)
  entries-after = content-edited geometry content of-catalog edit may-of

  same-after : (part : ℕ) → with_changes for-store state.contents part
      ≡ with_records changes state.contents part
  same-after part = store-contents state.contents stored.volume.laid.each edit apart part

  catalog-content : with_changes for-store state.contents 0 ≡ put_all changes content
  catalog-content = same-after 0 ∙ records-at changes state.contents

  lays : (part : ℕ)
      → shape_in geometry (entries_in (with_changes for-store state.contents 0)) part
      ≡ (if is_gone (number_gone gone) part then None
      else shape_in geometry (entries_in content) part)
  lays part = ap (λ (c : Content). shape_in geometry (entries_in c) part) catalog-content
      ∙ ap (λ (entries : List CatEntry). shape_in geometry entries part) entries-after.are
      ∙ shapes-kept geometry (entries_in content) edit may-of part
      ∙ ap (λ (b : Bool). if b then None else shape_in geometry (entries_in content) part)
      (sym (gone-is gone part))

  logged-none : state.logged ≡ []
  logged-none = sym stored.volume.logged.logged
      ∙ ap (λ (records : List LogRecord). map logged_of (images_of records)) none-logged

  -- nothing is kept of a unit
  pub kept-none : images_in store.undo ≡ []
  kept-none = none-mapped (images_in store.undo) (stored.logged ∙ logged-none)

  befores-none : state.befores ≡ []
  befores-none = none-before state.befores (λ part at image found. none-some image
      (sym (ap (λ (records : List LogRecord). oldest (images_of records) part at) none-logged)
      ∙ stored.volume.logged.kept part at image found))

  current : unit.number ≡ state.numbers unit.deck
  current = subst (λ (u : UnitOfRecovery). u.number ≡ state.numbers u.deck) (sym unit-is)
      (held.file.now.numbers 0)

  can-change : CanChangeEntries geometry store.log unit for-store (number_gone gone) state
  can-change = record {
    current = current;
    idle = none-logged;
    places = All-from_recursion (λ (change : EntryChange).
        IsPlaceOf (catalog_shape geometry) change.place) for-store
        (place-all geometry (store_order edit) (in-order IsKeyed edit keyed));
    apart = apart-all (store_order edit) (apart-order edit apart);
    stands = All-from_recursion (λ (change : EntryChange).
        item_at content change.place ≡ option_map Standing change.before) for-store
        (stand-all content (store_order edit) (in-order (λ (change : RecordChange).
        item_at content change.place ≡ option_map Standing change.old) edit stand));
    catalog = subst (IsCatalog geometry) (sym catalog-content)
        (catalog-edited geometry content of-catalog edit may-of stored.volume.laid.catalog);
    lays = lays;
  }

  pub may-edit : AreUnlocked volume.file unit changes
      → used_by store.log.records + log_for_edit edit ≤ log_size volume.file.geometry
      → MayEditCatalog opening volume.file unit (steps_of volume.number edit) changes Commit
      (edited edit volume.file.catalog)
  may-edit unlocked room = record {
    going = going;
    of_utilities = ap (λ (u : UnitOfRecovery). u.deck) unit-is;
    current = current;
    idle = logged-none;
    on = catalog_file volume.number;
    on_catalog = refl;
    known = refl;
    no_path = refl;
    steps_are = steps-are volume.number changes keyed;
    commit_is = refl;
    some = some-changes geometry (entries_in content) edit may-of;
    apart = apart;
    stand = stand;
    unlocked = unlocked;
    room = subst (λ (n : ℕ). n + log_for_edit edit ≤ log_size volume.file.geometry)
        stored.volume.logged.used room;
    catalog_is = ap entries_in (records-at changes state.contents) ∙ entries-after.are
        ∙ ap (edited edit) (sym held.file.now.catalog);
    unbuilt = changes-unbuilt volume.file.geometry volume.file.geometry volume.file.catalog edit
        may.edit_is whole.served;
  }

  -- ---- the states before and after it

  abbrev catalog : List CatEntry
  catalog = edited edit volume.file.catalog

  -- a part that the catalog lacks then has nothing
  lacks : (part : ℕ) → has_part (parts_in catalog) part ≡ false → goes edit part ≡ false
      → with_records changes state.contents part ≡ []
  lacks part none stays = of (part == 0) refl
    where
      unlaid-there : shape_in geometry (entries_in content) part ≡ None
      unlaid-there =
          sym (shapes-kept geometry (entries_in content) edit may-of part
          ∙ ap (λ (b : Bool). if b then None else shape_in geometry (entries_in content) part)
          stays)
          ∙ unlaid geometry part (edited edit (entries_in content))
          (subst (λ (entries : List CatEntry). has_part (parts_in (edited edit entries)) part ≡ false)
          held.file.now.catalog none)

      of : (zero : Bool) → (part == 0) ≡ zero → with_records changes state.contents part ≡ []
      of true zero = absurd (true≢false
          (sym (ap (λ (b : Bool). b || list_any (nat_eq part) (parts_in catalog)) zero) ∙ none))
      of false zero = records-others changes state.contents part zero
          ∙ stored.volume.laid.others part unlaid-there

  contents-left : (part : ℕ)
      → (if has_part (parts_in catalog) part then with_records changes state.contents part
      else []) ≡ without_gone (number_gone gone) (with_changes for-store state.contents) part
  contents-left part = of (goes edit part) refl (has_part (parts_in catalog) part) refl
      ∙ sym (ap (λ (b : Bool). if b then [] else with_changes for-store state.contents part)
      (gone-is gone part)
      ∙ ap (λ (c : Content). if goes edit part then [] else c) (same-after part))
    where
      of : (out : Bool) → goes edit part ≡ out → (has : Bool)
          → has_part (parts_in catalog) part ≡ has
          → (if has_part (parts_in catalog) part then with_records changes state.contents part
          else []) ≡ (if goes edit part then [] else with_records changes state.contents part)
      of true out has is =
          ap (λ (b : Bool). if b then with_records changes state.contents part else [])
          (gone-lacks volume.file.geometry volume.file.catalog edit may.edit_is part out)
          ∙ sym (ap (λ (b : Bool). if b then [] else with_records changes state.contents part) out)
      of false out true is =
          ap (λ (b : Bool). if b then with_records changes state.contents part else []) is
          ∙ sym (ap (λ (b : Bool). if b then [] else with_records changes state.contents part) out)
      of false out false is =
          ap (λ (b : Bool). if b then with_records changes state.contents part else []) is
          ∙ sym (lacks part is out)
          ∙ sym (ap (λ (b : Bool). if b then [] else with_records changes state.contents part) out)

  pub changing : (after : State) → IsCatalogEdited unit changes catalog state after
      → IsChangingEntries volume.number store unit for-store gone state after now
  changing after made = record {
    stored = stored;
    can = can-change;
    changed = record {
      contents = λ part. made.contents part ∙ contents-left part;
      befores = made.befores ∙ befores-none;
      logged = made.logged;
      used = made.used;
      numbers = made.numbers;
    };
  }

  -- ---- what it leaves

  module _ (line : ℕ) (unlocked : AreUnlocked volume.file unit changes)
      (room : used_by store.log.records + log_for_edit edit ≤ log_size volume.file.geometry) where
    abbrev done : FileNow
    done = file_edited volume.number stamp unit line edit volume.file

    abbrev doubt : FileNow
    doubt = file_edit_in_doubt volume.number stamp unit line edit volume.file

    pub edited-is : IsCatalogEdited unit changes catalog state (state_now opening done)
    edited-is = edited_leaves opening volume.file stamp line unit (steps_of volume.number edit)
        changes Commit catalog held.file (may-edit unlocked room)

    pub doubt-owned : (state_now opening doubt).owned ≡ state.owned
    doubt-owned = (in_doubt_leaves opening volume.file stamp line unit
        (steps_of volume.number edit) changes Commit catalog held.file (may-edit unlocked room)).owned

    abbrev Either : Image → Type 0
    Either image = RecoversTo geometry volume.number state [] image
        ⊎ RecoversTo geometry volume.number (state_now opening done) [] image

    pub left-edited : (b : Seen) → Guards now b Either
        → Guards now b (IsLeftEditing geometry volume.number opening stamp unit line edit
        volume.file done)
    left-edited b guards = guards-weaken now b Either
        (IsLeftEditing geometry volume.number opening stamp unit line edit volume.file done)
        guards (λ image. ⊎_elim (λ one. inl one) (λ one. inr (inl refl, one)))

    pub left-in-doubt : (b : Seen) → Guards now b Either
        → Guards now b (IsLeftEditing geometry volume.number opening stamp unit line edit
        volume.file doubt)
    left-in-doubt b guards = guards-weaken now b Either
        (IsLeftEditing geometry volume.number opening stamp unit line edit volume.file doubt)
        guards (λ image. ⊎_elim (λ one. inl one) (λ one. inr (inr refl, one)))

  -- ---- the volume after it

  abbrev areas-after : List (Option PartNo)
  areas-after = areas_left gone store.space

  abbrev owned-left : List Owned
  owned-left = filter (λ (one : Owned). has_part (parts_laid catalog) one.part) state.owned

  pub held-after : (file : FileNow) (final : StoreNow) (blocks : B)
      → file.geometry ≡ volume.file.geometry → file.catalog ≡ catalog
      → final.space ≡ areas-after → (state_now opening file).owned ≡ owned-left
      → IsStateOf opening file
      → (file.stopped ≡ None → IsStored volume.number final (state_now opening file) (seen blocks))
      → IsHeld seen opening (record volume { blocks = blocks; store = final; file = file })
  held-after file final blocks shape same space owned of kept =
      let permuted = owned-after volume.file.geometry volume.file.catalog edit may.edit_is store.space
      state.owned (held.unlaid going) held.owned in
      record {
        file = of;
        free = ap free_count space ∙ free-of areas-after owned-left permuted
            ∙ omega (
              arith,
              length-after volume.file.geometry volume.file.catalog edit may.edit_is store.space,
              set.areas,
              ap area_count (whole.geometry going),
              ap area_count shape,
              ap length owned,
            );
        owned = owned-same areas-after final.space owned-left (state_now opening file).owned space
            owned permuted;
        unlaid = λ on. unlaid-same volume.file.geometry file.geometry catalog file.catalog
            areas-after final.space shape same space
            (unlaid-after volume.file.geometry volume.file.catalog edit may.edit_is store.space
            (held.unlaid going));
        stored = kept;
      }

-- ---- whether or not the device reports its contents

module _ {B : Type 0} (seen : B → Seen) (volume : VolumeNow B) (edit : CatalogEdit) (stamp : ℕ)
    (may : MayEditNow seen stamp edit volume) (file : FileNow) (final : StoreNow) (blocks : B)
    (shape : file.geometry ≡ volume.file.geometry)
    (same : file.catalog ≡ edited edit volume.file.catalog)
    (log : final.log.geometry ≡ volume.store.log.geometry)
    (shapes : HasShapesLeft (part_gone edit) volume.store.parts final.parts) where
  pub whole-edited : IsSet final (seen blocks)
      → IsWhole seen (record volume { blocks = blocks; store = final; file = file })
  whole-edited after = record {
    served = served_same volume.file.geometry file.geometry (edited edit volume.file.catalog)
        file.catalog shape same
        (served-kept volume.file.geometry volume.file.catalog edit may.edit_is may.whole.served);
    geometry = λ on. log ∙ may.whole.geometry may.going ∙ sym shape;
    laid = λ on part. shapes part
        ∙ ap (λ (b : Bool). if b then None else shape_among volume.store.parts part)
        (gone-is (part_gone edit) part)
        ∙ ap (λ (o : Option Shape). if goes edit part then None else o)
        (may.whole.laid may.going part)
        ∙ sym (ap (λ (g : Geometry). shape_in g file.catalog part) shape
        ∙ ap (λ (entries : List CatEntry). shape_in volume.file.geometry entries part) same
        ∙ shapes-kept volume.file.geometry volume.file.catalog edit may.edit_is part);
    set = λ on. after;
  }
