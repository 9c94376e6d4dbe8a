-- What may be set at the places of an edit: where no stage of a split is left there, a record that is
-- added has room beside the one that goes, which stands, and one that stands has its own.
use Rattle.std.proofs.Common.{◌≡◌, ◌∙◌, ◌⊎◌, ℕ, IsTrue, List, [], ◌∷◌, Option, Some, None, sym, ap}
use Rattle.std.proofs.Common.{subst, length, arith, inl, inr, ⊎_elim, map, All, refl}
use Rattle.std.specs.Prelude.{IfSome}
use Rattle.std.specs.Option.{option_map}
use Rattle.std.specs.List.{AllByRecursion}
use Rattle.std.specs.declared.cmp.Ordering.{Ordering}
use Rattle.std.proofs.lemmas.List.Elements.{All-from_recursion, All-nil}
use Rattle.std.proofs.lemmas.Option.{same_Some}
use Rattle.vr_types.specs.Content.{Standing, item_at}
use Rattle.vr_types.specs.Image.{Image}
use Rattle.vr_types.specs.Seen.{Left, Seen}
use Rattle.vr_types.specs.Space.{free_count}
use Rattle.vr_types.specs.declared.geometry.Geometry.{Geometry}
use Rattle.vr_types.specs.declared.unit.Unit.{Unit as UnitOfRecovery}
use Rattle.vr_attach.specs.Laid.{catalog_shape}
use Rattle.vr_catalog.specs.Record.{spelling}
use Rattle.vr_catalog.specs.declared.entry.CatEntry.{CatEntry}
use Rattle.vr_catalog.proofs.RecordLemmas.{length-spelling}
use Rattle.vr_edits.specs.Edits.{entry_place}
use Rattle.vr_edits.specs.declared.edit.CatalogEdit.{CatalogEdit}
use Rattle.vr_edits.specs.declared.edit.CatalogEdit.TheVariants.{Add, Alter, Delete, Rename}
use Rattle.vr_space.specs.Part.{MayGoBack, Shape, fits_at, item_of, room_of, stage_of}
use Rattle.vr_space.specs.Room.{Lengths, length_by}
use Rattle.vr_space.specs.declared.room.Room.{Room}
use Rattle.vr_space.specs.declared.room.Room.TheVariants.{NoSpace, Ready}
use Rattle.vr_space.proofs.CallerLemmas.{kept_fits, ready-can, room-no-stage, same_is_equal}
use Rattle.vr_history.specs.State.{BeforeImage, State}
use Rattle.vr_record_file.specs.CatalogEdit.{RecordChange}
use Rattle.vr_undo.specs.Records.{images_in}
use Rattle.vr_volume.specs.EntryChanges.{CanSetAll, HaveRoom, NeedsKept}
use Rattle.vr_volume.specs.PutBack.{lengths_kept}
use Rattle.vr_volume.specs.declared.setting.EntryChange.{EntryChange}
use Rattle.vr_store.specs.EntryChanges.{AreEntriesSettable, entries_kept}
use Rattle.vr_store.specs.Room.{IsRoomAt}
use Rattle.vr_store.specs.Store.{IsSet, IsStored, PartNow, StoreNow, part_among, shape_among}
use Rattle.vr_store.proofs.CallerLemmas.{number-at, rested-at}
use Rattle.vr_store.proofs.Recorded.{stand-at}
use Rattle.vr_event.specs.CatalogEdit.{changes_of, record_changed, record_gone}
use Rattle.vr_event.specs.Defining.{record_length}
use Rattle.vr_event.specs.EditSteps.{IsOpenAt, IsOpenBy}
use Rattle.vr_event.specs.PreparedEdit.{store_change, store_order}

module _ (store : StoreNow) (now : Seen) (set : IsSet store now) (left : Left now now.cur)
    (volume : ℕ) (state : State) (stored : IsStored volume store state now) (geometry : Geometry)
    (none-kept : images_in store.undo ≡ []) (unit : UnitOfRecovery) (one : PartNow)
    (found : part_among store.parts 0 ≡ Some one) (shape-is : one.shape ≡ catalog_shape geometry)
  where
    abbrev image : Image
    image = now.cur

    abbrev roomed : List ℕ → Room
    roomed place = room_of one.shape one.known image (free_count store.space)
        (lengths_kept (images_in store.undo) 0) place record_length

    no-stage : (place : List ℕ) (room : Room) (before : Option (List ℕ)) → room ≡ roomed place
        → IsOpenBy room before → stage_of one.shape one.known image place ≡ None
    no-stage place room None is ready = room-no-stage one.shape one.known image
        (free_count store.space) (lengths_kept (images_in store.undo) 0) place record_length 0 0
        (inl (sym is ∙ ready))
    no-stage place room (Some before) is either = ⊎_elim
        (λ ready. room-no-stage one.shape one.known image (free_count store.space)
        (lengths_kept (images_in store.undo) 0) place record_length 0 0 (inl (sym is ∙ ready)))
        (λ full. room-no-stage one.shape one.known image (free_count store.space)
        (lengths_kept (images_in store.undo) 0) place record_length full.0 full.1
        (inr (sym is ∙ full.2))) either

    at-one : (place : List ℕ) (room : Room) → IsRoomAt store image 0 place record_length room
        → room ≡ roomed place
    at-one place room is = subst (λ (o : Option PartNow). IfSome o (λ (part : PartNow). room
        ≡ room_of part.shape part.known image (free_count store.space)
        (lengths_kept (images_in store.undo) 0) place record_length)) found is

    no-stages : (changes : List EntryChange) → AllByRecursion (IsOpenAt store image) changes
        → AllByRecursion (λ (change : EntryChange).
        stage_of one.shape one.known image change.place ≡ None) changes
    no-stages [] all = tt
    no-stages (change ∷ changes) all = (
      no-stage change.place all.0.0 change.before (at-one change.place all.0.0 all.0.1) all.0.2,
      no-stages changes all.1,
    )

    -- what is ready fits where nothing is kept
    fits : (place : List ℕ) (room : Room) → room ≡ roomed place → room ≡ Ready
        → IsTrue (fits_at one.shape one.known image [] place record_length)
    fits place room is ready = subst (λ (images : List BeforeImage).
        IsTrue (fits_at one.shape one.known image (lengths_kept images 0) place record_length))
        none-kept
        (ready-can one.shape one.known image (free_count store.space)
        (lengths_kept (images_in store.undo) 0) place record_length (sym is ∙ ready)).1

    fits-new : (new : CatEntry) (kept : Lengths)
        → IsTrue (fits_at one.shape one.known image kept (entry_place new) record_length)
        → IsTrue (fits_at one.shape one.known image kept (entry_place new) (length (spelling new)))
    fits-new new kept is = subst (λ (n : ℕ).
        IsTrue (fits_at one.shape one.known image kept (entry_place new) n))
        (sym (length-spelling new)) is

    -- the record that goes stands, so that keeping it takes no more
    fits-beside : (entry new : CatEntry)
        → item_at (state.contents 0) (entry_place entry) ≡ Some (Standing (spelling entry))
        → IsTrue (fits_at one.shape one.known image [] (entry_place new) record_length)
        → IsTrue (fits_at one.shape one.known image
        ((entry_place entry, length (spelling entry)) ∷ []) (entry_place new) record_length)
    fits-beside entry new there is = subst IsTrue
        (sym (kept_fits one.shape image [] (entry_place entry) (spelling entry)
        (length (spelling entry))
        (stand-at store now set 0 one found left
        (record { number = volume; state = state; stored = stored }))
        ((rested-at store now set volume state 0 one found stored).reads (entry_place entry)
        ∙ ap (λ (n : ℕ). item_at (state.contents n) (entry_place entry))
        (number-at store now set 0 one found) ∙ there)
        (omega arith) one.known (entry_place new) record_length)) is

    abbrev changes-in : CatalogEdit → List EntryChange
    changes-in edit = map store_change (store_order edit)

    have-room : (edit : CatalogEdit)
        → AllByRecursion (λ (change : RecordChange). item_at (state.contents 0) change.place
        ≡ option_map Standing change.old) (changes_of edit)
        → AllByRecursion (IsOpenAt store image) (changes-in edit)
        → HaveRoom one.shape one.known image (entries_kept unit (changes-in edit)) (changes-in edit)
    have-room (Alter entry new) stand opens = (
      inr (
        length (spelling entry),
        ap (λ (order : Ordering). length_by order (length (spelling entry)) None)
            (same_is_equal (entry_place entry)),
        subst (λ (shape : Shape). MayGoBack shape (length (spelling entry))
            (length (spelling new))) (sym shape-is)
            (omega (arith, length-spelling entry, length-spelling new)),
      ),
      All-nil _,
    )
    have-room (Rename entry new) stand opens = (
      inl (fits-new new ((entry_place entry, length (spelling entry)) ∷ [])
          (fits-beside entry new stand.0
          (fits (entry_place new) opens.0.0 (at-one (entry_place new) opens.0.0 opens.0.1)
          opens.0.2))),
      All-from_recursion (λ (other : EntryChange). NeedsKept one.shape
          (entries_kept unit (changes-in (Rename entry new))) other.place other.bytes)
          (store_change (record_gone entry) ∷ []) (tt, tt),
    )
    have-room (Delete []) stand opens = tt
    have-room (Delete (entry ∷ gone)) stand opens = (
      tt,
      All-from_recursion (λ (other : EntryChange). NeedsKept one.shape
          (entries_kept unit (changes-in (Delete (entry ∷ gone)))) other.place other.bytes)
          (map store_change (map record_gone gone))
          (each gone (entries_kept unit (changes-in (Delete (entry ∷ gone))))),
    )
      where
        each : (gone : List CatEntry) (kept : Lengths)
            → AllByRecursion (λ (other : EntryChange).
            NeedsKept one.shape kept other.place other.bytes)
            (map store_change (map record_gone gone))
        each [] kept = tt
        each (other ∷ gone) kept = (tt, each gone kept)
    have-room (Add new) stand opens = (
      inl (fits-new new []
          (fits (entry_place new) opens.0.0 (at-one (entry_place new) opens.0.0 opens.0.1)
          opens.0.2)),
      All-nil _,
    )

    can-set-all : (edit : CatalogEdit)
        → AllByRecursion (λ (change : RecordChange). item_at (state.contents 0) change.place
        ≡ option_map Standing change.old) (changes_of edit)
        → AllByRecursion (IsOpenAt store image) (changes-in edit)
        → CanSetAll one.shape one.known image (entries_kept unit (changes-in edit)) (changes-in edit)
    can-set-all edit stand opens = record {
      no_stage = All-from_recursion (λ (change : EntryChange).
          stage_of one.shape one.known image change.place ≡ None) (changes-in edit)
          (no-stages (changes-in edit) opens);
      room = have-room edit stand opens;
    }

pub edit-settable : (store : StoreNow) (now : Seen) → IsSet store now → Left now now.cur
    → (volume : ℕ) (state : State) → IsStored volume store state now → (geometry : Geometry)
    → shape_among store.parts 0 ≡ Some (catalog_shape geometry) → images_in store.undo ≡ []
    → (unit : UnitOfRecovery) (edit : CatalogEdit)
    → AllByRecursion (λ (change : RecordChange). item_at (state.contents 0) change.place
    ≡ option_map Standing change.old) (changes_of edit)
    → AllByRecursion (IsOpenAt store now.cur) (map store_change (store_order edit))
    → AreEntriesSettable store unit now.cur (map store_change (store_order edit))
edit-settable store now set left volume state stored geometry laid none-kept unit edit stand opens =
    of (part_among store.parts 0) refl laid
  where
    of : (o : Option PartNow) → part_among store.parts 0 ≡ o
        → option_map (λ (one : PartNow). one.shape) o ≡ Some (catalog_shape geometry)
        → IfSome o (λ (one : PartNow). CanSetAll one.shape one.known now.cur
        (entries_kept unit (map store_change (store_order edit)))
        (map store_change (store_order edit)))
    of None found there = tt
    of (Some one) found there = can-set-all store now set left volume state stored geometry none-kept
        unit one found (same_Some one.shape (catalog_shape geometry) there) edit stand opens
