-- Places of an edit were met: what still holds of the volume, that what was open stays so, and which
-- change has no room.
use Rattle.std.proofs.Common.{◌≡◌, ◌∙◌, ◌+◌, ◌-◌, ◌<◌, ◌≤◌, ◌^◌, ℕ}
use Rattle.std.proofs.Common.{List, [], ◌∷◌, Option, Some, None, refl, sym, ap, subst, All, map}
use Rattle.std.specs.Prelude.{Contains, IfSome}
use Rattle.std.specs.Option.{option_map}
use Rattle.std.specs.List.{AllByRecursion}
use Rattle.std.proofs.lemmas.List.Elements.{All-contains, All-from_recursion}
use Rattle.std.proofs.lemmas.Option.{none-some, same_Some}
use Rattle.vr_types.specs.Image.{Image}
use Rattle.vr_types.specs.LogSpace.{log_size}
use Rattle.vr_types.specs.Seen.{Seen}
use Rattle.vr_types.specs.Space.{free_count}
use Rattle.vr_types.specs.declared.geometry.Geometry.{Geometry}
use Rattle.vr_types.specs.declared.unit.StageKind.{StageKind}
use Rattle.vr_types.specs.declared.unit.Unit.{Unit as UnitOfRecovery}
use Rattle.vr_attach.specs.Laid.{catalog_shape}
use Rattle.vr_catalog.specs.Record.{spelling}
use Rattle.vr_catalog.specs.declared.entry.CatEntry.{CatEntry}
use Rattle.vr_edits.specs.Edits.{MayEdit, entry_place}
use Rattle.vr_edits.specs.declared.edit.CatalogEdit.TheVariants.{Add, Alter, Delete, Rename}
use Rattle.vr_edits.specs.declared.edit.CatalogEdit.{CatalogEdit}
use Rattle.vr_log.specs.Live.{live_in, used_by}
use Rattle.vr_log.specs.LogNow.{LogNow}
use Rattle.vr_history.specs.Merged.{last_stamp}
use Rattle.vr_record_file.specs.Now.{FileNow, has_deck, number_of}
use Rattle.vr_space.specs.Known.{HasMet}
use Rattle.vr_space.specs.Part.{IsStageDue, Shape, room_of}
use Rattle.vr_space.specs.Room.{Lengths}
use Rattle.vr_space.specs.declared.room.Room.{Room}
use Rattle.vr_space.specs.declared.room.Room.TheVariants.{Stage}
use Rattle.vr_undo.specs.Records.{images_in}
use Rattle.vr_volume.specs.PutBack.{lengths_kept}
use Rattle.vr_volume.specs.declared.setting.EntryChange.{EntryChange}
use Rattle.vr_store.specs.Parts.{OnlyMet, but_met}
use Rattle.vr_store.specs.Room.{IsDueAt, IsRoomAt}
use Rattle.vr_store.specs.Store.{PartNow, StoreNow, part_among, shape_among}
use Rattle.vr_store.proofs.PlacedParts.{among-same}
use Rattle.vr_event.specs.CatalogEdit.{AreUnlocked, changes_of, entries_needed, entry_added}
use Rattle.vr_event.specs.CatalogEdit.{log_for_edit, record_changed, record_gone}
use Rattle.vr_event.specs.Defining.{record_length, utility_unit}
use Rattle.vr_event.specs.EditSteps.{AreMetAt, IsEditReady, IsOpenAt, MayEditNow, MayOpen}
use Rattle.vr_event.specs.PreparedEdit.{IsPreparedEdit, store_change, store_order}
use Rattle.vr_event.specs.Volume.{IsWhole, VolumeNow}
use Rattle.vr_event.specs.declared.prepared_edit.PreparedEdit.{PreparedEdit}

-- a stage is due
pub stage-due : (store : StoreNow) (image : Image) (place : List ℕ) (kind : StageKind) (room : Room)
    → IsRoomAt store image 0 place record_length room → room ≡ Stage kind
    → IsDueAt store image 0 place record_length
stage-due store image place kind room is stage = of (part_among store.parts 0) is
  where
    of : (o : Option PartNow)
        → IfSome o (λ (one : PartNow). room ≡ room_of one.shape one.known image
        (free_count store.space) (lengths_kept (images_in store.undo) 0) place record_length)
        → IfSome o (λ (one : PartNow). IsStageDue one.shape one.known image
        (free_count store.space) (lengths_kept (images_in store.undo) 0) place record_length)
    of None answer = tt
    of (Some one) answer = (kind, sym answer ∙ stage)

-- ---- nothing was entered

module _ {B : Type 0} (seen : B → Seen) (after : ℕ) (old mid : VolumeNow B)
    (whole : IsWhole seen mid) (file : mid.file ≡ old.file) where
  pub open-after : MayOpen seen after old → MayOpen seen after mid
  open-after may = record {
    whole = whole;
    going = ap (λ (f : FileNow). f.stopped) file ∙ may.going;
    room = subst (λ (f : FileNow). 0 < f.room) (sym file) may.room;
    last = subst (λ (f : FileNow). last_stamp 0 f.entries < 2 ^ 64 - 2) (sym file) may.last;
    after_is = may.after_is;
  }

  now-after : (edit : CatalogEdit) → mid.store.log ≡ old.store.log
      → MayEditNow seen after edit old → MayEditNow seen after edit mid
  now-after edit log may = record {
    whole = whole;
    going = ap (λ (f : FileNow). f.stopped) file ∙ may.going;
    room = subst (λ (f : FileNow). entries_needed edit ≤ f.room) (sym file) may.room;
    last = subst (λ (f : FileNow). last_stamp 0 f.entries < 2 ^ 63) (sym file) may.last;
    after_is = may.after_is;
    deck = ap (λ (f : FileNow). has_deck 0 f.numbers) file ∙ may.deck;
    number = subst (λ (f : FileNow). number_of f.numbers 0 < 2 ^ 32 - 1) (sym file) may.number;
    generation = subst (λ (l : LogNow). l.generation + 1 < 2 ^ 63) (sym log) may.generation;
    edit_is = subst (λ (f : FileNow). MayEdit f.geometry f.catalog edit) (sym file) may.edit_is;
  }

  pub ready-after : (edit : CatalogEdit) (unit : UnitOfRecovery) (prepared : PreparedEdit)
      → mid.number ≡ old.number → mid.store.log ≡ old.store.log
      → IsEditReady seen after unit edit prepared old → IsEditReady seen after unit edit prepared mid
  ready-after edit unit prepared number log ready = record {
    may = now-after edit log ready.may;
    idle = ap (λ (l : LogNow). live_in l.records) log ∙ ready.idle;
    unit_is = ready.unit_is ∙ ap utility_unit (sym file);
    prepared_is = subst (λ (n : ℕ). IsPreparedEdit n mid.file.catalog edit prepared) (sym number)
        (subst (λ (f : FileNow). IsPreparedEdit old.number f.catalog edit prepared) (sym file)
        ready.prepared_is);
    unlocked = subst (λ (f : FileNow). AreUnlocked f unit (changes_of edit)) (sym file)
        ready.unlocked;
    log = subst (λ (l : LogNow). used_by l.records + log_for_edit edit
        ≤ log_size mid.file.geometry) (sym log)
        (subst (λ (f : FileNow). used_by old.store.log.records + log_for_edit edit
        ≤ log_size f.geometry) (sym file) ready.log);
  }

-- as the store asks for it
pub met-all : (parts : List PartNow) (changes : List EntryChange) → AreMetAt parts changes
    → IfSome (part_among parts 0)
    (λ (part : PartNow). All (λ (change : EntryChange). HasMet part.known change.place) changes)
met-all parts changes met = of (part_among parts 0) met
  where
    of : (o : Option PartNow)
        → All (λ (change : EntryChange). IfSome o (λ (part : PartNow).
        HasMet part.known change.place)) changes
        → IfSome o (λ (part : PartNow).
        All (λ (change : EntryChange). HasMet part.known change.place) changes)
    of None all = tt
    of (Some part) all = all

-- ---- what was open stays so

some-one : {X : Type 0} {one other : X} → Some one ≡ Some other → one ≡ other
some-one same = cc

room-met : (geometry : Geometry) (before after : PartNow) → but_met after ≡ but_met before
    → before.shape ≡ catalog_shape geometry → (image : Image) (free : ℕ) (kept : Lengths)
    (place : List ℕ) (n : ℕ)
    → room_of after.shape after.known image free kept place n
    ≡ room_of before.shape before.known image free kept place n
room-met geometry before after same shape image free kept place n =
    ap (λ (s : Shape). room_of s after.known image free kept place n)
    (ap (λ (part : PartNow). part.shape) same ∙ shape)
    ∙ ap (λ (part : PartNow). room_of (catalog_shape geometry) part.known image free kept place n)
    same
    ∙ ap (λ (s : Shape). room_of s before.known image free kept place n) (sym shape)

pub room-stays : (old new : StoreNow) (geometry : Geometry)
    → OnlyMet 0 old.parts new.parts → new ≡ record old { parts = new.parts }
    → shape_among old.parts 0 ≡ Some (catalog_shape geometry) → (image : Image) (place : List ℕ)
    (n : ℕ) (room : Room) → IsRoomAt old image 0 place n room → IsRoomAt new image 0 place n room
room-stays old new geometry only rest laid image place n room is =
    of (part_among old.parts 0) (part_among new.parts 0)
    (among-same but_met (λ part. refl) new.parts old.parts only.parts 0) laid is
  where
    of : (a b : Option PartNow) → option_map but_met b ≡ option_map but_met a
        → option_map (λ (one : PartNow). one.shape) a ≡ Some (catalog_shape geometry)
        → IfSome a (λ (part : PartNow). room ≡ room_of part.shape part.known image
        (free_count old.space) (lengths_kept (images_in old.undo) 0) place n)
        → IfSome b (λ (part : PartNow). room ≡ room_of part.shape part.known image
        (free_count new.space) (lengths_kept (images_in new.undo) 0) place n)
    of a None same there answer = tt
    of None (Some after) same there answer = absurd (none-some (but_met after) (sym same))
    of (Some before) (Some after) same there answer =
        answer
        ∙ sym (ap (λ (s : StoreNow). room_of after.shape after.known image (free_count s.space)
        (lengths_kept (images_in s.undo) 0) place n) rest
        ∙ room-met geometry before after (some-one same)
        (same_Some before.shape (catalog_shape geometry) there) image (free_count old.space)
        (lengths_kept (images_in old.undo) 0) place n)

pub open-stays : (old new : StoreNow) (geometry : Geometry)
    → OnlyMet 0 old.parts new.parts → new ≡ record old { parts = new.parts }
    → shape_among old.parts 0 ≡ Some (catalog_shape geometry) → (image after : Image)
    → after ≡ image → (change : EntryChange) → IsOpenAt old image change → IsOpenAt new after change
open-stays old new geometry only rest laid image after same change was = (
  was.0,
  subst (λ (i : Image). IsRoomAt new i 0 change.place record_length was.0) (sym same)
      (room-stays old new geometry only rest laid image change.place record_length was.0 was.1),
  was.2,
)

-- ---- the one that is added

-- what is known of a change where no record stands
abbrev IsAdded : CatalogEdit → EntryChange → Type 0
IsAdded edit change = change.before ≡ None
    → (entry : CatEntry) × (entry_added edit ≡ Some entry) × (change.place ≡ entry_place entry)

stood : (edit : CatalogEdit) (entry : CatEntry) (to : Option CatEntry)
    → IsAdded edit (store_change (record_changed entry to))
stood edit entry to none = absurd (none-some (spelling entry) (sym none))

all-stood : (edit : CatalogEdit) (gone : List CatEntry)
    → AllByRecursion (IsAdded edit) (map store_change (map record_gone gone))
all-stood edit [] = tt
all-stood edit (entry ∷ gone) = (stood edit entry None, all-stood edit gone)

added-in : (edit : CatalogEdit)
    → AllByRecursion (IsAdded edit) (map store_change (store_order edit))
added-in (Alter entry new) = (stood (Alter entry new) entry (Some new), tt)
added-in (Rename entry new) = (λ none. (new, refl, refl), (stood (Rename entry new) entry None, tt))
added-in (Delete gone) = all-stood (Delete gone) gone
added-in (Add new) = (λ none. (new, refl, refl), tt)

-- a change that has no room is that of the entry that is added
pub one-added : (edit : CatalogEdit) (change : EntryChange)
    → Contains (map store_change (store_order edit)) change → IsAdded edit change
one-added edit change there = All-contains (IsAdded edit) (map store_change (store_order edit))
    change (All-from_recursion (IsAdded edit) (map store_change (store_order edit)) (added-in edit))
    there
