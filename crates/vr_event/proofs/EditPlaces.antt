-- The places of an edit are met one after another, and the catalog keeps what it met of them: those
-- that were met are met still, what was open there stays so, and nothing else is new.
use Rattle.std.proofs.Common.{◌≡◌, ◌≢◌, ◌∙◌, ◌+◌, ◌<◌, ◌≤◌, ℕ, List, [], Option, Some, None}
use Rattle.std.proofs.Common.{All, ap, arith, length, refl, subst, sym, take}
use Rattle.std.specs.Prelude.{Contains, Err, IfSome, Ok, Result, get_or}
use Rattle.std.proofs.lemmas.List.Elements.{All-more, All-weaker, Contains-get_or}
use Rattle.vr_types.specs.Image.{Image}
use Rattle.vr_types.specs.LogSpace.{log_size}
use Rattle.vr_types.specs.Seen.{Seen}
use Rattle.vr_types.specs.declared.memory.OutOfMemory.{OutOfMemory}
use Rattle.vr_edits.specs.Edits.{entry_place}
use Rattle.vr_edits.specs.declared.edit.CatalogEdit.{CatalogEdit}
use Rattle.vr_log.specs.Live.{used_by}
use Rattle.vr_log.specs.LogNow.{LogNow}
use Rattle.vr_record_file.specs.Now.{FileNow}
use Rattle.vr_space.specs.Known.{HasMet, MeetsPlace}
use Rattle.vr_space.specs.Met.{Met}
use Rattle.vr_space.specs.declared.room.Room.TheVariants.{NoSpace}
use Rattle.vr_volume.specs.declared.setting.EntryChange.{EntryChange}
use Rattle.vr_store.specs.Parts.{HasRoomToMeet, MeetsNext, OnlyMet}
use Rattle.vr_store.specs.Room.{IsRoomAt}
use Rattle.vr_store.specs.Store.{PartNow, StoreNow, part_among}
use Rattle.vr_event.specs.CatalogEdit.{AreUnlocked, LacksRoomWhereEdited, changes_of, log_for_edit}
use Rattle.vr_event.specs.Defining.{HasNoRoomAt, record_length, utility_unit}
use Rattle.vr_event.specs.EditSteps.{AreMetAt, HasMetOnly, HasMetPlace, HasRoomAfter, IsOpenAt}
use Rattle.vr_event.specs.EditSteps.{LacksRoomForOne}
use Rattle.vr_event.specs.Putting.{HasMetAt}
use Rattle.vr_event.specs.Volume.{IsWhole, VolumeNow}
use Rattle.vr_event.specs.declared.edit.Edit.{Edit}
use Rattle.vr_event.proofs.CatalogPart.{catalog-there}
use Rattle.vr_event.proofs.EditAsked.{open-stays, room-stays}

-- ---- what the catalog keeps

pub room-first : (count : ℕ) (parts : List PartNow) → HasRoomToMeet 0 count parts
    → HasRoomAfter 0 count parts
room-first count parts = of (part_among parts 0)
  where
    of : (found : Option PartNow)
        → IfSome found (λ (part : PartNow). (part.known.met ≡ []) × (count ≤ part.known.most))
        → IfSome found (λ (part : PartNow).
        (length part.known.met ≤ 0) × (count ≤ part.known.most))
    of None room = tt
    of (Some part) room =
        (omega (arith, ap (λ (met : List Met). length met) room.0), room.1)

module _ (old new : List PartNow) (place : List ℕ) (next : MeetsNext 0 place old new)
    (there : part_among old 0 ≢ None) (met count : ℕ) (room : HasRoomAfter met count old) where
  pub room-next : HasRoomAfter (met + 1) count new
  room-next = of (part_among old 0) (part_among new 0) there next room
    where
      of : (a b : Option PartNow) → a ≢ None
          → IfSome a (λ (before : PartNow). IfSome b (λ (after : PartNow).
          MeetsPlace place before.known after.known))
          → IfSome a (λ (part : PartNow).
          (length part.known.met ≤ met) × (count ≤ part.known.most))
          → IfSome b (λ (part : PartNow).
          (length part.known.met ≤ met + 1) × (count ≤ part.known.most))
      of None b some next room = absurd (some refl)
      of (Some before) None some next room = tt
      of (Some before) (Some after) some next room =
          (omega (arith, next.many, room.0), omega (arith, next.most, room.1))

  pub met-here : HasMetAt new 0 place
  met-here = of (part_among old 0) (part_among new 0) there next
    where
      of : (a b : Option PartNow) → a ≢ None
          → IfSome a (λ (before : PartNow). IfSome b (λ (after : PartNow).
          MeetsPlace place before.known after.known))
          → IfSome b (λ (part : PartNow). HasMet part.known place)
      of None b some next = absurd (some refl)
      of (Some before) None some next = tt
      of (Some before) (Some after) some next = next.here

  pub met-still : met < count → (other : List ℕ) → HasMetAt old 0 other → HasMetAt new 0 other
  met-still few other = of (part_among old 0) (part_among new 0) there next room
    where
      of : (a b : Option PartNow) → a ≢ None
          → IfSome a (λ (before : PartNow). IfSome b (λ (after : PartNow).
          MeetsPlace place before.known after.known))
          → IfSome a (λ (part : PartNow).
          (length part.known.met ≤ met) × (count ≤ part.known.most))
          → IfSome a (λ (part : PartNow). HasMet part.known other)
          → IfSome b (λ (part : PartNow). HasMet part.known other)
      of None b some next room has = absurd (some refl)
      of (Some before) None some next room has = tt
      of (Some before) (Some after) some next room has =
          next.kept (omega (arith, room.0, room.1)) other has

-- ---- one more is met, and open

-- the catalog is there
pub there : {B : Type 0} (seen : B → Seen) (volume : VolumeNow B) → IsWhole seen volume
    → volume.file.stopped ≡ None → part_among volume.store.parts 0 ≢ None
there seen volume whole going =
    catalog-there volume.store.parts volume.file.geometry (whole.laid going 0)

module _ {B : Type 0} (seen : B → Seen) (changes : List EntryChange) (i : ℕ)
    (change : EntryChange) (below : i < length changes) (is : change ≡ get_or changes i change)
    (mid new : VolumeNow B) (whole : IsWhole seen mid) (going : mid.file.stopped ≡ None)
    (next : HasMetPlace seen change.place mid new) where
  -- what holds of this one and of those before it
  one-more : (P : EntryChange → Type 0) → All P (take i changes) → P change
      → All P (take (i + 1) changes)
  one-more P were here = All-more P changes i change below were (subst P is here)

  pub met-more : HasRoomAfter i (length changes) mid.store.parts
      → AreMetAt mid.store.parts (take i changes) → AreMetAt new.store.parts (take (i + 1) changes)
  met-more room were = one-more (λ (one : EntryChange). HasMetAt new.store.parts 0 one.place)
      (All-weaker (λ (one : EntryChange). HasMetAt mid.store.parts 0 one.place)
      (λ (one : EntryChange). HasMetAt new.store.parts 0 one.place)
      (λ one. met-still mid.store.parts new.store.parts change.place next.next
      (there seen mid whole going) i (length changes) room below one.place) (take i changes) were)
      (met-here mid.store.parts new.store.parts change.place next.next
      (there seen mid whole going) i (length changes) room)

  pub room-more : HasRoomAfter i (length changes) mid.store.parts
      → HasRoomAfter (i + 1) (length changes) new.store.parts
  room-more room = room-next mid.store.parts new.store.parts change.place next.next
      (there seen mid whole going) i (length changes) room

  pub open-more : (image after : Image) → after ≡ image
      → All (IsOpenAt mid.store image) (take i changes) → IsOpenAt new.store after change
      → All (IsOpenAt new.store after) (take (i + 1) changes)
  open-more image after same were here = one-more (IsOpenAt new.store after)
      (All-weaker (IsOpenAt mid.store image) (IsOpenAt new.store after)
      (λ one. open-stays mid.store new.store mid.file.geometry next.only next.rest
      (whole.laid going 0) image after same one) (take i changes) were) here

-- ---- nothing else is new

module _ {B : Type 0} (seen : B → Seen) (old mid new : VolumeNow B) where
  pub only-more : (place : List ℕ) → HasMetOnly seen old mid → HasMetPlace seen place mid new
      → HasMetOnly seen old new
  only-more place one next = record {
    file = next.file ∙ one.file;
    only = record {
      parts = next.only.parts ∙ one.only.parts;
      others = λ other apart. next.only.others other apart ∙ one.only.others other apart;
    };
    rest = next.rest ∙ ap (λ (s : StoreNow). record s { parts = new.store.parts }) one.rest;
  }

-- what there is no room for once places were met there was none for before
module _ {B : Type 0} (seen : B → Seen) (old mid : VolumeNow B) (whole : IsWhole seen mid)
    (going : mid.file.stopped ≡ None) (one : HasMetOnly seen old mid) where
  only-back : OnlyMet 0 mid.store.parts old.store.parts
  only-back = record {
    parts = sym one.only.parts;
    others = λ other apart. sym (one.only.others other apart);
  }

  pub lacks-before : (image after : Image) → after ≡ image → (place : List ℕ)
      → HasNoRoomAt mid.store after place → HasNoRoomAt old.store image place
  lacks-before image after same place lacks = (
    lacks.0,
    lacks.1,
    room-stays mid.store old.store mid.file.geometry only-back
        (sym (ap (λ (s : StoreNow). record s { parts = old.store.parts }) one.rest))
        (whole.laid going 0) image place record_length (NoSpace lacks.0 lacks.1)
        (subst (λ (i : Image). IsRoomAt mid.store i 0 place record_length
        (NoSpace lacks.0 lacks.1)) same lacks.2),
  )

  pub lacks-one : (changes : List EntryChange) (i : ℕ) (change : EntryChange)
      → i < length changes → change ≡ get_or changes i change → (image after : Image)
      → after ≡ image → (change.before ≡ None) × HasNoRoomAt mid.store after change.place
      → LacksRoomForOne changes old.store image
  lacks-one changes i change below is image after same lacks = (
    change,
    subst (Contains changes) (sym is) (Contains-get_or changes i change below),
    lacks.0,
    lacks-before image after same change.place lacks.1,
  )

  pub lacks-where : (seen mid.blocks).cur ≡ (seen old.blocks).cur → (edit : CatalogEdit)
      → (result : Result Edit OutOfMemory) → LacksRoomWhereEdited seen edit result mid
      → LacksRoomWhereEdited seen edit result old
  lacks-where same edit (Ok answer) lacks = λ is.
      let there = lacks is in
      record {
        entry = there.entry;
        is = there.is;
        no_room = lacks-before (seen old.blocks).cur (seen mid.blocks).cur same
            (entry_place there.entry) there.no_room;
        unlocked = subst (λ (f : FileNow). AreUnlocked f (utility_unit f) (changes_of edit))
            one.file there.unlocked;
        log = subst (λ (l : LogNow). used_by l.records + log_for_edit edit
            ≤ log_size old.file.geometry) (ap (λ (s : StoreNow). s.log) one.rest)
            (subst (λ (f : FileNow). used_by mid.store.log.records + log_for_edit edit
            ≤ log_size f.geometry) one.file there.log);
      }
  lacks-where same edit (Err why) lacks = lacks
