-- What the calls that make several changes of the catalog leave of a volume at rest, in a row: their
-- before-images are logged, the records are set and forced, and the unit ends.
use Rattle.std.proofs.Common.{◌≡◌, ◌≢◌, inl, ℕ, List, [], ◌∷◌, ◌++◌, Option, None, sym, ap, subst, ◌∙◌}
use Rattle.std.specs.Prelude.{All}
use Rattle.std.proofs.lemmas.List.Elements.{All-head, All-weaker}
use Rattle.vr_types.specs.Moments.{Guards}
use Rattle.vr_types.specs.Seen.{Left, Seen}
use Rattle.vr_types.specs.declared.geometry.Geometry.{Geometry}
use Rattle.vr_types.specs.declared.unit.PartNo.{PartNo}
use Rattle.vr_types.specs.declared.unit.Unit.{Unit as UnitOfRecovery}
use Rattle.vr_types.proofs.CallerLemmas.{guards-then, guards-weaken}
use Rattle.vr_space.specs.Known.{Known}
use Rattle.vr_space.specs.Owners.{Owners}
use Rattle.vr_space.specs.Part.{IsSound, Shape, part_no, stage_of}
use Rattle.vr_space.specs.Room.{Lengths}
use Rattle.vr_space.proofs.CallerLemmas.{StaysPart, can-stays}
use Rattle.vr_log.specs.LogNow.{LogNow, with_records}
use Rattle.vr_log.specs.declared.record.EndKind.TheVariants.{Committed}
use Rattle.vr_log.specs.declared.record.LogRecord.{LogRecord}
use Rattle.vr_log.specs.declared.record.LogRecord.TheVariants.{End}
use Rattle.vr_history.specs.State.{BeforeImage, State}
use Rattle.vr_volume.specs.Committed.{committed_by}
use Rattle.vr_volume.specs.EndedLog.{IsEndForced, IsEndedLog}
use Rattle.vr_volume.specs.EntryChanges.{CanChangeEntries, CanSetAll, HaveRoom}
use Rattle.vr_volume.specs.Laid.{shape_by}
use Rattle.vr_volume.specs.Laying.{AreLogged, IsFreeIn, IsLaidSo}
use Rattle.vr_volume.specs.PutBack.{images_of, lengths_kept, oldest}
use Rattle.vr_volume.specs.Rests.{IsPartAtRest, IsVolumeAtRest}
use Rattle.vr_volume.specs.Safe.{IsSafeImage}
use Rattle.vr_volume.specs.declared.setting.EntryChange.{EntryChange}
use Rattle.vr_volume.proofs.Begun.{catalog_no}
use Rattle.vr_volume.proofs.EndCalls.{IsIdle, IsLive, ended-log}
use Rattle.vr_volume.proofs.EntriesIdle.{entries-recover, images-more, laid-entries}
use Rattle.vr_volume.proofs.EntriesLogged.{images, logs, oldest-there}
use Rattle.vr_volume.proofs.EntriesEnded.{Either}
use Rattle.vr_volume.proofs.LogCalls.{image-less}

-- ---- they may still be set once the log was put

stages-stay : (a b : Seen) (shape : Shape) (owners : Owners) (known : Known) (kept : Lengths)
    → StaysPart shape owners a b → IsSound shape owners a → Left a a.cur
    → (changes : List EntryChange)
    → All (λ (change : EntryChange). stage_of shape known a.cur change.place ≡ None) changes
    → All (λ (change : EntryChange). stage_of shape known b.cur change.place ≡ None) changes
stages-stay a b shape owners known kept stays sound left changes none =
    All-weaker (λ (change : EntryChange). stage_of shape known a.cur change.place ≡ None)
    (λ (change : EntryChange). stage_of shape known b.cur change.place ≡ None)
    (λ change is. (can-stays a b shape owners known kept change.place None stays sound left
    (record { no_stage = is; room = tt })).no_stage) changes none

rooms-stay : (a b : Seen) (shape : Shape) (owners : Owners) (known : Known) (kept : Lengths)
    → StaysPart shape owners a b → IsSound shape owners a → Left a a.cur
    → (changes : List EntryChange)
    → All (λ (change : EntryChange). stage_of shape known a.cur change.place ≡ None) changes
    → HaveRoom shape known a.cur kept changes → HaveRoom shape known b.cur kept changes
rooms-stay a b shape owners known kept stays sound left [] none room = tt
rooms-stay a b shape owners known kept stays sound left (change ∷ changes) none room = (
  (can-stays a b shape owners known kept change.place change.bytes stays sound left (record {
    no_stage = All-head (λ (one : EntryChange).
        stage_of shape known a.cur one.place ≡ None) change changes none;
    room = room.0;
  })).room,
  room.1,
)

pub all-can : (a b : Seen) (shape : Shape) (owners : Owners) (known : Known) (kept : Lengths)
    → StaysPart shape owners a b → IsSound shape owners a → Left a a.cur
    → (changes : List EntryChange) → CanSetAll shape known a.cur kept changes
    → CanSetAll shape known b.cur kept changes
all-can a b shape owners known kept stays sound left changes can = record {
  no_stage = stages-stay a b shape owners known kept stays sound left changes can.no_stage;
  room = rooms-stay a b shape owners known kept stays sound left changes can.no_stage can.room;
}

-- ---- the log after the end, by the log before the records

pub changed-log : (log more last after : LogNow) (unit : UnitOfRecovery)
    (records : List LogRecord) → more.geometry ≡ log.geometry → more.generation ≡ log.generation
    → more.records ≡ log.records ++ records → IsEndForced more unit Committed last
    → IsIdle last after → IsLive last after
    → IsEndedLog (with_records log records) unit Committed after
changed-log log more last after unit records geometry generation are end idle live =
    ended-log (with_records log records) last after unit Committed
    (record {
      geometry = end.geometry ∙ geometry;
      generation = end.generation ∙ generation;
      records = end.records
          ∙ ap (λ (those : List LogRecord). those ++ End unit Committed ∷ []) are;
      forced = end.forced;
      sound = end.sound;
    })
    idle live

-- ---- the volume

module _ {geometry : Geometry} {number : ℕ} {owners : Owners} {log : LogNow}
    {given : List BeforeImage} {old : State} {a : Seen} {unit : UnitOfRecovery}
    {changes : List EntryChange} {gone : Option ℕ}
    (rest : IsVolumeAtRest geometry number owners log given old a)
    (can : CanChangeEntries geometry log unit changes gone old)
    {records : List LogRecord} (records-are : records ≡ logs unit changes) where
  -- While they are logged each image recovers to what was committed,
  pub log-moments : (new : State) (b : Seen)
      → Guards a b (IsSafeImage geometry number owners (with_records log records)
      (committed_by old)) → Guards a b (Either geometry number old new)
  log-moments new b guards = guards-weaken a b
      (IsSafeImage geometry number owners (with_records log records) (committed_by old))
      (Either geometry number old new) guards
      (λ image safe. inl (entries-recover rest can image
      (subst (λ (rs : List LogRecord). IsSafeImage geometry number owners (with_records log rs)
      (committed_by old) image) records-are safe)))

  module _ {more : LogNow} (told : AreLogged log records more) (some : changes ≢ []) where
    pub logged-are : AreLogged log (logs unit changes) more
    logged-are = subst (λ (rs : List LogRecord). AreLogged log rs more) records-are told

    -- and so it does while they are set.
    pub set-moments : (new : State) (b d : Seen) → Guards a b (Either geometry number old new)
        → Guards b d (IsSafeImage geometry number owners more (committed_by old))
        → Guards a d (Either geometry number old new)
    set-moments new b d first then = guards-then a b d (Either geometry number old new) first
        (guards-weaken b d (IsSafeImage geometry number owners more (committed_by old))
        (Either geometry number old new) then
        (λ image safe. inl (entries-recover rest can image
        (image-less geometry number owners more (with_records log (logs unit changes))
        (committed_by old) logged-are.less image safe))))

    -- The catalog is laid by each log then, and each place is free.
    pub laid-all : (catalog : Shape) (known : Known) → part_no catalog ≡ catalog_no
        → IsPartAtRest geometry owners given old catalog known a → (kept : Lengths)
        → kept ≡ lengths_kept (images unit changes) 0
        → IsLaidSo geometry more (committed_by old) (part_no catalog).0 catalog kept
    laid-all catalog known is part kept room =
        subst (λ (p : PartNo). IsLaidSo geometry more (committed_by old) p.0 catalog kept) (sym is)
        (laid-entries rest can logged-are some catalog
        (ap (shape_by geometry (old.contents 0)) (sym (ap (λ (p : PartNo). p.0) is)) ∙ part.laid)
        kept room)

    pub free-all : (catalog : Shape) → part_no catalog ≡ catalog_no
        → ((part : ℕ) (place : List ℕ) → oldest (images_of more.records) part place ≢ None
        → IsFreeIn more part place)
        → All (λ (change : EntryChange). IsFreeIn more (part_no catalog).0 change.place) changes
    free-all catalog is free = All-weaker
        (λ (change : EntryChange). oldest (images unit changes) 0 change.place ≢ None)
        (λ (change : EntryChange). IsFreeIn more (part_no catalog).0 change.place)
        (λ change there. subst (λ (p : PartNo). IsFreeIn more p.0 change.place) (sym is)
        (free 0 change.place (λ none. there
        (sym (ap (λ (them : List BeforeImage). oldest them 0 change.place)
        (images-more rest can logged-are some)) ∙ none)))) changes (oldest-there unit changes)
