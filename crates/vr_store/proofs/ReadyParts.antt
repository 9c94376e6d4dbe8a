-- What holds of a part of a store before a change that was prepared is made in it.
use Rattle.std.proofs.Common.{◌≡◌, ◌≤◌, inl, ℕ, Bool, true, false, cond, List, []}
use Rattle.std.proofs.Common.{◌∷◌, ◌++◌, ◌+◌, Option, Some, None, refl, sym, ap, subst, ◌∙◌, arith}
use Rattle.std.proofs.Common.{length}
use Rattle.std.specs.Option.{option_and_then, option_map}
use Rattle.std.proofs.lemmas.List.{length-append, take_all}
use Rattle.vr_types.specs.Content.{Content, Item, item_at}
use Rattle.vr_types.specs.Seen.{Left, Seen}
use Rattle.vr_types.specs.declared.geometry.Geometry.{Geometry}
use Rattle.vr_types.specs.declared.unit.PartNo.{PartNo}
use Rattle.vr_types.specs.declared.unit.Unit.{Unit as UnitOfRecovery}
use Rattle.vr_space.specs.Known.{Known}
use Rattle.vr_space.specs.Owners.{Owners}
use Rattle.vr_space.specs.Part.{HasKeptRoom, IsFirm, IsPlaceOf, Shape, left_by, part_no}
use Rattle.vr_space.specs.Room.{Lengths}
use Rattle.vr_history.specs.Effects.{image_kept, with_change}
use Rattle.vr_history.specs.State.{BeforeImage, State, is_kept, is_logged}
use Rattle.vr_log.specs.LogNow.{LogNow, first_of, with_record}
use Rattle.vr_log.specs.declared.record.LogRecord.{LogRecord}
use Rattle.vr_log.specs.declared.record.LogRecord.TheVariants as records
use Rattle.vr_undo.specs.Records.{before_of, images_in}
use Rattle.vr_undo.proofs.Recording.{images-made}
use Rattle.vr_volume.specs.Committed.{committed_by}
use Rattle.vr_volume.specs.Laid.{shape_by}
use Rattle.vr_volume.specs.PutBack.{lengths_kept, oldest}
use Rattle.vr_volume.specs.Rests.{IsGivenFor, IsPartAtRest}
use Rattle.vr_volume.specs.Safe.{IsSafe, IsSafeBy}
use Rattle.vr_volume.specs.Steps.{Changing, IsChangeOf, image_by}
use Rattle.vr_volume.proofs.Befores.{safe-more}
use Rattle.vr_volume.proofs.Rested.{laid-by-more}
use Rattle.vr_store.specs.Change.{IsMadeOf, IsReadyBy, IsToSet, has_kept, has_logged, need_with}
use Rattle.vr_store.specs.Store.{IsRestedPart, IsSet, PartNow, StoreNow, left_among, owners_of}
use Rattle.vr_store.specs.Store.{part_among}
use Rattle.vr_store.specs.declared.prepared.Prepared.{Prepared}
use Rattle.vr_store.proofs.Among.{among-all}
use Rattle.vr_store.proofs.Recorded.{number-at}
use Rattle.vr_store.proofs.SetRecords.{first-here, images-more, lengths-same, step-first}
use Rattle.vr_store.proofs.Steps.{change-by, images, step-made}

-- by all records of a log
all-safe : (geometry : Geometry) (number : ℕ) (owners : Owners) (log : LogNow)
    (committed : List LogRecord → ℕ → Content) (a : Seen) → log.forced ≤ length log.records
    → IsSafe geometry number owners log committed a
    → IsSafeBy geometry owners log.records (committed log.records) a
all-safe geometry number owners log committed a forced safe =
    subst (λ (rs : List LogRecord). IsSafeBy geometry owners rs (committed rs) a)
    (take_all (length log.records) log.records (omega arith))
    (safe.by_log (first_of log (length log.records)) (inl (record {
      count = length log.records;
      forced = forced;
      all = omega arith;
      is = refl;
    })))

-- ---- room for what is kept, and what a place may hold

module _ (geometry : Geometry) (number : ℕ) (owners : Owners) (log : LogNow)
    (images after : List BeforeImage) (old new : State) (change : Changing) (prepared : Prepared)
    (shape : Shape) (known : Known) (place : List ℕ) (found : Option (List ℕ)) (a : Seen)
    (to : IsToSet geometry number owners log images after old new change prepared shape known place
    found a) (left : Left a a.cur) (at : IsPlaceOf shape place) where
  room-first : prepared.logged ≡ false
      → HasKeptRoom shape (lengths_kept after (part_no shape).0) a
  room-first logged =
      let rec : LogRecord = records.Before change.unit (part_no shape) place change.old in
      let step = step-first geometry number owners log images after old new change prepared shape
      known place found a to logged in
      let more = images-more geometry number owners log images after old new change prepared shape
      known place found a to logged in
      let first = first-here geometry number owners log images after old new change prepared shape
      known place found a to logged at in
      let laid = laid-by-more geometry number owners log images after old new change a shape known
      place found to.volume to.part to.of step to.given more in
      let by = all-safe geometry number owners (with_record log rec) (committed_by old) a
      (omega (arith, first.forced, length-append log.records (rec ∷ [])))
      (safe-more geometry number owners log (committed_by old) a change.unit (part_no shape) place
      change.old to.volume.safe left first) in
      subst (λ (lengths : Lengths). HasKeptRoom shape lengths a) (sym laid.kept_is)
      (by.parts (part_no shape).0 shape laid.laid).room

  pub room-to : HasKeptRoom shape (lengths_kept after (part_no shape).0) a
  room-to = by_logged prepared.logged refl
    where
      by_logged : (there : Bool) → prepared.logged ≡ there
          → HasKeptRoom shape (lengths_kept after (part_no shape).0) a
      by_logged true logged = subst (λ (lengths : Lengths). HasKeptRoom shape lengths a)
          (sym (lengths-same geometry number owners log images after old new change prepared shape
          known place found a to logged)) to.part.room
      by_logged false logged = room-first logged

  -- a place that no unit has logged has what stands there, whatever a crash leaves
  pub firm-to : oldest images (part_no shape).0 place ≡ None → IsFirm shape a place
  firm-to none item holds = to.part.firm place item none holds ∙ sym (to.part.reads place)

-- ---- what is to be set

no-same : (one other : PartNo) → one.0 ≡ other.0 → one ≡ other
no-same one other same = ap no-of same
  where
    no-of : ℕ → PartNo
    no-of n = record { 0 = n }

module _ (number : ℕ) (store : StoreNow) (unit : UnitOfRecovery) (part : PartNo) (place : List ℕ)
    (prepared : Prepared) (was : Option (List ℕ)) (old : State) (a : Seen)
    (ready : IsReadyBy number store unit part place prepared was old a) (before : PartNow)
    (found : part_among store.parts part.0 ≡ Some before) (set : IsSet store a)
    (at : IsPlaceOf before.shape place) (item : Option (List ℕ)) where
  abbrev pub new-item : Option Item
  new-item = left_by before.shape (item_at (old.contents part.0) place) item

  -- which is what the store says of the part of that number
  pub left-item : left_among store.parts part.0 old place item ≡ new-item
  left-item = ap (λ (one : Option PartNow). option_and_then
      (λ (shape : Shape). left_by shape (item_at (old.contents part.0) place) item)
      (option_map (λ (part : PartNow). part.shape) one)) found

  abbrev pub change : Changing
  change = change-by number store unit part place prepared was old a ready new-item

  abbrev pub kept : List BeforeImage
  kept = images number store unit part place prepared was old a ready

  pub rested : IsPartAtRest store.log.geometry (owners_of store) kept old before.shape before.known
      a
  rested = among-all (IsRestedPart (record store { undo = ready.kept.old }) old a) store.parts
      part.0 before ready.kept.stored.parts found

  pub numbered : (part_no before.shape).0 ≡ part.0
  numbered = number-at store a set part.0 before found

  of : IsChangeOf store.log.geometry old change
  of = record {
    current = ready.current;
    not_catalog = ready.not_catalog;
    shape = before.shape;
    laid = subst (λ (n : ℕ). shape_by store.log.geometry (old.contents 0) n ≡ Some before.shape)
        numbered rested.laid;
    place = at;
  }

  given : IsGivenFor old change before.shape place item
  given = record {
    part = no-same (part_no before.shape) part numbered;
    place_is = refl;
    item = refl;
  }

  pub undo-images : images_in store.undo
      ≡ cond prepared.logged kept (kept ++ image_by change ∷ [])
  undo-images =
      let one = before_of part place was in
      ap images_in ready.kept.kept
      ∙ images-made unit one (has_logged unit one ready.kept.old)
      (has_kept unit one ready.kept.old) ready.kept.old
      ∙ ap (λ (b : Bool). cond b kept (kept ++ image_by change ∷ []))
      (sym ready.prepared_is.logged)

  pub to-set : (need : ℕ) (after : State) → IsMadeOf unit part place new-item need old after
      → need ≡ need_with prepared.logged store.log prepared.rec
      → IsToSet store.log.geometry number (owners_of store) store.log kept (images_in store.undo)
      old after change prepared before.shape before.known place item a
  to-set need after made needs = record {
    volume = ready.kept.stored.volume;
    part = rested;
    of = of;
    step = step-made number store unit part place prepared was old a ready new-item need after made
        needs;
    rec = ready.prepared_is.rec;
    given = given;
    kept = undo-images;
  }

  -- there is a state that it makes
  abbrev pub made-state : State
  made-state = record old {
    contents = with_change (record { part = part.0; place = place; new = new-item }) old.contents;
    befores = cond (is_kept old unit part.0 place) old.befores (old.befores
        ++ image_kept old unit (record { part = part.0; place = place; new = new-item }) ∷ []);
    logged = old.logged ++ cond (is_logged old unit part.0 place) []
        (record { unit = unit; part = part.0; place = place } ∷ []);
    used = old.used + need_with prepared.logged store.log prepared.rec;
  }

  pub to-any : IsToSet store.log.geometry number (owners_of store) store.log kept
      (images_in store.undo) old made-state change prepared before.shape before.known place item a
  to-any = to-set (need_with prepared.logged store.log prepared.rec) made-state
      (record { contents = refl; befores = refl; logged = refl; used = refl; numbers = refl }) refl
