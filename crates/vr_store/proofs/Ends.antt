-- What the calls that end a unit leave of a store.
use Rattle.std.proofs.Common.{◌≡◌, ◌<◌, ℕ, Bool, true, false, not, IsTrue, List, [], ◌∷◌, Some}
use Rattle.std.proofs.Common.{refl, sym, ap, subst, ◌∙◌, arith, filter}
use Rattle.std.specs.Prelude.{All}
use Rattle.std.proofs.lemmas.Bool.{true≢false}
use Rattle.std.proofs.lemmas.List.Elements.{All-weaker}
use Rattle.vr_types.specs.Blocks.{Keeps}
use Rattle.vr_types.specs.Content.{Content, item_at}
use Rattle.vr_types.specs.Geometry.{IsAllowed, area_count}
use Rattle.vr_types.specs.Image.{Image}
use Rattle.vr_types.specs.Locks.{same_unit}
use Rattle.vr_types.specs.Regions.{Touches}
use Rattle.vr_types.specs.Seen.{Left, Seen}
use Rattle.vr_types.specs.declared.geometry.Geometry.{Geometry}
use Rattle.vr_types.specs.declared.unit.Unit.{Unit as UnitOfRecovery}
use Rattle.vr_space.specs.Known.{Known}
use Rattle.vr_space.specs.Owners.{Owners}
use Rattle.vr_space.specs.Part.{IsDueTo, IsSound, Shape, item_of}
use Rattle.vr_space.proofs.CallerLemmas.{StaysPart}
use Rattle.vr_attach.specs.Owning.{owner_of}
use Rattle.vr_attach.proofs.CallerLemmas.{owner-past-log}
use Rattle.vr_log.specs.Live.{live_in}
use Rattle.vr_log.specs.LogNow.{IsOf, LogNow}
use Rattle.vr_log.specs.Standing.{InLog}
use Rattle.vr_log.specs.declared.record.EndKind.{EndKind}
use Rattle.vr_history.specs.Effects.{is_other}
use Rattle.vr_history.specs.State.{BeforeImage, Logged, State}
use Rattle.vr_history.proofs.Same.{unit_same}
use Rattle.vr_undo.specs.Records.{befores_of, images_in, logged_of}
use Rattle.vr_undo.specs.declared.record.KeptRecord.{KeptRecord}
use Rattle.vr_volume.specs.Committed.{IsFirmFor}
use Rattle.vr_volume.specs.Due.{AreRead, IsDueFor}
use Rattle.vr_volume.specs.Ended.{ended}
use Rattle.vr_volume.specs.EndedLog.{IsEndedLog}
use Rattle.vr_volume.specs.Laid.{shape_by}
use Rattle.vr_volume.specs.PutBack.{images_of, is_image_of, oldest}
use Rattle.vr_volume.specs.Rests.{IsPartAtRest, IsVolumeAtRest}
use Rattle.vr_volume.specs.Steps.{IsEndedIn}
use Rattle.vr_volume.proofs.Calls.{stays-part}
use Rattle.vr_volume.proofs.ForceCalls.{due-kept, firm-for}
use Rattle.vr_volume.proofs.Meeting.{filter-alone, find-passes}
use Rattle.vr_space.proofs.CallerLemmas.{due-stays}
use Rattle.vr_store.specs.Store.{ChangedBy, IsFitImage, IsRestedPart, IsSet, IsStored}
use Rattle.vr_store.specs.Store.{StoreNow, blocks_of, owners_of}
use Rattle.vr_store.proofs.Among.{HasShape, among-all, among-shape}
use Rattle.vr_store.proofs.PutNothing.{set-still, stored-keeps, stored-sound}
use Rattle.vr_store.proofs.Recorded.{number-at}

some-empty : {X : Type 0} (x : X) (xs : List X) → x ∷ xs ≡ [] → ⊥
some-empty x xs is = cc

-- ---- some of its blocks are forced

module _ (tells : Bool) (told : IsTrue tells) (a b : Seen) (call : Keeps tells a b)
    (store : StoreNow) (unit : UnitOfRecovery) (changed : List ChangedBy)
    (others : (other : UnitOfRecovery) → same_unit other unit ≡ false
    → blocks_of other changed ≡ blocks_of other store.changed)
    (due : (shape : Shape) (owners : Owners) (place : List ℕ) → IsSound shape owners a
    → IsDueTo shape (blocks_of unit store.changed) a place
    → IsDueTo shape (blocks_of unit changed) b place) where
  -- what was due to the blocks of each unit is due to those that it has then
  due-of : (other : UnitOfRecovery) (shape : Shape) (place : List ℕ)
      → IsSound shape (owners_of store) a
      → IsDueTo shape (blocks_of other store.changed) a place
      → IsDueTo shape (blocks_of other changed) b place
  due-of other shape place sound had = by_test (same_unit other unit) refl
    where
      by_test : (test : Bool) → same_unit other unit ≡ test
          → IsDueTo shape (blocks_of other changed) b place
      by_test true is =
          let same : other ≡ unit = unit_same other unit is in
          subst (λ (u : UnitOfRecovery). IsDueTo shape (blocks_of u changed) b place) (sym same)
          (due shape (owners_of store) place sound
          (subst (λ (u : UnitOfRecovery). IsDueTo shape (blocks_of u store.changed) a place) same
          had))
      by_test false is =
          subst (λ (listed : List ℕ). IsDueTo shape listed b place) (sym (others other is))
          (due-kept tells told a b call shape (owners_of store) (blocks_of other store.changed)
          place sound had)

  pub stored-forced : (volume : ℕ) (state : State) → Left a a.cur
      → IsStored volume store state a
      → IsStored volume (record store { changed = changed }) state b
  stored-forced volume state left stored =
      let kept : IsStored volume store state b =
      stored-keeps tells told a b call volume store state left stored in
      record {
        volume = kept.volume;
        parts = kept.parts;
        whole = kept.whole;
        befores = kept.befores;
        logged = kept.logged;
        due = λ other part place image shape found is laid. due-of other shape place
            (stored-sound volume store state a stored part shape laid)
            (stored.due other part place image shape found is laid);
      }

-- ---- it ends

module _ (store : StoreNow) (a : Seen) (set : IsSet store a) (volume : ℕ) (old : State)
    (stored : IsStored volume store old a) (unit : UnitOfRecovery) where
  -- each part that is laid reads as the state has it
  are-read : AreRead store.log.geometry (owners_of store) old a
  are-read part shape laid = (stored-sound volume store old a stored part shape laid, reads)
    where
      has : HasShape store.parts part shape
      has = among-shape store.parts part shape (stored.whole part shape laid)

      rested : IsRestedPart store old a has.part
      rested = among-all (IsRestedPart store old a) store.parts part has.part stored.parts has.found

      reads : (place : List ℕ)
          → item_of shape a.cur place ≡ item_at (old.contents part) place
      reads place = subst (λ (s : Shape). item_of s a.cur place
          ≡ item_at (old.contents part) place) has.is
          (rested.reads place ∙ ap (λ (n : ℕ). item_at (old.contents n) place)
          (number-at store a set part has.part has.found))

  -- Once none of its blocks is left, a crash leaves what stands at its places.
  pub firm : blocks_of unit store.changed ≡ [] → IsFirmFor store.log.geometry store.log old unit a
  firm none = firm-for store.log.geometry (owners_of store) store.log old unit a
      (subst (λ (listed : List ℕ). IsDueFor store.log.geometry store.log old unit listed a) none
      (stored.due unit)) are-read

  module _ (log : LogNow) (undo : List KeptRecord) (changed : List ChangedBy) (kind : EndKind)
      (new : State) (b : Seen) (Q : Image → Type 0) (left : Left a a.cur)
      (call : Touches (InLog store.log.geometry) Q a b)
      (ended : IsEndedLog store.log unit kind log)
      (images : images_in undo
      ≡ filter (λ (image : BeforeImage). is_other unit image.unit) (images_in store.undo))
      (befores : befores_of undo
      ≡ filter (λ (image : BeforeImage). is_other unit image.unit) (befores_of store.undo))
      (logged : logged_of undo
      ≡ filter (λ (logged : Logged). is_other unit logged.unit) (logged_of store.undo))
      (others : (other : UnitOfRecovery) → same_unit other unit ≡ false
      → blocks_of other changed ≡ blocks_of other store.changed)
      (made : IsEndedIn unit old new)
      (rests : IsVolumeAtRest store.log.geometry volume (owners_of store) log (images_in undo) new
      b) (parts : (shape : Shape) (known : Known)
      → IsPartAtRest store.log.geometry (owners_of store) (images_in store.undo) old shape known a
      → IsPartAtRest store.log.geometry (owners_of store) (images_in undo) new shape known b) where
    laid-old : (part : ℕ) (shape : Shape)
        → shape_by log.geometry (new.contents 0) part ≡ Some shape
        → shape_by store.log.geometry (old.contents 0) part ≡ Some shape
    laid-old part shape laid =
        sym (ap (λ (g : Geometry). shape_by g (new.contents 0) part) ended.geometry
        ∙ ap (λ (catalog : Content). shape_by store.log.geometry catalog part) (made.contents 0))
        ∙ laid

    -- the images that the log has then
    images-left : images_of log.records
        ≡ filter (λ (image : BeforeImage). is_other unit image.unit) (images_of store.log.records)
    images-left = sym rests.kept ∙ images
        ∙ ap (filter (λ (image : BeforeImage). is_other unit image.unit)) stored.volume.kept

    -- a part is past the log, which alone is touched
    stays : (shape : Shape) → StaysPart shape (owners_of store) a b
    stays shape = stays-part store.log.geometry shape (owners_of store) Q a b
        (owner-past-log store.log.geometry store.space) call

    -- an image that the log has then is another unit's, and it had it before
    image-old : (part : ℕ) (place : List ℕ) (image : BeforeImage)
        → oldest (images_of log.records) part place ≡ Some image
        → (oldest (images_of store.log.records) part place ≡ Some image)
        × (is_other unit image.unit ≡ true)
    image-old part place image found =
        let among : oldest (filter (λ (image : BeforeImage). is_other unit image.unit)
        (images_of store.log.records)) part place ≡ Some image =
        sym (ap (λ (kept : List BeforeImage). oldest kept part place) images-left) ∙ found in (
          filter-alone (λ (image : BeforeImage). is_other unit image.unit) part place
              (images_of store.log.records) image stored.volume.logged.alone among,
          find-passes (is_image_of part place)
              (λ (image : BeforeImage). is_other unit image.unit) (images_of store.log.records)
              image among,
        )

    due-ended : (other : UnitOfRecovery)
        → IsDueFor log.geometry log new other (blocks_of other changed) b
    due-ended other part place image shape found is laid = by_test (same_unit other unit) refl
      where
        had : (oldest (images_of store.log.records) part place ≡ Some image)
            × (is_other unit image.unit ≡ true)
        had = image-old part place image found

        by_test : (test : Bool) → same_unit other unit ≡ test
            → IsDueTo shape (blocks_of other changed) b place
        by_test true same =
            absurd (true≢false (sym had.1
            ∙ ap not (ap (λ (u : UnitOfRecovery). same_unit u image.unit)
            (sym (unit_same other unit same)) ∙ is)))
        by_test false apart =
            let laid-before = laid-old part shape laid in
            subst (λ (listed : List ℕ). IsDueTo shape listed b place) (sym (others other apart))
            (due-stays shape (owners_of store) a b (stays shape)
            (stored-sound volume store old a stored part shape laid-before) left
            (blocks_of other store.changed) place
            (stored.due other part place image shape had.0 is laid-before)
            (λ n there. absurd (omega (arith, there.1))))

    -- The store is then that of the state in which the unit has ended.
    pub stored-ended : IsStored volume
        (record store { log = log; undo = undo; changed = changed }) new b
    stored-ended = record {
      volume = subst (λ (g : Geometry). IsVolumeAtRest g volume (owner_of g store.space) log
          (images_in undo) new b) (sym ended.geometry) rests;
      parts = All-weaker (IsRestedPart store old a)
          (IsRestedPart (record store { log = log; undo = undo; changed = changed }) new b)
          (λ part rested. subst
          (λ (g : Geometry).
          IsPartAtRest g (owner_of g store.space) (images_in undo) new part.shape part.known b)
          (sym ended.geometry) (parts part.shape part.known rested))
          store.parts stored.parts;
      whole = λ part shape laid. stored.whole part shape (laid-old part shape laid);
      befores = befores
          ∙ ap (filter (λ (image : BeforeImage). is_other unit image.unit)) stored.befores
          ∙ sym made.befores;
      logged = logged ∙ ap (filter (λ (logged : Logged). is_other unit logged.unit)) stored.logged
          ∙ sym made.logged;
      due = due-ended;
    }

-- Once no unit is live the log has begun again.
pub idle-ended : (old new : LogNow) (unit : UnitOfRecovery) (kind : EndKind)
    → IsEndedLog old unit kind new → live_in new.records ≡ [] → new.records ≡ []
idle-ended old new unit kind is none = by_live (live_in (ended old unit kind)) refl
  where
    by_live : (live : List UnitOfRecovery) → live_in (ended old unit kind) ≡ live
        → new.records ≡ []
    by_live [] here = (is.begun here).0
    by_live (one ∷ live) here =
        let on = is.on (λ empty. some-empty one live (sym here ∙ empty)) in
        absurd (some-empty one live (sym here ∙ sym (ap live_in on.0) ∙ none))

-- It is set, by a log of the same geometry.
pub set-ended : (store : StoreNow) (a b : Seen) (log : LogNow) (undo : List KeptRecord)
    (changed : List ChangedBy) → IsSet store a
    → (live_in log.records ≡ [] → log.records ≡ [])
    → All (IsFitImage store.parts) (befores_of undo) → log.geometry ≡ store.log.geometry
    → log.broken ≡ false → IsOf log.geometry b
    → ((count : ℕ) → All (λ (by : ChangedBy). All (λ n. n < count) by.blocks) store.changed
    → All (λ (by : ChangedBy). All (λ n. n < count) by.blocks) changed)
    → IsSet (record store { log = log; undo = undo; changed = changed }) b
set-ended store a b log undo changed set idle kept same sound shape each =
    let still : IsSet store b = set-still store a b
    (shape.count ∙ ap (λ (g : Geometry). g.blocks) same ∙ sym set.blocks.count)
    (shape.size ∙ ap (λ (g : Geometry). g.size) same ∙ sym set.blocks.size) set in
    record {
      allowed = subst IsAllowed (sym same) still.allowed;
      blocks = shape;
      sound = sound;
      parts = still.parts;
      apart = still.apart;
      changed = each b.count still.changed;
      idle = idle;
      kept = kept;
      areas = still.areas ∙ ap area_count (sym same);
      owns = still.owns;
    }
