-- A before-image that is put back.
use Rattle.std.proofs.Common.{◌≡◌, ◌≢◌, ◌⊎◌, inl, inr, ◌==◌, ℕ, Bool, true, false, List, []}
use Rattle.std.proofs.Common.{Option, Some, None, refl, sym, ap, subst, ◌∙◌, arith, map}
use Rattle.std.specs.Prelude.{All}
use Rattle.std.specs.List.{Contains}
use Rattle.std.proofs.lemmas.Bool.{true≢false}
use Rattle.std.proofs.lemmas.Bool.Decides.{Decides-eqb}
use Rattle.std.proofs.lemmas.List.Elements.{All-nil}
use Rattle.std.specs.Option.{option_and_then, option_map}
use Rattle.vr_types.specs.Content.{Content, Item, item_at}
use Rattle.vr_types.specs.Locks.{same_unit}
use Rattle.vr_types.specs.Seen.{Seen}
use Rattle.vr_types.specs.declared.geometry.Geometry.{Geometry}
use Rattle.vr_types.specs.declared.unit.PartNo.{PartNo}
use Rattle.vr_types.specs.declared.unit.Unit.{Unit as UnitOfRecovery}
use Rattle.vr_space.specs.Known.{Known}
use Rattle.vr_space.specs.Owners.{Owners}
use Rattle.vr_space.specs.Part.{IsDueTo, Shape, left_by, part_no}
use Rattle.vr_log.specs.LogNow.{LogNow}
use Rattle.vr_history.specs.Effects.{without_last}
use Rattle.vr_history.specs.State.{BeforeImage, State}
use Rattle.vr_history.proofs.Same.{unit_same}
use Rattle.vr_undo.specs.Records.{befores_of, images_in, logged_of, place_of}
use Rattle.vr_undo.specs.declared.record.KeptRecord.{KeptRecord}
use Rattle.vr_volume.specs.Laid.{shape_by}
use Rattle.vr_volume.specs.PutBack.{images_of, oldest}
use Rattle.vr_volume.specs.Rests.{IsPartAtRest, IsVolumeAtRest}
use Rattle.vr_volume.specs.Steps.{Changing, IsChangeOf, IsPutBack}
use Rattle.vr_volume.proofs.Moving.{catalog-stays}
use Rattle.vr_volume.proofs.Rested.{place-some}
use Rattle.vr_volume.proofs.Undoing.{log-here, put-some}
use Rattle.vr_store.specs.Change.{IsSetIn}
use Rattle.vr_store.specs.PutBack.{IsTakenFrom, IsToBack, back_at}
use Rattle.vr_store.specs.Parts.{but_split}
use Rattle.vr_store.specs.Store.{ChangedBy, IsFitImage, IsPartSet, IsRestedPart, IsSet, IsStored}
use Rattle.vr_store.specs.Store.{PartNow, StoreNow, blocks_of, left_among, owners_of, part_among}
use Rattle.vr_store.proofs.Among.{HasShape, among-all, among-shape}
use Rattle.vr_store.proofs.PutNothing.{stored-sound}
use Rattle.vr_store.proofs.PartsAt.{IsPartAt}
use Rattle.vr_store.proofs.PlacedParts.{all-with, map-with, shapes-same}
use Rattle.vr_store.proofs.Recorded.{number-at, part-number-at}
use Rattle.vr_store.proofs.StoredAfter.{due-longer}
use Rattle.vr_store.proofs.Worked.{all-both}

-- The log has an image of its place.
pub place-back : (geometry : Geometry) (number : ℕ) (owners : Owners) (log : LogNow)
    (images : List BeforeImage) (old new : State) (change : Changing) (shape : Shape)
    (known : Known) (place : List ℕ) (found : Option (List ℕ)) (now : Seen)
    → IsToBack geometry number owners log images old new change shape known place found now
    → oldest images (part_no shape).0 place ≢ None
place-back geometry number owners log images old new change shape known place found now to =
    place-some geometry number owners log images old now to.volume change shape place found to.given
    (put-some geometry log old new change to.volume.laid to.volume.logged to.of to.step)

some-same : {X : Type 0} {x y : X} → Some x ≡ Some y → x ≡ y
some-same same = cc

-- ---- a store of which one was put back

module _ (number : ℕ) (store : StoreNow) (unit : UnitOfRecovery) (old new : State)
    (change : Changing) (a : Seen) (set : IsSet (record store { undo = [] }) a)
    (stored : IsStored number store old a)
    (before : PartNow) (found : part_among store.parts change.part.0 ≡ Some before)
    (own : change.unit ≡ unit) (of : IsChangeOf store.log.geometry old change)
    (back : IsPutBack change old new) where
  -- the image of the place is the unit's
  unit-there : (image : BeforeImage)
      → oldest (images_of store.log.records) change.part.0 change.place ≡ Some image
      → image.unit ≡ unit
  unit-there image is = ap (λ (i : BeforeImage). i.unit) (some-same (sym is
      ∙ log-here store.log.geometry store.log old new change stored.volume.laid
      stored.volume.logged of back)) ∙ own

  catalog-same : new.contents 0 ≡ old.contents 0
  catalog-same = catalog-stays store.log.geometry old new change stored.volume.laid of
      back.contents

  laid-old : (p : ℕ) (shape : Shape)
      → shape_by store.log.geometry (new.contents 0) p ≡ Some shape
      → shape_by store.log.geometry (old.contents 0) p ≡ Some shape
  laid-old p shape laid =
      ap (λ (c : Content). shape_by store.log.geometry c p) (sym catalog-same) ∙ laid

  module _ (b : Seen) (undo : List KeptRecord) (changed : List ChangedBy) (parts : List PartNow)
      (now : PartNow) (into : IsPartAt change.part.0 before now store.parts parts)
      (same : but_split now ≡ but_split before)
      (sets : IsSetIn store.log.geometry number (owners_of store) store.log (images_in store.undo)
      (images_in store.undo) old new before.shape now.known change.place
      (blocks_of unit changed) a b)
      (had : (n : ℕ) → Contains (blocks_of unit store.changed) n
      → Contains (blocks_of unit changed) n)
      (others : (other : UnitOfRecovery) → same_unit other unit ≡ false
      → blocks_of other changed ≡ blocks_of other store.changed)
      (images : images_in undo ≡ images_in store.undo)
      (befores : befores_of undo ≡ without_last unit (befores_of store.undo))
      (logged : logged_of undo ≡ logged_of store.undo) where
    -- what is due to the blocks of a unit stays due to them
    module _ (p : ℕ) (q : List ℕ) (shape : Shape)
        (laid : shape_by store.log.geometry (old.contents 0) p ≡ Some shape) where
      has : HasShape store.parts p shape
      has = among-shape store.parts p shape (stored.whole p shape laid)

      due-other : (listed : List ℕ) → (p ≡ change.part.0 → ⊥) → IsDueTo shape listed a q
          → IsDueTo shape listed b q
      due-other listed apart due =
          subst (λ (s : Shape). IsDueTo s listed b q) has.is
          (sets.others_due has.part.shape has.part.known
          (λ is. apart (sym (number-at (record store { undo = [] }) a set p has.part has.found) ∙ is
          ∙ number-at (record store { undo = [] }) a set change.part.0 before found))
          (among-all (IsRestedPart store old a) store.parts p has.part stored.parts has.found)
          listed q (subst (λ (s : Shape). IsDueTo s listed a q) (sym has.is) due)
          (λ n there. absurd (omega (arith, there.1))))

      due-mine : (listed : List ℕ) → p ≡ change.part.0
          → ((q ≢ change.place)
          ⊎ ((n : ℕ) → Contains (blocks_of unit changed) n → Contains listed n))
          → IsDueTo shape listed a q → IsDueTo shape listed b q
      due-mine listed here either due =
          let one : before.shape ≡ shape =
          ap (λ (part : PartNow). part.shape)
          (some-same (sym found ∙ ap (part_among store.parts) (sym here) ∙ has.found)) ∙ has.is in
          subst (λ (s : Shape). IsDueTo s listed b q) one
          (sets.due listed q (subst (λ (s : Shape). IsDueTo s listed a q) (sym one) due) either)

      due-either : (listed : List ℕ) (test : Bool) → (p == change.part.0) ≡ test
          → (p ≡ change.part.0 → ((q ≢ change.place)
          ⊎ ((n : ℕ) → Contains (blocks_of unit changed) n → Contains listed n)))
          → IsDueTo shape listed a q → IsDueTo shape listed b q
      due-either listed true is either =
          let here = (Decides-eqb p change.part.0).0 is in due-mine listed here (either here)
      due-either listed false is either = due-other listed
          (λ here. true≢false (sym ((Decides-eqb p change.part.0).1 here) ∙ is))

    due-by : (u : UnitOfRecovery) (p : ℕ) (q : List ℕ) (image : BeforeImage) (shape : Shape)
        → oldest (images_of store.log.records) p q ≡ Some image
        → same_unit u image.unit ≡ true
        → shape_by store.log.geometry (old.contents 0) p ≡ Some shape
        → (mine : Bool) → same_unit u unit ≡ mine → IsDueTo shape (blocks_of u changed) b q
    due-by u p q image shape is its laid true mine =
        let one = unit_same u unit mine in
        subst (λ (v : UnitOfRecovery). IsDueTo shape (blocks_of v changed) b q) (sym one)
        (due-either p q shape laid (blocks_of unit changed) (p == change.part.0) refl
        (λ here. inr (λ n there. there))
        (due-longer shape (owners_of store) (blocks_of unit store.changed) (blocks_of unit changed)
        q a (stored-sound number store old a stored p shape laid) had
        (subst (λ (v : UnitOfRecovery). IsDueTo shape (blocks_of v store.changed) a q) one
        (stored.due u p q image shape is its laid))))
    due-by u p q image shape is its laid false mine =
        subst (λ (listed : List ℕ). IsDueTo shape listed b q) (sym (others u mine))
        (due-either p q shape laid (blocks_of u store.changed) (p == change.part.0) refl
        (λ here. inl (λ there. true≢false
        (sym (ap (same_unit u) (sym (unit-there image
        (ap (λ (n : ℕ). oldest (images_of store.log.records) n change.place) (sym here)
        ∙ ap (oldest (images_of store.log.records) p) (sym there) ∙ is))) ∙ its) ∙ mine)))
        (stored.due u p q image shape is its laid))

    same-parts : map but_split parts ≡ map but_split store.parts
    same-parts = ap (map but_split) into.is
        ∙ map-with but_split change.part.0 before now same store.parts into.found

    -- The store is then that of the state after it.
    pub stored-back : IsStored number
        (record store { undo = undo; parts = parts; changed = changed }) new b
    stored-back = record {
      volume = subst (λ (i : List BeforeImage).
          IsVolumeAtRest store.log.geometry number (owners_of store) store.log i new b) (sym images)
          sets.volume;
      parts = subst (λ (i : List BeforeImage). All (λ (p : PartNow).
          IsPartAtRest store.log.geometry (owners_of store) i new p.shape p.known b) parts)
          (sym images) each;
      whole = λ p shape laid. shapes-same parts store.parts same-parts p
          ∙ stored.whole p shape (laid-old p shape laid);
      befores = befores ∙ ap (without_last unit) stored.befores
          ∙ ap (λ (u : UnitOfRecovery). without_last u old.befores) (sym own)
          ∙ sym back.befores;
      logged = logged ∙ stored.logged ∙ sym back.logged;
      due = λ u p q image shape is its laid. due-by u p q image shape is its
          (laid-old p shape laid) (same_unit u unit) refl;
    }
      where
        P : PartNow → Type 0
        P p = IsPartAtRest store.log.geometry (owners_of store) (images_in store.undo) new p.shape
            p.known b

        each : All P parts
        each = subst (All P) (sym into.is)
            (all-with (λ (p : PartNow). IsPartSet a p × IsRestedPart store old a p) P
            change.part.0 now
            (λ p apart both. sets.others p.shape p.known
            (λ is. apart (ap (λ (n : PartNo). n.0) (sym both.0.number) ∙ is
            ∙ number-at (record store { undo = [] }) a set change.part.0 before found)) both.1)
            (subst (λ (s : Shape). IsPartAtRest store.log.geometry (owners_of store)
            (images_in store.undo) new s now.known b) (sym (ap (λ (p : PartNow). p.shape) same))
            sets.part) store.parts set.apart
            (all-both (IsPartSet a) (IsRestedPart store old a) store.parts set.parts
            stored.parts))

-- ---- one that was taken out

set-bare : (store : StoreNow) (now : Seen) → IsSet store now
    → IsSet (record store { undo = [] }) now
set-bare store now set = record {
  allowed = set.allowed;
  blocks = set.blocks;
  sound = set.sound;
  parts = set.parts;
  apart = set.apart;
  changed = set.changed;
  idle = set.idle;
  kept = All-nil (IsFitImage store.parts);
  areas = set.areas;
  owns = set.owns;
}

module _ (number : ℕ) (store : StoreNow) (unit : UnitOfRecovery) (part : PartNo) (place : List ℕ)
    (state : State) (a : Seen) (set : IsSet store a) (before : PartNow)
    (found : part_among store.parts part.0 ≡ Some before)
    (from : IsTakenFrom number store unit state a) where
  -- the part is at rest
  pub taken-part : IsPartAtRest store.log.geometry (owners_of store) (images_in store.undo) state
      before.shape before.known a
  taken-part = subst (λ (i : List BeforeImage).
      IsPartAtRest store.log.geometry (owners_of store) i state before.shape before.known a)
      (sym from.images)
      (among-all (IsRestedPart (record store { undo = from.undo }) state a) store.parts part.0
      before from.stored.parts found)

  -- what putting back a record, or none, makes of the place
  abbrev pub put-item : Option (List ℕ) → Option Item
  put-item item = left_among store.parts part.0 state place item

  module _ (was item : Option (List ℕ)) (new : State)
      (of : IsChangeOf store.log.geometry state (back_at unit part place was (put-item item)))
      (back : IsPutBack (back_at unit part place was (put-item item)) state new) where
    pub to-back : IsToBack store.log.geometry number (owners_of store) store.log
        (images_in store.undo) state new (back_at unit part place was (put-item item)) before.shape
        before.known place item a
    to-back = record {
      volume = subst (λ (i : List BeforeImage).
          IsVolumeAtRest store.log.geometry number (owners_of store) store.log i state a)
          (sym from.images) from.stored.volume;
      part = taken-part;
      of = of;
      step = back;
      given = record {
        part = part-number-at store a set part before found;
        place_is = refl;
        item = ap (λ (one : Option PartNow). option_and_then
            (λ (shape : Shape). left_by shape (item_at (state.contents part.0) place) item)
            (option_map (λ (part : PartNow). part.shape) one)) found;
      };
    }

    -- Once it is put back the store is the state's after it.
    pub stored-taken : (b : Seen) (changed : List ChangedBy) (parts : List PartNow) (now : PartNow)
        → IsPartAt part.0 before now store.parts parts → but_split now ≡ but_split before
        → IsSetIn store.log.geometry number (owners_of store) store.log (images_in store.undo)
        (images_in store.undo) state new before.shape now.known place
        (blocks_of unit changed) a b
        → ((n : ℕ) → Contains (blocks_of unit store.changed) n
        → Contains (blocks_of unit changed) n)
        → ((other : UnitOfRecovery) → same_unit other unit ≡ false
        → blocks_of other changed ≡ blocks_of other store.changed)
        → IsStored number (record store { parts = parts; changed = changed }) new b
    stored-taken b changed parts now into same sets had others =
        stored-back number (record store { undo = from.undo }) unit state new
        (back_at unit part place was (put-item item)) a (set-bare store a set) from.stored before
        found refl of back b store.undo changed parts now into same
        (subst (λ (i : List BeforeImage). IsSetIn store.log.geometry number (owners_of store)
        store.log i i state new before.shape now.known place (blocks_of unit changed) a b)
        from.images sets) had others from.images from.befores (ap (map place_of) from.images)
