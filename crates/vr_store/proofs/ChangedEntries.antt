-- Several records of the catalog of a store are changed: without the part that goes, the store is that
-- of the state in which the unit that did it has ended.
use Rattle.std.proofs.Common.{◌≡◌, ◌≢◌, ◌∙◌, ℕ, Bool, true, false, cond, List, []}
use Rattle.std.proofs.Common.{Option, Some, None, ap, map, refl, subst, sym}
use Rattle.std.specs.Prelude.{All, IfSome}
use Rattle.std.proofs.lemmas.Bool.{true≢false}
use Rattle.std.proofs.lemmas.Bool.Decides.{Decides-eqb}
use Rattle.std.proofs.lemmas.List.Elements.{All-weaker}
use Rattle.std.specs.Option.{option_map}
use Rattle.vr_types.specs.Content.{Content, Standing, item_at}
use Rattle.vr_types.specs.Seen.{Seen}
use Rattle.vr_types.specs.declared.geometry.Geometry.{Geometry}
use Rattle.vr_types.specs.declared.unit.PartNo.{PartNo}
use Rattle.vr_types.specs.declared.unit.Unit.{Unit as UnitOfRecovery}
use Rattle.vr_space.specs.Known.{Known}
use Rattle.vr_space.specs.Owners.{Owners}
use Rattle.vr_space.specs.Part.{HasKeptRoom, Shape, part_no}
use Rattle.vr_attach.specs.Owning.{owner_of}
use Rattle.vr_log.specs.Live.{live_in}
use Rattle.vr_log.specs.LogNow.{LogNow}
use Rattle.vr_history.specs.State.{BeforeImage, State}
use Rattle.vr_undo.specs.Records.{images_in}
use Rattle.vr_volume.specs.EntryChange.{is_gone}
use Rattle.vr_volume.specs.EntryChanges.{CanSetAll, StandsAt, with_changes}
use Rattle.vr_volume.specs.Laid.{catalog_shape, shape_by}
use Rattle.vr_volume.specs.PutBack.{images_of, lengths_kept, oldest}
use Rattle.vr_volume.specs.Rests.{IsPartAtRest, IsVolumeAtRest}
use Rattle.vr_volume.specs.declared.setting.EntryChange.{EntryChange}
use Rattle.vr_volume.proofs.CallerLemmas.{part-left as taken-part, volume-left as taken-volume}
use Rattle.vr_store.specs.EntryChange.{areas_left, number_gone, parts_left, store_left}
use Rattle.vr_store.specs.EntryChanges.{AreChangesReady, AreEntriesSettable, HaveEntries}
use Rattle.vr_store.specs.EntryChanges.{IsChangingEntries, entries_kept}
use Rattle.vr_store.specs.Parts.{but_split}
use Rattle.vr_store.specs.Store.{IsPartSet, IsRestedPart, IsSet, IsStored, PartNow, StoreNow}
use Rattle.vr_store.specs.Store.{owners_of, part_among, shape_among}
use Rattle.vr_store.proofs.EntryAreas.{taken}
use Rattle.vr_store.proofs.EntryParts.{all-left, shapes-left}
use Rattle.vr_store.proofs.PartsAt.{IsPartAt, part-split}
use Rattle.vr_store.proofs.PlacedParts.{all-with, map-with, shapes-same}
use Rattle.vr_store.proofs.Recorded.{number-at, rested-at, set-at}
use Rattle.vr_store.proofs.Worked.{all-both}

some-none : {X : Type 0} {x : X} → Some x ≡ None → ⊥
some-none same = cc

-- ---- before it

module _ (store : StoreNow) (now : Seen) (set : IsSet store now)
    (idle : live_in store.log.records ≡ []) where
  -- while no unit is live the log has no before-image,
  no-images : (number : ℕ) (state : State) → IsStored number store state now
      → images_in store.undo ≡ []
  no-images number state stored = stored.volume.kept ∙ ap images_of (set.idle idle)

  -- and the record that stands at the place may be replaced or taken away.
  pub changes-ready : (unit : UnitOfRecovery) (changes : List EntryChange)
      → HaveEntries store changes now → AreEntriesSettable store unit now.cur changes
      → part_among store.parts 0 ≢ None
      → IfSome (part_among store.parts 0) (AreChangesReady store unit changes now)
  changes-ready unit changes entry can catalog =
      by_found (part_among store.parts 0) refl can
    where
      by_found : (found : Option PartNow) → part_among store.parts 0 ≡ found
          → IfSome found (λ (part : PartNow).
          CanSetAll part.shape part.known now.cur (entries_kept unit changes) changes)
          → IfSome found (AreChangesReady store unit changes now)
      by_found None nothing may = absurd (catalog nothing)
      by_found (Some one) found may =
          let rested = rested-at store now set entry.number entry.state 0 one found entry.stored in
          let none = no-images entry.number entry.state entry.stored in
          let here = number-at store now set 0 one found in
          record {
            log = entry.stored.volume.stands;
            rests = (owners_of store, entry.stored.volume.safe.past, rested.rests, rested.claimed);
            room = subst (λ (images : List BeforeImage).
                HasKeptRoom one.shape (lengths_kept images (part_no one.shape).0) now) none
                rested.room;
            firm = All-weaker (λ (change : EntryChange). item_at (entry.state.contents 0)
                change.place ≡ option_map Standing change.before) (StandsAt one.shape now)
                (λ change there item holds. rested.firm change.place item
                (ap (λ (images : List BeforeImage).
                oldest images (part_no one.shape).0 change.place) none) holds
                ∙ ap (λ (n : ℕ). item_at (entry.state.contents n) change.place) here
                ∙ there) changes entry.there;
            knows = rested.knows;
            can = may;
          }

-- ---- once it is done

module _ (number : ℕ) (store : StoreNow) (unit : UnitOfRecovery) (changes : List EntryChange)
    (gone : Option PartNo) (old new : State) (a : Seen) (set : IsSet store a)
    (is : IsChangingEntries number store unit changes gone old new a)
    (catalog : PartNow) (found : part_among store.parts 0 ≡ Some catalog) where
  abbrev geometry : Geometry
  geometry = store.log.geometry

  abbrev goes : ℕ → Bool
  goes part = is_gone (number_gone gone) part

  abbrev RestedOld : PartNow → Type 0
  RestedOld part = IsRestedPart store old a part

  pub catalog-rested : RestedOld catalog
  catalog-rested = rested-at store a set number old 0 catalog found is.stored

  -- the catalog doesn't go
  catalog-stays : goes 0 ≡ false
  catalog-stays = by_test (goes 0) (is.can.lays 0)
    where
      by_test : (test : Bool)
          → Some (catalog_shape geometry) ≡ cond test None (Some (catalog_shape geometry))
          → test ≡ false
      by_test true laid = absurd (some-none laid)
      by_test false laid = refl

  laid-then : (part : ℕ) → shape_by geometry (new.contents 0) part
      ≡ cond (goes part) None (shape_by geometry (old.contents 0) part)
  laid-then part =
      ap (λ (c : Content). shape_by geometry c part) (is.changed.contents 0
      ∙ ap (λ (test : Bool).
      cond test [] (with_changes changes old.contents 0)) catalog-stays)
      ∙ is.can.lays part

  -- ---- the owners of the blocks then

  module _ (b : Seen) where
    abbrev owners : Owners
    owners = owners_of store

    abbrev owners-left : Owners
    owners-left = owner_of geometry (areas_left gone store.space)

    volume-left : (log : LogNow) → IsVolumeAtRest geometry number owners log [] new b
        → IsVolumeAtRest geometry number owners-left log [] new b
    volume-left log rests = by_gone gone laid-then
      where
        by_gone : (it : Option PartNo)
            → ((part : ℕ) → shape_by geometry (new.contents 0) part
            ≡ cond (is_gone (number_gone it) part) None (shape_by geometry (old.contents 0) part))
            → IsVolumeAtRest geometry number (owner_of geometry (areas_left it store.space)) log []
            new b
        by_gone None laid = rests
        by_gone (Some part) laid = taken-volume geometry number owners
            (owner_of geometry (areas_left (Some part) store.space)) log [] new b part.0 rests
            (laid part.0 ∙ ap (λ (test : Bool).
            cond test None (shape_by geometry (old.contents 0) part.0))
            ((Decides-eqb part.0 part.0).1 refl))
            (taken part geometry store.space)

    part-left : (shape : Shape) (known : Known) → goes (part_no shape).0 ≡ false
        → IsPartAtRest geometry owners [] new shape known b
        → IsPartAtRest geometry owners-left [] new shape known b
    part-left shape known stays rests = by_gone gone stays
      where
        by_gone : (it : Option PartNo) → is_gone (number_gone it) (part_no shape).0 ≡ false
            → IsPartAtRest geometry (owner_of geometry (areas_left it store.space)) [] new shape
            known b
        by_gone None stays = rests
        by_gone (Some part) stays = taken-part geometry owners
            (owner_of geometry (areas_left (Some part) store.space)) [] new shape known b part.0
            rests
            (λ same. true≢false (sym ((Decides-eqb part.0 (part_no shape).0).1 (sym same)) ∙ stays))
            (taken part geometry store.space)

  -- ---- the store then

  module _ (b : Seen) (log : LogNow) (parts : List PartNow) (after : PartNow)
      (into : IsPartAt 0 catalog after store.parts parts)
      (number-same : after.number ≡ catalog.number)
      (same-shape : after.shape ≡ catalog.shape) (same : log.geometry ≡ geometry)
      (rests : IsVolumeAtRest geometry number (owners_of store) log [] new b
      × IsPartAtRest geometry (owners_of store) [] new catalog.shape after.known b)
      (others : (other : Shape) (known : Known) → (part_no other).0 ≢ 0
      → goes (part_no other).0 ≡ false
      → IsPartAtRest geometry (owners_of store) (images_in store.undo) old other known a
      → IsPartAtRest geometry (owners_of store) [] new other known b) where
    -- the store as the call left it
    abbrev changed : StoreNow
    changed = record store { log = log; parts = parts }

    -- a part has its number, and where it doesn't go it is at rest by the new state
    abbrev RestedThen : PartNow → Type 0
    RestedThen part = ((part_no part.shape).0 ≡ part.number.0)
        × (goes part.number.0 ≡ false
        → IsPartAtRest geometry (owners_of store) [] new part.shape part.known b)

    abbrev RestedLeft : PartNow → Type 0
    RestedLeft part = IsPartAtRest geometry (owner_of geometry (areas_left gone store.space)) [] new
        part.shape part.known b

    after-rested : RestedThen after
    after-rested = (
      ap (λ (shape : Shape). (part_no shape).0) same-shape
          ∙ ap (λ (n : PartNo). n.0) ((set-at store a set 0 catalog found).number
          ∙ sym number-same),
      λ stays. subst (λ (s : Shape). IsPartAtRest geometry (owners_of store) [] new s after.known b)
          (sym same-shape) rests.1,
    )

    all-then : All RestedThen parts
    all-then = subst (All RestedThen) (sym into.is)
        (all-with (λ (part : PartNow). IsPartSet a part × RestedOld part) RestedThen 0 after
        (λ part apart both. (
          ap (λ (n : PartNo). n.0) both.0.number,
          λ stays. others part.shape part.known
              (λ zero. apart (ap (λ (n : PartNo). n.0) (sym both.0.number) ∙ zero))
              (ap (λ (n : PartNo). goes n.0) both.0.number ∙ stays) both.1,
        )) after-rested store.parts set.apart
        (all-both (IsPartSet a) RestedOld store.parts set.parts is.stored.parts))

    all-rested : All RestedLeft (parts_left gone parts)
    all-rested = All-weaker
        (λ (part : PartNow). RestedThen part × (goes part.number.0 ≡ false)) RestedLeft
        (λ part both. part-left b part.shape part.known (ap goes both.0.0 ∙ both.1)
        (both.0.1 both.1)) (parts_left gone parts)
        (all-left gone RestedThen parts all-then)

    same-split : but_split after ≡ but_split catalog
    same-split = ap (λ (n : PartNo). part-split n after.shape None) number-same
        ∙ ap (λ (s : Shape). part-split catalog.number s None) same-shape

    same-parts : map but_split parts ≡ map but_split store.parts
    same-parts = ap (map but_split) into.is
        ∙ map-with but_split 0 catalog after same-split store.parts into.found

    -- each part that is laid then is among them
    whole-left : (part : ℕ) (shape : Shape)
        → shape_by log.geometry (new.contents 0) part ≡ Some shape
        → shape_among (parts_left gone parts) part ≡ Some shape
    whole-left part shape laid = shapes-left gone parts part
        ∙ by_test (goes part)
        (sym (laid-then part)
        ∙ ap (λ (g : Geometry). shape_by g (new.contents 0) part) (sym same) ∙ laid)
      where
        by_test : (test : Bool)
            → cond test None (shape_by geometry (old.contents 0) part) ≡ Some shape
            → cond test None (shape_among parts part) ≡ Some shape
        by_test true nothing = absurd (some-none (sym nothing))
        by_test false laid = shapes-same parts store.parts same-parts part
            ∙ is.stored.whole part shape laid

    -- Without the part that goes, the store is the new state's.
    pub stored-left : IsStored number (store_left gone changed) new b
    stored-left = record {
      volume = subst (λ (g : Geometry). IsVolumeAtRest g number
          (owner_of g (areas_left gone store.space)) log [] new b) (sym same)
          (volume-left b log rests.0);
      parts = subst (λ (g : Geometry). All (λ (p : PartNow). IsPartAtRest g
          (owner_of g (areas_left gone store.space)) [] new p.shape p.known b)
          (parts_left gone parts)) (sym same) all-rested;
      whole = whole-left;
      befores = sym is.changed.befores;
      logged = sym is.changed.logged;
      due = λ u part q image shape there mine laid. absurd (some-none (sym there
          ∙ ap (λ (images : List BeforeImage). oldest images part q) (sym rests.0.kept)));
    }
