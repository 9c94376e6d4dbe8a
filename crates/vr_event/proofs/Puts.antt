-- A change that is prepared: the store in which its before-image is kept, and what is left where it
-- isn't made after all.
use Rattle.std.proofs.Common.{◌≡◌, ◌∙◌, ◌==◌, ℕ, Bool, true, false, cond, List, [], ◌∷◌, ◌++◌, Option, Some}
use Rattle.std.proofs.Common.{None, refl, sym, ap, subst, IsTrue, inl, length, arith}
use Rattle.std.specs.Prelude.{IfSome}
use Rattle.std.specs.Option.{option_and_then, option_map}
use Rattle.vr_types.specs.Content.{Standing, item_at, record_of}
use Rattle.vr_types.specs.Seen.{Left, Seen}
use Rattle.vr_types.specs.declared.unit.PartNo.{PartNo}
use Rattle.vr_types.specs.declared.unit.Unit.{Unit as UnitOfRecovery}
use Rattle.vr_space.specs.Part.{CanSet, HasRoomFor, IsPlaceOf, fits_at, item_of}
use Rattle.vr_space.specs.Room.{Lengths}
use Rattle.vr_space.proofs.CallerLemmas.{kept_fits, rest-sound, rest-stands}
use Rattle.vr_log.specs.declared.record.LogRecord.{LogRecord}
use Rattle.vr_history.specs.State.{BeforeImage, State}
use Rattle.vr_undo.specs.Records.{before_of, images_in}
use Rattle.vr_undo.specs.declared.record.KeptRecord.{KeptRecord}
use Rattle.vr_undo.proofs.CallerLemmas.{kept-append, kept_more}
use Rattle.vr_volume.specs.PutBack.{length_of, lengths_kept}
use Rattle.vr_volume.specs.Rests.{IsPartAtRest}
use Rattle.vr_store.specs.Change.{IsKeptFor, IsPrepared, IsReadyBy, IsSettable, has_logged}
use Rattle.vr_store.specs.Change.{need_with, with_kept}
use Rattle.vr_event.specs.Putting.{HasRoomAt, IsFitting, IsToMake, need_at}
use Rattle.vr_store.specs.Store.{ChangedBy, IsSet, IsStored, PartNow, StoreNow, blocks_of}
use Rattle.vr_store.specs.Store.{owners_of, part_among, shape_among}
use Rattle.vr_store.specs.declared.prepared.Prepared.{Prepared}
use Rattle.vr_store.proofs.CallerLemmas.{numbered, rested, stored-changed, undo-images}

module _ (store kept : StoreNow) (now : Seen) (unit : UnitOfRecovery) (part : PartNo)
    (place : List ℕ) (was : Option (List ℕ)) (prepared : Prepared)
    (rest : kept ≡ record store { undo = kept.undo; changed = kept.changed })
    (blocks : (other : UnitOfRecovery) → blocks_of other kept.changed
    ≡ blocks_of other store.changed)
    (undo : kept.undo ≡ with_kept unit (before_of part place was) store.undo)
    (prep : IsPrepared prepared unit (before_of part place was) store.undo) where
  without : record store { changed = kept.changed } ≡ record kept { undo = store.undo }
  without = sym (ap (λ (s : StoreNow). record s { undo = store.undo }) rest)

  pub back : (volume : ℕ) (state : State) → IsStored volume store state now
      → IsStored volume (record kept { undo = store.undo }) state now
  back volume state stored = subst (λ (s : StoreNow). IsStored volume s state now) without
      (stored-changed store now kept.changed blocks volume state stored)

  abbrev pub keeps : (volume : ℕ) (state : State) → IsStored volume store state now
      → IsKeptFor volume kept unit (before_of part place was) state now
  keeps volume state stored =
      record { old = store.undo; stored = back volume state stored; kept = undo }

  abbrev pub ready-by : (volume : ℕ) (state : State)
      → IsToMake volume store unit part place was state now
      → IsReadyBy volume kept unit part place prepared was state now
  ready-by volume state to = record {
    kept = keeps volume state to.stored;
    prepared_is = prep;
    stands = to.stands;
    alone = to.alone;
    current = to.current;
    not_catalog = to.not_catalog;
  }

  pub needs : need_at store unit part place was
      ≡ need_with prepared.logged kept.log prepared.rec
  needs = sym (ap (λ (b : Bool). need_with b kept.log prepared.rec) prep.logged
      ∙ ap (λ (s : StoreNow). need_with (has_logged unit (before_of part place was) store.undo)
      s.log prepared.rec) rest
      ∙ ap (λ (rec : LogRecord). need_with (has_logged unit (before_of part place was) store.undo)
      store.log rec) prep.rec)

  -- ---- taken back

  module _ (final : StoreNow) (took : final ≡ record kept { undo = final.undo })
      (same : final.undo ≡ store.undo) where
    as-it-was : final ≡ record kept { undo = store.undo }
    as-it-was = took ∙ ap (λ (u : List KeptRecord). record kept { undo = u }) same

    pub final-is : final ≡ record store { undo = store.undo; changed = final.changed }
    final-is =
        let is : final ≡ record store { changed = kept.changed } = as-it-was ∙ sym without in
        let listed : kept.changed ≡ final.changed = sym (ap (λ (s : StoreNow). s.changed) is) in
        subst (λ (l : List ChangedBy). final ≡ record store { undo = store.undo; changed = l }) listed is

    pub final-stored : (volume : ℕ) (state : State) → IsStored volume store state now
        → IsStored volume final state now
    final-stored volume state stored =
        subst (λ (s : StoreNow). IsStored volume s state now) (sym as-it-was)
        (back volume state stored)

  -- ---- what may be set

  module _ (volume : ℕ) (state : State) (to : IsToMake volume store unit part place was state now)
      (set : IsSet kept now) (left : Left now now.cur) (one : PartNow)
      (found : part_among kept.parts part.0 ≡ Some one) (at : IsPlaceOf one.shape place) where
    abbrev ready : IsReadyBy volume kept unit part place prepared was state now
    ready = ready-by volume state to

    abbrev lengths : List BeforeImage → Lengths
    lengths images = lengths_kept images part.0

    abbrev change-image : BeforeImage
    change-image = record { unit = unit; part = part.0; place = place; old = option_map Standing was }

    images-are : images_in kept.undo
        ≡ cond prepared.logged (images_in store.undo)
        (images_in store.undo ++ change-image ∷ [])
    images-are = undo-images volume kept unit part place prepared was state now ready one found set
        at None

    its-rest : IsPartAtRest kept.log.geometry (owners_of kept) (images_in store.undo) state
        one.shape one.known now
    its-rest = rested volume kept unit part place prepared was state now ready one found set at None

    reads : item_of one.shape now.cur place ≡ option_map Standing was
    reads = its-rest.reads place
        ∙ ap (λ (n : ℕ). item_at (state.contents n) place)
        (numbered volume kept unit part place prepared was state now ready one found set at None)
        ∙ sym to.stands

    -- a record that stands takes no more room once it is kept
    fits-kept : (m : ℕ) (there : Bool)
        → fits_at one.shape one.known now.cur (lengths (cond there (images_in store.undo)
        (images_in store.undo ++ change-image ∷ []))) place m
        ≡ fits_at one.shape one.known now.cur (lengths (images_in store.undo)) place m
    fits-kept m true = refl
    fits-kept m false =
        ap (λ (l : Lengths). fits_at one.shape one.known now.cur l place m)
        (kept-append (images_in store.undo) change-image part.0)
        ∙ by_mine (part.0 == part.0) was reads
      where
        by_mine : (mine : Bool) (item : Option (List ℕ))
            → item_of one.shape now.cur place ≡ option_map Standing item
            → fits_at one.shape one.known now.cur (kept_more (lengths (images_in store.undo))
            (cond mine (length_of place (option_and_then record_of (option_map Standing item)))
            None)) place m
            ≡ fits_at one.shape one.known now.cur (lengths (images_in store.undo)) place m
        by_mine false item is = refl
        by_mine true None is = refl
        by_mine true (Some bytes) is = kept_fits one.shape now.cur (lengths (images_in store.undo))
            place bytes (length bytes)
            (rest-stands one.shape (owners_of kept) now
            (rest-sound one.shape (owners_of kept) now its-rest.rests) left) is
            (omega arith) one.known place m

    can-kept : (item : Option (List ℕ))
        → IsFitting one.shape one.known now.cur (lengths (images_in store.undo)) place item
        → CanSet one.shape one.known now.cur (lengths (images_in kept.undo)) place item
    can-kept item fits = record { no_stage = fits.no_stage; room = by_item item fits.room }
      where
        by_item : (item : Option (List ℕ))
            → IfSome item (λ (bytes : List ℕ). IsTrue (fits_at one.shape one.known now.cur
            (lengths (images_in store.undo)) place (length bytes)))
            → HasRoomFor one.shape one.known now.cur (lengths (images_in kept.undo)) place item
        by_item None room = tt
        by_item (Some bytes) room = inl
            (ap (λ (images : List BeforeImage). fits_at one.shape one.known now.cur (lengths images) place
            (length bytes)) images-are
            ∙ fits-kept (length bytes) prepared.logged ∙ room)

  -- what has room may be set once its before-image is kept
  pub settable-kept : (volume : ℕ) (state : State)
      → IsToMake volume store unit part place was state now → IsSet kept now → Left now now.cur
      → IfSome (shape_among store.parts part.0) (λ shape. IsPlaceOf shape place)
      → (item : Option (List ℕ)) → HasRoomAt store now.cur part.0 place item
      → IsSettable kept now.cur part.0 place item
  settable-kept volume state to set left places item room =
      of (part_among kept.parts part.0) refl
      (subst (λ (parts : List PartNow). IfSome (shape_among parts part.0)
      (λ shape. IsPlaceOf shape place)) (sym parts-same) places)
      (subst (λ (parts : List PartNow). IfSome (part_among parts part.0)
      (λ (one : PartNow). IsFitting one.shape one.known now.cur
      (lengths_kept (images_in store.undo) part.0) place item)) (sym parts-same) room)
    where
      parts-same : kept.parts ≡ store.parts
      parts-same = ap (λ (s : StoreNow). s.parts) rest

      of : (found : Option PartNow) → part_among kept.parts part.0 ≡ found
          → IfSome (option_map (λ (one : PartNow). one.shape) found)
          (λ shape. IsPlaceOf shape place)
          → IfSome found (λ (one : PartNow). IsFitting one.shape one.known now.cur
          (lengths_kept (images_in store.undo) part.0) place item)
          → IfSome found (λ (one : PartNow). CanSet one.shape one.known now.cur
          (lengths_kept (images_in kept.undo) part.0) place item)
      of None is place-of fits = tt
      of (Some one) is place-of fits =
          can-kept volume state to set left one is place-of item fits
