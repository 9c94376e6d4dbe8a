-- The last before-image of a unit, among those in memory and of the state: it is fit for the parts,
-- room is kept for it, and what putting it back makes of the state.
use Rattle.std.proofs.Common.{◌≡◌, ◌≢◌, ℕ, Bool, true, false, cond, List, [], ◌∷◌, Option, Some}
use Rattle.std.proofs.Common.{None, refl, sym, ap, subst, ◌∙◌, ◌==◌, ◌&&◌, length, filter}
use Rattle.std.proofs.Common.{bytes_eq, if◌then◌else◌}
use Rattle.std.specs.Borrow.{Bor}
use Rattle.std.specs.Prelude.{All, IfSome, option_map}
use Rattle.std.specs.List.{cons_option, filter_map}
use Rattle.std.specs.Ordering.{is_eq}
use Rattle.std.specs.declared.cmp.Ordering.{Ordering}
use Rattle.std.specs.declared.cmp.Ordering.TheVariants.{Equal, Greater, Less}
use Rattle.std.proofs.lemmas.Bool.{true≢false}
use Rattle.std.proofs.lemmas.Slice.Eq.{bytes_eq-Decides}
use Rattle.std.specs.Option.{option_and_then, option_copied}
use Rattle.std.proofs.lemmas.Bool.Decides.{Decides-eqb}
use Rattle.std.proofs.lemmas.List.Elements.{All-filter, All-head, All-tail}
use Rattle.vr_types.specs.Content.{Item, Standing, item_at, place_cmp, record_of}
use Rattle.vr_types.specs.Locks.{same_unit}
use Rattle.vr_types.specs.Seen.{Seen}
use Rattle.vr_types.specs.declared.unit.Unit.{Unit as UnitOfRecovery}
use Rattle.vr_altkey.proofs.CallerLemmas.{equal_places}
use Rattle.vr_space.specs.Part.{CanSet, Shape, left_by, stage_of}
use Rattle.vr_space.specs.Room.{Lengths, length_at, with_lengths}
use Rattle.vr_space.proofs.CallerLemmas.{Rise, can-set-kept, rise-with, same_is_equal}
use Rattle.vr_history.specs.Effects.{last_kept, last_of, with_change, without_last}
use Rattle.vr_history.specs.State.{BeforeImage, State}
use Rattle.vr_undo.specs.Lengths.{longer}
use Rattle.vr_undo.specs.PutBack.{is_image_of, length_in, length_of, lengths_kept, oldest}
use Rattle.vr_undo.specs.PutBack.{standing_of}
use Rattle.vr_undo.specs.Records.{befores_of, image_of, images_in, last_in}
use Rattle.vr_undo.specs.declared.before.Before.{Before}
use Rattle.vr_undo.specs.declared.record.KeptRecord.{KeptRecord}
use Rattle.vr_undo.proofs.CallerLemmas.{kept_more}
use Rattle.vr_undo.proofs.Longest.{length-with, longer-none}
use Rattle.vr_volume.specs.Committed.{IsCurrent, IsKeptIn}
use Rattle.vr_volume.specs.Laid.{shape_by}
use Rattle.vr_volume.specs.PutBack.{AreAlone}
use Rattle.vr_volume.specs.Steps.{IsChangeOf, IsPutBack}
use Rattle.vr_volume.proofs.Alone.{is-there}
use Rattle.vr_volume.proofs.CallerLemmas.{goes-back, left-stands}
use Rattle.vr_volume.proofs.Undoing.{last-oldest}
use Rattle.vr_store.specs.LastImage.{HasNoStage, IsBackIn, last_of_unit}
use Rattle.vr_store.specs.Change.{IsSettable}
use Rattle.vr_store.specs.PutBack.{IsTakenFrom, back_at}
use Rattle.vr_store.specs.Store.{IsFitImage, IsSet, IsStored, PartNow, StoreNow, left_among}
use Rattle.vr_store.specs.Store.{part_among}
use Rattle.vr_store.proofs.Fits.{fits-out, if-some}

some-one : {X : Type 0} {x y : X} → Some x ≡ Some y → x ≡ y
some-one same = cc

-- ---- it is one of them

last-passes : (P : BeforeImage → Type 0) (images : List BeforeImage) (last : BeforeImage)
    → All P images → last_of images ≡ Some last → P last
last-passes P [] last all is = absurd cc
last-passes P (one ∷ []) last all is = subst P (some-one is) (All-head P one [] all)
last-passes P (one ∷ next ∷ rest) last all is =
    last-passes P (next ∷ rest) last (All-tail P one (next ∷ rest) all) is

pub last-has : (P : BeforeImage → Type 0) (unit : UnitOfRecovery) (images : List BeforeImage)
    (last : BeforeImage) → All P images → last_in unit images ≡ Some last → P last
last-has P unit images last all is =
    last-passes P (filter (λ (kept : BeforeImage). same_unit unit kept.unit) images) last
    (All-filter (λ (kept : BeforeImage). same_unit unit kept.unit) P images all) is

-- as the call that lends it says
pub last-lent : (unit : UnitOfRecovery) (images : List BeforeImage) (result : Option (Bor Before))
    (before : Bor Before) → result ≡ Some before
    → option_map (image_of unit) (option_copied result) ≡ last_in unit images
    → last_in unit images ≡ Some (image_of unit before.now)
last-lent unit images result before some is = sym is
    ∙ ap (λ (o : Option (Bor Before)). option_map (image_of unit) (option_copied o)) some

pub last-out : (unit : UnitOfRecovery) (images : List BeforeImage) (result : Option Before)
    (before : Before) → result ≡ Some before
    → option_map (image_of unit) result ≡ last_in unit images
    → last_in unit images ≡ Some (image_of unit before)
last-out unit images result before some is =
    sym is ∙ ap (λ (o : Option Before). option_map (image_of unit) o) some

pub none-lent : (unit : UnitOfRecovery) (images : List BeforeImage) (result : Option (Bor Before))
    → result ≡ None → option_map (image_of unit) (option_copied result) ≡ last_in unit images
    → last_in unit images ≡ None
none-lent unit images result none is = sym is
    ∙ ap (λ (o : Option (Bor Before)). option_map (image_of unit) (option_copied o)) none

-- what holds on the last one holds of it
pub on-last : (P : BeforeImage → Type 0) (found : Option BeforeImage) (last : BeforeImage)
    → found ≡ Some last → IfSome found P → P last
on-last P found last is holds = subst (λ (o : Option BeforeImage). IfSome o P) is holds

pub last-on : (P : BeforeImage → Type 0) (found : Option BeforeImage) (last : BeforeImage)
    → found ≡ Some last → P last → IfSome found P
last-on P found last is holds = subst (λ (o : Option BeforeImage). IfSome o P) (sym is) holds

-- ---- a length that is kept for a place

is-less : (o : Ordering) → o ≢ Equal → is_eq o ≡ false
is-less Less apart = refl
is-less Equal apart = absurd (apart refl)
is-less Greater apart = refl

none-some : {X : Type 0} {x : X} → Some x ≡ None → ⊥
none-some same = cc

module _ (part : ℕ) (place : List ℕ) where
  -- what is kept of an image of another place leaves what is kept for this one,
  elsewhere : (first : BeforeImage) → is_image_of part place first ≡ false → (lengths : Lengths)
      → Rise lengths
      → length_at (kept_more lengths (length_in part first)) place ≡ length_at lengths place
  elsewhere first out lengths rise = by_part (first.part == part) refl
    where
      apart : (first.part == part) ≡ true → place ≢ first.place
      apart mine same = true≢false (sym (ap (λ (b : Bool). b && bytes_eq place first.place) mine
          ∙ (bytes_eq-Decides place first.place).1 same) ∙ out)

      by_old : place ≢ first.place → (old : Option (List ℕ))
          → length_at (kept_more lengths (length_of first.place old)) place
          ≡ length_at lengths place
      by_old other None = refl
      by_old other (Some bytes) =
          length-with lengths first.place (length bytes) place rise
          ∙ ap (λ (b : Bool). longer (length_at lengths place) (cond b (Some (length bytes)) None))
          (is-less (place_cmp place first.place)
          (λ same. other (equal_places place first.place same)))
          ∙ longer-none (length_at lengths place)

      by_part : (mine : Bool) → (first.part == part) ≡ mine
          → length_at (kept_more lengths (cond mine
          (length_of first.place (option_and_then record_of first.old)) None)) place
          ≡ length_at lengths place
      by_part true mine = by_old (apart mine) (option_and_then record_of first.old)
      by_part false mine = refl

  kept-rises : (lengths : Lengths) (found : Option (List ℕ × ℕ)) → Rise lengths
      → Rise (kept_more lengths found)
  kept-rises lengths None rise = rise
  kept-rises lengths (Some entry) rise = rise-with lengths entry.0 entry.1 rise

  -- one more and then the others
  kept-then : (lengths more : Lengths) (found : Option (List ℕ × ℕ))
      → with_lengths lengths (cons_option found more)
      ≡ with_lengths (kept_more lengths found) more
  kept-then lengths more None = refl
  kept-then lengths more (Some entry) = refl

  -- so images none of which is of this place leave it,
  none-more : (images : List BeforeImage) (lengths : Lengths) → Rise lengths
      → oldest images part place ≡ None
      → length_at (with_lengths lengths (filter_map (length_in part) images)) place
      ≡ length_at lengths place
  none-more [] lengths rise none = refl
  none-more (first ∷ images) lengths rise none =
      by_test (is_image_of part place first) refl none
      (λ further. none-more images (kept_more lengths (length_in part first))
      (kept-rises lengths (length_in part first) rise) further)
    where
      by_test : (here : Bool) → is_image_of part place first ≡ here
          → cond here (Some first) (oldest images part place) ≡ None
          → (oldest images part place ≡ None
          → length_at (with_lengths (kept_more lengths (length_in part first))
          (filter_map (length_in part) images)) place
          ≡ length_at (kept_more lengths (length_in part first)) place)
          → length_at (with_lengths lengths (cons_option (length_in part first)
          (filter_map (length_in part) images))) place ≡ length_at lengths place
      by_test true here free further = absurd (none-some free)
      by_test false here free further =
          ap (λ (all : Lengths). length_at all place)
          (kept-then lengths (filter_map (length_in part) images) (length_in part first))
          ∙ further free ∙ elsewhere first here lengths rise

  module _ (bytes : List ℕ) (image : BeforeImage) (old : image.old ≡ Some (Standing bytes)) where
    -- and the image of the place makes it,
    own-length : is_image_of part place image ≡ true → (lengths : Lengths) → Rise lengths
        → length_at lengths place ≡ None
        → length_at (kept_more lengths (length_in part image)) place ≡ Some (length bytes)
    own-length here lengths rise none =
        let there = is-there part place image here in
        let entry : length_in part image ≡ Some (place, length bytes) =
        ap (λ (b : Bool). if b then length_of image.place (option_and_then record_of image.old)
        else None) (subst (λ (p : ℕ). (image.part == p) ≡ true) there.0
        ((Decides-eqb image.part image.part).1 refl))
        ∙ ap (λ (o : Option Item). length_of image.place (option_and_then record_of o)) old
        ∙ ap (λ (q : List ℕ). Some (q, length bytes)) (sym there.1) in
        ap (λ (found : Option (List ℕ × ℕ)). length_at (kept_more lengths found) place) entry
        ∙ length-with lengths place (length bytes) place rise
        ∙ ap (λ (o : Ordering). longer (length_at lengths place)
        (cond (is_eq o) (Some (length bytes)) None)) (same_is_equal place)
        ∙ ap (λ (o : Option ℕ). longer o (Some (length bytes))) none

    -- which is kept where it is the only one.
    kept-from : (images : List BeforeImage) (lengths : Lengths) → Rise lengths
        → length_at lengths place ≡ None → AreAlone images → oldest images part place ≡ Some image
        → length_at (with_lengths lengths (filter_map (length_in part) images)) place
        ≡ Some (length bytes)
    kept-from [] lengths rise none alone is = absurd cc
    kept-from (first ∷ images) lengths rise none alone is =
        by_test (is_image_of part place first) refl is
        (λ free further. kept-from images (kept_more lengths (length_in part first))
        (kept-rises lengths (length_in part first) rise) free alone.1 further)
      where
        by_test : (here : Bool) → is_image_of part place first ≡ here
            → cond here (Some first) (oldest images part place) ≡ Some image
            → (length_at (kept_more lengths (length_in part first)) place ≡ None
            → oldest images part place ≡ Some image
            → length_at (with_lengths (kept_more lengths (length_in part first))
            (filter_map (length_in part) images)) place ≡ Some (length bytes))
            → length_at (with_lengths lengths (cons_option (length_in part first)
            (filter_map (length_in part) images))) place ≡ Some (length bytes)
        by_test true here same further =
            let one : first ≡ image = some-one same in
            let there = is-there part place first here in
            ap (λ (all : Lengths). length_at all place)
            (kept-then lengths (filter_map (length_in part) images) (length_in part first))
            ∙ none-more images (kept_more lengths (length_in part first))
            (kept-rises lengths (length_in part first) rise)
            (ap (λ (p : ℕ). oldest images p place) (sym there.0)
            ∙ ap (oldest images first.part) there.1 ∙ alone.0)
            ∙ ap (λ (i : BeforeImage). length_at (kept_more lengths (length_in part i)) place) one
            ∙ own-length (ap (is_image_of part place) (sym one) ∙ here) lengths rise none
        by_test false here same further =
            ap (λ (all : Lengths). length_at all place)
            (kept-then lengths (filter_map (length_in part) images) (length_in part first))
            ∙ further (elsewhere first here lengths rise ∙ none) same

pub kept-length : (images : List BeforeImage) (part : ℕ) (place bytes : List ℕ)
    (image : BeforeImage) → AreAlone images → oldest images part place ≡ Some image
    → image.old ≡ Some (Standing bytes)
    → length_at (lengths_kept images part) place ≡ Some (length bytes)
kept-length images part place bytes image alone is old =
    kept-from part place bytes image old images [] tt refl alone is

-- ---- of a state

module _ (store : StoreNow) (now : Seen) (number : ℕ) (state : State)
    (stored : IsStored number store state now) (unit : UnitOfRecovery) (last : BeforeImage)
    (is : last_of_unit store unit ≡ Some last) where
  pub last-state : last_kept state unit ≡ Some last
  last-state = ap (last_in unit) (sym stored.befores) ∙ is

  last-there : oldest (images_in store.undo) last.part last.place ≡ Some last
  last-there = ap (λ (images : List BeforeImage). oldest images last.part last.place)
      stored.volume.kept
      ∙ stored.volume.logged.kept last.part last.place last
      (last-oldest unit state.befores last stored.volume.logged.once last-state)

  pub last-kept-in : IsKeptIn store.log.geometry state last
  last-kept-in = last-has (IsKeptIn store.log.geometry state) unit state.befores last
      stored.volume.laid.kept last-state

  -- it may be set where no stage is left
  pub can-back : (item : Option (List ℕ)) → last.old ≡ option_map Standing item
      → HasNoStage store now.cur last.part last.place
      → IsSettable store now.cur last.part last.place item
  can-back None old none = if-some
      (λ (part : PartNow). stage_of part.shape part.known now.cur last.place ≡ None)
      (λ (part : PartNow). CanSet part.shape part.known now.cur
      (lengths_kept (images_in store.undo) last.part) last.place None)
      (λ part is. record { no_stage = is; room = tt }) (part_among store.parts last.part) none
  can-back (Some bytes) old none =
      if-some
      (λ (part : PartNow). stage_of part.shape part.known now.cur last.place ≡ None)
      (λ (part : PartNow). CanSet part.shape part.known now.cur
      (lengths_kept (images_in store.undo) last.part) last.place (Some bytes))
      (λ part is. can-set-kept part.shape part.known now.cur
      (lengths_kept (images_in store.undo) last.part) last.place bytes (length bytes)
      (kept-length (images_in store.undo) last.part last.place bytes last
      (subst AreAlone (sym stored.volume.kept) stored.volume.logged.alone) last-there old)
      (goes-back part.shape (length bytes)) is)
      (part_among store.parts last.part) none

-- the record of a before-image
record-old : (old : Option (List ℕ)) → option_and_then record_of (option_map Standing old) ≡ old
record-old None = refl
record-old (Some bytes) = refl

-- what putting it back changes
module _ (store : StoreNow) (now : Seen) (number : ℕ) (state : State)
    (stored : IsStored number store state now) (unit : UnitOfRecovery) (before : Before)
    (is : last_of_unit store unit ≡ Some (image_of unit before)) where
  -- what the part leaves at its place
  abbrev pub back-item : Option Item
  back-item = left_among store.parts before.part.0 state before.place before.old

  -- by the shape with which it is laid
  item-by : (shape : Shape)
      → shape_by store.log.geometry (state.contents 0) before.part.0 ≡ Some shape
      → back-item ≡ left_by shape (item_at (state.contents before.part.0) before.place)
      (option_and_then record_of (option_map Standing before.old))
  item-by shape laid =
      ap (option_and_then (λ (one : Shape).
      left_by one (item_at (state.contents before.part.0) before.place) before.old))
      (stored.whole before.part.0 shape laid)
      ∙ ap (left_by shape (item_at (state.contents before.part.0) before.place))
      (sym (record-old before.old))

  abbrev kept : IsKeptIn store.log.geometry state (image_of unit before)
  kept = last-kept-in store now number state stored unit (image_of unit before) is

  pub back-of : IsCurrent state.numbers unit → IsChangeOf store.log.geometry state
      (back_at unit before.part before.place None back-item)
  back-of current = record {
    current = current;
    not_catalog = kept.not_catalog;
    shape = kept.shape;
    laid = kept.laid;
    place = kept.place;
  }

  -- the record that stands there then is that of the before-image
  back-stands : standing_of back-item ≡ option_map Standing before.old
  back-stands = ap standing_of (item-by kept.shape kept.laid)
      ∙ left-stands kept.shape (item_at (state.contents before.part.0) before.place)
      (option_and_then record_of (option_map Standing before.old))
      ∙ ap (option_map Standing) (record-old before.old)

  pub back-in : (new : State) → IsBackIn store.log.geometry unit state new
      → IsPutBack (back_at unit before.part before.place None back-item) state new
  back-in new back =
      let found = last-state store now number state stored unit (image_of unit before) is in
      let one : back.last ≡ image_of unit before = some-one (sym back.is ∙ found) in
      let laid = ap (λ (i : BeforeImage). shape_by store.log.geometry (state.contents 0) i.part)
      (sym one) ∙ back.laid in
      record {
        last = found ∙ ap (λ (old : Option Item). Some (record {
          unit = unit;
          part = before.part.0;
          place = before.place;
          old = old;
        })) (sym back-stands);
        contents = back.contents
            ∙ ap (λ (i : BeforeImage). with_change (record {
              part = i.part;
              place = i.place;
              new = left_by back.shape (item_at (state.contents i.part) i.place)
                  (option_and_then record_of i.old);
            }) state.contents) one
            ∙ ap (λ (item : Option Item). with_change (record {
              part = before.part.0;
              place = before.place;
              new = item;
            }) state.contents) (sym (item-by back.shape laid));
        befores = back.befores;
        logged = back.logged;
        used = back.used;
        numbers = back.numbers;
      }

  -- the state with it put back
  abbrev pub back-state : State
  back-state = record state {
    contents = with_change (record {
      part = before.part.0;
      place = before.place;
      new = back-item;
    }) state.contents;
    befores = without_last unit state.befores;
  }

  pub back-made : IsBackIn store.log.geometry unit state back-state
  back-made = record {
    last = image_of unit before;
    is = last-state store now number state stored unit (image_of unit before) is;
    shape = kept.shape;
    laid = kept.laid;
    contents = ap (λ (item : Option Item). with_change (record {
      part = before.part.0;
      place = before.place;
      new = item;
    }) state.contents) (item-by kept.shape kept.laid);
    befores = refl;
    logged = refl;
    used = refl;
    numbers = refl;
  }

  -- a store of which it was taken out
  pub taken-from : (undo : List KeptRecord) → images_in undo ≡ images_in store.undo
      → befores_of undo ≡ without_last unit (befores_of store.undo)
      → IsTakenFrom number (record store { undo = undo }) unit state now
  taken-from undo images befores =
      record { undo = store.undo; stored = stored; images = images; befores = befores }

pub set-taken : (store : StoreNow) (now : Seen) (unit : UnitOfRecovery) (undo : List KeptRecord)
    → befores_of undo ≡ without_last unit (befores_of store.undo) → IsSet store now
    → IsSet (record store { undo = undo }) now
set-taken store now unit undo befores set = record {
  allowed = set.allowed;
  blocks = set.blocks;
  sound = set.sound;
  parts = set.parts;
  apart = set.apart;
  changed = set.changed;
  idle = set.idle;
  kept = subst (All (IsFitImage store.parts)) (sym befores)
      (fits-out (IsFitImage store.parts) unit (befores_of store.undo) set.kept);
  areas = set.areas;
  owns = set.owns;
}
