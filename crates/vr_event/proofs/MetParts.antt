-- Places and records that fit the parts fit them once a part has met a place; and what may be set once
-- room was asked for.
use Rattle.std.proofs.Common.{◌≡◌, ◌≢◌, ℕ, List, Option, Some, None, refl, sym, ap, subst, ◌∙◌, IsTrue}
use Rattle.std.proofs.Common.{inr, length}
use Rattle.std.specs.Prelude.{IfSome}
use Rattle.std.specs.Option.{option_map}
use Rattle.vr_types.specs.Image.{Image}
use Rattle.vr_types.specs.Space.{free_count}
use Rattle.vr_types.specs.declared.request.Request.{Request}
use Rattle.vr_space.specs.Part.{IsLengthOf, IsPlaceOf, IsRecordOf, Shape, fits_at, room_of}
use Rattle.vr_space.specs.Room.{Lengths}
use Rattle.vr_space.specs.declared.room.Room.TheVariants.{NoSpace, Ready}
use Rattle.vr_space.proofs.CallerLemmas.{ready-can, room-no-stage}
use Rattle.vr_history.specs.Case.{new_record}
use Rattle.vr_undo.specs.Records.{images_in}
use Rattle.vr_volume.specs.PutBack.{lengths_kept}
use Rattle.vr_store.specs.Parts.{OnlyMet}
use Rattle.vr_event.specs.Putting.{FitsItem, FitsLength, HasMetAt, HasPlace, HasRoomAt}
use Rattle.vr_event.specs.Putting.{IsFitting, IsReadyIn}
use Rattle.vr_store.specs.Room.{IsRoomAt}
use Rattle.vr_store.specs.Store.{HasLength, PartNow, StoreNow, part_among, shape_among}
use Rattle.vr_store.proofs.CallerLemmas.{shapes-same, split-met}

pub none-shape : (o : Option PartNow) → option_map (λ (part : PartNow). part.shape) o ≡ None
    → o ≡ None
none-shape None is = refl
none-shape (Some part) is = absurd cc

-- a part with a length that fits it has one
some-length : (found : Option Shape) (n : ℕ) → IfSome found (λ shape. IsLengthOf shape n)
    → IfSome found HasLength
some-length None n fits = tt
some-length (Some shape) n fits = (n, fits)

module _ (old new : List PartNow)
    (same : (n : ℕ) → shape_among new n ≡ shape_among old n) (part : ℕ) where
  laid-same : part_among old part ≢ None → part_among new part ≢ None
  laid-same laid none = laid (none-shape (part_among old part)
      (sym (same part) ∙ ap (option_map (λ (one : PartNow). one.shape)) none))

  pub place-same : (place : List ℕ) → HasPlace old part place → HasPlace new part place
  place-same place at = record {
    laid = laid-same at.laid;
    place_of = subst (λ (o : Option Shape). IfSome o (λ shape. IsPlaceOf shape place))
        (sym (same part)) at.place_of;
    short = at.short;
  }

  pub length-same : (n : ℕ) → FitsLength old part n → FitsLength new part n
  length-same n = subst (λ (o : Option Shape). IfSome o (λ shape. IsLengthOf shape n))
      (sym (same part))

  pub item-same : (place : List ℕ) (item : Option (List ℕ)) → FitsItem old part place item
      → FitsItem new part place item
  item-same place None fits = tt
  item-same place (Some bytes) fits = (
    subst (λ (o : Option Shape). IfSome o (λ shape. IsRecordOf shape place bytes))
        (sym (same part)) fits.0,
    fits.1,
  )

  pub ready-same : (request : Request) (place : List ℕ) (was : Option (List ℕ))
      → HasPlace old part place → FitsItem old part place (new_record request)
      → FitsItem old part place was → HasMetAt new part place → (n : ℕ) → FitsLength old part n
      → IsReadyIn new part request place was
  ready-same request place was at new-fits old-fits met n size = record {
    at = place-same place at;
    new_fits = item-same place (new_record request) new-fits;
    old_fits = item-same place was old-fits;
    met = met;
    long = some-length (shape_among new part) n (length-same n size);
  }

pub met-shapes : (number : ℕ) (old new : List PartNow) → OnlyMet number old new → (n : ℕ)
    → shape_among new n ≡ shape_among old n
met-shapes number old new only = shapes-same new old (split-met new old only.parts)

-- ---- what has room

module _ (store : StoreNow) (image : Image) (part : ℕ) (place : List ℕ) where
  abbrev kept : Lengths
  kept = lengths_kept (images_in store.undo) part

  pub room-ready : (item : Option (List ℕ)) (n : ℕ) → IsRoomAt store image part place n Ready
      → IfSome item (λ (bytes : List ℕ). n ≡ length bytes) → HasRoomAt store image part place item
  room-ready item n = of (part_among store.parts part)
    where
      of : (found : Option PartNow)
          → IfSome found (λ (one : PartNow). Ready ≡ room_of one.shape one.known image
          (free_count store.space) kept place n)
          → IfSome item (λ (bytes : List ℕ). n ≡ length bytes)
          → IfSome found (λ (one : PartNow). IsFitting one.shape one.known image kept place item)
      of None is long = tt
      of (Some one) is long =
          let both = ready-can one.shape one.known image (free_count store.space) kept place n
          (sym is) in
          record { no_stage = both.0; room = by_item item long both.1 }
        where
          by_item : (item : Option (List ℕ)) → IfSome item (λ (bytes : List ℕ). n ≡ length bytes)
              → IsTrue (fits_at one.shape one.known image kept place n)
              → IfSome item (λ (bytes : List ℕ).
              IsTrue (fits_at one.shape one.known image kept place (length bytes)))
          by_item None long fits = tt
          by_item (Some bytes) long fits =
              subst (λ (m : ℕ). IsTrue (fits_at one.shape one.known image kept place m)) long fits

  pub room-full : (n need left : ℕ) → IsRoomAt store image part place n (NoSpace need left)
      → HasRoomAt store image part place None
  room-full n need left = of (part_among store.parts part)
    where
      of : (found : Option PartNow)
          → IfSome found (λ (one : PartNow). NoSpace need left ≡ room_of one.shape one.known image
          (free_count store.space) kept place n)
          → IfSome found (λ (one : PartNow). IsFitting one.shape one.known image kept place None)
      of None is = tt
      of (Some one) is = record {
        no_stage = room-no-stage one.shape one.known image (free_count store.space) kept place n
            need left (inr (sym is));
        room = tt;
      }
