-- The catalog among the parts of a store, as a record is added to it.
use Rattle.std.proofs.Common.{◌≡◌, ◌<◌, ◌≤◌, ◌^◌, ℕ, Bool, true, false, IsTrue, List, Option, Some}
use Rattle.std.proofs.Common.{ap, arith, length, subst}
use Rattle.std.specs.Prelude.{IfSome}
use Rattle.vr_types.specs.Seen.{Seen}
use Rattle.vr_space.specs.Known.{HasMet}
use Rattle.vr_space.specs.Numbered.{IsNumberedLength, number_of}
use Rattle.vr_space.specs.Part.{IsOn, IsPlaceOf, IsRecordOf, KeyedShape, NumberedShape, Shape}
use Rattle.vr_space.specs.Part.{part_no}
use Rattle.vr_types.proofs.CallerLemmas.{length-four}
use Rattle.vr_store.specs.Store.{IsSet, PartNow, StoreNow, part_among, shape_among}
use Rattle.vr_store.proofs.Recorded.{at-shape, part-number-at, set-at}

-- a place at which a record may stand is no longer than a record
place-short : (shape : Shape) (place bytes : List ℕ) (now : Seen) → IsOn shape now
    → IsPlaceOf shape place → IsRecordOf shape place bytes → length place < 2 ^ 16
place-short (KeyedShape part) place bytes now on at is = omega (
  arith,
  at,
  is.0.least,
  is.0.most,
  on.part_is.fits,
  on.part_is.allowed.size.most,
)
place-short (NumberedShape part) place bytes now on at is =
    omega (arith, ap length at.bytes, length-four (number_of place))

-- and a record no longer than a block
numbered-short : (relative : Bool) (most n : ℕ) → IsNumberedLength relative most n → n ≤ most
numbered-short true most n is = omega (arith, is)
numbered-short false most n is = is.1

record-short : (shape : Shape) (place bytes : List ℕ) (now : Seen) → IsOn shape now
    → IsRecordOf shape place bytes → length bytes < 2 ^ 32
record-short (KeyedShape part) place bytes now on is = omega (
  arith,
  is.0.most,
  on.part_is.fits,
  on.part_is.allowed.size.most,
)
record-short (NumberedShape part) place bytes now on is = omega (
  arith,
  numbered-short part.relative part.most (length bytes) is.whole,
  on.part_is.fits,
  on.part_is.allowed.size.most,
)

-- What a call that adds a record knows of it, or one that changes the record that stands there;
-- `R` is what has to hold of the blocks.
pub record IsCatalogAt (tells : Bool) (R : StoreNow → PartNow → Type 0) (store : StoreNow)
    (place bytes : List ℕ) (now : Seen) (catalog : PartNow) : Type 0 where
  pub number : part_no catalog.shape ≡ record { 0 = 0 }
  pub on : IsOn catalog.shape now
  pub place_is : IsPlaceOf catalog.shape place
  pub item : IsRecordOf catalog.shape place bytes
  pub short : length place < 2 ^ 16
  pub short_bytes : length bytes < 2 ^ 32
  pub met : HasMet catalog.known place
  pub ready : IsTrue tells → R store catalog

catalog-in : (tells : Bool) (R : StoreNow → PartNow → Type 0) (store : StoreNow)
    (place bytes : List ℕ) (now : Seen) (catalog : PartNow)
    → part_among store.parts 0 ≡ Some catalog → IsSet store now
    → IfSome (shape_among store.parts 0) (λ shape. IsPlaceOf shape place)
    → IfSome (shape_among store.parts 0) (λ shape. IsRecordOf shape place bytes)
    → IfSome (part_among store.parts 0) (λ (part : PartNow). HasMet part.known place)
    → (IsTrue tells → IfSome (part_among store.parts 0) (R store))
    → IsCatalogAt tells R store place bytes now catalog
catalog-in tells R store place bytes now catalog found set at item met ready =
    let on = (set-at store now set 0 catalog found).on in
    let place-is = at-shape (λ (shape : Shape). IsPlaceOf shape place) store.parts 0 catalog found
    at in
    let item-is = at-shape (λ (shape : Shape). IsRecordOf shape place bytes) store.parts 0 catalog
    found item in
    record {
      number = part-number-at store now set (record { 0 = 0 }) catalog found;
      on = on;
      place_is = place-is;
      item = item-is;
      short = place-short catalog.shape place bytes now on place-is item-is;
      short_bytes = record-short catalog.shape place bytes now on item-is;
      met = subst (λ (one : Option PartNow).
          IfSome one (λ (part : PartNow). HasMet part.known place)) found met;
      ready = λ told. subst (λ (one : Option PartNow). IfSome one (R store)) found (ready told);
    }

-- The same where the store is seen as another value.
pub catalog-at : (tells : Bool) (R : StoreNow → PartNow → Type 0) (store seen : StoreNow)
    → store ≡ seen → (place bytes : List ℕ) (now : Seen) (catalog : PartNow)
    → part_among store.parts 0 ≡ Some catalog → IsSet seen now
    → IfSome (shape_among seen.parts 0) (λ shape. IsPlaceOf shape place)
    → IfSome (shape_among seen.parts 0) (λ shape. IsRecordOf shape place bytes)
    → IfSome (part_among seen.parts 0) (λ (part : PartNow). HasMet part.known place)
    → (IsTrue tells → IfSome (part_among seen.parts 0) (R seen))
    → IsCatalogAt tells R store place bytes now catalog
catalog-at tells R store seen view place bytes now catalog found =
    subst (λ (s : StoreNow). IsSet s now
    → IfSome (shape_among s.parts 0) (λ shape. IsPlaceOf shape place)
    → IfSome (shape_among s.parts 0) (λ shape. IsRecordOf shape place bytes)
    → IfSome (part_among s.parts 0) (λ (part : PartNow). HasMet part.known place)
    → (IsTrue tells → IfSome (part_among s.parts 0) (R s))
    → IsCatalogAt tells R store place bytes now catalog) view
    (catalog-in tells R store place bytes now catalog found)
