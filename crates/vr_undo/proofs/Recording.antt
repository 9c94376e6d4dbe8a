-- Lists of before-images after a record more.
use Rattle.std.proofs.Common.{◌≡◌, ℕ, Bool, true, false, cond, List, [], ◌∷◌, ◌++◌, map}
use Rattle.std.proofs.Common.{Option, Some, None, refl, ap, ◌∙◌, ◌||◌}
use Rattle.std.specs.Prelude.{option_map, OnOk, Result, Ok, Err}
use Rattle.std.specs.List.{cons_option, filter_map, list_any}
use Rattle.std.proofs.lemmas.List.{append-nil}
use Rattle.std.proofs.lemmas.List.Elements.{filter_map-append}
use Rattle.vr_types.specs.declared.unit.Unit.{Unit as UnitOfRecovery}
use Rattle.vr_history.specs.State.{BeforeImage, Logged}
use Rattle.vr_undo.specs.Records.{befores_of, has_at, image_of, images_in, is_at, is_logged_in}
use Rattle.vr_undo.specs.Records.{kept_image, logged_image, logged_of, new_record, place_of}
use Rattle.vr_undo.specs.Records.{some_at, unless_there, with_logged, with_record}
use Rattle.vr_undo.specs.declared.before.Before.{Before}
use Rattle.vr_undo.specs.declared.record.KeptRecord.{KeptRecord}

-- what there is at a place, record by record
pub any-image : (image_by : KeptRecord → Option BeforeImage) (unit : UnitOfRecovery) (part : ℕ)
    (place : List ℕ) (records : List KeptRecord)
    → list_any (λ kept. some_at unit part place (image_by kept)) records
    ≡ has_at unit part place (filter_map image_by records)
any-image image_by unit part place [] = refl
any-image image_by unit part place (kept ∷ records) =
    by_image (image_by kept) (any-image image_by unit part place records)
  where
    by_image : (image : Option BeforeImage)
        → list_any (λ other. some_at unit part place (image_by other)) records
        ≡ has_at unit part place (filter_map image_by records)
        → (some_at unit part place image
        || list_any (λ other. some_at unit part place (image_by other)) records)
        ≡ has_at unit part place (cons_option image (filter_map image_by records))
    by_image None further = further
    by_image (Some image) further = ap (λ (b : Bool). is_at unit part place image || b) further

-- what follows where a call succeeds
pub on-more : {X E : Type 0} {A B : Type 0} (result : Result X E) → (A → B) → OnOk result A
    → OnOk result B
on-more (Ok x) follows a = follows a
on-more (Err e) follows a = a

-- the places that are logged are those of the images
pub logged-at : (unit : UnitOfRecovery) (part : ℕ) (place : List ℕ) (images : List BeforeImage)
    → has_at unit part place images ≡ is_logged_in unit part place (map place_of images)
logged-at unit part place [] = refl
logged-at unit part place (image ∷ images) =
    ap (λ (b : Bool). is_at unit part place image || b) (logged-at unit part place images)

module _ (unit : UnitOfRecovery) (before : Before) where
  abbrev image : BeforeImage
  image = image_of unit before

  abbrev made : Bool → Bool → List KeptRecord → List KeptRecord
  made logged kept records = with_record unit before logged kept records

  added : (image_by : KeptRecord → Option BeforeImage) (records : List KeptRecord)
      (kept : KeptRecord) (there : Bool)
      → image_by kept ≡ option_map (image_of unit) (unless_there there before)
      → filter_map image_by (records ++ kept ∷ [])
      ≡ cond there (filter_map image_by records) (filter_map image_by records ++ image ∷ [])
  added image_by records kept there is =
      filter_map-append image_by records (kept ∷ [])
      ∙ ap (λ (found : Option BeforeImage). filter_map image_by records ++ cons_option found []) is
      ∙ by_there there
    where
      by_there : (b : Bool)
          → filter_map image_by records
          ++ cons_option (option_map (image_of unit) (unless_there b before)) []
          ≡ cond b (filter_map image_by records) (filter_map image_by records ++ image ∷ [])
      by_there true = append-nil (filter_map image_by records)
      by_there false = refl

  pub images-made : (logged kept : Bool) (records : List KeptRecord)
      → images_in (made logged kept records)
      ≡ cond logged (images_in records) (images_in records ++ image ∷ [])
  images-made true true records = refl
  images-made true false records =
      added logged_image records (new_record unit before true false) true refl
  images-made false true records =
      added logged_image records (new_record unit before false true) false refl
  images-made false false records =
      added logged_image records (new_record unit before false false) false refl

  pub befores-made : (logged kept : Bool) (records : List KeptRecord)
      → befores_of (made logged kept records)
      ≡ cond kept (befores_of records) (befores_of records ++ image ∷ [])
  befores-made true true records = refl
  befores-made true false records =
      added kept_image records (new_record unit before true false) false refl
  befores-made false true records =
      added kept_image records (new_record unit before false true) true refl
  befores-made false false records =
      added kept_image records (new_record unit before false false) false refl

  -- the places that are logged then
  places-more : (images : List BeforeImage)
      → map place_of (images ++ image ∷ []) ≡ map place_of images ++ place_of image ∷ []
  places-more [] = refl
  places-more (first ∷ images) =
      ap (λ (logged : List Logged). place_of first ∷ logged) (places-more images)

  places-with : (images : List BeforeImage) (there : Bool)
      → map place_of (cond there images (images ++ image ∷ []))
      ≡ cond there (map place_of images) (map place_of images ++ place_of image ∷ [])
  places-with images true = refl
  places-with images false = places-more images

  pub logged-made : (kept : Bool) (records : List KeptRecord)
      → logged_of (made (has_at unit before.part.0 before.place (images_in records)) kept records)
      ≡ with_logged unit before.part.0 before.place (logged_of records)
  logged-made kept records =
      let there = has_at unit before.part.0 before.place (images_in records) in
      ap (map place_of) (images-made there kept records)
      ∙ places-with (images_in records) there
      ∙ ap (λ (b : Bool). cond b (logged_of records) (logged_of records ++ place_of image ∷ []))
      (logged-at unit before.part.0 before.place (images_in records))
