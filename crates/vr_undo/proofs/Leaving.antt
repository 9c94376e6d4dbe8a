-- What is left once a record is taken back, a before-image is taken out, or a unit is forgotten.
use Rattle.std.proofs.Common.{◌≡◌, ℕ, zero, suc, ◌+◌, ◌<◌, Bool, true, false, cond, not, List, []}
use Rattle.std.proofs.Common.{◌∷◌, ◌++◌, length, get_or, set, drop, map, filter, Option, Some, None}
use Rattle.std.proofs.Common.{refl, sym, ap, subst, ◌∙◌, arith, ◌&&◌, ◌||◌}
use Rattle.std.specs.Prelude.{option_map, is_some}
use Rattle.std.specs.List.{cons_option, filter_map, list_any, remove}
use Rattle.std.proofs.lemmas.Bool.{true≢false, false≢true}
use Rattle.std.proofs.lemmas.Grind.{common_steps}
use Rattle.std.proofs.lemmas.List.Folds.{list_any-append, list_any_at}
use Rattle.vr_types.specs.Locks.{same_unit}
use Rattle.vr_types.specs.declared.unit.Unit.{Unit as UnitOfRecovery}
use Rattle.vr_history.specs.Effects.{is_other, keeps_other, last_of, without_last}
use Rattle.vr_history.specs.State.{BeforeImage, Logged}
use Rattle.vr_history.proofs.Same.{unit_same}
use Rattle.vr_undo.specs.Found.{IsLastAt, no_record}
use Rattle.vr_undo.specs.Records.{befores_of, image_of, images_in, keeps_for, last_in}
use Rattle.vr_undo.specs.Records.{logged_image, logged_of, place_of, put_out, with_last_out}
use Rattle.vr_undo.specs.Records.{without_last_by, without_unit}
use Rattle.vr_undo.specs.declared.before.Before.{Before}
use Rattle.vr_undo.specs.declared.record.KeptRecord.{KeptRecord}

-- the record at a place, whatever is read past the end
pub item-at : (records : List KeptRecord) (at : ℕ) (item : KeptRecord) → at < length records
    → item ≡ get_or records at item → item ≡ get_or records at no_record
item-at records at item within is = grind (arith, common_steps)

-- ---- the last one that passes a test

or-false : (a b : Bool) → (a || b) ≡ false → (a ≡ false) × (b ≡ false)
or-false true b none = absurd (true≢false none)
or-false false b none = (refl, none)

or-true : (a : Bool) → (a || true) ≡ true
or-true true = refl
or-true false = refl

module _ (test : KeptRecord → Bool) where
  last-tail : (kept : KeptRecord) (records : List KeptRecord) (at : ℕ)
      → IsLastAt test (kept ∷ records) (suc at) → IsLastAt test records at
  last-tail kept records at is = record {
    in_range = omega (arith, is.in_range);
    passes = is.passes;
    none_after = subst (λ (n : ℕ). list_any test (drop n (kept ∷ records)) ≡ false)
        {x = suc at + 1} {y = suc (at + 1)} (omega arith) is.none_after;
  }

  last-any : (records : List KeptRecord) (at : ℕ) → IsLastAt test records at
      → list_any test records ≡ true
  last-any records at is = list_any_at test records at no_record is.in_range is.passes

  -- it is taken away
  pub removed : (records : List KeptRecord) (at : ℕ) → IsLastAt test records at
      → remove records at ≡ without_last_by test records
  removed [] at is = absurd (omega (arith, is.in_range))
  removed (kept ∷ records) zero is =
      sym (ap (λ (b : Bool). cond (b && not (list_any test records)) records
      (kept ∷ without_last_by test records)) is.passes
      ∙ ap (λ (b : Bool). cond (not b) records (kept ∷ without_last_by test records))
      is.none_after)
  removed (kept ∷ records) (suc at) is =
      ap (λ (rest : List KeptRecord). kept ∷ rest)
      (removed records at (last-tail kept records at is))
      ∙ sym (ap (λ (b : Bool). cond (test kept && not b) records
      (kept ∷ without_last_by test records))
      (last-any records at (last-tail kept records at is))
      ∙ none-here (test kept) records (kept ∷ without_last_by test records))
    where
      none-here : (b : Bool) (one other : List KeptRecord) → cond (b && false) one other ≡ other
      none-here true one other = refl
      none-here false one other = refl

  pub none-removed : (records : List KeptRecord) → list_any test records ≡ false
      → records ≡ without_last_by test records
  none-removed [] none = refl
  none-removed (kept ∷ records) none =
      let both = or-false (test kept) (list_any test records) none in
      ap (λ (rest : List KeptRecord). kept ∷ rest) (none-removed records both.1)
      ∙ sym (ap (λ (b : Bool). cond (b && not (list_any test records)) records
      (kept ∷ without_last_by test records)) both.0)

  -- one that was added at the end
  pub taken-back : (records : List KeptRecord) (last : KeptRecord) → test last ≡ true
      → without_last_by test (records ++ last ∷ []) ≡ records
  taken-back [] last passes =
      ap (λ (b : Bool). cond (b && true) [] (last ∷ [])) passes
  taken-back (kept ∷ records) last passes =
      ap (λ (b : Bool). cond (test kept && not b) (records ++ last ∷ [])
      (kept ∷ without_last_by test (records ++ last ∷ [])))
      (list_any-append test records (last ∷ [])
      ∙ ap (λ (b : Bool). list_any test records || (b || false)) passes
      ∙ or-true (list_any test records))
      ∙ none-here (test kept) (records ++ last ∷ [])
      (kept ∷ without_last_by test (records ++ last ∷ []))
      ∙ ap (λ (rest : List KeptRecord). kept ∷ rest) (taken-back records last passes)
    where
      none-here : (b : Bool) (one other : List KeptRecord) → cond (b && false) one other ≡ other
      none-here true one other = refl
      none-here false one other = refl

-- ---- a unit's last before-image

module _ (unit : UnitOfRecovery) where
  abbrev own : BeforeImage → Bool
  own image = same_unit unit image.unit

  keeps-any : (records : List KeptRecord)
      → list_any (keeps_for unit) records ≡ keeps_other unit (befores_of records)
  keeps-any [] = refl
  keeps-any (kept ∷ records) = by_kept kept.kept (keeps-any records)
    where
      by_kept : (image : Option Before)
          → list_any (keeps_for unit) records ≡ keeps_other unit (befores_of records)
          → ((is_some image && same_unit unit kept.unit) || list_any (keeps_for unit) records)
          ≡ keeps_other unit (cons_option (option_map (image_of kept.unit) image)
          (befores_of records))
      by_kept None further = further
      by_kept (Some before) further =
          ap (λ (b : Bool). same_unit unit kept.unit || b) further

  none-own : (images : List BeforeImage) → keeps_other unit images ≡ false
      → filter own images ≡ []
  none-own [] none = refl
  none-own (image ∷ images) none =
      let both = or-false (own image) (keeps_other unit images) none in
      ap (λ (b : Bool). cond b (image ∷ filter own images) (filter own images)) both.0
      ∙ none-own images both.1

  last-more : (images : List BeforeImage) (image last : BeforeImage) (mine : Bool)
      → last_of images ≡ Some last
      → last_of (cond mine (image ∷ images) images) ≡ Some last
  last-more images image last false is = is
  last-more [] image last true is = absurd cc
  last-more (first ∷ images) image last true is = is

  -- the one at the place of the last record
  pub none-last : (records : List KeptRecord) → list_any (keeps_for unit) records ≡ false
      → None ≡ last_in unit (befores_of records)
  none-last records none =
      sym (ap last_of (none-own (befores_of records) (sym (keeps-any records) ∙ none)))

  first-last : (kept : KeptRecord) (image : Option Before) (records : List KeptRecord)
      → (is_some image && same_unit unit kept.unit) ≡ true
      → list_any (keeps_for unit) records ≡ false
      → option_map (image_of unit) image
      ≡ last_in unit (cons_option (option_map (image_of kept.unit) image) (befores_of records))
  first-last kept None records passes none = absurd (false≢true passes)
  first-last kept (Some before) records passes none =
      ap (λ (of : UnitOfRecovery). Some (image_of of before)) (unit_same unit kept.unit passes)
      ∙ sym (ap (λ (b : Bool). last_of (cond b
      (image_of kept.unit before ∷ filter own (befores_of records))
      (filter own (befores_of records)))) passes
      ∙ ap (λ (images : List BeforeImage). last_of (image_of kept.unit before ∷ images))
      (none-own (befores_of records) (sym (keeps-any records) ∙ none)))

  some-last : (image : Option Before) (rest : Option BeforeImage)
      → is_some image ≡ true → option_map (image_of unit) image ≡ rest
      → (last : BeforeImage) × (rest ≡ Some last)
  some-last None rest some is = absurd (false≢true some)
  some-last (Some before) rest some is = (image_of unit before, sym is)

  and-first : (a b : Bool) → (a && b) ≡ true → a ≡ true
  and-first true b both = refl
  and-first false b both = both

  pub last-kept : (records : List KeptRecord) (at : ℕ) → IsLastAt (keeps_for unit) records at
      → option_map (image_of unit) (get_or records at no_record).kept
      ≡ last_in unit (befores_of records)
  last-kept [] at is = absurd (omega (arith, is.in_range))
  last-kept (kept ∷ records) zero is = first-last kept kept.kept records is.passes is.none_after
  last-kept (kept ∷ records) (suc at) is =
      let tail = last-tail (keeps_for unit) kept records at is in
      let here = last-kept records at tail in
      let some = some-last (get_or records at no_record).kept (last_in unit (befores_of records))
      (and-first (is_some (get_or records at no_record).kept)
      (same_unit unit (get_or records at no_record).unit) tail.passes) here in
      here ∙ some.1 ∙ sym (by_kept kept.kept some.0 some.1)
    where
      by_kept : (image : Option Before) (last : BeforeImage)
          → last_in unit (befores_of records) ≡ Some last
          → last_in unit (cons_option (option_map (image_of kept.unit) image)
          (befores_of records)) ≡ Some last
      by_kept None last is_last = is_last
      by_kept (Some before) last is_last =
          last-more (filter own (befores_of records)) (image_of kept.unit before) last
          (same_unit unit kept.unit) is_last

  -- ---- it is taken out

  pub put-out-at : (records : List KeptRecord) (at : ℕ) → IsLastAt (keeps_for unit) records at
      → set records at (put_out (get_or records at no_record)) ≡ with_last_out unit records
  put-out-at [] at is = absurd (omega (arith, is.in_range))
  put-out-at (kept ∷ records) zero is =
      sym (ap (λ (b : Bool). cond (b && not (list_any (keeps_for unit) records))
      (put_out kept ∷ records) (kept ∷ with_last_out unit records)) is.passes
      ∙ ap (λ (b : Bool). cond (not b) (put_out kept ∷ records)
      (kept ∷ with_last_out unit records)) is.none_after)
  put-out-at (kept ∷ records) (suc at) is =
      let tail = last-tail (keeps_for unit) kept records at is in
      ap (λ (rest : List KeptRecord). kept ∷ rest) (put-out-at records at tail)
      ∙ sym (ap (λ (b : Bool). cond (keeps_for unit kept && not b) (put_out kept ∷ records)
      (kept ∷ with_last_out unit records))
      (last-any (keeps_for unit) records at tail)
      ∙ none-here (keeps_for unit kept) (put_out kept ∷ records)
      (kept ∷ with_last_out unit records))
    where
      none-here : (b : Bool) (one other : List KeptRecord) → cond (b && false) one other ≡ other
      none-here true one other = refl
      none-here false one other = refl

  pub none-out : (records : List KeptRecord) → list_any (keeps_for unit) records ≡ false
      → records ≡ with_last_out unit records
  none-out [] none = refl
  none-out (kept ∷ records) none =
      let both = or-false (keeps_for unit kept) (list_any (keeps_for unit) records) none in
      ap (λ (rest : List KeptRecord). kept ∷ rest) (none-out records both.1)
      ∙ sym (ap (λ (b : Bool). cond (b && not (list_any (keeps_for unit) records))
      (put_out kept ∷ records) (kept ∷ with_last_out unit records)) both.0)

  pub images-out : (records : List KeptRecord)
      → images_in (with_last_out unit records) ≡ images_in records
  images-out [] = refl
  images-out (kept ∷ records) =
      by_last (keeps_for unit kept && not (list_any (keeps_for unit) records)) (images-out records)
    where
      by_last : (last : Bool) → images_in (with_last_out unit records) ≡ images_in records
          → images_in (cond last (put_out kept ∷ records) (kept ∷ with_last_out unit records))
          ≡ images_in (kept ∷ records)
      by_last true further = refl
      by_last false further = ap (cons_option (logged_image kept)) further

  pub befores-out : (records : List KeptRecord)
      → befores_of (with_last_out unit records) ≡ without_last unit (befores_of records)
  befores-out [] = refl
  befores-out (kept ∷ records) = by_kept kept.kept (befores-out records)
    where
      left : Option Before → KeptRecord
      left image = record kept { kept = image }

      by_last : (before : Before) (last : Bool)
          → befores_of (with_last_out unit records) ≡ without_last unit (befores_of records)
          → befores_of (cond last (put_out kept ∷ records)
          (left (Some before) ∷ with_last_out unit records))
          ≡ cond last (befores_of records)
          (image_of kept.unit before ∷ without_last unit (befores_of records))
      by_last before true further = refl
      by_last before false further =
          ap (λ (images : List BeforeImage). image_of kept.unit before ∷ images) further

      by_kept : (image : Option Before)
          → befores_of (with_last_out unit records) ≡ without_last unit (befores_of records)
          → befores_of (with_last_out unit (left image ∷ records))
          ≡ without_last unit (befores_of (left image ∷ records))
      by_kept None further = further
      by_kept (Some before) further =
          by_last before
          (same_unit unit kept.unit && not (list_any (keeps_for unit) records)) further
          ∙ ap (λ (b : Bool). cond (same_unit unit kept.unit && not b) (befores_of records)
          (image_of kept.unit before ∷ without_last unit (befores_of records)))
          (keeps-any records)

  -- ---- a unit is forgotten

  forgets : (image_of_record : KeptRecord → Option Before) (records : List KeptRecord)
      → filter_map (λ kept. option_map (image_of kept.unit) (image_of_record kept))
      (without_unit unit records)
      ≡ filter (λ image. is_other unit image.unit)
      (filter_map (λ kept. option_map (image_of kept.unit) (image_of_record kept)) records)
  forgets image_by [] = refl
  forgets image_by (kept ∷ records) =
      by_both (is_other unit kept.unit) refl (image_by kept) refl (forgets image_by records)
    where
      all : List KeptRecord → List BeforeImage
      all others = filter_map (λ other. option_map (image_of other.unit) (image_by other)) others

      others : List BeforeImage → List BeforeImage
      others images = filter (λ image. is_other unit image.unit) images

      by_both : (other : Bool) → is_other unit kept.unit ≡ other → (image : Option Before)
          → image_by kept ≡ image → all (without_unit unit records) ≡ others (all records)
          → all (cond other (kept ∷ without_unit unit records) (without_unit unit records))
          ≡ others (cons_option (option_map (image_of kept.unit) image) (all records))
      by_both true is None image_is further =
          ap (λ (found : Option Before). cons_option (option_map (image_of kept.unit) found)
          (all (without_unit unit records))) image_is ∙ further
      by_both true is (Some before) image_is further =
          ap (λ (found : Option Before). cons_option (option_map (image_of kept.unit) found)
          (all (without_unit unit records))) image_is
          ∙ ap (λ (images : List BeforeImage). image_of kept.unit before ∷ images) further
          ∙ sym (ap (λ (b : Bool). cond b (image_of kept.unit before ∷ others (all records))
          (others (all records))) is)
      by_both false is None image_is further = further
      by_both false is (Some before) image_is further =
          further
          ∙ sym (ap (λ (b : Bool). cond b (image_of kept.unit before ∷ others (all records))
          (others (all records))) is)

  pub befores-forgotten : (records : List KeptRecord)
      → befores_of (without_unit unit records)
      ≡ filter (λ image. is_other unit image.unit) (befores_of records)
  befores-forgotten records = forgets (λ kept. kept.kept) records

  pub images-forgotten : (records : List KeptRecord)
      → images_in (without_unit unit records)
      ≡ filter (λ image. is_other unit image.unit) (images_in records)
  images-forgotten records = forgets (λ kept. kept.logged) records

  places-forgotten : (images : List BeforeImage)
      → map place_of (filter (λ image. is_other unit image.unit) images)
      ≡ filter (λ (log : Logged). is_other unit log.unit) (map place_of images)
  places-forgotten [] = refl
  places-forgotten (image ∷ images) =
      by_other (is_other unit image.unit) (places-forgotten images)
    where
      by_other : (other : Bool)
          → map place_of (filter (λ (i : BeforeImage). is_other unit i.unit) images)
          ≡ filter (λ (log : Logged). is_other unit log.unit) (map place_of images)
          → map place_of (cond other (image ∷ filter (λ (i : BeforeImage). is_other unit i.unit)
          images) (filter (λ (i : BeforeImage). is_other unit i.unit) images))
          ≡ cond other (place_of image ∷ filter (λ (log : Logged). is_other unit log.unit)
          (map place_of images)) (filter (λ (log : Logged). is_other unit log.unit)
          (map place_of images))
      by_other true further = ap (λ (logged : List Logged). place_of image ∷ logged) further
      by_other false further = further

  pub logged-forgotten : (records : List KeptRecord)
      → logged_of (without_unit unit records)
      ≡ filter (λ (log : Logged). is_other unit log.unit) (logged_of records)
  logged-forgotten records =
      ap (map place_of) (images-forgotten records) ∙ places-forgotten (images_in records)
