-- Keys of before-images: they differ exactly where each image is the only one of its place, in
-- whatever order they are; and once they are in order, exactly where none is the next one.
use Rattle.std.proofs.Common.{◌≡◌, ◌≢◌, ◌∙◌, ◌+◌, ◌<◌, ℕ, suc, Bool, true, false, List, [], ◌∷◌}
use Rattle.std.proofs.Common.{IsTrue, ap, arith, get_or, length, map, refl, subst, sym}
use Rattle.std.specs.Prelude.{Decides, ◌↔◌}
use Rattle.std.specs.List.{IsAllAdjacentAnswer}
use Rattle.std.specs.List.Sorted.{IsPermutation, IsSortedBy}
use Rattle.std.specs.Ordering.{eq_by_cmp, is_eq, is_lt, ordering_reverse}
use Rattle.std.specs.declared.cmp.Ordering.{Ordering}
use Rattle.std.specs.declared.cmp.Ordering.TheVariants.{Less, Equal, Greater}
use Rattle.std.proofs.lemmas.Bool.{true≢false}
use Rattle.std.proofs.lemmas.Cmp.{nat_list_cmp_total}
use Rattle.std.proofs.lemmas.List.{get_or-map, length-map}
use Rattle.std.proofs.lemmas.List.Elements.{All-map, All-weaker}
use Rattle.std.proofs.lemmas.List.Kept.{AllPairs-cons}
use Rattle.std.proofs.lemmas.Map.Keys.{IsDistinct-IsPermutation, IsDistinct-from_sorted}
use Rattle.std.proofs.lemmas.Map.Keys.{sorted_from_all_adjacent}
use Rattle.std.proofs.lemmas.Map.Made.{AllPairs-from_IsDistinct, IsDistinct-from_AllPairs}
use Rattle.std.proofs.lemmas.Map.Text.{is_eq-slice_cmp}
use Rattle.std.proofs.lemmas.Slice.Eq.{bytes_eq-Decides}
use Rattle.vr_types.specs.Content.{place_cmp}
use Rattle.vr_history.specs.State.{BeforeImage}
use Rattle.vr_volume.specs.PutBack.{AreAlone, is_image_of}
use Rattle.vr_volume.proofs.Alone.{is-own, is-there}
use Rattle.vr_recover.specs.Keys.{AllDiffer, key_of}
use Rattle.vr_recover.proofs.Keeping.{found-none, none-found}

-- ---- keys that the order doesn't tell apart

-- they are the same
same-key : (one other : List ℕ) → Decides (eq_by_cmp place_cmp one other) (one ≡ other)
same-key one other = subst (λ (b : Bool). Decides b (one ≡ other))
    (sym (is_eq-slice_cmp one other)) (bytes_eq-Decides one other)

flips : (one other : List ℕ) → eq_by_cmp place_cmp one other ≡ eq_by_cmp place_cmp other one
flips one other = by (eq_by_cmp place_cmp one other) refl
  where
    back : (b : Bool) → eq_by_cmp place_cmp other one ≡ b → eq_by_cmp place_cmp one other ≡ false
        → b ≡ false
    back false same differ = refl
    back true same differ = absurd (true≢false
        (sym ((same-key one other).1 (sym ((same-key other one).0 same))) ∙ differ))

    by : (b : Bool) → eq_by_cmp place_cmp one other ≡ b
        → eq_by_cmp place_cmp one other ≡ eq_by_cmp place_cmp other one
    by true same = same ∙ sym ((same-key other one).1 (sym ((same-key one other).0 same)))
    by false differ = differ ∙ sym (back (eq_by_cmp place_cmp other one) refl differ)

-- ---- in any order

pub differ-moved : (keys moved : List (List ℕ)) → IsPermutation keys moved → AllDiffer keys
    → AllDiffer moved
differ-moved keys moved moves differ = AllPairs-from_IsDistinct same-key moved
    (IsDistinct-IsPermutation (eq_by_cmp place_cmp) flips keys moved moves
    (IsDistinct-from_AllPairs same-key keys differ))

-- ---- of before-images

-- one that isn't of the place of another has another key
other-key : (image other : BeforeImage) → is_image_of image.part image.place other ≡ false
    → key_of image ≢ key_of other
other-key image other is same = true≢false
    (sym (is-own other)
    ∙ ap (λ (p : ℕ). is_image_of p other.place other) (sym (first-is same))
    ∙ ap (λ (q : List ℕ). is_image_of image.part q other) (sym (rest-is same)) ∙ is)
  where
    first-is : {x y : ℕ} {xs ys : List ℕ} → x ∷ xs ≡ y ∷ ys → x ≡ y
    first-is same = cc

    rest-is : {x y : ℕ} {xs ys : List ℕ} → x ∷ xs ≡ y ∷ ys → xs ≡ ys
    rest-is same = cc

key-other : (image other : BeforeImage) → key_of image ≢ key_of other
    → is_image_of image.part image.place other ≡ false
key-other image other differ = by (is_image_of image.part image.place other) refl
  where
    by : (b : Bool) → is_image_of image.part image.place other ≡ b → b ≡ false
    by false is = refl
    by true is =
        let there = is-there image.part image.place other is in
        absurd (differ (ap (λ (p : ℕ). p ∷ image.place) (sym there.0)
        ∙ ap (λ (q : List ℕ). other.part ∷ q) there.1))

pub alone-differ : (images : List BeforeImage) → AreAlone images → AllDiffer (map key_of images)
alone-differ [] alone = λ i j d less below. absurd (omega (arith, below))
alone-differ (image ∷ images) alone = AllPairs-cons (λ (one other : List ℕ). one ≢ other)
    (key_of image) (map key_of images)
    (All-map (λ (key : List ℕ). key_of image ≢ key) key_of images
    (All-weaker (λ (other : BeforeImage). is_image_of image.part image.place other ≡ false)
    (λ (other : BeforeImage). key_of image ≢ key_of other)
    (λ other. other-key image other) images
    (found-none (is_image_of image.part image.place) images alone.0)))
    (alone-differ images alone.1)

pub differ-alone : (images : List BeforeImage) → AllDiffer (map key_of images) → AreAlone images
differ-alone [] differ = tt
differ-alone (image ∷ images) differ = (
  none-found (is_image_of image.part image.place) images (λ k d below. key-other image
      (get_or images k d)
      (subst (λ (key : List ℕ). key_of image ≢ key) (get_or-map key_of images k d [] below)
      (differ 0 (suc k) [] (omega arith) (omega (arith, below, length-map images key_of))))),
  differ-alone images (λ i j d less below. differ (suc i) (suc j) d (omega (arith, less))
      (omega (arith, below))),
)

-- ---- in order

-- what is neither less nor greater is the same
neither-same : (one other : List ℕ) → is_lt (place_cmp one other) ≡ false
    → is_lt (place_cmp other one) ≡ false → one ≡ other
neither-same one other not-less not-more =
    (same-key one other).0 (ap is_eq (by (place_cmp one other) (place_cmp other one) not-less
    not-more (nat_list_cmp_total.antisymm one other)))
  where
    by : (here there : Ordering) → is_lt here ≡ false → is_lt there ≡ false
        → here ≡ ordering_reverse there → here ≡ Equal
    by Less there not-less not-more back = absurd (true≢false not-less)
    by Equal there not-less not-more back = refl
    by Greater Less not-less not-more back = absurd (true≢false not-more)
    by Greater Equal not-less not-more back = absurd cc
    by Greater Greater not-less not-more back = absurd cc

lt-less : (o : Ordering) → is_lt o ≡ true → o ≡ Less
lt-less Less is = refl
lt-less Equal is = absurd (true≢false (sym is))
lt-less Greater is = absurd (true≢false (sym is))

some-item : {X : Type 0} (xs : List X) → 0 < length xs → X
some-item [] some = absurd (omega (arith, some))
some-item (x ∷ xs) some = x

module _ {X : Type 0} (key : X → List ℕ) (xs : List X) where
  abbrev IsBefore : X → X → Bool
  IsBefore one other = is_lt (place_cmp (key one) (key other))

  -- each comes before the next: no two are the same
  pub risen-differ : ((k : ℕ) (d : X) → k + 1 < length xs
      → true ≡ IsBefore (get_or xs k d) (get_or xs (k + 1) d)) → AllDiffer (map key xs)
  risen-differ rises = AllPairs-from_IsDistinct same-key (map key xs)
      (IsDistinct-from_sorted place_cmp (map key xs)
      (sorted_from_all_adjacent nat_list_cmp_total (map key xs) [] by_step))
    where
      by_step : (k : ℕ) → k + 1 < length (map key xs)
          → place_cmp (get_or (map key xs) k []) (get_or (map key xs) (k + 1) []) ≡ Less
      by_step k below =
          let within : k + 1 < length xs = omega (arith, below, length-map xs key) in
          let d : X = some-item xs (omega (arith, within)) in
          ap (λ (one : List ℕ). place_cmp one (get_or (map key xs) (k + 1) []))
          (get_or-map key xs k d [] (omega (arith, within)))
          ∙ ap (place_cmp (key (get_or xs k d))) (get_or-map key xs (k + 1) d [] within)
          ∙ lt-less (place_cmp (key (get_or xs k d)) (key (get_or xs (k + 1) d)))
          (sym (rises k d within))

  -- one that doesn't come before the next is the same
  pub not-risen : IsSortedBy IsBefore xs → (k : ℕ) → k + 1 < length xs
      → ((d : X) → false ≡ IsBefore (get_or xs k d) (get_or xs (k + 1) d))
      → AllDiffer (map key xs) → ⊥
  not-risen sorted k below not-less differ =
      let d : X = some-item xs (omega (arith, below)) in
      differ k (k + 1) [] (omega arith) (omega (arith, below, length-map xs key))
      (get_or-map key xs k d [] (omega (arith, below))
      ∙ neither-same (key (get_or xs k d)) (key (get_or xs (k + 1) d)) (sym (not-less d))
      (sorted k d (omega arith) below)
      ∙ sym (get_or-map key xs (k + 1) d [] below))

  -- so whether each comes before the next tells whether all differ
  pub tells-differ : (told : Bool) → IsSortedBy IsBefore xs
      → IsAllAdjacentAnswer (λ one other (b : Bool). b ≡ IsBefore one other) xs told
      → IsTrue told ↔ AllDiffer (map key xs)
  tells-differ true sorted rises = (λ is. risen-differ rises, λ differ. refl)
  tells-differ false sorted falls = (
    λ is. absurd (true≢false (sym is)),
    λ differ. absurd (not-risen sorted falls.0 falls.1 falls.2 differ),
  )
