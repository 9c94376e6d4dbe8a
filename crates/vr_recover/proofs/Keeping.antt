-- The before-images of a log: none of a place, the only one of each, and all of them kept.
use Rattle.std.proofs.Common.{◌≡◌, ℕ, ◌+◌, ◌<◌, ◌≤◌, Bool, true, false, cond, List, [], ◌∷◌}
use Rattle.std.proofs.Common.{◌++◌, Option, Some, None, length, refl, sym, ap, subst, ◌∙◌, take, drop}
use Rattle.std.proofs.Common.{get_or, arith, ◌&&◌}
use Rattle.std.specs.Prelude.{All, IfSome, find, ◌||◌}
use Rattle.std.specs.List.{cons_option, filter_map}
use Rattle.std.proofs.lemmas.Bool.{true≢false}
use Rattle.std.proofs.Common.{set}
use Rattle.std.proofs.lemmas.List.{drop_more, set-get_or, take_all, take-append-drop, take_more}
use Rattle.std.proofs.lemmas.List.Elements.{All-cons, All-head, All-nil, All-push, All-tail}
use Rattle.std.proofs.lemmas.List.Elements.{filter_map-append}
use Rattle.vr_types.specs.Locks.{same_unit}
use Rattle.vr_types.specs.declared.unit.Unit.{Unit as UnitOfRecovery}
use Rattle.vr_history.specs.State.{BeforeImage}
use Rattle.vr_log.specs.declared.record.LogRecord.{LogRecord}
use Rattle.vr_undo.specs.Records.{has_at, is_at}
use Rattle.vr_volume.specs.PutBack.{AreAlone, is_image_of}
use Rattle.vr_volume.proofs.Alone.{is-own, is-there}

some-none : {X : Type 0} {x : X} → Some x ≡ None → ⊥
some-none same = cc

-- ---- loops over all elements

module _ {X : Type 0} (P : X → Type 0) (xs : List X) (i : ℕ) where
  pub at-item : (x : X) → i < length xs → x ≡ get_or xs i x → All P xs → P x
  at-item x below is all = subst P (sym is) (all i x below)

  pub push-item : (x : X) → i < length xs → x ≡ get_or xs i x → P x → All P (take i xs)
      → All P (take (i + 1) xs)
  push-item x below is here all = subst (All P) (sym (take_more xs i x below))
      (All-push P (take i xs) (get_or xs i x) all (subst P is here))

  pub all-items : length xs ≤ i → All P (take i xs) → All P xs
  all-items past all = subst (All P) (take_all i xs past) all

-- ---- of a place

module _ (test : BeforeImage → Bool) where
  abbrev Fails : BeforeImage → Type 0
  Fails image = test image ≡ false

  pub none-found : (images : List BeforeImage) → All Fails images → find test images ≡ None
  none-found [] all = refl
  none-found (image ∷ images) all =
      by (test image) (All-head Fails image images all)
      (none-found images (All-tail Fails image images all))
    where
      by : (b : Bool) → b ≡ false → find test images ≡ None
          → cond b (Some image) (find test images) ≡ None
      by false is rest = rest
      by true is rest = absurd (true≢false is)

  pub found-none : (images : List BeforeImage) → find test images ≡ None → All Fails images
  found-none [] none = All-nil Fails
  found-none (image ∷ images) none = by (test image) refl none (found-none images)
    where
      by : (b : Bool) → test image ≡ b → cond b (Some image) (find test images) ≡ None
          → (find test images ≡ None → All Fails images) → All Fails (image ∷ images)
      by false is rest further = All-cons Fails image images is (further rest)
      by true is rest further = absurd (some-none rest)

-- ---- kept

-- an image whose place is that of another has its own there
other-way : (one other : BeforeImage) → is_image_of one.part one.place other ≡ false
    → is_image_of other.part other.place one ≡ false
other-way one other is = by_test (is_image_of other.part other.place one) refl
  where
    by_test : (b : Bool) → is_image_of other.part other.place one ≡ b → b ≡ false
    by_test false same = refl
    by_test true same =
        let there = is-there other.part other.place one same in
        absurd (true≢false (sym (is-own other)
        ∙ ap (λ (p : ℕ). is_image_of p other.place other) (sym there.0)
        ∙ ap (λ (q : List ℕ). is_image_of one.part q other) there.1 ∙ is))

passes-not : (test : BeforeImage → Bool) (xs : List BeforeImage) (image : BeforeImage)
    (ys : List BeforeImage) → find test (xs ++ image ∷ ys) ≡ None → test image ≡ false
passes-not test [] image ys none = by (test image) refl none
  where
    by : (b : Bool) → test image ≡ b → cond b (Some image) (find test ys) ≡ None → b ≡ false
    by false is rest = refl
    by true is rest = absurd (some-none rest)
passes-not test (x ∷ xs) image ys none = by (test x) none (passes-not test xs image ys)
  where
    by : (b : Bool) → cond b (Some x) (find test (xs ++ image ∷ ys)) ≡ None
        → (find test (xs ++ image ∷ ys) ≡ None → test image ≡ false) → test image ≡ false
    by false rest further = further rest
    by true rest further = absurd (some-none rest)

both-false : (a b : Bool) → b ≡ false → (a && b) ≡ false
both-false true b is = is
both-false false b is = refl

neither : (a b : Bool) → a ≡ false → b ≡ false → (a || b) ≡ false
neither a b one other = ap (λ (x : Bool). x || b) one ∙ other

-- the place of one of images that are alone has none among those before
pub new-among : (unit : UnitOfRecovery) (xs : List BeforeImage) (image : BeforeImage)
    (ys : List BeforeImage) → AreAlone (xs ++ image ∷ ys)
    → has_at unit image.part image.place xs ≡ false
new-among unit [] image ys alone = refl
new-among unit (first ∷ xs) image ys alone =
    neither (is_at unit image.part image.place first) (has_at unit image.part image.place xs)
    (both-false (same_unit unit first.unit) (is_image_of image.part image.place first)
    (other-way first image
    (passes-not (is_image_of first.part first.place) xs image ys alone.0)))
    (new-among unit xs image ys alone.1)

module _ (f : LogRecord → Option BeforeImage) (records : List LogRecord) (i : ℕ)
    (rec : LogRecord) (below : i < length records) (here : get_or records i rec ≡ rec) where
  pub images-next : filter_map f (take i records) ++ filter_map f (rec ∷ [])
      ≡ filter_map f (take (i + 1) records)
  images-next = sym (filter_map-append f (take i records) (rec ∷ []))
      ∙ ap (filter_map f) (ap (λ (r : LogRecord). take i records ++ r ∷ []) (sym here)
      ∙ sym (take_more records i rec below))

  pub image-next : (images kept : List BeforeImage) → images ≡ filter_map f (take i records)
      → kept ≡ images ++ filter_map f (rec ∷ [])
      → kept ≡ filter_map f (take (i + 1) records)
  image-next images kept so_far added =
      added ∙ ap (λ (s : List BeforeImage). s ++ filter_map f (rec ∷ [])) so_far
      ∙ images-next

  cut : records ≡ take i records ++ rec ∷ drop (i + 1) records
  cut = sym (take-append-drop i records)
      ∙ ap (λ (rs : List LogRecord). take i records ++ rs)
      (drop_more records i rec below
      ∙ ap (λ (r : LogRecord). r ∷ drop (i + 1) records) here)

  pub next-new : (images : List BeforeImage) → images ≡ filter_map f (take i records)
      → AreAlone (filter_map f records)
      → IfSome (f rec) (λ image. has_at image.unit image.part image.place images ≡ false)
  next-new images so_far alone = by (f rec) refl
    where
      all : filter_map f records
          ≡ filter_map f (take i records) ++ cons_option (f rec) (filter_map f (drop (i + 1) records))
      all = ap (filter_map f) cut
          ∙ filter_map-append f (take i records) (rec ∷ drop (i + 1) records)

      by : (o : Option BeforeImage) → f rec ≡ o
          → IfSome o (λ image. has_at image.unit image.part image.place images ≡ false)
      by None is = tt
      by (Some image) is = subst
          (λ (xs : List BeforeImage). has_at image.unit image.part image.place xs ≡ false)
          (sym so_far)
          (new-among image.unit (filter_map f (take i records)) image
          (filter_map f (drop (i + 1) records))
          (subst AreAlone (all ∙ ap (λ (o : Option BeforeImage). filter_map f (take i records)
          ++ cons_option o (filter_map f (drop (i + 1) records))) is) alone))

-- ---- loops that leave what they go over as it is

module _ {X : Type 0} (P : X → Type 0) (now first : List X) (same : now ≡ first) (i : ℕ) where
  pub still-item : (d : X) → i < length first → All P first → P (get_or now i d)
  still-item d below all =
      (subst (All P) (sym same) all) i d (omega (arith, below, ap length same))

  pub still-push : (d : X) → i < length first → P (get_or now i d) → All P (take i first)
      → All P (take (i + 1) first)
  still-push d below here all = subst (All P) (sym (take_more first i d below))
      (All-push P (take i first) (get_or first i d) all
      (subst (λ (xs : List X). P (get_or xs i d)) same here))

  pub still-set : (d new : X) → new ≡ get_or now i d → set now i new ≡ first
  still-set d new is = ap (set now i) is ∙ set-get_or now i d ∙ same

-- ---- a weaker fact of each

pub all-more : {X : Type 0} (P Q : X → Type 0) → ((x : X) → P x → Q x) → (xs : List X) → All P xs
    → All Q xs
all-more P Q more xs all k d below = more (get_or xs k d) (all k d below)
