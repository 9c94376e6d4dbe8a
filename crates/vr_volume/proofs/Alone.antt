-- Images of which each place has one at most.
use Rattle.std.proofs.Common.{◌≡◌, ℕ, Bool, true, false, cond, List, [], ◌∷◌, ◌++◌, Option, Some}
use Rattle.std.proofs.Common.{None, refl, sym, ap, ◌∙◌, bytes_eq, ◌==◌, ◌&&◌}
use Rattle.std.specs.Option.{option_or}
use Rattle.std.proofs.lemmas.Bool.{true≢false}
use Rattle.std.proofs.lemmas.Bool.Decides.{Decides-eqb}
use Rattle.std.proofs.lemmas.Slice.Eq.{bytes_eq-Decides}
use Rattle.vr_history.specs.State.{BeforeImage}
use Rattle.vr_history.proofs.Same.{first_holds, second_holds}
use Rattle.vr_volume.specs.PutBack.{AreAlone, is_image_of, oldest}
use Rattle.vr_volume.proofs.Images.{oldest-append}

some-none : {X : Type 0} {x : X} → Some x ≡ None → ⊥
some-none same = cc

-- ---- which place an image is of

-- the image is that of a place exactly where part and place are its own
pub is-there : (part : ℕ) (place : List ℕ) (image : BeforeImage)
    → is_image_of part place image ≡ true → (image.part ≡ part) × (place ≡ image.place)
is-there part place image is = (
  (Decides-eqb image.part part).0 (first_holds (image.part == part) _ is),
  (bytes_eq-Decides place image.place).0 (second_holds (image.part == part) _ is),
)

pub is-own : (image : BeforeImage) → is_image_of image.part image.place image ≡ true
is-own image =
    ap (λ (b : Bool). b && bytes_eq image.place image.place)
    ((Decides-eqb image.part image.part).1 refl)
    ∙ (bytes_eq-Decides image.place image.place).1 refl

-- an image more of a place that had none
pub alone-append : (images : List BeforeImage) (image : BeforeImage) → AreAlone images
    → oldest images image.part image.place ≡ None → AreAlone (images ++ image ∷ [])
alone-append [] image alone none = (refl, tt)
alone-append (first ∷ images) image alone none =
    by_first (is_image_of image.part image.place first) refl none
    (alone-append images image alone.1)
  where
    apart : is_image_of image.part image.place first ≡ false
        → is_image_of first.part first.place image ≡ false
    apart is = by_test (is_image_of first.part first.place image) refl
      where
        by_test : (b : Bool) → is_image_of first.part first.place image ≡ b → b ≡ false
        by_test false same = refl
        by_test true same =
            let there = is-there first.part first.place image same in
            absurd (true≢false (sym (is-own first)
            ∙ ap (λ (p : ℕ). is_image_of p first.place first) (sym there.0)
            ∙ ap (λ (q : List ℕ). is_image_of image.part q first) there.1 ∙ is))

    by_first : (here : Bool) → is_image_of image.part image.place first ≡ here
        → cond here (Some first) (oldest images image.part image.place) ≡ None
        → (oldest images image.part image.place ≡ None → AreAlone (images ++ image ∷ []))
        → AreAlone (first ∷ images ++ image ∷ [])
    by_first true is same further = absurd (some-none same)
    by_first false is same further = (
      oldest-append images image first.part first.place
          ∙ ap (λ (found : Option BeforeImage). option_or found
          (cond (is_image_of first.part first.place image) (Some image) None)) alone.0
          ∙ ap (λ (b : Bool). option_or None (cond b (Some image) None)) (apart is),
      further same,
    )
