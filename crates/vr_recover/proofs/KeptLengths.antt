-- Room is kept for each before-image, of the length of its record.
use Rattle.std.proofs.Common.{◌≡◌, inl, ℕ, zero, suc, ◌<◌, Bool, cond, List, [], ◌∷◌}
use Rattle.std.proofs.Common.{Option, Some, None, refl, sym, ap, subst, ◌∙◌, arith, length, get_or}
use Rattle.std.specs.Prelude.{All, Contains}
use Rattle.std.specs.List.{cons_option, filter_map}
use Rattle.std.specs.Option.{option_and_then}
use Rattle.std.specs.declared.cmp.Ordering.{Ordering}
use Rattle.std.specs.declared.cmp.Ordering.TheVariants.{Less, Equal, Greater}
use Rattle.std.proofs.lemmas.Bool.Decides.{Decides-eqb}
use Rattle.std.proofs.lemmas.List.Elements.{All-cons, All-head, All-nil, All-weaker}
use Rattle.vr_types.specs.Content.{place_cmp, record_of}
use Rattle.vr_types.proofs.CallerLemmas.{same_place}
use Rattle.vr_space.specs.Part.{Shape, part_no}
use Rattle.vr_space.specs.Whence.{first_allowed, places_kept}
use Rattle.vr_space.specs.declared.whence.Whence.TheVariants.{Start}
use Rattle.vr_space.specs.Room.{Lengths, length_at, length_by, with_length, with_lengths}
use Rattle.vr_space.proofs.CallerLemmas.{Rise, rise-with, same_is_equal}
use Rattle.vr_space.proofs.Fewer.{AllPast}
use Rattle.vr_history.specs.State.{BeforeImage}
use Rattle.vr_volume.specs.PutBack.{AreAlone, length_in, length_of, lengths_kept}
use Rattle.vr_volume.proofs.CallerLemmas.{AreSome, kept-among, some-skip}
use Rattle.vr_recover.specs.Undone.{HasKeptFor, IsKeptAt}

-- ---- the length at a place

not-less : (o : Ordering) → o ≡ Equal → o ≡ Less → ⊥
not-less o one two = cc

-- a place among others is past what all of them are past
among-past : (low : List ℕ) (entry : List ℕ × ℕ) (more : Lengths) → AllPast low more → (i : ℕ)
    → i < length more → get_or more i entry ≡ entry → place_cmp low entry.0 ≡ Less
among-past low entry [] past i below is = absurd (omega (arith, below))
among-past low entry (first ∷ more) past zero below is =
    ap (λ (e : List ℕ × ℕ). place_cmp low e.0) (sym is) ∙ past.0
among-past low entry (first ∷ more) past (suc i) below is =
    among-past low entry more past.1 i (omega (arith, below)) is

-- what is kept for a place is at it
among-at : (entry : List ℕ × ℕ) (more : Lengths) → Rise more → (i : ℕ) → i < length more
    → get_or more i entry ≡ entry → length_at more entry.0 ≡ Some entry.1
among-at entry [] rise i below is = absurd (omega (arith, below))
among-at entry (first ∷ more) rise zero below is =
    ap (λ (order : Ordering). length_by order first.1 (length_at more entry.0))
    (ap (λ (e : List ℕ × ℕ). place_cmp entry.0 e.0) is ∙ same_is_equal entry.0)
    ∙ ap (λ (e : List ℕ × ℕ). Some e.1) is
among-at entry (first ∷ more) rise (suc i) below is =
    by_order (place_cmp entry.0 first.0) refl
    (among-past first.0 entry more rise.0 i (omega (arith, below)) is)
    (among-at entry more rise.1 i (omega (arith, below)) is)
  where
    by_order : (order : Ordering) → place_cmp entry.0 first.0 ≡ order
        → place_cmp first.0 entry.0 ≡ Less → length_at more entry.0 ≡ Some entry.1
        → length_by order first.1 (length_at more entry.0) ≡ Some entry.1
    by_order Less order past found = found
    by_order Greater order past found = found
    by_order Equal order past found = absurd (not-less (place_cmp first.0 entry.0)
        (ap (λ (q : List ℕ). place_cmp first.0 q) (same_place entry.0 first.0 order)
        ∙ same_is_equal first.0) past)

rise-all : (lengths more : Lengths) → Rise lengths → Rise (with_lengths lengths more)
rise-all lengths [] rise = rise
rise-all lengths (entry ∷ more) rise =
    rise-all (with_length lengths entry.0 entry.1) more (rise-with lengths entry.0 entry.1 rise)

-- ---- one of the images

module _ (part : ℕ) (images : List BeforeImage) (alone : AreAlone images) (image : BeforeImage)
    (some : AreSome (image ∷ []) images) (mine : image.part ≡ part) where
  -- what it alone keeps is among what all keep
  image-among : (bytes : List ℕ) → option_and_then record_of image.old ≡ Some bytes
      → Contains (lengths_kept images part) (image.place, length bytes)
  image-among bytes is = All-head (Contains (lengths_kept images part)) (image.place, length bytes)
      [] (subst (All (Contains (lengths_kept images part))) one
      (kept-among part (image ∷ []) images alone some))
    where
      one : lengths_kept (image ∷ []) part ≡ (image.place, length bytes) ∷ []
      one = ap (λ (b : Bool). with_lengths [] (cons_option (cond b (length_of image.place
          (option_and_then record_of image.old)) None) [])) ((Decides-eqb image.part part).1 mine)
          ∙ ap (λ (old : Option (List ℕ)). with_lengths [] (cons_option
          (length_of image.place old) [])) is

  pub image-kept : IsKeptAt (lengths_kept images part) image.place
      (option_and_then record_of image.old)
  image-kept = by_old (option_and_then record_of image.old) refl
    where
      by_old : (old : Option (List ℕ)) → option_and_then record_of image.old ≡ old
          → IsKeptAt (lengths_kept images part) image.place old
      by_old None is = tt
      by_old (Some bytes) is =
          let among = image-among bytes is in
          among-at (image.place, length bytes) (lengths_kept images part)
          (rise-all [] (filter_map (length_in part) images) tt) among.0 among.1 among.2

-- each is one of them
pub each-some : (images : List BeforeImage)
    → All (λ (image : BeforeImage). AreSome (image ∷ []) images) images
each-some [] = All-nil (λ (image : BeforeImage). AreSome (image ∷ []) [])
each-some (first ∷ images) = All-cons (λ (image : BeforeImage). AreSome (image ∷ [])
    (first ∷ images)) first images (inl (refl, tt))
    (All-weaker (λ (image : BeforeImage). AreSome (image ∷ []) images)
    (λ (image : BeforeImage). AreSome (image ∷ []) (first ∷ images))
    (λ image some. some-skip (image ∷ []) first images some) images (each-some images))

-- so room is kept for each of the part
pub all-kept : (shape : Shape) (kept : Lengths) (part : ℕ) (images : List BeforeImage)
    → AreAlone images → (part_no shape).0 ≡ part → kept ≡ lengths_kept images part
    → All (HasKeptFor shape kept) images
all-kept shape kept part images alone same is =
    All-weaker (λ (image : BeforeImage). AreSome (image ∷ []) images) (HasKeptFor shape kept)
    (λ image some mine. subst (λ (lengths : Lengths). IsKeptAt lengths image.place
    (option_and_then record_of image.old)) (sym is)
    (image-kept part images alone image some (mine ∙ same))) images (each-some images)

-- ---- of no place

-- where a search from the start finds no place, nothing is kept
pub none-kept : (kept : Lengths) → first_allowed Start (places_kept kept) ≡ None → kept ≡ []
none-kept [] none = refl
none-kept (entry ∷ kept) none = absurd (some-none none)
  where
    some-none : {X : Type 0} {x : X} → Some x ≡ None → ⊥
    some-none same = cc
