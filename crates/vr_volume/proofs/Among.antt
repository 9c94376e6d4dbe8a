-- Of fewer before-images, one at most for a place, each length that is kept is one that was.
use Rattle.std.proofs.Common.{◌≡◌, ◌≢◌, ◌⊎◌, inr, ⊎_elim, ℕ, Bool, true, false, cond, List, []}
use Rattle.std.proofs.Common.{◌∷◌, Option, Some, None, refl, sym, ap, subst, ◌∙◌}
use Rattle.std.proofs.Common.{bytes_eq, ◌==◌, ◌&&◌}
use Rattle.std.specs.Prelude.{All, Contains}
use Rattle.std.specs.List.{AllByRecursion, cons_option, filter_map}
use Rattle.std.specs.Option.{option_and_then}
use Rattle.std.specs.declared.cmp.Ordering.{Ordering}
use Rattle.std.specs.declared.cmp.Ordering.TheVariants.{Less, Equal, Greater}
use Rattle.std.proofs.lemmas.Bool.{true≢false}
use Rattle.std.proofs.lemmas.Bool.Decides.{Decides-eqb}
use Rattle.std.proofs.lemmas.List.Elements.{All-contains_itself, All-from_recursion}
use Rattle.std.proofs.lemmas.List.Elements.{recursion_from_All}
use Rattle.std.proofs.lemmas.Slice.Eq.{bytes_eq-Decides}
use Rattle.vr_types.specs.Content.{place_cmp, record_of}
use Rattle.vr_altkey.proofs.CallerLemmas.{equal_places}
use Rattle.vr_space.specs.Part.{KeyedShape, NumberedShape, Shape}
use Rattle.vr_space.specs.Room.{Lengths, lengthen_by, with_length, with_lengths}
use Rattle.vr_space.proofs.CallerLemmas.{AreAmong, MayKeepLess}
use Rattle.vr_history.specs.State.{BeforeImage}
use Rattle.vr_volume.specs.PutBack.{AreAlone, length_in, length_of, lengths_kept, oldest}

-- the first are some of the others, in their order
abbrev pub AreSome : List BeforeImage → List BeforeImage → Type 0
AreSome [] images = Unit {0}
AreSome (image ∷ fewer) [] = ⊥
AreSome (image ∷ fewer) (first ∷ images) =
    ((image ≡ first) × AreSome fewer images) ⊎ AreSome (image ∷ fewer) images

pub some-skip : (fewer : List BeforeImage) (first : BeforeImage) (images : List BeforeImage)
    → AreSome fewer images → AreSome fewer (first ∷ images)
some-skip [] first images some = tt
some-skip (image ∷ fewer) first images some = inr some

-- ---- lengths of which each place has one at most

-- none is of the place
abbrev NoneOf : List ℕ → Lengths → Type 0
NoneOf place lengths = AllByRecursion (λ (entry : List ℕ × ℕ). place ≢ entry.0) lengths

abbrev AreLone : Lengths → Type 0
AreLone [] = Unit {0}
AreLone (entry ∷ lengths) = NoneOf entry.0 lengths × AreLone lengths

-- the places of the second are none of the first's
abbrev AreElsewhere : Lengths → Lengths → Type 0
AreElsewhere lengths more =
    AllByRecursion (λ (entry : List ℕ × ℕ). NoneOf entry.0 lengths) more

none-with : (lengths : Lengths) (other place : List ℕ) (n : ℕ) → other ≢ place
    → NoneOf other lengths → NoneOf other (with_length lengths place n)
none-with [] other place n apart none = (apart, tt)
none-with (first ∷ lengths) other place n apart none =
    by_order (place_cmp place first.0) (none-with lengths other place n apart none.1)
  where
    by_order : (order : Ordering) → NoneOf other (with_length lengths place n)
        → NoneOf other (lengthen_by order place n first lengths (with_length lengths place n))
    by_order Less further = (apart, none)
    by_order Equal further = (none.0, none.1)
    by_order Greater further = (none.0, further)

elsewhere-with : (lengths more : Lengths) (place : List ℕ) (n : ℕ) → NoneOf place more
    → AreElsewhere lengths more → AreElsewhere (with_length lengths place n) more
elsewhere-with lengths [] place n none apart = tt
elsewhere-with lengths (entry ∷ more) place n none apart = (
  none-with lengths entry.0 place n (λ same. none.0 (sym same)) apart.0,
  elsewhere-with lengths more place n none.1 apart.1,
)

elsewhere-none : (more : Lengths) → AreElsewhere [] more
elsewhere-none [] = tt
elsewhere-none (entry ∷ more) = (tt, elsewhere-none more)

module _ (P : List ℕ × ℕ → Type 0) where
  -- what is true of each and of one more is true of all of them,
  all-with : (lengths : Lengths) (place : List ℕ) (n : ℕ) → NoneOf place lengths → P (place, n)
      → AllByRecursion P lengths → AllByRecursion P (with_length lengths place n)
  all-with [] place n none one all = (one, tt)
  all-with (first ∷ lengths) place n none one all =
      by_order (place_cmp place first.0) refl (all-with lengths place n none.1 one all.1)
    where
      by_order : (order : Ordering) → place_cmp place first.0 ≡ order
          → AllByRecursion P (with_length lengths place n)
          → AllByRecursion P (lengthen_by order place n first lengths (with_length lengths place n))
      by_order Less is further = (one, all)
      by_order Equal is further = absurd (none.0 (equal_places place first.0 is))
      by_order Greater is further = (all.0, further)

  all-many : (lengths more : Lengths) → AreLone more → AreElsewhere lengths more
      → AllByRecursion P lengths → AllByRecursion P more
      → AllByRecursion P (with_lengths lengths more)
  all-many lengths [] lone apart all others = all
  all-many lengths (entry ∷ more) lone apart all others =
      all-many (with_length lengths entry.0 entry.1) more lone.1
      (elsewhere-with lengths more entry.0 entry.1 lone.0 apart.1)
      (all-with lengths entry.0 entry.1 apart.0 others.0 all) others.1

  -- and the other way round
  with-all : (lengths : Lengths) (place : List ℕ) (n : ℕ) → NoneOf place lengths
      → AllByRecursion P (with_length lengths place n) → P (place, n) × AllByRecursion P lengths
  with-all [] place n none all = (all.0, tt)
  with-all (first ∷ lengths) place n none all =
      by_order (place_cmp place first.0) refl all
      (λ further. with-all lengths place n none.1 further)
    where
      by_order : (order : Ordering) → place_cmp place first.0 ≡ order
          → AllByRecursion P (lengthen_by order place n first lengths (with_length lengths place n))
          → (AllByRecursion P (with_length lengths place n)
          → P (place, n) × AllByRecursion P lengths)
          → P (place, n) × AllByRecursion P (first ∷ lengths)
      by_order Less is every further = every
      by_order Equal is every further = absurd (none.0 (equal_places place first.0 is))
      by_order Greater is every further =
          let rest = further every.1 in (rest.0, (every.0, rest.1))

  many-all : (lengths more : Lengths) → AreLone more → AreElsewhere lengths more
      → AllByRecursion P (with_lengths lengths more)
      → AllByRecursion P lengths × AllByRecursion P more
  many-all lengths [] lone apart all = (all, tt)
  many-all lengths (entry ∷ more) lone apart all =
      let further = many-all (with_length lengths entry.0 entry.1) more lone.1
      (elsewhere-with lengths more entry.0 entry.1 lone.0 apart.1) all in
      let here = with-all lengths entry.0 entry.1 apart.0 further.0 in
      (here.1, (here.0, further.1))

-- ---- the lengths of images

module _ (part : ℕ) where
  abbrev lengths_of : List BeforeImage → Lengths
  lengths_of images = filter_map (length_in part) images

  -- what is true of the length of each is true of that of some
  some-all : (P : List ℕ × ℕ → Type 0) (fewer images : List BeforeImage) → AreSome fewer images
      → AllByRecursion P (lengths_of images) → AllByRecursion P (lengths_of fewer)
  some-all P [] images some all = tt
  some-all P (image ∷ fewer) [] some all = absurd some
  some-all P (image ∷ fewer) (first ∷ images) some all = ⊎_elim
      (λ here. subst (λ (i : BeforeImage). AllByRecursion P (lengths_of (i ∷ fewer)))
      (sym here.0)
      (both (length_in part first) all (some-all P fewer images here.1)))
      (λ further. some-all P (image ∷ fewer) images further (later (length_in part first) all)) some
    where
      both : (found : Option (List ℕ × ℕ))
          → AllByRecursion P (cons_option found (lengths_of images))
          → (AllByRecursion P (lengths_of images) → AllByRecursion P (lengths_of fewer))
          → AllByRecursion P (cons_option found (lengths_of fewer))
      both None every rest = rest every
      both (Some entry) every rest = (every.0, rest every.1)

      later : (found : Option (List ℕ × ℕ))
          → AllByRecursion P (cons_option found (lengths_of images))
          → AllByRecursion P (lengths_of images)
      later None every = every
      later (Some entry) every = every.1

  lone-some : (fewer images : List BeforeImage) → AreSome fewer images
      → AreLone (lengths_of images) → AreLone (lengths_of fewer)
  lone-some [] images some lone = tt
  lone-some (image ∷ fewer) [] some lone = absurd some
  lone-some (image ∷ fewer) (first ∷ images) some lone = ⊎_elim
      (λ here. subst (λ (i : BeforeImage). AreLone (lengths_of (i ∷ fewer))) (sym here.0)
      (both here.1 (length_in part first) lone (lone-some fewer images here.1)))
      (λ further. lone-some (image ∷ fewer) images further (later (length_in part first) lone)) some
    where
      both : AreSome fewer images → (found : Option (List ℕ × ℕ))
          → AreLone (cons_option found (lengths_of images))
          → (AreLone (lengths_of images) → AreLone (lengths_of fewer))
          → AreLone (cons_option found (lengths_of fewer))
      both rest None every further = further every
      both rest (Some entry) every further = (
        some-all (λ (other : List ℕ × ℕ). entry.0 ≢ other.0) fewer images rest every.0,
        further every.1,
      )

      later : (found : Option (List ℕ × ℕ)) → AreLone (cons_option found (lengths_of images))
          → AreLone (lengths_of images)
      later None every = every
      later (Some entry) every = every.1

  -- a place that has no image has no length
  none-image : (images : List BeforeImage) (place : List ℕ) → oldest images part place ≡ None
      → NoneOf place (lengths_of images)
  none-image [] place none = tt
  none-image (image ∷ images) place none = by_part (image.part == part)
      (bytes_eq place image.place) refl none (λ further. none-image images place further)
    where
      some-none : Some image ≡ None → ⊥
      some-none same = cc

      by_old : (old : Option (List ℕ)) → bytes_eq place image.place ≡ false
          → NoneOf place (lengths_of images)
          → NoneOf place (cons_option (length_of image.place old) (lengths_of images))
      by_old None is rest = rest
      by_old (Some bytes) is rest =
          (λ at. true≢false (sym ((bytes_eq-Decides place image.place).1 at) ∙ is), rest)

      by_part : (mine here : Bool) → bytes_eq place image.place ≡ here
          → cond (mine && here) (Some image) (oldest images part place) ≡ None
          → (oldest images part place ≡ None → NoneOf place (lengths_of images))
          → NoneOf place (cons_option
          (cond mine (length_of image.place (option_and_then record_of image.old)) None)
          (lengths_of images))
      by_part false here is free rest = rest free
      by_part true true is free rest = absurd (some-none free)
      by_part true false is free rest =
          by_old (option_and_then record_of image.old) is (rest free)

  -- so images of which each place has one at most have one length for a place
  lone-images : (images : List BeforeImage) → AreAlone images → AreLone (lengths_of images)
  lone-images [] alone = tt
  lone-images (image ∷ images) alone =
      by_part (image.part == part) refl (lone-images images alone.1)
    where
      by_old : (old : Option (List ℕ)) → oldest images part image.place ≡ None
          → AreLone (lengths_of images)
          → AreLone (cons_option (length_of image.place old) (lengths_of images))
      by_old None none rest = rest
      by_old (Some bytes) none rest = (none-image images image.place none, rest)

      by_part : (mine : Bool) → (image.part == part) ≡ mine → AreLone (lengths_of images)
          → AreLone (cons_option
          (cond mine (length_of image.place (option_and_then record_of image.old)) None)
          (lengths_of images))
      by_part false is rest = rest
      by_part true is rest = by_old (option_and_then record_of image.old)
          (ap (λ (p : ℕ). oldest images p image.place)
          (sym ((Decides-eqb image.part part).0 is)) ∙ alone.0) rest

  -- Each length that is kept of some of them is kept of all.
  pub kept-among : (fewer images : List BeforeImage) → AreAlone images → AreSome fewer images
      → All (λ (entry : List ℕ × ℕ). Contains (lengths_kept images part) entry)
      (lengths_kept fewer part)
  kept-among fewer images alone some =
      let lone = lone-images images alone in
      let each : AllByRecursion (Contains (lengths_kept images part)) (lengths_of images) =
      (many-all (Contains (lengths_kept images part)) [] (lengths_of images) lone
      (elsewhere-none (lengths_of images))
      (recursion_from_All (Contains (lengths_kept images part)) (lengths_kept images part)
      (All-contains_itself (lengths_kept images part)))).1 in
      All-from_recursion (Contains (lengths_kept images part)) (lengths_kept fewer part)
      (all-many (Contains (lengths_kept images part)) [] (lengths_of fewer)
      (lone-some fewer images some lone) (elsewhere-none (lengths_of fewer)) tt
      (some-all (Contains (lengths_kept images part)) fewer images some each))

-- So they may be kept in place of all.
among-some : (relative : Bool) (fewer kept : Lengths)
    → All (λ (entry : List ℕ × ℕ). Contains kept entry) fewer → AreAmong relative fewer kept
among-some true fewer kept all = tt
among-some false fewer kept all = all

pub keep-less : (shape : Shape) (fewer kept : Lengths)
    → All (λ (entry : List ℕ × ℕ). Contains kept entry) fewer → MayKeepLess shape fewer kept
keep-less (KeyedShape part) fewer kept all = tt
keep-less (NumberedShape part) fewer kept all = among-some part.relative fewer kept all
