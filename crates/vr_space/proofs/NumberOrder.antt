-- Places of slots beside any others: which number a search may begin with.
use Rattle.std.proofs.Common.{◌≡◌, ◌^◌, ◌<◌, ◌≤◌, ℕ, zero, suc, List, [], ◌∷◌, ◌++◌}
use Rattle.std.proofs.Common.{length, take, replicate, refl, sym, subst, arith}
use Rattle.std.specs.Ordering.{nat_cmp, ordering_then}
use Rattle.std.specs.declared.cmp.Ordering.{Ordering}
use Rattle.std.specs.declared.cmp.Ordering.TheVariants.{Less, Equal, Greater}
use Rattle.std.proofs.lemmas.Cmp.{ranked}
use Rattle.std.proofs.lemmas.List.{length-append, length-take}
use Rattle.std.proofs.lemmas.Nat.{be_bytes_4}
use Rattle.vr_types.specs.Content.{place_cmp}
use Rattle.vr_types.specs.Fields.{IsBytes, four}
use Rattle.vr_types.proofs.CallerLemmas.{IsBytes-take, length-four}
use Rattle.vr_space.specs.Numbered.{number_of}
use Rattle.vr_space.proofs.Numbers.{four-rises, number-below}

-- ---- as many bytes as another place has

-- What is before a place that is cut to its length, or filled up with zeros, is before the place.
cut-less : (fill : ℕ) (place from : List ℕ) → length place ≤ fill
    → place_cmp place (take (length place) (from ++ replicate fill 0)) ≡ Less
    → place_cmp place from ≡ Less
cut-less fill [] from fits is = absurd cc
cut-less zero (x ∷ place) [] fits is = absurd (omega (arith, fits))
cut-less (suc fill) (x ∷ place) [] fits is =
    by_first (nat_cmp x 0) refl is (cut-less fill place [] (omega (arith, fits)))
  where
    rest : Ordering
    rest = place_cmp place (take (length place) (replicate fill 0))

    none : (other : List ℕ) → place_cmp other [] ≡ Less → ⊥
    none [] less = cc
    none (y ∷ other) less = cc

    by_first : (order : Ordering) → nat_cmp x 0 ≡ order → ordering_then order rest ≡ Less
        → (rest ≡ Less → place_cmp place [] ≡ Less) → place_cmp (x ∷ place) [] ≡ Less
    by_first Less first less more = absurd (grind (arith, ranked))
    by_first Equal first less more = absurd (none place (more less))
    by_first Greater first less more = absurd cc
cut-less fill (x ∷ place) (y ∷ from) fits is =
    by_first (nat_cmp x y) is (cut-less fill place from (omega (arith, fits)))
  where
    rest : Ordering
    rest = place_cmp place (take (length place) (from ++ replicate fill 0))

    by_first : (order : Ordering) → ordering_then order rest ≡ Less
        → (rest ≡ Less → place_cmp place from ≡ Less)
        → ordering_then order (place_cmp place from) ≡ Less
    by_first Less less more = refl
    by_first Equal less more = more less
    by_first Greater less more = absurd cc

-- and likewise after it
cut-more : (fill : ℕ) (place from : List ℕ)
    → place_cmp (take (length place) (from ++ replicate fill 0)) place ≡ Less
    → place_cmp from place ≡ Less
cut-more fill [] from is = absurd cc
cut-more fill (x ∷ place) [] is = refl
cut-more fill (x ∷ place) (y ∷ from) is = by_first (nat_cmp y x) is (cut-more fill place from)
  where
    rest : Ordering
    rest = place_cmp (take (length place) (from ++ replicate fill 0)) place

    by_first : (order : Ordering) → ordering_then order rest ≡ Less
        → (rest ≡ Less → place_cmp from place ≡ Less)
        → ordering_then order (place_cmp from place) ≡ Less
    by_first Less less more = refl
    by_first Equal less more = more less
    by_first Greater less more = absurd cc

-- ---- numbers

-- its first four bytes, with zeros after them where there are fewer
abbrev pub four_of : List ℕ → List ℕ
four_of from = take 4 (from ++ replicate 4 0)

with-zeros : (fill : ℕ) (from : List ℕ) → IsBytes from → IsBytes (from ++ replicate fill 0)
with-zeros zero [] bytes i = bytes i
with-zeros (suc fill) [] bytes zero = omega arith
with-zeros (suc fill) [] bytes (suc i) = with-zeros fill [] bytes i
with-zeros fill (x ∷ from) bytes zero = bytes 0
with-zeros fill (x ∷ from) bytes (suc i) =
    with-zeros fill from (λ (k : ℕ). bytes (suc k)) i

-- they spell a number
pub four_of-is : (from : List ℕ) → IsBytes from → four_of from ≡ four (number_of (four_of from))
unfolding four
four_of-is from bytes =
    let fill : List ℕ = replicate 4 0 in
    let long : length (four_of from) ≡ 4 =
    omega (arith, length-take 4 (from ++ fill), length-append from fill) in
    sym (be_bytes_4 (four_of from) (number_of (four_of from)) long
    (IsBytes-take 4 (from ++ fill) (with-zeros 4 from bytes)) refl)

-- each lower number is before the place
pub lower-before : (from : List ℕ) (n : ℕ) → IsBytes from → n < number_of (four_of from)
    → place_cmp (four n) from ≡ Less
lower-before from n bytes less =
    let spelled : four_of from ≡ four (number_of (four_of from)) = four_of-is from bytes in
    let before : place_cmp (four n) (four_of from) ≡ Less =
    subst (λ (p : List ℕ). place_cmp (four n) p ≡ Less) (sym spelled)
    (four-rises n (number_of (four_of from)) less (number-below (four_of from) spelled)) in
    cut-less 4 (four n) from (omega (arith, length-four n))
    (subst (λ (k : ℕ). place_cmp (four n) (take k (from ++ replicate 4 0)) ≡ Less)
    (sym (length-four n)) before)

-- and each higher one is after it
pub higher-after : (from : List ℕ) (n : ℕ) → IsBytes from → number_of (four_of from) < n
    → n < 2 ^ 32 → place_cmp from (four n) ≡ Less
higher-after from n bytes less below =
    let spelled : four_of from ≡ four (number_of (four_of from)) = four_of-is from bytes in
    let after : place_cmp (four_of from) (four n) ≡ Less =
    subst (λ (p : List ℕ). place_cmp p (four n) ≡ Less) (sym spelled)
    (four-rises (number_of (four_of from)) n less below) in
    cut-more 4 (four n) from
    (subst (λ (k : ℕ). place_cmp (take k (from ++ replicate 4 0)) (four n) ≡ Less)
    (sym (length-four n)) after)
