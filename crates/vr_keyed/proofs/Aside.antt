-- The least free area of a volume, which none of a keyed part's own is: the chain, whose areas are
-- distinct, has fewer areas than the volume, and so takes it.
use Rattle.std.proofs.Common.{◌≡◌, ◌<◌, ◌≤◌, ◌+◌, ⊎_elim, ℕ, Bool, true, false, List, [], ◌∷◌, All}
use Rattle.std.proofs.Common.{Option, Some, None, refl, sym, ap, subst, ◌∙◌, arith, length, map}
use Rattle.std.specs.Prelude.{Contains, IsSome, cond, filter, is_none, nat_eq, not}
use Rattle.std.specs.List.{AllByRecursion, IsDistinct, position, position_or_len}
use Rattle.std.specs.declared.cmp.Ordering.TheVariants.{Equal, Less}
use Rattle.std.proofs.lemmas.Bool.{lt-ltb}
use Rattle.std.proofs.lemmas.List.Elements.{All-cons, All-head, All-nil, All-tail}
use Rattle.std.proofs.lemmas.List.Elements.{Contains-append_left, Contains-append_right}
use Rattle.std.proofs.lemmas.List.Quantifiers.{position-Some}
use Rattle.std.proofs.lemmas.Map.Keys.{IsDistinct-cons}
use Rattle.std.proofs.lemmas.Map.Steps.{length-le_from_distinct_below}
use Rattle.std.proofs.lemmas.Map.Views.{Contains-from_any, exact_unsigned_eq}
use Rattle.vr_types.specs.Content.{place_cmp}
use Rattle.vr_types.specs.Geometry.{area_count}
use Rattle.vr_types.specs.Image.{Image}
use Rattle.vr_types.specs.Space.{free_count, least_free}
use Rattle.vr_types.specs.declared.unit.PartNo.{PartNo}
use Rattle.vr_space.specs.Areas.{KeyedChain, KnowsAreas, LinksIn, end_of, head_in, head_of}
use Rattle.vr_space.specs.Known.{held_with}
use Rattle.vr_space.specs.Owners.{Owners}
use Rattle.vr_space.specs.Part.{KeyedShape, MayGrow}
use Rattle.vr_space.specs.Split.{MoveNow}
use Rattle.vr_space.proofs.CallerLemmas.{AreOwn, contains-cases, links-in-area, lt_from_test}
use Rattle.vr_space.proofs.CallerLemmas.{same_is_equal}
use Rattle.vr_attach.specs.Areas.{AreasNow}
use Rattle.vr_keyed.specs.Advance.{IsLeastAside}
use Rattle.vr_keyed.proofs.Growing.{Rise, ends-rise, rise-lower}

-- ---- a free area

first-below : {X : Type 0} (p : X → Bool) (xs : List X) → 1 ≤ length (filter p xs)
    → position_or_len p xs < length xs
first-below p [] some = absurd (omega (arith, some))
first-below p (x ∷ xs) some = by_test (p x) some (first-below p xs)
  where
    by_test : (test : Bool) → 1 ≤ length (cond test (x ∷ filter p xs) (filter p xs))
        → (1 ≤ length (filter p xs) → position_or_len p xs < length xs)
        → cond (not test) (1 + position_or_len p xs) 0 < length (x ∷ xs)
    by_test true some more = omega arith
    by_test false some more = omega (arith, more some)

passes-some : {X : Type 0} (p : X → Bool) (xs : List X) → 1 ≤ length (filter p xs)
    → IsSome (position p xs)
passes-some p xs some =
    let at : ℕ = position_or_len p xs in
    let found : position p xs ≡ Some at =
    ap (λ (test : Bool). cond test (Some at) None)
    (lt-ltb at (length xs) (first-below p xs some)) in
    subst IsSome (sym found) refl

-- Where some are free one is the least.
free-some : (owners : List (Option PartNo)) → 1 ≤ free_count owners
    → IsSome (least_free owners)
free-some owners some = passes-some is_none owners some

-- ---- the areas of a chain

-- Each end is past the low place.
rise-above : (key : ℕ) (low : List ℕ) (ends : List (List ℕ)) → Rise key (Some low) ends
    → All (λ (end : List ℕ). place_cmp low end ≡ Less) ends
rise-above key low [] rises = All-nil (λ (end : List ℕ). place_cmp low end ≡ Less)
rise-above key low (end ∷ ends) rises =
    All-cons (λ (one : List ℕ). place_cmp low one ≡ Less) end ends
    (lt_from_test (place_cmp low end) rises.0)
    (rise-above key low ends (rise-lower key low end ends rises.0 rises.2))

-- An area that ends before others is none of them.
none-later : (end_at : ℕ → Option (List ℕ)) (areas : List ℕ) (ends : List (List ℕ)) (area : ℕ)
    (end : List ℕ) → map Some ends ≡ map end_at areas → Some end ≡ end_at area
    → All (λ (other : List ℕ). place_cmp end other ≡ Less) ends → Contains areas area → ⊥
none-later end_at [] ends area end are is past has = omega (arith, has.1)
none-later end_at (one ∷ areas) [] area end are is past has = absurd cc
none-later end_at (one ∷ areas) (other ∷ ends) area end are is past has = ⊎_elim
    (λ same.
    let here : Some other ≡ end_at one = cc in
    let both : Some end ≡ Some other = is ∙ ap end_at (sym same) ∙ sym here in
    let it : end ≡ other = cc in
    differ (sym (same_is_equal end) ∙ ap (place_cmp end) it
    ∙ All-head (λ (later : List ℕ). place_cmp end later ≡ Less) other ends past))
    (λ later.
    let rest : map Some ends ≡ map end_at areas = cc in
    none-later end_at areas ends area end rest is
    (All-tail (λ (later : List ℕ). place_cmp end later ≡ Less) other ends past) later)
    (contains-cases one area areas has)
  where
    differ : Equal ≡ Less → ⊥
    differ same = cc

differs-each : (x : ℕ) (xs : List ℕ) → (Contains xs x → ⊥)
    → AllByRecursion (λ y. nat_eq x y ≡ false) xs
differs-each x [] none = tt
differs-each x (y ∷ xs) none = (
  by_test (nat_eq x y) refl,
  differs-each x xs (λ has. none (Contains-append_right (y ∷ []) xs x has)),
)
  where
    by_test : (test : Bool) → nat_eq x y ≡ test → nat_eq x y ≡ false
    by_test true same = absurd (none (0, omega arith, sym (exact_unsigned_eq x y same)))
    by_test false other = other

none-distinct : IsDistinct nat_eq []
unfolding IsDistinct
none-distinct = tt

-- So areas whose ends rise are distinct,
areas-distinct : (end_at : ℕ → Option (List ℕ)) (key : ℕ) (low : Option (List ℕ))
    (areas : List ℕ) (ends : List (List ℕ)) → map Some ends ≡ map end_at areas
    → Rise key low ends → IsDistinct nat_eq areas
areas-distinct end_at key low [] ends are rises = none-distinct
areas-distinct end_at key low (area ∷ areas) [] are rises = absurd cc
areas-distinct end_at key low (area ∷ areas) (end ∷ ends) are rises =
    let here : Some end ≡ end_at area = cc in
    let rest : map Some ends ≡ map end_at areas = cc in
    IsDistinct-cons nat_eq area areas
    (differs-each area areas
    (none-later end_at areas ends area end rest here (rise-above key end ends rises.2)))
    (areas-distinct end_at key (Some end) areas ends rest rises.2)

-- and where one of the volume's is none of the chain, it has fewer than the volume.
chain-fewer : (part : KeyedChain) (areas : List ℕ) (ends : List (List ℕ)) (image : Image)
    → KnowsAreas part areas ends image
    → LinksIn part image (area_count part.geometry) part.first None → (other : ℕ)
    → other < area_count part.geometry → (Contains areas other → ⊥)
    → length areas < area_count part.geometry
chain-fewer part areas ends image knows links other there apart =
    let count = area_count part.geometry in
    let end_at : ℕ → Option (List ℕ) = λ (at : ℕ). end_of (head_in part image at) in
    let rises : Rise part.key None ends =
    ends-rise part image count part.first None ends links
    (knows.ends_are ∙ ap (map end_at) knows.areas_are) in
    let most : length (other ∷ areas) ≤ count =
    length-le_from_distinct_below (other ∷ areas) count
    (IsDistinct-cons nat_eq other areas (differs-each other areas apart)
    (areas-distinct end_at part.key None areas ends knows.ends_are rises))
    (λ one found. ⊎_elim
    (λ same. subst (λ (at : ℕ). at < count) same there)
    (λ later. (links-in-area part image count part.first None links one
    (subst (λ (all : List ℕ). Contains all one) knows.areas_are later)).there)
    (contains-cases other one areas
    (Contains-from_any exact_unsigned_eq one (other ∷ areas) found))) in
    omega (arith, most)

-- ---- the least free area

-- It is one of the volume's, and its blocks are nobody's, so it is none of the part's own.
pub least-aside : (chain : AreasNow) (areas : List (Option PartNo)) (owners grown : Owners)
    (move : Option MoveNow) → length areas ≡ area_count chain.part.geometry
    → MayGrow (KeyedShape chain.part) areas owners grown
    → AreOwn chain.part owners (held_with chain.areas move) → IsLeastAside chain areas
least-aside chain areas owners grown move many grows own area least = (
  omega (arith, many, (position-Some is_none areas area None least).0),
  λ has. none-some
      (sym (grows.free area least (head_of chain.part area) (omega arith, omega arith))
      ∙ own area (head_of chain.part area) (held chain.areas move has) (omega arith, omega arith)),
)
  where
    none-some : None ≡ Some chain.part.part → ⊥
    none-some same = cc

    held : (chained : List ℕ) (now : Option MoveNow) → Contains chained area
        → Contains (held_with chained now) area
    held chained None has = has
    held chained (Some one) has = Contains-append_left chained (one.into ∷ []) area has

-- So the chain takes it.
pub takes-aside : (chain : AreasNow) (image : Image) (areas : List (Option PartNo))
    → KnowsAreas chain.part chain.areas chain.ends image
    → LinksIn chain.part image (area_count chain.part.geometry) chain.part.first None
    → IsLeastAside chain areas → 1 ≤ free_count areas
    → ((area : ℕ) → least_free areas ≡ Some area → area < area_count chain.part.geometry
    → length chain.areas < area_count chain.part.geometry → Contains chain.areas area) → ⊥
takes-aside chain image areas knows links aside some has =
    by_least (least_free areas) refl (free-some areas some)
  where
    by_least : (found : Option ℕ) → least_free areas ≡ found → IsSome found → ⊥
    by_least None least there = absurd cc
    by_least (Some area) least there =
        let apart = aside area least in
        apart.1 (has area least apart.0
        (chain-fewer chain.part chain.areas chain.ends image knows links area apart.0 apart.1))
