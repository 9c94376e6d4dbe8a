-- How many areas the chain of an image takes: as many as it has, and none of them twice. So it is
-- the same chain, whatever more areas it is allowed.
use Rattle.std.proofs.Common.{◌≡◌, ⊎_elim, ℕ, zero, suc, ◌<◌, ◌≤◌, Bool, true, false, List}
use Rattle.std.proofs.Common.{[], ◌∷◌, Option, Some, None, IfSome, length, refl, sym, ap, subst}
use Rattle.std.proofs.Common.{arith}
use Rattle.std.specs.Prelude.{Contains, cond, nat_eq}
use Rattle.std.specs.List.{AllByRecursion, IsDistinct}
use Rattle.std.proofs.lemmas.Map.Keys.{IsDistinct-cons}
use Rattle.std.proofs.lemmas.Map.Steps.{length-le_from_distinct_below}
use Rattle.std.proofs.lemmas.Map.Views.{Contains-from_any, exact_unsigned_eq}
use Rattle.vr_types.specs.Geometry.{area_count}
use Rattle.vr_types.specs.Image.{Block, Image}
use Rattle.vr_seqset.specs.Reading.{record_in}
use Rattle.vr_space.specs.Areas.{EachAfter, IsFollowed, KeyedChain, LinksIn, area_after}
use Rattle.vr_space.specs.Areas.{areas_after}
use Rattle.vr_space.specs.Areas.{areas_in, end_of, head_in, reaches}
use Rattle.vr_space.specs.Rosters.{IsOf, after_next}
use Rattle.vr_space.proofs.CallerLemmas.{contains-cases, links-in-area}

-- ---- elements of a list

-- one of the others is an element
pub contains-later : (first other : ℕ) (rest : List ℕ) → Contains rest other
    → Contains (first ∷ rest) other
contains-later first other rest (i, below, is) = (suc i, omega (arith, below), is)

-- the first is one
pub contains-first : (first : ℕ) (rest : List ℕ) → Contains (first ∷ rest) first
contains-first first rest = (0, omega arith, refl)

pub contains-none : (at : ℕ) → Contains [] at → ⊥
contains-none at has = omega (arith, has.1)

-- a number that is none of a list differs from each
differs-each : (x : ℕ) (xs : List ℕ) → (Contains xs x → ⊥)
    → AllByRecursion (λ y. nat_eq x y ≡ false) xs
differs-each x [] none = tt
differs-each x (y ∷ xs) none = (
  by_test (nat_eq x y) refl,
  differs-each x xs (λ has. none (contains-later y x xs has)),
)
  where
    by_test : (test : Bool) → nat_eq x y ≡ test → nat_eq x y ≡ false
    by_test true same = absurd (none
        (subst (λ (one : ℕ). Contains (one ∷ xs) x) (exact_unsigned_eq x y same)
        (contains-first x xs)))
    by_test false other = other

none-distinct : IsDistinct nat_eq []
unfolding IsDistinct
none-distinct = tt

-- ---- the chain of an image

module _ (part : KeyedChain) (image : Image) where
  -- it has no more areas than it is allowed
  pub areas-most : (k area : ℕ) → length (areas_after part image k area) ≤ k
  areas-most zero area = omega arith
  areas-most (suc k) area =
      by_next (record_in (head_in part image area)).next (λ further. areas-most k further)
    where
      by_next : (next : Option ℕ)
          → ((further : ℕ) → length (areas_after part image k further) ≤ k)
          → suc (length (after_next [] (areas_after part image k) next)) ≤ suc k
      by_next None more = omega arith
      by_next (Some further) more = omega (arith, more further)

  -- As many areas as it has are enough for it.
  pub links-tight : (k n area : ℕ) (low : Option (List ℕ)) → LinksIn part image k area low
      → length (areas_after part image k area) ≤ n → LinksIn part image n area low
  links-tight zero n area low chain most = absurd chain
  links-tight (suc k) zero area low chain most = absurd (omega (arith, most))
  links-tight (suc k) (suc n) area low chain most = record {
    there = chain.there;
    head = chain.head;
    intervals = chain.intervals;
    begins = chain.begins;
    next = by_next (record_in (head_in part image area)).next chain.next (omega (arith, most))
        (λ further bound. links-tight k n further bound);
  }
    where
      by_next : (next : Option ℕ)
          → IsFollowed part (LinksIn part image k) (head_in part image area) next
          → length (after_next [] (areas_after part image k) next) ≤ n
          → ((further : ℕ) (bound : Option (List ℕ)) → LinksIn part image k further bound
          → length (areas_after part image k further) ≤ n → LinksIn part image n further bound)
          → IsFollowed part (LinksIn part image n) (head_in part image area) next
      by_next None follows fewer more = follows
      by_next (Some further) follows fewer more =
          more further (end_of (head_in part image area)) follows fewer

  -- It may be allowed more.
  pub links-wider : (k n area : ℕ) (low : Option (List ℕ)) → k ≤ n → LinksIn part image k area low
      → LinksIn part image n area low
  links-wider k n area low most chain =
      links-tight k n area low chain (omega (arith, most, areas-most k area))

  -- It has the same areas then,
  pub areas-alike : (k n area : ℕ) (low bound : Option (List ℕ)) → LinksIn part image k area low
      → LinksIn part image n area bound
      → areas_after part image k area ≡ areas_after part image n area
  areas-alike zero n area low bound one other = absurd one
  areas-alike (suc k) zero area low bound one other = absurd other
  areas-alike (suc k) (suc n) area low bound one other =
      by_next (record_in (head_in part image area)).next one.next other.next
      (λ further ends. areas-alike k n further ends ends)
    where
      by_next : (next : Option ℕ)
          → IsFollowed part (LinksIn part image k) (head_in part image area) next
          → IsFollowed part (LinksIn part image n) (head_in part image area) next
          → ((further : ℕ) (ends : Option (List ℕ)) → LinksIn part image k further ends
          → LinksIn part image n further ends
          → areas_after part image k further ≡ areas_after part image n further)
          → area ∷ after_next [] (areas_after part image k) next
          ≡ area ∷ after_next [] (areas_after part image n) next
      by_next None first second more = refl
      by_next (Some further) first second more = ap (λ (areas : List ℕ). area ∷ areas)
          (more further (end_of (head_in part image area)) first second)

  -- and a place comes to the same one.
  pub area-alike : (place : List ℕ) (k n area : ℕ) (low bound : Option (List ℕ))
      → LinksIn part image k area low → LinksIn part image n area bound
      → area_after part image place k area ≡ area_after part image place n area
  area-alike place zero n area low bound one other = absurd one
  area-alike place (suc k) zero area low bound one other = absurd other
  area-alike place (suc k) (suc n) area low bound one other =
      ap (λ (after : Option ℕ). cond (reaches (head_in part image area) place) (Some area) after)
      (by_next (record_in (head_in part image area)).next one.next other.next
      (λ further ends. area-alike place k n further ends ends))
    where
      by_next : (next : Option ℕ)
          → IsFollowed part (LinksIn part image k) (head_in part image area) next
          → IsFollowed part (LinksIn part image n) (head_in part image area) next
          → ((further : ℕ) (ends : Option (List ℕ)) → LinksIn part image k further ends
          → LinksIn part image n further ends
          → area_after part image place k further ≡ area_after part image place n further)
          → after_next None (area_after part image place k) next
          ≡ after_next None (area_after part image place n) next
      by_next None first second more = refl
      by_next (Some further) first second more =
          more further (end_of (head_in part image area)) first second

  -- That is one of them.
  pub area-listed : (place : List ℕ) (k area at : ℕ)
      → area_after part image place k area ≡ Some at → Contains (areas_after part image k area) at
  area-listed place zero area at is = absurd cc
  area-listed place (suc k) area at is =
      by_test (reaches (head_in part image area) place)
      (record_in (head_in part image area)).next is (λ further. area-listed place k further at)
    where
      by_test : (test : Bool) (next : Option ℕ)
          → cond test (Some area) (after_next None (area_after part image place k) next) ≡ Some at
          → ((further : ℕ) → area_after part image place k further ≡ Some at
          → Contains (areas_after part image k further) at)
          → Contains (area ∷ after_next [] (areas_after part image k) next) at
      by_test true next found more =
          let same : area ≡ at = cc in
          subst (Contains (area ∷ after_next [] (areas_after part image k) next)) same
          (contains-first area (after_next [] (areas_after part image k) next))
      by_test false None found more = absurd cc
      by_test false (Some further) found more =
          contains-later area at (areas_after part image k further) (more further found)

  -- The chain goes on from an area, over areas that it has.
  pub record GoesOn (areas : List ℕ) (at : ℕ) : Type 0 where
    pub left : ℕ
    pub low : Option (List ℕ)
    pub chain : LinksIn part image left at low
    pub fewer : length (areas_after part image left at) ≤ length areas

  -- It goes on from each of its areas,
  pub goes-on : (k area : ℕ) (low : Option (List ℕ)) → LinksIn part image k area low → (at : ℕ)
      → Contains (areas_after part image k area) at → GoesOn (areas_after part image k area) at
  goes-on zero area low chain at has = absurd chain
  goes-on (suc k) area low chain at has = ⊎_elim
      (λ same. subst (GoesOn (areas_after part image (suc k) area)) same
      (record { left = suc k; low = low; chain = chain; fewer = omega arith }))
      (λ later. by_next (record_in (head_in part image area)).next chain.next later
      (λ further bound goes. goes-on k further bound goes at))
      (contains-cases area at (after_next [] (areas_after part image k)
      (record_in (head_in part image area)).next) has)
    where
      by_next : (next : Option ℕ)
          → IsFollowed part (LinksIn part image k) (head_in part image area) next
          → Contains (after_next [] (areas_after part image k) next) at
          → ((further : ℕ) (bound : Option (List ℕ)) → LinksIn part image k further bound
          → Contains (areas_after part image k further) at
          → GoesOn (areas_after part image k further) at)
          → GoesOn (area ∷ after_next [] (areas_after part image k) next) at
      by_next None follows later more = absurd (contains-none at later)
      by_next (Some further) follows later more =
          let on = more further (end_of (head_in part image area)) follows later in
          record {
            left = on.left;
            low = on.low;
            chain = on.chain;
            fewer = omega (arith, on.fewer);
          }

  -- so none comes twice:
  pub none-twice : (k area : ℕ) (low : Option (List ℕ)) → LinksIn part image (suc k) area low
      → (next : ℕ) → (record_in (head_in part image area)).next ≡ Some next
      → Contains (areas_after part image k next) area → ⊥
  none-twice k area low chain next leads has =
      let follows : LinksIn part image k next (end_of (head_in part image area)) =
      subst (IsFollowed part (LinksIn part image k) (head_in part image area)) leads chain.next in
      let on = goes-on k next (end_of (head_in part image area)) follows area has in
      let again : areas_after part image (suc k) area ≡ areas_after part image on.left area =
      areas-alike (suc k) on.left area low on.low chain on.chain in
      let longer : length (areas_after part image (suc k) area)
      ≡ suc (length (areas_after part image k next)) =
      ap (λ (after : Option ℕ). length (area ∷ after_next [] (areas_after part image k) after))
      leads in
      omega (arith, on.fewer, longer, ap length again)

  -- they are distinct,
  areas-distinct : (k area : ℕ) (low : Option (List ℕ)) → LinksIn part image k area low
      → IsDistinct nat_eq (areas_after part image k area)
  areas-distinct zero area low chain = absurd chain
  areas-distinct (suc k) area low chain =
      by_next (record_in (head_in part image area)).next refl chain.next
      (λ further bound goes. areas-distinct k further bound goes)
    where
      by_next : (next : Option ℕ) → (record_in (head_in part image area)).next ≡ next
          → IsFollowed part (LinksIn part image k) (head_in part image area) next
          → ((further : ℕ) (bound : Option (List ℕ)) → LinksIn part image k further bound
          → IsDistinct nat_eq (areas_after part image k further))
          → IsDistinct nat_eq (area ∷ after_next [] (areas_after part image k) next)
      by_next None leads follows more =
          IsDistinct-cons nat_eq area [] (differs-each area [] (contains-none area)) none-distinct
      by_next (Some further) leads follows more =
          IsDistinct-cons nat_eq area (areas_after part image k further)
          (differs-each area (areas_after part image k further)
          (none-twice k area low chain further leads))
          (more further (end_of (head_in part image area)) follows)

  -- What is true of all of them is true of each.
  pub each-listed : (P : ℕ → Type 0) (k area : ℕ)
      → ((at : ℕ) → Contains (areas_after part image k area) at → P at)
      → EachAfter part P (IsOf image) k area
  each-listed P zero area all = tt
  each-listed P (suc k) area all = (
    all area (contains-first area _),
    λ top is. subst (λ (one : Block). IfSome (record_in one).next (EachAfter part P (IsOf image) k))
        (sym is)
        (by_next (record_in (head_in part image area)).next
        (λ at later. all at (contains-later area at _ later))
        (λ further. each-listed P k further)),
  )
    where
      by_next : (next : Option ℕ)
          → ((at : ℕ) → Contains (after_next [] (areas_after part image k) next) at → P at)
          → ((further : ℕ)
          → ((at : ℕ) → Contains (areas_after part image k further) at → P at)
          → EachAfter part P (IsOf image) k further)
          → IfSome next (EachAfter part P (IsOf image) k)
      by_next None later more = tt
      by_next (Some further) later more = more further later

-- Where an area of the volume isn't one of the chain, the chain has one area less than the volume.
pub links-fewer : (part : KeyedChain) (image : Image) (k into : ℕ)
    → area_count part.geometry ≡ suc k → into < area_count part.geometry
    → (Contains (areas_in part image) into → ⊥)
    → LinksIn part image (area_count part.geometry) part.first None
    → LinksIn part image k part.first None
links-fewer part image k into is there apart chain =
    let count = area_count part.geometry in
    let areas : List ℕ = areas_in part image in
    let most : length (into ∷ areas) ≤ count =
    length-le_from_distinct_below (into ∷ areas) count
    (IsDistinct-cons nat_eq into areas (differs-each into areas apart)
    (areas-distinct part image count part.first None chain))
    (λ one found. ⊎_elim
    (λ same. subst (λ (at : ℕ). at < count) same there)
    (λ later. (links-in-area part image count part.first None chain one later).there)
    (contains-cases into one areas (Contains-from_any exact_unsigned_eq one (into ∷ areas) found)))
    in
    links-tight part image count k part.first None chain (omega (arith, most, is))
