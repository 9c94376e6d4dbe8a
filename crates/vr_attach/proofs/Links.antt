-- The links of a chain in an image: which areas they are of, and that a chain which stands reaches
-- no area twice.
use Rattle.std.proofs.Common.{◌≡◌, ℕ, zero, suc, ◌<◌, ◌≤◌, List, [], ◌∷◌, ◌++◌, Option, Some}
use Rattle.std.proofs.Common.{None, length, map, take, refl, sym, ap, subst, ◌∙◌, arith}
use Rattle.std.specs.Prelude.{Contains, unwrap_or}
use Rattle.std.specs.List.{slice_get}
use Rattle.std.specs.Option.{option_map}
use Rattle.std.proofs.lemmas.List.{get_or-take, length-append, length-take}
use Rattle.std.proofs.lemmas.List.Elements.{Contains-append_right}
use Rattle.std.proofs.lemmas.Option.{get_or_from_slice_get, slice_get-get_or, slice_get-map}
use Rattle.std.proofs.lemmas.Option.{slice_get_within}
use Rattle.vr_types.specs.Geometry.{area_count}
use Rattle.vr_types.specs.Image.{Image}
use Rattle.vr_seqset.specs.Reading.{record_in}
use Rattle.vr_space.specs.Areas.{IsFollowed, IsLinkedIn, KeyedChain, LinksIn, areas_after, areas_in}
use Rattle.vr_space.specs.Areas.{end_of, head_in}
use Rattle.vr_space.specs.Rosters.{after_next}
use Rattle.vr_attach.specs.Linked.{links_after, links_in}

-- an area of a chain, and the place at which its ranges are to begin
abbrev pub Link : Type 0
Link = ℕ × Option (List ℕ)

-- ---- elements of a list

-- an element is one of the first, up to it
pub among-first : (xs : List ℕ) (i at x : ℕ) → slice_get xs i ≡ Some x → i ≤ at
    → Contains (take (suc at) xs) x
among-first xs i at x got upto =
    let below : i < length xs = slice_get_within xs i x got in (
      i,
      omega (arith, below, length-take (suc at) xs),
      get_or-take (suc at) xs i x (omega (arith, upto)) ∙ get_or_from_slice_get xs i x x got,
    )

-- and one of the first is an element
pub first-among : (xs : List ℕ) (at x : ℕ) → Contains (take (suc at) xs) x
    → (i : ℕ) × (i ≤ at) × (slice_get xs i ≡ Some x)
first-among xs at x (i, below, is) =
    let upto : i ≤ at = omega (arith, below, length-take (suc at) xs) in
    let inside : i < length xs = omega (arith, below, length-take (suc at) xs) in (
      i,
      upto,
      slice_get-get_or xs i x inside
          ∙ ap (λ (y : ℕ). Some y)
          (sym (get_or-take (suc at) xs i x (omega (arith, upto))) ∙ is),
    )

-- ---- the links of a chain

module _ (part : KeyedChain) (image : Image) where
  -- which areas they are of
  pub areas-of : (k area : ℕ) (low : Option (List ℕ))
      → map (λ (link : Link). link.0) (links_after part image k area low)
      ≡ areas_after part image k area
  areas-of zero area low = refl
  areas-of (suc k) area low =
      by_next (record_in (head_in part image area)).next
      (λ next. areas-of k next (end_of (head_in part image area)))
    where
      by_next : (next : Option ℕ)
          → ((further : ℕ) → map (λ (link : Link). link.0)
          (links_after part image k further (end_of (head_in part image area)))
          ≡ areas_after part image k further)
          → map (λ (link : Link). link.0) ((area, low) ∷ after_next []
          (λ further. links_after part image k further (end_of (head_in part image area))) next)
          ≡ area ∷ after_next [] (areas_after part image k) next
      by_next None more = refl
      by_next (Some further) more = ap (λ (areas : List ℕ). area ∷ areas) (more further)

  -- how many areas follow doesn't depend on how it was got to
  pub same-length : (k left area : ℕ) (low bound : Option (List ℕ))
      → LinksIn part image k area low → LinksIn part image left area bound
      → length (areas_after part image k area) ≡ length (areas_after part image left area)
  same-length zero left area low bound one other = absurd one
  same-length (suc k) zero area low bound one other = absurd other
  same-length (suc k) (suc left) area low bound one other =
      by_next (record_in (head_in part image area)).next one.next other.next
      (λ further ends. same-length k left further ends ends)
    where
      by_next : (next : Option ℕ)
          → IsFollowed part (LinksIn part image k) (head_in part image area) next
          → IsFollowed part (LinksIn part image left) (head_in part image area) next
          → ((further : ℕ) (ends : Option (List ℕ)) → LinksIn part image k further ends
          → LinksIn part image left further ends
          → length (areas_after part image k further)
          ≡ length (areas_after part image left further))
          → suc (length (after_next [] (areas_after part image k) next))
          ≡ suc (length (after_next [] (areas_after part image left) next))
      by_next None first second more = refl
      by_next (Some further) first second more =
          ap suc (more further (end_of (head_in part image area)) first second)

  -- The chain goes on from one of its links, over as many areas as are left.
  pub record StandsOn (areas : List ℕ) (at area : ℕ) (low : Option (List ℕ)) : Type 0 where
    pub left : ℕ
    pub chain : IsLinkedIn part image area low (LinksIn part image left)
    pub before : List ℕ
    pub many : length before ≡ at
    pub listed : areas ≡ before ++ areas_after part image (suc left) area

  -- so does each chain that stands, from each of its links
  pub stands-on : (k area : ℕ) (low : Option (List ℕ)) → LinksIn part image k area low
      → (at : ℕ) (link : Link) → slice_get (links_after part image k area low) at ≡ Some link
      → StandsOn (areas_after part image k area) at link.0 link.1
  stands-on zero area low chain at link is = absurd chain
  stands-on (suc k) area low chain zero link is =
      let same : (area, low) ≡ link = ap (λ (o : Option Link). unwrap_or o (area, low)) is in
      subst (λ (one : Link). StandsOn (areas_after part image (suc k) area) zero one.0 one.1) same
      (record { left = k; chain = chain; before = []; many = refl; listed = refl })
  stands-on (suc k) area low chain (suc at) link is =
      by_next (record_in (head_in part image area)).next chain.next is
      (λ further goes. stands-on k further (end_of (head_in part image area)) goes at link)
    where
      by_next : (next : Option ℕ)
          → IsFollowed part (LinksIn part image k) (head_in part image area) next
          → slice_get (after_next []
          (λ further. links_after part image k further (end_of (head_in part image area))) next) at
          ≡ Some link
          → ((further : ℕ) → LinksIn part image k further (end_of (head_in part image area))
          → slice_get (links_after part image k further (end_of (head_in part image area))) at
          ≡ Some link → StandsOn (areas_after part image k further) at link.0 link.1)
          → StandsOn (area ∷ after_next [] (areas_after part image k) next) (suc at) link.0 link.1
      by_next None follows got more = absurd cc
      by_next (Some further) follows got more =
          let here = more further follows got in
          record {
            left = here.left;
            chain = here.chain;
            before = area ∷ here.before;
            many = ap suc here.many;
            listed = ap (λ (areas : List ℕ). area ∷ areas) here.listed;
          }

-- ---- a part that stands for a content

module _ (part : KeyedChain) (image : Image) where
  -- there is a link of each area
  link-of : (at area : ℕ) → slice_get (areas_in part image) at ≡ Some area
      → (low : Option (List ℕ)) × (slice_get (links_in part image) at ≡ Some (area, low))
  link-of at area got = by_link (slice_get (links_in part image) at) refl
    where
      by_link : (link : Option Link) → slice_get (links_in part image) at ≡ link
          → (low : Option (List ℕ)) × (slice_get (links_in part image) at ≡ Some (area, low))
      by_link None is =
          let none : None ≡ Some area =
          sym (ap (option_map (λ (link : Link). link.0)) is)
          ∙ sym (slice_get-map (λ (link : Link). link.0) (links_in part image) at)
          ∙ ap (λ (areas : List ℕ). slice_get areas at)
          (areas-of part image (area_count part.geometry) part.first None)
          ∙ got in
          absurd cc
      by_link (Some link) is =
          let some : Some link.0 ≡ Some area =
          sym (ap (option_map (λ (link : Link). link.0)) is)
          ∙ sym (slice_get-map (λ (link : Link). link.0) (links_in part image) at)
          ∙ ap (λ (areas : List ℕ). slice_get areas at)
          (areas-of part image (area_count part.geometry) part.first None)
          ∙ got in
          let same : link.0 ≡ area = cc in
          (link.1, is ∙ ap (λ (one : ℕ). Some (one, link.1)) same)

  -- the area of a link
  pub link-area : (at : ℕ) (link : Link) → slice_get (links_in part image) at ≡ Some link
      → slice_get (areas_in part image) at ≡ Some link.0
  link-area at link is =
      ap (λ (areas : List ℕ). slice_get areas at)
      (sym (areas-of part image (area_count part.geometry) part.first None))
      ∙ slice_get-map (λ (one : Link). one.0) (links_in part image) at
      ∙ ap (option_map (λ (one : Link). one.0)) is

  -- the first area is one of those up to any link
  pub first-before : (at : ℕ) (link : Link) → slice_get (links_in part image) at ≡ Some link
      → (i : ℕ) → Contains (take (suc i) (areas_in part image)) part.first
  first-before at link is i = by_count (area_count part.geometry) is
    where
      by_count : (count : ℕ)
          → slice_get (links_after part image count part.first None) at ≡ Some link
          → Contains (take (suc i) (areas_after part image count part.first)) part.first
      by_count zero none = absurd cc
      by_count (suc count) some = (0, omega arith, refl)

  module _ (chain : LinksIn part image (area_count part.geometry) part.first None) where
    -- each link of a chain that stands goes on
    pub standing : (at : ℕ) (link : Link) → slice_get (links_in part image) at ≡ Some link
        → StandsOn part image (areas_in part image) at link.0 link.1
    standing = stands-on part image (area_count part.geometry) part.first None chain

    module _ (at : ℕ) (link : Link)
        (here : StandsOn part image (areas_in part image) at link.0 link.1) where
      -- from where the area that it leads to begins
      goes-to : (next : ℕ) → (record_in (head_in part image link.0)).next ≡ Some next
          → LinksIn part image here.left next (end_of (head_in part image link.0))
      goes-to next leads =
          subst (IsFollowed part (LinksIn part image here.left) (head_in part image link.0)) leads
          here.chain.next

      then-listed : (next : ℕ) → (record_in (head_in part image link.0)).next ≡ Some next
          → areas_in part image
          ≡ here.before ++ link.0 ∷ areas_after part image here.left next
      then-listed next leads = here.listed
          ∙ ap (λ (after : Option ℕ).
          here.before ++ link.0 ∷ after_next [] (areas_after part image here.left) after) leads

      -- that is one of the chain,
      pub leads-inside : (next : ℕ) → (record_in (head_in part image link.0)).next ≡ Some next
          → Contains (areas_in part image) next
      leads-inside next leads =
          subst (λ (areas : List ℕ). Contains areas next) (sym (then-listed next leads))
          (Contains-append_right here.before
          (link.0 ∷ areas_after part image here.left next) next
          (second here.left (goes-to next leads)))
        where
          second : (left : ℕ) → LinksIn part image left next (end_of (head_in part image link.0))
              → Contains (link.0 ∷ areas_after part image left next) next
          second zero none = absurd none
          second (suc left) some = (1, omega arith, refl)

      -- and none that was reached before
      pub leads-new : (next : ℕ) → (record_in (head_in part image link.0)).next ≡ Some next
          → Contains (take (suc at) (areas_in part image)) next → ⊥
      leads-new next leads has =
          let found = first-among (areas_in part image) at next has in
          let before = link-of found.0 next found.2 in
          let other = standing found.0 (next, before.0) before.1 in
          let one : length (areas_after part image (suc other.left) next)
          ≡ length (areas_after part image here.left next) =
          same-length part image (suc other.left) here.left next before.0
          (end_of (head_in part image link.0)) other.chain (goes-to next leads) in
          omega (
            arith,
            found.1,
            one,
            other.many,
            here.many,
            ap length other.listed,
            ap length (then-listed next leads),
            length-append other.before (areas_after part image (suc other.left) next),
            length-append here.before (link.0 ∷ areas_after part image here.left next),
          )
