-- No area comes twice in the chain of a keyed part.
use Rattle.std.proofs.Common.{◌≡◌, ◌≢◌, ℕ, zero, suc, ◌+◌, ◌<◌, List, [], ◌∷◌, Option, Some, None}
use Rattle.std.proofs.Common.{refl, ap, arith, get_or, length, subst, sym, ◌∙◌}
use Rattle.std.specs.List.{AllPairs}
use Rattle.vr_types.specs.Image.{Block, Image}
use Rattle.vr_seqset.specs.Reading.{record_in}
use Rattle.vr_space.specs.Areas.{IsFollowed, KeyedChain, LinksIn, areas_after, end_of, head_in}
use Rattle.vr_space.specs.Rosters.{after_next}

module _ (part : KeyedChain) (image : Image) where
  -- from one area on there is one chain, however many areas it may have at most
  links-agree : (k m area : ℕ) (low bound : Option (List ℕ)) → LinksIn part image k area low
      → LinksIn part image m area bound
      → areas_after part image k area ≡ areas_after part image m area
  links-agree zero m area low bound one other = absurd one
  links-agree (suc k) zero area low bound one other = absurd other
  links-agree (suc k) (suc m) area low bound one other =
      ap (λ (rest : List ℕ). area ∷ rest)
      (by_next (record_in top).next one.next other.next
      (λ after first second. links-agree k m after (end_of top) (end_of top) first second))
    where
      top : Block
      top = head_in part image area

      by_next : (next : Option ℕ) → IsFollowed part (LinksIn part image k) top next
          → IsFollowed part (LinksIn part image m) top next
          → ((after : ℕ) → LinksIn part image k after (end_of top)
          → LinksIn part image m after (end_of top)
          → areas_after part image k after ≡ areas_after part image m after)
          → after_next [] (areas_after part image k) next
          ≡ after_next [] (areas_after part image m) next
      by_next None first second more = refl
      by_next (Some after) first second more = more after first second

  -- A chain goes on from the area at this place of it, with the areas that come from there on.
  record GoesOn (many j at : ℕ) : Type 0 where
    pub left : ℕ
    pub low : Option (List ℕ)
    pub chain : LinksIn part image left at low
    pub rest : j + length (areas_after part image left at) ≡ many

  goes-on : (k j area d : ℕ) (low : Option (List ℕ)) → LinksIn part image k area low
      → j < length (areas_after part image k area)
      → GoesOn (length (areas_after part image k area)) j
      (get_or (areas_after part image k area) j d)
  goes-on zero j area d low chain below = absurd chain
  goes-on (suc k) zero area d low chain below =
      record { left = suc k; low = low; chain = chain; rest = omega arith }
  goes-on (suc k) (suc j) area d low chain below =
      by_next (record_in top).next chain.next below
      (λ after further less. goes-on k j after d (end_of top) further less)
    where
      top : Block
      top = head_in part image area

      by_next : (next : Option ℕ) → IsFollowed part (LinksIn part image k) top next
          → suc j < suc (length (after_next [] (areas_after part image k) next))
          → ((after : ℕ) → LinksIn part image k after (end_of top)
          → j < length (areas_after part image k after)
          → GoesOn (length (areas_after part image k after)) j
          (get_or (areas_after part image k after) j d))
          → GoesOn (suc (length (after_next [] (areas_after part image k) next))) (suc j)
          (get_or (after_next [] (areas_after part image k) next) j d)
      by_next None rule within more = absurd (omega (arith, within))
      by_next (Some after) rule within more =
          let it = more after rule (omega (arith, within)) in
          record { left = it.left; low = it.low; chain = it.chain; rest = omega (arith, it.rest) }

  pub areas-once : (k area : ℕ) (low : Option (List ℕ)) → LinksIn part image k area low
      → AllPairs (λ (x y : ℕ). x ≢ y) (areas_after part image k area)
  areas-once k area low chain i j d less within same =
      let one = goes-on k i area d low chain (omega (arith, less, within)) in
      let other = goes-on k j area d low chain within in
      let agree = links-agree one.left other.left (get_or (areas_after part image k area) i d)
      one.low other.low one.chain
      (subst (λ (at : ℕ). LinksIn part image other.left at other.low) (sym same) other.chain) in
      let long
      : length (areas_after part image one.left (get_or (areas_after part image k area) i d))
      ≡ length (areas_after part image other.left (get_or (areas_after part image k area) j d)) =
      ap (λ (areas : List ℕ). length areas) agree
      ∙ ap (λ (at : ℕ). length (areas_after part image other.left at)) same in
      omega (arith, less, one.rest, other.rest, long)
