-- Which areas parts reach, and that a part stays in its own where those are its.
use Rattle.std.proofs.Common.{◌≡◌, ℕ, zero, suc, ◌+◌, ◌<◌, ◌≤◌, List, [], ◌∷◌, get_or}
use Rattle.std.proofs.Common.{Option, Some, None, refl, sym, subst}
use Rattle.std.specs.Prelude.{Contains, IfSome}
use Rattle.std.proofs.lemmas.List.Elements.{All-contains, Contains-append_left}
use Rattle.std.proofs.lemmas.List.Elements.{Contains-append_right, Contains-push}
use Rattle.vr_types.specs.Geometry.{area_count, head_block}
use Rattle.vr_types.specs.Image.{Block, Image, block_at}
use Rattle.vr_types.specs.declared.geometry.Geometry.{Geometry}
use Rattle.vr_types.specs.declared.unit.PartNo.{PartNo}
use Rattle.vr_catalog.specs.declared.entry.CatEntry.{CatEntry}
use Rattle.vr_seqset.specs.Reading.{record_in}
use Rattle.vr_space.specs.Areas.{EachAfter, EachArea, IsOwnedArea, KeyedChain, areas_after}
use Rattle.vr_space.specs.Areas.{areas_in}
use Rattle.vr_space.specs.Areas.{head_in}
use Rattle.vr_space.specs.Known.{Known}
use Rattle.vr_space.specs.Owners.{Owners}
use Rattle.vr_space.specs.Part.{KeyedShape, NumberedShape, Shape, Stands, StaysIn, part_no}
use Rattle.vr_space.specs.Rosters.{Chains, IsChained, IsChainedBy, IsNextOf, IsOf}
use Rattle.vr_space.specs.Rosters.{IsOwnArea, Numbered, after_next, areas_from, chain_of, roster_at}
use Rattle.vr_space.specs.Rosters.{roster_block, used_of}
use Rattle.vr_space.specs.Numbered.{IsFilled}
use Rattle.vr_space.proofs.CallerLemmas.{are-chained, chain-less, chained-here}
use Rattle.vr_space.proofs.CallerLemmas.{IsLinkedArea, area-each, each-after-both}
use Rattle.vr_space.proofs.CallerLemmas.{each-after-less, links-in-each}
use Rattle.vr_attach.specs.Laid.{ReachesArea, shape_in}
use Rattle.vr_attach.specs.Owning.{owner_of}
use Rattle.vr_attach.proofs.Owning.{IsOnAreas, area-owned, laid-as}

-- ---- the areas of a chain

-- In an image a chain goes on in areas that are its own.
chain-among : (part : Numbered) (Own : ℕ → Type 0) (Interval : Block → Type 0) (image : Image)
    (k area : ℕ) → Chains part Own Interval (IsOf image) k area
    → Chains part (λ at. Own at × Contains (areas_from part image k area) at) Interval (IsOf image)
    k area
chain-among part Own Interval image zero area chain = absurd chain
chain-among part Own Interval image (suc k) area chain = (
  (chain.0, Contains-append_left (area ∷ []) rest area (Contains-push [] area)),
  λ top is. subst (IsChainedBy part Interval (IsOf image) area (Chains part Among Interval
      (IsOf image) k)) (sym is) (record {
        roster = here.roster;
        intervals = here.intervals;
        next = by_next (roster_at part image area).next refl here.next
            (λ after. chain-among part Own Interval image k after);
      }),
)
  where
    rest : List ℕ
    rest = after_next [] (areas_from part image k) (roster_at part image area).next

    Among : ℕ → Type 0
    Among at = Own at × Contains (area ∷ rest) at

    here : IsChainedBy part Interval (IsOf image) area (Chains part Own Interval (IsOf image) k)
        (block_at image (roster_block part area))
    here = chained-here part Own Interval image k area chain

    by_next : (next : Option ℕ) → (roster_at part image area).next ≡ next
        → IsNextOf (roster_at part image area).used part.geometry.area
        (Chains part Own Interval (IsOf image) k) next
        → ((after : ℕ) → Chains part Own Interval (IsOf image) k after
        → Chains part (λ at. Own at × Contains (areas_from part image k after) at) Interval
        (IsOf image) k after)
        → IsNextOf (roster_at part image area).used part.geometry.area
        (Chains part Among Interval (IsOf image) k) next
    by_next None is rule more = tt
    by_next (Some after) is rule more = (
      rule.0,
      chain-less part (λ at. Own at × Contains (areas_from part image k after) at) Among Interval
          (IsOf image) (IsOf image)
          (λ at both. (
            both.0,
            Contains-append_right (area ∷ []) rest at
                (subst (λ (o : Option ℕ). Contains (after_next [] (areas_from part image k) o) at)
                (sym is) both.1),
          ))
          (λ at both n inside block may. may) k after (more after rule.1),
    )

-- each area of the chain is one that it may go on in
chain-owns : (part : Numbered) (Own : ℕ → Type 0) (Interval : Block → Type 0) (image : Image)
    → IsChained part Own Interval (IsOf image) → (area : ℕ) → Contains (chain_of part image) area
    → Own area
chain-owns part Own Interval image chain area among =
    All-contains Own (chain_of part image) area
    (are-chained part Own Interval image known chain
    (record { areas = refl; used = refl })).own among
  where
    known : Known
    known = record {
      split = None;
      move = None;
      met = [];
      most = 0;
      areas = chain_of part image;
      ends = [];
      used = used_of part image;
      tail = None;
    }

-- ---- the areas of a keyed part

-- each area that an image leads to is one of those that it has
each-among : (part : KeyedChain) (image : Image) (k area : ℕ)
    → EachAfter part (Contains (areas_after part image k area)) (IsOf image) k area
each-among part image zero area = tt
each-among part image (suc k) area = (
  Contains-append_left (area ∷ []) rest area (Contains-push [] area),
  λ top is. subst (λ (one : Block). IfSome (record_in one).next
      (EachAfter part (Contains (area ∷ rest)) (IsOf image) k)) (sym is)
      (by_next (record_in (head_in part image area)).next refl
      (λ further. each-among part image k further)),
)
  where
    rest : List ℕ
    rest = after_next [] (areas_after part image k) (record_in (head_in part image area)).next

    by_next : (next : Option ℕ) → (record_in (head_in part image area)).next ≡ next
        → ((further : ℕ) → EachAfter part (Contains (areas_after part image k further)) (IsOf image)
        k further)
        → IfSome next (EachAfter part (Contains (area ∷ rest)) (IsOf image) k)
    by_next None is more = tt
    by_next (Some further) is more =
        each-after-less part (Contains (areas_after part image k further))
        (Contains (area ∷ rest)) (IsOf image) (IsOf image)
        (λ at inside. Contains-append_right (area ∷ []) rest at
        (subst (λ (o : Option ℕ). Contains (after_next [] (areas_after part image k) o) at)
        (sym is) inside))
        (λ at inside top may. may) k further (more further)

-- each area of a part that stands for a content is there, and one of those that the image has
stands-among : (part : KeyedChain) (image : Image) → Stands (KeyedShape part) image
    → EachArea part (λ at. IsLinkedArea part image at × Contains (areas_in part image) at)
    (IsOf image)
stands-among part image stands =
    let count : ℕ = area_count part.geometry in
    each-after-both part (IsLinkedArea part image) (Contains (areas_in part image)) (IsOf image)
    count part.first (links-in-each part image count part.first None stands.1.chain)
    (each-among part image count part.first)

-- ---- a part stays in its own

-- the areas that a part reaches in the image are the part's
abbrev pub ReachesOwn : Geometry → Shape → List (Option PartNo) → Image → Type 0
ReachesOwn geometry shape areas image = (area : ℕ) → ReachesArea geometry shape image area
    → get_or areas area None ≡ Some (part_no shape)

by-shape : (geometry : Geometry) (shape : Shape) (areas : List (Option PartNo)) (image : Image)
    → IsOnAreas geometry shape → Stands shape image → ReachesOwn geometry shape areas image
    → StaysIn shape (owner_of geometry areas) image
by-shape geometry (KeyedShape part) areas image on stands owns =
    each-after-less part (λ at. IsLinkedArea part image at × Contains (areas_in part image) at)
    (IsOwnedArea part (owner_of geometry areas)) (IsOf image) (IsOf image)
    (λ at both. record {
      there = both.0.there;
      owned = λ n inside. area-owned geometry areas at (part_no (KeyedShape part))
          (owns at both.1) n (subst (λ (g : Geometry). head_block g at ≤ n) on inside.0)
          (subst (λ (g : Geometry). n ≤ head_block g at + g.area) on inside.1);
    })
    (λ at both top may. may) (area_count part.geometry) part.first
    (stands-among part image stands)
by-shape geometry (NumberedShape part) areas image on stands owns =
    chain-less part (λ at. (at < area_count part.geometry) × Contains (chain_of part image) at)
    (IsOwnArea part (owner_of geometry areas)) (IsFilled part) (IsOf image) (IsOf image)
    (λ at both. record {
      there = both.0;
      owned = λ n inside. area-owned geometry areas at (part_no (NumberedShape part))
          (owns at both.1) n
          (subst (λ (g : Geometry). head_block g at ≤ n) on inside.from)
          (subst (λ (g : Geometry). n ≤ head_block g at + g.area) on inside.to);
    })
    (λ at both n inside block may. may) (area_count part.geometry) part.first
    (chain-among part (λ at. at < area_count part.geometry) (IsFilled part) image
    (area_count part.geometry) part.first stands.1.chain)

-- A part that is laid stays in its own blocks where it stands for a content, and the areas that it
-- reaches are its.
pub reached-stays : (geometry : Geometry) (entries : List CatEntry) (part : ℕ) (shape : Shape)
    (areas : List (Option PartNo)) (image : Image) → shape_in geometry entries part ≡ Some shape
    → Stands shape image → ReachesOwn geometry shape areas image
    → StaysIn shape (owner_of geometry areas) image
reached-stays geometry entries part shape areas image laid stands owns = by-shape geometry shape
    areas image (laid-as geometry entries part shape laid).areas stands owns

owned-by-shape : (geometry : Geometry) (shape : Shape) (owners : Owners) (image : Image) (area : ℕ)
    → IsOnAreas geometry shape → StaysIn shape owners image → ReachesArea geometry shape image area
    → (n : ℕ) → head_block geometry area ≤ n → n ≤ head_block geometry area + geometry.area
    → owners n ≡ Some (part_no shape).0
owned-by-shape geometry (KeyedShape part) owners image area on stays reaches n from to =
    (area-each part (IsOwnedArea part owners) image (area_count part.geometry) part.first area
    stays reaches).owned n (
      subst (λ (g : Geometry). head_block g area ≤ n) (sym on) from,
      subst (λ (g : Geometry). n ≤ head_block g area + g.area) (sym on) to,
    )
owned-by-shape geometry (NumberedShape part) owners image area on stays reaches n from to =
    (chain-owns part (IsOwnArea part owners) (IsFilled part) image stays area reaches).owned n
    (record {
      from = subst (λ (g : Geometry). head_block g area ≤ n) (sym on) from;
      to = subst (λ (g : Geometry). n ≤ head_block g area + g.area) (sym on) to;
    })

-- And where it stays in its own, the blocks of the areas that it reaches are its.
pub stays-reached : (geometry : Geometry) (entries : List CatEntry) (part : ℕ) (shape : Shape)
    (owners : Owners) (image : Image) (area : ℕ) → shape_in geometry entries part ≡ Some shape
    → StaysIn shape owners image → ReachesArea geometry shape image area → (n : ℕ)
    → head_block geometry area ≤ n → n ≤ head_block geometry area + geometry.area
    → owners n ≡ Some (part_no shape).0
stays-reached geometry entries part shape owners image area laid stays reaches =
    owned-by-shape geometry shape owners image area
    (laid-as geometry entries part shape laid).areas stays reaches
