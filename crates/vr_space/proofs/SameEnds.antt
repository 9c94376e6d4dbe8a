-- Heads that keep the ends of those of an image: its chain stays, whatever else they have.
use Rattle.std.proofs.Common.{◌≡◌, ℕ, zero, suc, Bool, true, false, List, [], ◌∷◌, Option, Some}
use Rattle.std.proofs.Common.{None, IfSome, refl, sym, ap, subst, ◌∙◌}
use Rattle.std.specs.Prelude.{All, cond, map}
use Rattle.std.specs.List.{AllByRecursion}
use Rattle.std.proofs.lemmas.List.Elements.{recursion_from_All}
use Rattle.vr_types.specs.Content.{Item}
use Rattle.vr_types.specs.Geometry.{area_count}
use Rattle.vr_types.specs.Image.{Block, Image}
use Rattle.vr_types.specs.Seen.{Seen}
use Rattle.vr_seqset.specs.Reading.{record_in}
use Rattle.vr_space.specs.AreaCalls.{MayHoldHere}
use Rattle.vr_space.specs.Keyed.{HasEnds, HoldRanges, IsHead, IsKeyedSound, entries_of, low_of}
use Rattle.vr_space.specs.Keyed.{way_under}
use Rattle.vr_space.specs.Areas.{EachAfter, EachArea, IsFollowed, KeyedChain, KnowsAreas, Links}
use Rattle.vr_space.specs.Areas.{LinksIn, area_after}
use Rattle.vr_space.specs.Areas.{area_of, areas_after, areas_way, end_of, head_in, head_of, is_upto}
use Rattle.vr_space.specs.Areas.{reaches}
use Rattle.vr_space.specs.Rosters.{IsOf, after_next}
use Rattle.vr_space.specs.Way.{Found, MayFind, Way}
use Rattle.vr_space.proofs.Ends.{ends-low}
use Rattle.vr_space.proofs.Links.{areas-each, each-after-less, each-next}

-- each head that is allowed of an area has the ends of the image's
abbrev pub KeepsHead : KeyedChain → Image → (ℕ → Block → Type 0) → ℕ → Type 0
KeepsHead part image may area =
    (top : Block) → may (head_of part area) top → HasEnds (head_in part image area) top

-- ---- one head

pub ends-reach : (place : List ℕ) (old new : Block) → HasEnds old new
    → reaches new place ≡ reaches old place
ends-reach place old new ends = ap (λ (end : Option (List ℕ)). is_upto end place) ends.last

-- a chain goes on from a head as from one with its ends
pub ends-followed : (part : KeyedChain) (After : ℕ → Option (List ℕ) → Type 0) (old new : Block)
    → HasEnds old new → IsFollowed part After old (record_in old).next
    → IsFollowed part After new (record_in new).next
ends-followed part After old new ends is = subst (IsFollowed part After new) (sym ends.next)
    (by_next (record_in old).next is)
  where
    by_next : (next : Option ℕ) → IsFollowed part After old next → IsFollowed part After new next
    by_next None last = ends.last ∙ last
    by_next (Some further) goes = subst (After further) (sym ends.last) goes

-- ---- the chain

module _ (part : KeyedChain) (image : Image) where
  -- What is true of each area of an image is true whichever of such heads is allowed,
  pub each-after-kept : (P : ℕ → Type 0) (may : ℕ → Block → Type 0) (k area : ℕ)
      → EachAfter part (λ at. KeepsHead part image may at × P at) (IsOf image) k area
      → EachAfter part P may k area
  each-after-kept P may zero area each = tt
  each-after-kept P may (suc k) area each = (
    each.0.1,
    λ top allowed. subst (λ (next : Option ℕ). IfSome next (EachAfter part P may k))
        (sym (each.0.0 top allowed).next)
        (each-next part
        (EachAfter part (λ at. KeepsHead part image may at × P at) (IsOf image) k)
        (EachAfter part P may k) (record_in (head_in part image area)).next
        (λ further. each-after-kept P may k further) (each.1 (head_in part image area) refl)),
  )

  -- and the chain goes on in areas of which that is true.
  pub links-kept : (Own : ℕ → Type 0) (now : Seen) (k area : ℕ) (low : Option (List ℕ))
      → LinksIn part image k area low
      → EachAfter part (λ at. KeepsHead part image now.may at × Own at
      × IsKeyedSound (area_of part at) now) (IsOf image) k area
      → Links part Own now k area low
  links-kept Own now zero area low chain each = absurd chain
  links-kept Own now (suc k) area low chain each = (
    each.0.1,
    record {
      sound = each.0.2;
      begins = λ top may. ends-low (head_in part image area) top (each.0.0 top may)
          ∙ chain.begins;
      next = λ top may. ends-followed part (Links part Own now k) (head_in part image area) top
          (each.0.0 top may)
          (by_next (record_in (head_in part image area)).next chain.next
          (each.1 (head_in part image area) refl)
          (λ further bound goes all. links-kept Own now k further bound goes all));
    },
  )
    where
      Each : ℕ → Type 0
      Each = EachAfter part (λ at. KeepsHead part image now.may at × Own at
          × IsKeyedSound (area_of part at) now) (IsOf image) k

      by_next : (next : Option ℕ)
          → IsFollowed part (LinksIn part image k) (head_in part image area) next
          → IfSome next Each
          → ((further : ℕ) (bound : Option (List ℕ)) → LinksIn part image k further bound
          → Each further → Links part Own now k further bound)
          → IsFollowed part (Links part Own now k) (head_in part image area) next
      by_next None last all more = last
      by_next (Some further) goes all more =
          more further (end_of (head_in part image area)) goes all

  -- A place may hold what it may hold in the area that it comes to in the image,
  abbrev pub MayHoldBy : (ℕ → Block → Type 0) → List ℕ → Option Item → Option ℕ → Type 0
  MayHoldBy may place item None = item ≡ None
  MayHoldBy may place item (Some area) = MayHoldHere (area_of part area) may place item

  pub ways-down : (may : ℕ → Block → Type 0) (place : List ℕ) (item : Option Item) (k area : ℕ)
      → EachAfter part (KeepsHead part image may) (IsOf image) k area
      → MayFind may item (areas_way part place k area)
      → MayHoldBy may place item (area_after part image place k area)
  ways-down may place item zero area each holds = holds
  ways-down may place item (suc k) area each (top, allowed, holds) =
      by_test (reaches old place) (record_in old).next
      (subst (λ (next : Option ℕ). MayFind may item (cond (reaches old place)
      (way_under (area_of part area) place top)
      (after_next (Found None) (areas_way part place k) next))) ends.next
      (subst (λ (test : Bool). MayFind may item (cond test
      (way_under (area_of part area) place top)
      (after_next (Found None) (areas_way part place k) (record_in top).next)))
      (ends-reach place old top ends) holds))
      (each.1 old refl)
      (λ further all found. ways-down may place item k further all found)
    where
      old : Block
      old = head_in part image area

      ends : HasEnds old top
      ends = each.0 top allowed

      by_test : (test : Bool) (next : Option ℕ)
          → MayFind may item (cond test (way_under (area_of part area) place top)
          (after_next (Found None) (areas_way part place k) next))
          → IfSome next (EachAfter part (KeepsHead part image may) (IsOf image) k)
          → ((further : ℕ) → EachAfter part (KeepsHead part image may) (IsOf image) k further
          → MayFind may item (areas_way part place k further)
          → MayHoldBy may place item (area_after part image place k further))
          → MayHoldBy may place item
          (cond test (Some area) (after_next None (area_after part image place k) next))
      by_test true next found all more = (top, allowed, found)
      by_test false None found all more = found
      by_test false (Some further) found all more = more further all found

  -- and what it may hold there where the heads of the image are allowed.
  pub ways-up : (may : ℕ → Block → Type 0) (place : List ℕ) (item : Option Item) (k area : ℕ)
      → EachAfter part
      (λ at. KeepsHead part image may at × may (head_of part at) (head_in part image at))
      (IsOf image) k area
      → MayHoldBy may place item (area_after part image place k area)
      → MayFind may item (areas_way part place k area)
  ways-up may place item zero area each holds = holds
  ways-up may place item (suc k) area each holds =
      by_test (reaches old place) refl (record_in old).next refl holds (each.1 old refl)
      (λ further all found. ways-up may place item k further all found)
    where
      old : Block
      old = head_in part image area

      Each : ℕ → Type 0
      Each = EachAfter part
          (λ at. KeepsHead part image may at × may (head_of part at) (head_in part image at))
          (IsOf image) k

      after : Option ℕ → Way
      after next = after_next (Found None) (areas_way part place k) next

      past : (next : Option ℕ) → reaches old place ≡ false → (record_in old).next ≡ next
          → MayFind may item (after next) → MayFind may item (areas_way part place (suc k) area)
      past next tested is found = (
        old,
        each.0.1,
        subst (λ (test : Bool). MayFind may item (cond test
            (way_under (area_of part area) place old) (after (record_in old).next))) (sym tested)
            (subst (λ (other : Option ℕ). MayFind may item (after other)) (sym is) found),
      )

      by_test : (test : Bool) → reaches old place ≡ test → (next : Option ℕ)
          → (record_in old).next ≡ next
          → MayHoldBy may place item
          (cond test (Some area) (after_next None (area_after part image place k) next))
          → IfSome next Each
          → ((further : ℕ) → Each further
          → MayHoldBy may place item (area_after part image place k further)
          → MayFind may item (areas_way part place k further))
          → MayFind may item (areas_way part place (suc k) area)
      by_test true tested next is (top, allowed, found) all more = (
        top,
        allowed,
        subst (λ (test : Bool). MayFind may item (cond test
            (way_under (area_of part area) place top) (after (record_in top).next)))
            (sym (ends-reach place old top (each.0.0 top allowed) ∙ tested)) found,
      )
      by_test false tested None is found all more = past None tested is found
      by_test false tested (Some further) is found all more =
          past (Some further) tested is (more further all found)

-- ---- another image

-- its head has the ends of this one's
abbrev pub HasSameEnds : KeyedChain → Image → Image → ℕ → Type 0
HasSameEnds part image other area = HasEnds (head_in part image area) (head_in part other area)

pub keeps-head : (part : KeyedChain) (image other : Image) (area : ℕ)
    → HasSameEnds part image other area → KeepsHead part image (IsOf other) area
keeps-head part image other area ends top is =
    subst (HasEnds (head_in part image area)) (sym is) ends

-- and the area is in order
pub record IsAlike (part : KeyedChain) (image other : Image) (area : ℕ) : Type 0 where
  pub ends : HasSameEnds part image other area
  pub head : IsHead (area_of part area) (head_in part other area)
  pub intervals : HoldRanges (area_of part area) other (low_of (head_in part other area))
      (entries_of (head_in part other area))

module _ (part : KeyedChain) (image other : Image) where
  -- Its chain has the same areas,
  pub areas-kept : (k area : ℕ)
      → EachAfter part (HasSameEnds part image other) (IsOf image) k area
      → areas_after part other k area ≡ areas_after part image k area
  areas-kept zero area each = refl
  areas-kept (suc k) area each =
      ap (λ (next : Option ℕ). area ∷ after_next [] (areas_after part other k) next)
      each.0.next
      ∙ ap (λ (rest : List ℕ). area ∷ rest)
      (by_next (record_in (head_in part image area)).next
      (each.1 (head_in part image area) refl) (λ further all. areas-kept k further all))
    where
      by_next : (next : Option ℕ)
          → IfSome next (EachAfter part (HasSameEnds part image other) (IsOf image) k)
          → ((further : ℕ)
          → EachAfter part (HasSameEnds part image other) (IsOf image) k further
          → areas_after part other k further ≡ areas_after part image k further)
          → after_next [] (areas_after part other k) next
          ≡ after_next [] (areas_after part image k) next
      by_next None all more = refl
      by_next (Some further) all more = more further all

  -- a place comes to the same one,
  pub area-kept : (place : List ℕ) (k area : ℕ)
      → EachAfter part (HasSameEnds part image other) (IsOf image) k area
      → area_after part other place k area ≡ area_after part image place k area
  area-kept place zero area each = refl
  area-kept place (suc k) area each =
      ap (λ (test : Bool). cond test (Some area) (after_next None (area_after part other place k)
      (record_in (head_in part other area)).next))
      (ends-reach place (head_in part image area) (head_in part other area) each.0)
      ∙ ap (λ (next : Option ℕ). cond (reaches (head_in part image area) place) (Some area)
      (after_next None (area_after part other place k) next)) each.0.next
      ∙ ap (λ (rest : Option ℕ). cond (reaches (head_in part image area) place) (Some area) rest)
      (by_next (record_in (head_in part image area)).next
      (each.1 (head_in part image area) refl) (λ further all. area-kept place k further all))
    where
      by_next : (next : Option ℕ)
          → IfSome next (EachAfter part (HasSameEnds part image other) (IsOf image) k)
          → ((further : ℕ)
          → EachAfter part (HasSameEnds part image other) (IsOf image) k further
          → area_after part other place k further ≡ area_after part image place k further)
          → after_next None (area_after part other place k) next
          ≡ after_next None (area_after part image place k) next
      by_next None all more = refl
      by_next (Some further) all more = more further all

  -- and it is in order.
  pub links-in-kept : (k area : ℕ) (low : Option (List ℕ)) → LinksIn part image k area low
      → EachAfter part (IsAlike part image other) (IsOf image) k area
      → LinksIn part other k area low
  links-in-kept zero area low chain each = absurd chain
  links-in-kept (suc k) area low chain each = record {
    there = chain.there;
    head = each.0.head;
    intervals = each.0.intervals;
    begins = ends-low (head_in part image area) (head_in part other area) each.0.ends
        ∙ chain.begins;
    next = ends-followed part (LinksIn part other k) (head_in part image area)
        (head_in part other area) each.0.ends
        (by_next (record_in (head_in part image area)).next chain.next
        (each.1 (head_in part image area) refl)
        (λ further bound goes all. links-in-kept k further bound goes all));
  }
    where
      by_next : (next : Option ℕ)
          → IsFollowed part (LinksIn part image k) (head_in part image area) next
          → IfSome next (EachAfter part (IsAlike part image other) (IsOf image) k)
          → ((further : ℕ) (bound : Option (List ℕ)) → LinksIn part image k further bound
          → EachAfter part (IsAlike part image other) (IsOf image) k further
          → LinksIn part other k further bound)
          → IsFollowed part (LinksIn part other k) (head_in part image area) next
      by_next None last all more = last
      by_next (Some further) goes all more =
          more further (end_of (head_in part image area)) goes all

-- ---- what is kept in memory

ends-by : (one other : ℕ → Option (List ℕ)) (areas : List ℕ)
    → AllByRecursion (λ area. other area ≡ one area) areas → map other areas ≡ map one areas
ends-by one other [] all = refl
ends-by one other (area ∷ areas) all =
    ap (λ (end : Option (List ℕ)). end ∷ map other areas) all.0
    ∙ ap (λ (ends : List (Option (List ℕ))). one area ∷ ends) (ends-by one other areas all.1)

-- It is right of each image whose heads have the ends that they had.
pub knows-kept : (part : KeyedChain) (image other : Image) (areas : List ℕ) (ends : List (List ℕ))
    → EachArea part (HasSameEnds part image other) (IsOf image)
    → KnowsAreas part areas ends image → KnowsAreas part areas ends other
knows-kept part image other areas ends each knows =
    let count = area_count part.geometry in
    let now : ℕ → Option (List ℕ) = λ area. end_of (head_in part image area) in
    let then : ℕ → Option (List ℕ) = λ area. end_of (head_in part other area) in
    let same : AllByRecursion (λ area. then area ≡ now area) areas =
    recursion_from_All (λ area. then area ≡ now area) areas
    (subst (All (λ area. then area ≡ now area)) (sym knows.areas_are)
    (areas-each part (λ area. then area ≡ now area) image count part.first
    (each-after-less part (HasSameEnds part image other) (λ area. then area ≡ now area)
    (IsOf image) (IsOf image) (λ area is. is.last) (λ area is top here. here) count part.first
    each))) in
    record {
      areas_are = knows.areas_are ∙ sym (areas-kept part image other count part.first each);
      ends_are = knows.ends_are ∙ sym (ends-by now then areas same);
    }
