-- A keyed part searched area by area: which one a place comes to, by the areas that the part keeps
-- in memory, and the least place with a record.
use Rattle.std.proofs.Common.{◌≡◌, ◌≢◌, ℕ, zero, suc, Bool, true, false, IsTrue, List, [], ◌∷◌}
use Rattle.std.proofs.Common.{◌++◌, map, Option, Some, None, refl, sym, ap, subst, ◌∙◌, true≢false}
use Rattle.std.proofs.Common.{arith}
use Rattle.std.specs.Prelude.{All, Contains, cond, option_and_then}
use Rattle.std.specs.Ordering.{is_le, is_lt}
use Rattle.std.specs.declared.cmp.Ordering.TheVariants.{Less}
use Rattle.std.proofs.lemmas.List.Elements.{All-head, All-tail, Contains-append_right}
use Rattle.vr_types.specs.Content.{Item, place_cmp, record_of}
use Rattle.vr_types.specs.Geometry.{area_count}
use Rattle.vr_types.specs.Image.{Block, Image, block_at}
use Rattle.vr_seqset.specs.Entry.{Entry}
use Rattle.vr_seqset.specs.Reading.{record_in}
use Rattle.vr_space.specs.AreaCalls.{IsNextHere, item_here, read_here}
use Rattle.vr_space.specs.Areas.{KeyedChain, KnowsAreas, area_after, area_for, area_of, areas_after}
use Rattle.vr_space.specs.Areas.{area_by, areas_in, end_of, head_in, is_upto, reaches}
use Rattle.vr_space.specs.Keyed.{IsHead, Keyed, entry_in, low_of, way_in}
use Rattle.vr_space.specs.Part.{HasNoNext, IsNextPlace, KeyedShape, Stands, record_read}
use Rattle.vr_space.specs.Room.{Range, is_above}
use Rattle.vr_space.specs.Rosters.{after_next}
use Rattle.vr_space.specs.Way.{found_on}
use Rattle.vr_space.specs.Whence.{allows}
use Rattle.vr_space.specs.declared.whence.Whence.{Whence}
use Rattle.vr_space.proofs.AreaEnds.{found-between, past-above, reached-below}
use Rattle.vr_space.proofs.AreaPlaces.{item-of-area, item-of-none}
use Rattle.vr_space.proofs.LinkedContent.{IsLinkedArea, area-reached, links-in-area}
use Rattle.vr_space.proofs.Places.{above-more}

-- ---- which area a place comes to

-- the first of these areas whose ranges reach the place
abbrev pub reaching : KeyedChain → Image → List ℕ → List ℕ → Option ℕ
reaching part image place [] = None
reaching part image place (area ∷ areas) =
    cond (reaches (head_in part image area) place) (Some area) (reaching part image place areas)

-- It is the first of the chain's.
pub area-reaching : (part : KeyedChain) (image : Image) (place : List ℕ) (k area : ℕ)
    → area_after part image place k area ≡ reaching part image place (areas_after part image k area)
area-reaching part image place zero area = refl
area-reaching part image place (suc k) area =
    ap (λ (rest : Option ℕ). cond (reaches (head_in part image area) place) (Some area) rest)
    (by_next (record_in (head_in part image area)).next (area-reaching part image place k))
  where
    by_next : (next : Option ℕ)
        → ((further : ℕ) → area_after part image place k further
        ≡ reaching part image place (areas_after part image k further))
        → after_next None (area_after part image place k) next
        ≡ reaching part image place (after_next [] (areas_after part image k) next)
    by_next None more = refl
    by_next (Some further) more = more further

reaching-by : (part : KeyedChain) (image : Image) (place : List ℕ) (areas : List ℕ)
    (ends : List (List ℕ))
    → map Some ends ≡ map (λ (area : ℕ). end_of (head_in part image area)) areas
    → reaching part image place areas ≡ area_by areas ends place
reaching-by part image place [] ends are = refl
reaching-by part image place (area ∷ areas) [] are = absurd cc
reaching-by part image place (area ∷ areas) (end ∷ ends) are =
    let first : Some end ≡ end_of (head_in part image area) = cc in
    let rest : map Some ends ≡ map (λ (one : ℕ). end_of (head_in part image one)) areas = cc in
    ap (λ (one : Option (List ℕ)). cond (is_upto one place) (Some area)
    (reaching part image place areas)) (sym first)
    ∙ ap (λ (other : Option ℕ). cond (is_le (place_cmp place end)) (Some area) other)
    (reaching-by part image place areas ends rest)

-- So by what the part keeps in memory a place comes to the first area whose end isn't before it.
pub knows-area : (part : KeyedChain) (areas : List ℕ) (ends : List (List ℕ)) (image : Image)
    → KnowsAreas part areas ends image → (place : List ℕ)
    → area_for part image place ≡ area_by areas ends place
knows-area part areas ends image knows place =
    area-reaching part image place (area_count part.geometry) part.first
    ∙ ap (reaching part image place) (sym knows.areas_are)
    ∙ reaching-by part image place areas ends knows.ends_are

-- ---- the least place with a record

-- nothing is past the end of an area
pub none-past-here : (part : Keyed) (image : Image) (place : List ℕ)
    → IsHead part (block_at image part.head)
    → reaches (block_at image part.head) place ≡ false → item_here part image place ≡ None
none-past-here part image place head past = by_found (entry_in top place) refl
  where
    top : Block
    top = block_at image part.head

    by_found : (found : Option (Range × Entry)) → entry_in top place ≡ found
        → found_on image (way_in part place found) ≡ None
    by_found None is = refl
    by_found (Some at) is =
        absurd (true≢false (sym (found-between part top head place at is).1 ∙ past))

-- nor at or before its low place
pub some-between : (part : Keyed) (image : Image) (place : List ℕ)
    → IsHead part (block_at image part.head) → item_here part image place ≢ None
    → (is_above (low_of (block_at image part.head)) place ≡ true)
    × (reaches (block_at image part.head) place ≡ true)
some-between part image place head some = by_found (entry_in top place) refl
  where
    top : Block
    top = block_at image part.head

    by_found : (found : Option (Range × Entry)) → entry_in top place ≡ found
        → (is_above (low_of top) place ≡ true) × (reaches top place ≡ true)
    by_found None is = absurd
        (some (ap (λ (found : Option (Range × Entry)). found_on image (way_in part place found))
        is))
    by_found (Some at) is = found-between part top head place at is

-- An area has no record that the search may find.
abbrev pub HasNoneHere : KeyedChain → Image → Whence → ℕ → Type 0
HasNoneHere part image from area = (other : List ℕ) → IsTrue (allows from other)
    → read_here (area_of part area) image other ≡ None

-- what is read of a part comes from an area, or is none
read-by : (part : KeyedChain) (image : Image) (place : List ℕ) (found : Option ℕ)
    → area_for part image place ≡ found
    → ((area : ℕ) → found ≡ Some area → read_here (area_of part area) image place ≡ None)
    → record_read (KeyedShape part) image place ≡ None
read-by part image place None is each =
    ap (λ (item : Option Item). option_and_then record_of item) (item-of-none part image place is)
read-by part image place (Some area) is each =
    ap (λ (item : Option Item). option_and_then record_of item)
    (item-of-area part image place area is) ∙ each area refl

-- Where no area has one, nor has the part.
pub chain-none : (part : KeyedChain) (image : Image) (from : Whence)
    → All (HasNoneHere part image from) (areas_in part image)
    → HasNoNext (KeyedShape part) image from
chain-none part image from none place allowed =
    by_areas (areas_in part image) none
    (area-reaching part image place (area_count part.geometry) part.first)
  where
    by_areas : (areas : List ℕ) → All (HasNoneHere part image from) areas
        → area_for part image place ≡ reaching part image place areas
        → record_read (KeyedShape part) image place ≡ None
    by_areas areas all found = read-by part image place (reaching part image place areas) found
        (λ area is. among areas all area is)
      where
        among : (those : List ℕ) → All (HasNoneHere part image from) those → (area : ℕ)
            → reaching part image place those ≡ Some area
            → read_here (area_of part area) image place ≡ None
        among [] each area is = absurd cc
        among (first ∷ rest) each area is =
            by_test (reaches (head_in part image first) place) is
            (among rest (All-tail (HasNoneHere part image from) first rest each) area)
          where
            by_test : (test : Bool)
                → cond test (Some first) (reaching part image place rest) ≡ Some area
                → (reaching part image place rest ≡ Some area
                → read_here (area_of part area) image place ≡ None)
                → read_here (area_of part area) image place ≡ None
            by_test true same more =
                let it : first ≡ area = cc in
                subst (λ (one : ℕ). read_here (area_of part one) image place ≡ None) it
                (All-head (HasNoneHere part image from) first rest each place allowed)
            by_test false same more = more same

module _ (part : KeyedChain) (image : Image) (from : Whence)
    (stands : Stands (KeyedShape part) image)
    (before rest : List ℕ) (at : ℕ) (areas : areas_in part image ≡ before ++ at ∷ rest)
    (none : All (HasNoneHere part image from) before) (place : List ℕ)
    (next : IsNextHere (area_of part at) image from place) where
  inside : Contains (areas_in part image) at
  inside = subst (λ (those : List ℕ). Contains those at) (sym areas)
      (Contains-append_right before (at ∷ rest) at (0, omega arith, refl))

  linked : IsLinkedArea part image at
  linked = links-in-area part image (area_count part.geometry) part.first None stands.1.chain at
      inside

  between : (is_above (low_of (head_in part image at)) place ≡ true)
      × (reaches (head_in part image at) place ≡ true)
  between = some-between (area_of part at) image place linked.stands.head
      (λ is. next.some (ap (λ (item : Option Item). option_and_then record_of item) is))

  -- a place before it comes to that area, or to one before
  earlier : (other : List ℕ) → IsTrue (allows from other) → place_cmp other place ≡ Less
      → (those : List ℕ) → All (HasNoneHere part image from) those → (area : ℕ)
      → reaching part image other (those ++ at ∷ rest) ≡ Some area
      → read_here (area_of part area) image other ≡ None
  earlier other allowed less [] all area is =
      by_test (reaches (head_in part image at) other) refl is
    where
      by_test : (test : Bool) → reaches (head_in part image at) other ≡ test
          → cond test (Some at) (reaching part image other rest) ≡ Some area
          → read_here (area_of part area) image other ≡ None
      by_test true upto same =
          let it : at ≡ area = cc in
          subst (λ (one : ℕ). read_here (area_of part one) image other ≡ None) it
          (next.least other allowed less)
      by_test false past same = absurd
          (reached-below (end_of (head_in part image at)) place between.1
          (above-more (end_of (head_in part image at)) other place
          (past-above (end_of (head_in part image at)) other past) (ap is_lt less)))
  earlier other allowed less (first ∷ those) all area is =
      by_test (reaches (head_in part image first) other) is
      (earlier other allowed less those (All-tail (HasNoneHere part image from) first those all)
      area)
    where
      by_test : (test : Bool)
          → cond test (Some first) (reaching part image other (those ++ at ∷ rest)) ≡ Some area
          → (reaching part image other (those ++ at ∷ rest) ≡ Some area
          → read_here (area_of part area) image other ≡ None)
          → read_here (area_of part area) image other ≡ None
      by_test true same more =
          let it : first ≡ area = cc in
          subst (λ (one : ℕ). read_here (area_of part one) image other ≡ None) it
          (All-head (HasNoneHere part image from) first those all other allowed)
      by_test false same more = more same

  -- The least of an area is the least of the part where no area before has one.
  pub chain-next : IsNextPlace (KeyedShape part) image from place
  chain-next =
      let found : area_for part image place ≡ Some at =
      area-reached part image place (area_count part.geometry) part.first None stands.1.chain at
      inside between.0 between.1 in
      record {
        allowed = next.allowed;
        some = λ is. next.some
            (sym (ap (λ (item : Option Item). option_and_then record_of item)
            (item-of-area part image place at found)) ∙ is);
        least = λ other allowed less.
            read-by part image other (reaching part image other (before ++ at ∷ rest))
            (area-reaching part image other (area_count part.geometry) part.first
            ∙ ap (reaching part image other) areas)
            (earlier other allowed less before none);
      }
