-- The area that a place of a keyed part comes to, and what images have there: from what is true of
-- one area to what is true of its part.
use Rattle.std.proofs.Common.{◌≡◌, ◌<◌, ℕ, zero, suc, Bool, true, false, List, [], ◌∷◌}
use Rattle.std.proofs.Common.{length, Option, Some, None, refl, sym, ap, subst, ◌∙◌, arith, get_or}
use Rattle.std.proofs.Common.{true≢false, ⊎_elim}
use Rattle.std.specs.Prelude.{Contains, IfSome, cond, replicate}
use Rattle.std.specs.Ordering.{is_le, nat_cmp, ordering_then}
use Rattle.std.specs.declared.cmp.Ordering.{Ordering}
use Rattle.std.specs.declared.cmp.Ordering.TheVariants.{Less, Equal, Greater}
use Rattle.std.proofs.lemmas.Bool.{cases_eq}
use Rattle.std.proofs.lemmas.Cmp.{ranked}
use Rattle.vr_types.specs.Content.{Content, item_at, place_cmp}
use Rattle.vr_types.specs.Geometry.{area_count}
use Rattle.vr_types.specs.Image.{Block, Image, block_at}
use Rattle.vr_types.specs.Regions.{Outside}
use Rattle.vr_seqset.specs.Entry.{Entry}
use Rattle.vr_seqset.specs.Reading.{record_in}
use Rattle.vr_space.specs.AreaCalls.{SameHere, SetsHere, item_here}
use Rattle.vr_space.specs.Areas.{ChainStandsFor, EachAfter, IsFollowed, KeyedChain, KnowsAreas}
use Rattle.vr_space.specs.Areas.{LinksIn}
use Rattle.vr_space.specs.Areas.{area_after, area_for, area_of, areas_in, content_in, end_of}
use Rattle.vr_space.specs.Areas.{head_in}
use Rattle.vr_space.specs.Areas.{head_of, is_upto, reaches}
use Rattle.vr_space.specs.Keyed.{HasEnds, InArea, IsHead, Keyed, KeyedStandsFor, entry_block}
use Rattle.vr_space.specs.Keyed.{entry_in, records_of, way_in}
use Rattle.vr_space.specs.Part.{KeyedShape, SameRecords, SetsOne, Stands, item_of}
use Rattle.vr_space.specs.Room.{Lengths, Range}
use Rattle.vr_types.specs.declared.unit.StageKind.{StageKind}
use Rattle.vr_space.specs.Split.{AreaSplit, MoveNow, area_fits, area_room, area_stage, first_stage}
use Rattle.vr_space.specs.Split.{fits_by, keyed_fits, keyed_room, keyed_room_by, keyed_stage}
use Rattle.vr_space.specs.Split.{move_stage, room_after, split_in, stage_by, stage_under}
use Rattle.vr_space.specs.Rosters.{IsOf, after_next}
use Rattle.vr_space.specs.Way.{Found, found_on}
use Rattle.vr_space.proofs.AreaEnds.{head-found}
use Rattle.vr_space.proofs.Ends.{same-ends}
use Rattle.vr_space.proofs.LinkedContent.{IsAreaFor, IsLinkedArea, area-found, found-area, item_by}
use Rattle.vr_space.proofs.LinkedContent.{links-in-area}
use Rattle.vr_space.proofs.Links.{areas-apart}
use Rattle.vr_space.proofs.SameEnds.{HasSameEnds, area-kept, areas-kept, knows-kept}
use Rattle.vr_space.proofs.UnderWay.{found-in}

-- ---- each place of the part comes to an area

least-most : (o : Ordering) (rest : Ordering) → is_le o ≡ true → is_le rest ≡ true
    → is_le (ordering_then o rest) ≡ true
least-most Less rest is more = refl
least-most Equal rest is more = more
least-most Greater rest is more = is

byte-most : (x : ℕ) → x < 256 → is_le (nat_cmp x 255) ≡ true
byte-most x below = by_order (nat_cmp x 255) refl
  where
    by_order : (o : Ordering) → nat_cmp x 255 ≡ o → is_le o ≡ true
    by_order Less is = refl
    by_order Equal is = refl
    by_order Greater is = absurd (omega (arith, below, ranked x 255 Greater (sym is)))

-- no place of bytes is past the greatest
pub most-place : (place : List ℕ) (n : ℕ) → length place ≡ n
    → ((i : ℕ) → get_or place i 0 < 256) → is_le (place_cmp place (replicate n 255)) ≡ true
most-place [] zero long fits = refl
most-place [] (suc n) long fits = refl
most-place (x ∷ place) zero long fits = absurd (omega (arith, long))
most-place (x ∷ place) (suc n) long fits =
    least-most (nat_cmp x 255) (place_cmp place (replicate n 255)) (byte-most x (fits 0))
    (most-place place n (omega (arith, long)) (λ i. fits (suc i)))

-- a place up to the greatest key comes to some area
some-area : (part : KeyedChain) (image : Image) (place : List ℕ)
    → is_le (place_cmp place (replicate part.key 255)) ≡ true → (k area : ℕ)
    (low : Option (List ℕ)) → LinksIn part image k area low
    → (at : ℕ) × (area_after part image place k area ≡ Some at)
some-area part image place most zero area low chain = absurd chain
some-area part image place most (suc k) area low chain =
    by_test (reaches top place) refl (record_in top).next chain.next
    (λ further bound goes. some-area part image place most k further bound goes)
  where
    top : Block
    top = head_in part image area

    by_test : (test : Bool) → reaches top place ≡ test → (next : Option ℕ)
        → IsFollowed part (LinksIn part image k) top next
        → ((further : ℕ) (bound : Option (List ℕ)) → LinksIn part image k further bound
        → (at : ℕ) × (area_after part image place k further ≡ Some at))
        → (at : ℕ) × (cond test (Some area)
        (after_next None (area_after part image place k) next) ≡ Some at)
    by_test true upto next is more = (area, refl)
    by_test false past None is more = absurd (true≢false
        (sym (ap (λ (end : Option (List ℕ)). is_upto end place) is ∙ most) ∙ past))
    by_test false past (Some further) is more = more further (end_of top) is

-- A place comes to an area of the chain, where an entry of the head has it in its range.
pub record ComesTo (part : KeyedChain) (image : Image) (place : List ℕ) (area : ℕ) : Type 0 where
  pub found : area_for part image place ≡ Some area
  pub is : IsAreaFor part image place (areas_in part image) area
  pub linked : IsLinkedArea part image area
  pub entry : (at : Range × Entry) × (entry_in (head_in part image area) place ≡ Some at)

-- the area that is found is one to which it comes
pub comes-to : (part : KeyedChain) (image : Image) (content : Content)
    → ChainStandsFor part image content → (place : List ℕ) (area : ℕ)
    → area_for part image place ≡ Some area → ComesTo part image place area
comes-to part image content stands place area found =
    let count = area_count part.geometry in
    let is : IsAreaFor part image place (areas_in part image) area =
    area-found part image place count part.first None stands.chain refl area found in
    let linked : IsLinkedArea part image area =
    links-in-area part image count part.first None stands.chain area is.inside in
    record {
      found = found;
      is = is;
      linked = linked;
      entry = head-found (area_of part area) (head_in part image area) linked.stands.head place
          is.above is.upto;
    }

-- Each place of bytes, as long as a key, comes to one.
pub area-of-place : (part : KeyedChain) (image : Image) (content : Content)
    → ChainStandsFor part image content → (place : List ℕ) → length place ≡ part.key
    → ((i : ℕ) → get_or place i 0 < 256)
    → (area : ℕ) × ComesTo part image place area
area-of-place part image content stands place long fits =
    let there = some-area part image place (most-place place part.key long fits)
    (area_count part.geometry) part.first None stands.chain in
    (there.0, comes-to part image content stands place there.0 there.1)

-- ---- what is there

-- the item at a place of the part is that at the place of the area
pub item-of-area : (part : KeyedChain) (image : Image) (place : List ℕ) (area : ℕ)
    → area_for part image place ≡ Some area
    → item_of (KeyedShape part) image place ≡ item_here (area_of part area) image place
item-of-area part image place area found =
    found-area part image place (area_count part.geometry) part.first
    ∙ ap (item_by part image place) found

-- and where it comes to none, nothing is there
pub item-of-none : (part : KeyedChain) (image : Image) (place : List ℕ)
    → area_for part image place ≡ None → item_of (KeyedShape part) image place ≡ None
item-of-none part image place none =
    found-area part image place (area_count part.geometry) part.first
    ∙ ap (item_by part image place) none

-- So are the stage that is next there, which is that of the split of the area first; whether a
-- record fits; and what stands in its way.
pub stage-of-area : (part : KeyedChain) (split : Option AreaSplit) (move : Option MoveNow)
    (image : Image) (place : List ℕ) (area : ℕ) → area_for part image place ≡ Some area
    → keyed_stage part split move image place
    ≡ first_stage (move_stage move area)
    (area_stage (area_of part area) (split_in split area) image place)
stage-of-area part split move image place area found =
    ap (stage_by part split move image place) found

no-first : (move split : Option StageKind) → first_stage move split ≡ None
    → (move ≡ None) × (split ≡ None)
no-first None split none = (refl, none)
no-first (Some stage) split none = absurd cc

-- Where none is next, neither the area nor one of its intervals waits for one.
pub no-stage-of-area : (part : KeyedChain) (split : Option AreaSplit) (move : Option MoveNow)
    (image : Image) (place : List ℕ) (area : ℕ) → area_for part image place ≡ Some area
    → keyed_stage part split move image place ≡ None
    → (move_stage move area ≡ None)
    × (area_stage (area_of part area) (split_in split area) image place ≡ None)
no-stage-of-area part split move image place area found none =
    no-first (move_stage move area)
    (area_stage (area_of part area) (split_in split area) image place)
    (sym (stage-of-area part split move image place area found) ∙ none)

pub fits-of-area : (part : KeyedChain) (image : Image) (kept : Lengths) (place : List ℕ) (n : ℕ)
    (area : ℕ) → area_for part image place ≡ Some area
    → keyed_fits part image kept place n ≡ area_fits (area_of part area) image kept place n
fits-of-area part image kept place n area found = ap (fits_by part image kept place n) found

pub room-of-area : (part : KeyedChain) (split : Option AreaSplit) (move : Option MoveNow)
    (image : Image) (free : ℕ) (kept : Lengths) (place : List ℕ) (n : ℕ) (area : ℕ)
    → area_for part image place ≡ Some area
    → keyed_room part split move image free kept place n
    ≡ room_after (move_stage move area)
    (area_room (area_of part area) (split_in split area) (stage_under split move) image free kept
    place n)
room-of-area part split move image free kept place n area found =
    ap (keyed_room_by part split move image free kept place n) found

-- each area of the chain stands for its records
pub here-stands : (part : KeyedChain) (image : Image) (content : Content)
    → ChainStandsFor part image content → (area : ℕ) → Contains (areas_in part image) area
    → KeyedStandsFor (area_of part area) image (content_in part image area)
here-stands part image content stands area inside =
    (links-in-area part image (area_count part.geometry) part.first None stands.chain area
    inside).stands

-- ---- other images

-- what is true of one area, and of each other, is true of each
pub by-area : (P : ℕ → Type 0) (area at : ℕ) → P area → ((at ≡ area → ⊥) → P at) → P at
by-area P area at here other =
    ⊎_elim (λ same. subst P (sym same) here) (λ differ. other differ) (cases_eq at area)

-- so it is of each area of a chain, wherever it goes
pub each-all : (part : KeyedChain) (P : ℕ → Type 0) (may : ℕ → Block → Type 0)
    → ((area : ℕ) → P area) → (k area : ℕ) → EachAfter part P may k area
each-all part P may all zero area = tt
each-all part P may all (suc k) area =
    (all area, λ top is. by_next (record_in top).next (each-all part P may all k))
  where
    by_next : (next : Option ℕ) → ((further : ℕ) → EachAfter part P may k further)
        → IfSome next (EachAfter part P may k)
    by_next None more = tt
    by_next (Some further) more = more further

-- an area has the items that it had where its blocks are as they were
pub here-same : (part : Keyed) (old new : Image) → IsHead part (block_at old part.head)
    → ((n : ℕ) → InArea part n → block_at new n ≡ block_at old n) → SameHere part old new
here-same part old new head same place =
    ap (λ (top : Block). found_on new (way_in part place (entry_in top place)))
    (same part.head (omega arith, omega arith))
    ∙ by_found (entry_in (block_at old part.head) place) refl
  where
    by_found : (found : Option (Range × Entry))
        → entry_in (block_at old part.head) place ≡ found
        → found_on new (way_in part place found) ≡ found_on old (way_in part place found)
    by_found None is = refl
    by_found (Some at) is =
        let below = found-in part (block_at old part.head) place at head is in
        ap (λ (block : Block). found_on new (Found
        (item_at (records_of part block) place)))
        (same (entry_block part at.1) (omega arith, omega (arith, below)))

-- The blocks outside one area are as they were, and its head has the ends that it had.
pub record ChangesArea (part : KeyedChain) (area : ℕ) (old new : Image) : Type 0 where
  pub others : (n : ℕ) → Outside (InArea (area_of part area)) n
      → block_at new n ≡ block_at old n
  pub ends : HasSameEnds part old new area

module _ (part : KeyedChain) (area : ℕ) (old new : Image) (changes : ChangesArea part area old new)
  where
    -- each other area has the blocks that it had
    pub other-blocks : (at : ℕ) → (at ≡ area → ⊥) → (n : ℕ) → InArea (area_of part at) n
        → block_at new n ≡ block_at old n
    other-blocks at differ n inside =
        changes.others n (λ there. areas-apart part at area n differ inside there)

    -- The heads have the ends that they had,
    pub same-each : EachAfter part (HasSameEnds part old new) (IsOf old) (area_count part.geometry)
        part.first
    same-each = each-all part (HasSameEnds part old new) (IsOf old)
        (λ at. by-area (HasSameEnds part old new) area at changes.ends
        (λ differ. subst (HasEnds (head_in part old at))
        (sym (other-blocks at differ (head_of part at) (omega arith, omega arith)))
        (same-ends (head_in part old at))))
        (area_count part.geometry) part.first

    -- so each place comes to the area to which it came.
    pub same-area : (place : List ℕ) → area_for part new place ≡ area_for part old place
    same-area place = area-kept part old new place (area_count part.geometry) part.first same-each

    -- The chain has the areas that it had, and what the part keeps of them in memory is right.
    pub same-areas : areas_in part new ≡ areas_in part old
    same-areas = areas-kept part old new (area_count part.geometry) part.first same-each

    pub same-known : (areas : List ℕ) (ends : List (List ℕ)) → KnowsAreas part areas ends old
        → KnowsAreas part areas ends new
    same-known areas ends = knows-kept part old new areas ends same-each

    -- A place that has the item that it had, if it is one of the area, has that of the part.
    pub lift-item : Stands (KeyedShape part) old → (place : List ℕ)
        → item_here (area_of part area) new place ≡ item_here (area_of part area) old place
        → item_of (KeyedShape part) new place ≡ item_of (KeyedShape part) old place
    lift-item stands place here =
        found-area part new place (area_count part.geometry) part.first
        ∙ ap (item_by part new place) (same-area place)
        ∙ by_found (area_for part old place) refl
        ∙ sym (found-area part old place (area_count part.geometry) part.first)
      where
        by_found : (found : Option ℕ) → area_for part old place ≡ found
            → item_by part new place found ≡ item_by part old place found
        by_found None is = refl
        by_found (Some at) is = by-area
            (λ one. item_here (area_of part one) new place ≡ item_here (area_of part one) old place)
            area at here
            (λ differ. here-same (area_of part at) old new
            (comes-to part old stands.0 stands.1 place at is).linked.stands.head
            (other-blocks at differ) place)

    -- Each place of the part has the item that it had where each of the area does,
    pub lift-same : Stands (KeyedShape part) old → SameHere (area_of part area) old new
        → SameRecords (KeyedShape part) old new
    lift-same stands same place = lift-item stands place (same place)

    -- and a record is set at one place that comes to the area, as it is set there.
    pub lift-sets : Stands (KeyedShape part) old → (at : List ℕ) (bytes : Option (List ℕ))
        → area_for part old at ≡ Some area → SetsHere (area_of part area) at bytes old new
        → SetsOne (KeyedShape part) at bytes old new
    lift-sets stands at bytes found sets = record {
      here = item-of-area part new at area (same-area at ∙ found) ∙ sets.here;
      others = λ place other. lift-item stands place (sets.others place other);
    }
