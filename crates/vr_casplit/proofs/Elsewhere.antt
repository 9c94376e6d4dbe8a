-- Calls that put into the blocks of one area alone, which is the part's own but not of its chain:
-- whatever they put, the part stays as it was. The argument is about owners: where the area's
-- blocks are nobody's, the part is at rest too, and none of its blocks was put.
use Rattle.std.proofs.Common.{◌≡◌, inl, ⊎_elim, ◌+◌, ℕ, zero, suc, Bool, true, false, IsTrue}
use Rattle.std.proofs.Common.{List, [], Option, Some, None, IfSome, arith, refl, sym, ap, subst}
use Rattle.std.proofs.Common.{◌∙◌, cond}
use Rattle.std.proofs.Common.{nat_lt}
use Rattle.std.specs.Prelude.{Contains}
use Rattle.std.proofs.lemmas.Bool.{cases_lt, lt-ltb, ltb-true}
use Rattle.vr_types.specs.Blocks.{Puts}
use Rattle.vr_types.specs.Content.{Item}
use Rattle.vr_types.specs.Geometry.{area_count}
use Rattle.vr_types.specs.Image.{Block, Image}
use Rattle.vr_types.specs.Regions.{IsImageOn, Outside, Touches}
use Rattle.vr_types.specs.Seen.{Left, Seen}
use Rattle.vr_types.proofs.CallerLemmas.{puts-touches}
use Rattle.vr_seqset.specs.Reading.{record_in}
use Rattle.vr_space.specs.Areas.{EachAfter, EachArea, IsChainAtRest, IsOwnedArea, IsQuietArea}
use Rattle.vr_space.specs.Areas.{KeyedChain, KnowsAreas, area_of, areas_after, areas_in, head_in}
use Rattle.vr_space.specs.Areas.{head_of, intervals_in}
use Rattle.vr_space.specs.Keyed.{HasEnds, InArea, IsKeyedSound}
use Rattle.vr_space.specs.Owners.{Owners}
use Rattle.vr_space.specs.Part.{AddsTo, HasOnly, InPart, IsSound, KeyedShape, MayAlsoHold, MayHold}
use Rattle.vr_space.specs.Part.{Nothing}
use Rattle.vr_space.specs.Room.{Lengths}
use Rattle.vr_space.specs.Rosters.{IsOf, after_next}
use Rattle.vr_space.proofs.CallerLemmas.{HasSameEnds, IsResting, KeepsHead, StaysPart}
use Rattle.vr_space.proofs.CallerLemmas.{areas-apart, areas-kept, due-stays, each-after-both}
use Rattle.vr_space.proofs.CallerLemmas.{each-after-less, intervals-kept}
use Rattle.vr_space.proofs.CallerLemmas.{holds-less, knows-kept, links-kept, rest-grows, rest-sound}
use Rattle.vr_space.proofs.CallerLemmas.{rest-stays, resting-each, resting-links, room-image}
use Rattle.vr_space.proofs.CallerLemmas.{room-stays, same-ends, same-stays, sound-image}
use Rattle.vr_space.proofs.CallerLemmas.{touches-part}
use Rattle.vr_casplit.specs.Growing.{IsGrowing, LeavesRecords, LeavesRest}

-- These calls put into blocks of this area alone, in each of their moments.
abbrev pub PutsElsewhere : KeyedChain → ℕ → Seen → Seen → Type 0
PutsElsewhere part into old new =
    Touches (InArea (area_of part into)) (λ image. Unit {0}) old new

-- so does one put into one of its blocks, whether it fails or not
pub puts-elsewhere : (tells : Bool) → IsTrue tells → (part : KeyedChain) (into n : ℕ)
    (bytes : Block) (old new : Seen) → InArea (area_of part into) n → Puts tells n bytes old new
    → PutsElsewhere part into old new
puts-elsewhere tells told part into n bytes old new inside call =
    puts-touches tells (InArea (area_of part into)) (λ image. Unit {0}) n bytes old new told inside
    call (λ image left. tt)

-- ---- the owners without the area

-- the blocks of the area are nobody's
abbrev besides : KeyedChain → ℕ → Owners → Owners
besides part into owners n = cond (nat_lt n (head_of part into)) (owners n)
    (cond (nat_lt (head_of part into + part.geometry.area) n) (owners n) None)

-- what is owned is owned without it, and isn't of it
besides-are : (part : KeyedChain) (into : ℕ) (owners : Owners) (n number : ℕ)
    → besides part into owners n ≡ Some number
    → (owners n ≡ Some number) × Outside (InArea (area_of part into)) n
besides-are part into owners n number = by_low (nat_lt n low) refl
  where
    low : ℕ
    low = head_of part into

    high : ℕ
    high = head_of part into + part.geometry.area

    by_high : (test : Bool) → nat_lt high n ≡ test → cond test (owners n) None ≡ Some number
        → (owners n ≡ Some number) × Outside (InArea (area_of part into)) n
    by_high true is own = (own, λ inside. omega (arith, inside.1, ltb-true high n is))
    by_high false is own = absurd cc

    by_low : (test : Bool) → nat_lt n low ≡ test
        → cond test (owners n) (cond (nat_lt high n) (owners n) None) ≡ Some number
        → (owners n ≡ Some number) × Outside (InArea (area_of part into)) n
    by_low true is own = (own, λ inside. omega (arith, inside.0, ltb-true n low is))
    by_low false is own = by_high (nat_lt high n) refl own

-- what isn't of it has the owner that it has
besides-outside : (part : KeyedChain) (into : ℕ) (owners : Owners) (n : ℕ)
    → Outside (InArea (area_of part into)) n → besides part into owners n ≡ owners n
besides-outside part into owners n out =
    ⊎_elim
    (λ below. ap (λ (test : Bool). cond test (owners n) (beyond (nat_lt high n)))
    (lt-ltb n (head_of part into) below))
    (λ from. ⊎_elim
    (λ above. ap (λ (test : Bool). cond (nat_lt n (head_of part into)) (owners n) (beyond test))
    (lt-ltb high n above)
    ∙ either (nat_lt n (head_of part into)))
    (λ upto. absurd (out (from, upto))) (cases_lt high n))
    (cases_lt n (head_of part into))
  where
    high : ℕ
    high = head_of part into + part.geometry.area

    beyond : Bool → Option ℕ
    beyond test = cond test (owners n) None

    either : (test : Bool) → cond test (owners n) (owners n) ≡ owners n
    either true = refl
    either false = refl

-- ---- the chain without the area

-- where an image's chain doesn't have the area, each area of it is another
other-each : (part : KeyedChain) (image : Image) (into k area : ℕ)
    → (Contains (areas_after part image k area) into → ⊥)
    → EachAfter part (λ at. at ≡ into → ⊥) (IsOf image) k area
other-each part image into zero area apart = tt
other-each part image into (suc k) area apart = (
  λ same. apart (0, omega arith, same),
  λ top here. subst (λ (block : Block). IfSome (record_in block).next Each) (sym here)
      (by_next (record_in (head_in part image area)).next
      (λ inside. apart (suc inside.0, omega (arith, inside.1), inside.2))
      (λ further. other-each part image into k further)),
)
  where
    Each : ℕ → Type 0
    Each = EachAfter part (λ at. at ≡ into → ⊥) (IsOf image) k

    by_next : (next : Option ℕ)
        → (Contains (after_next [] (areas_after part image k) next) into → ⊥)
        → ((further : ℕ) → (Contains (areas_after part image k further) into → ⊥) → Each further)
        → IfSome next Each
    by_next None apart more = tt
    by_next (Some further) apart more = more further apart

module _ (part : KeyedChain) (into : ℕ) (owners : Owners) (kept : Lengths) (old : Seen)
    (grows : IsGrowing part into owners kept old) (left : Left old old.cur) where
  -- the areas of its chain: each is at rest, and another
  abbrev Other : ℕ → Type 0
  Other at = IsResting part owners old at × (at ≡ into → ⊥)

  other-resting : EachArea part Other (IsOf old.cur)
  other-resting = each-after-both part (IsResting part owners old) (λ at. at ≡ into → ⊥)
      (IsOf old.cur) (area_count part.geometry) part.first
      (resting-each part owners old grows.rests left)
      (other-each part old.cur into (area_count part.geometry) part.first grows.apart)

  -- By the owners without the area, the part is at rest,
  rests-besides : IsChainAtRest part (besides part into owners) old
  rests-besides = record {
    on = grows.rests.on;
    chain = links-kept part old.cur (IsQuietArea part (besides part into owners) old) old
        (area_count part.geometry) part.first None
        (resting-links part owners old grows.rests left)
        (each-after-less part Other
        (λ at. KeepsHead part old.cur old.may at
        × IsQuietArea part (besides part into owners) old at
        × IsKeyedSound (area_of part at) old)
        (IsOf old.cur) (IsOf old.cur)
        (λ at is. (
          λ top may. subst (HasEnds (head_in part old.cur at)) (sym (is.0.0.one_head top may))
              (same-ends (head_in part old.cur at)),
          record {
            own = record {
              there = is.0.0.own.there;
              owned = λ n inside.
                  besides-outside part into owners n (areas-apart part at into n is.1 inside)
                  ∙ is.0.0.own.owned n inside;
            };
            one_head = is.0.0.one_head;
          },
          is.0.1,
        ))
        (λ at is top here. here) (area_count part.geometry) part.first other-resting);
  }

  sound-besides : IsSound (KeyedShape part) (besides part into owners) old
  sound-besides = rest-sound (KeyedShape part) (besides part into owners) old rests-besides

  -- and what it has then it has with the area.
  only-more : (O : List ℕ → Option Item → Type 0) (image : Image)
      → HasOnly (KeyedShape part) (besides part into owners) O image
      → HasOnly (KeyedShape part) owners O image
  only-more O image has = record {
    content = has.content;
    stands = has.stands;
    within = each-after-less part (IsOwnedArea part (besides part into owners))
        (IsOwnedArea part owners) (IsOf image) (IsOf image)
        (λ at own. record {
          there = own.there;
          owned = λ n inside.
              (besides-are part into owners n part.part (own.owned n inside)).0;
        })
        (λ at own top here. here) (area_count part.geometry) part.first has.within;
    each = has.each;
  }

  module _ (new : Seen) (call : PutsElsewhere part into old new) where
    stays : StaysPart (KeyedShape part) (besides part into owners) old new
    stays = record {
      count = call.count_same;
      size = call.size_same;
      same = λ n own. call.content n (besides-are part into owners n part.part own).1;
      fewer = λ n block below own. call.adds_none n block below
          (besides-are part into owners n part.part own).1;
    }

    still : IsChainAtRest part owners new
    still = rest-grows (besides part into owners) owners new
        (λ n number own. (besides-are part into owners n number own).0) (KeyedShape part)
        (rest-stays old new (KeyedShape part) (besides part into owners) stays rests-besides)

    -- What each image has that was allowed before, each image has in each moment.
    each-moment : (Q : Image → Type 0)
        → ((image : Image)
        → IsImageOn (InPart (KeyedShape part) (besides part into owners)) old.count old.may image
        → Q image)
        → Touches (InPart (KeyedShape part) owners) Q old new
    each-moment Q has = touches-part part owners into (λ image. Unit {0}) Q old new grows.own call
        (λ image any others. has image (record {
          each = λ n below own.
              let is = besides-are part into owners n part.part own in
              others n below is.1 is.0;
        }))

    adds : AddsTo (KeyedShape part) owners Nothing old new
    adds = record {
      touches = each-moment _ (λ image allowed. only-more
          (MayAlsoHold (KeyedShape part) old.may Nothing) image (nothing-more image
          (sound-image (KeyedShape part) (besides part into owners) old sound-besides image
          allowed)));
      rest = λ place item holds. inl (holds-less (KeyedShape part) (besides part into owners) old
          new.may sound-besides (λ n block is. stays.fewer n block is.0 is.1) place item holds);
      sound = rest-sound (KeyedShape part) owners new still;
    }
      where
        nothing-more : (image : Image)
            → HasOnly (KeyedShape part) (besides part into owners)
            (MayHold (KeyedShape part) old.may) image
            → HasOnly (KeyedShape part) (besides part into owners)
            (MayAlsoHold (KeyedShape part) old.may Nothing) image
        nothing-more image has = record {
          content = has.content;
          stands = has.stands;
          within = has.within;
          each = λ place. inl (has.each place);
        }

    -- So the part keeps its records and its rest, in each moment,
    pub elsewhere-leaves : LeavesRecords part owners kept old new × LeavesRest part owners old new
    elsewhere-leaves = (
      record {
        adds = adds;
        same = same-stays old new (KeyedShape part) (besides part into owners) stays sound-besides
            left;
        room = room-stays old new (KeyedShape part) (besides part into owners) kept stays
            sound-besides grows.room;
        rooms = each-moment _ (λ image allowed. room-image (KeyedShape part)
            (besides part into owners) kept old sound-besides grows.room image allowed);
      },
      record {
        rests = still;
        due = due-stays (KeyedShape part) (besides part into owners) old new stays sound-besides
            left;
      },
    )

    -- its chain has the same areas,
    same-heads : EachArea part (HasSameEnds part old.cur new.cur) (IsOf old.cur)
    same-heads = each-after-less part Other (HasSameEnds part old.cur new.cur) (IsOf old.cur)
        (IsOf old.cur)
        (λ at is. subst (HasEnds (head_in part old.cur at))
        (sym (call.content (head_of part at)
        (areas-apart part at into (head_of part at) is.1 (omega arith, omega arith))))
        (same-ends (head_in part old.cur at)))
        (λ at is top here. here) (area_count part.geometry) part.first other-resting

    pub elsewhere-areas : areas_in part new.cur ≡ areas_in part old.cur
    elsewhere-areas =
        areas-kept part old.cur new.cur (area_count part.geometry) part.first same-heads

    -- and what is known of its areas stays right.
    pub elsewhere-knows : (areas : List ℕ) (ends : List (List ℕ))
        → KnowsAreas part areas ends old.cur → KnowsAreas part areas ends new.cur
    elsewhere-knows areas ends = knows-kept part old.cur new.cur areas ends same-heads

    -- Its heads lead to as many intervals.
    pub elsewhere-counts : intervals_in part new.cur ≡ intervals_in part old.cur
    elsewhere-counts = intervals-kept part old.cur new.cur elsewhere-areas
        (λ at inside. call.content (head_of part at)
        (areas-apart part at into (head_of part at)
        (λ same. grows.apart (subst (Contains (areas_in part old.cur)) same inside))
        (omega arith, omega arith)))

-- ---- one put

-- a put into a block of this number
pub puts-at : (tells : Bool) (m n : ℕ) (bytes : Block) (old new : Seen) → m ≡ n
    → Puts tells m bytes old new → Puts tells n bytes old new
puts-at tells m n bytes old new same call =
    subst (λ (at : ℕ). Puts tells at bytes old new) same call

-- A put into a block of the area, whether it fails or not, leaves the part as it was,
pub put-leaves : (tells : Bool) → IsTrue tells → (part : KeyedChain) (into n : ℕ) (bytes : Block)
    (owners : Owners) (kept : Lengths) (old new : Seen) → InArea (area_of part into) n
    → Puts tells n bytes old new → Left old old.cur → IsGrowing part into owners kept old
    → LeavesRecords part owners kept old new × LeavesRest part owners old new
put-leaves tells told part into n bytes owners kept old new inside call left grows =
    elsewhere-leaves part into owners kept old grows left new
    (puts-elsewhere tells told part into n bytes old new inside call)

-- and what is known of its areas right.
pub put-knows : (tells : Bool) → IsTrue tells → (part : KeyedChain) (into n : ℕ) (bytes : Block)
    (owners : Owners) (kept : Lengths) (areas : List ℕ) (ends : List (List ℕ)) (old new : Seen)
    → InArea (area_of part into) n → Puts tells n bytes old new → Left old old.cur
    → IsGrowing part into owners kept old → KnowsAreas part areas ends old.cur
    → KnowsAreas part areas ends new.cur
put-knows tells told part into n bytes owners kept areas ends old new inside call left grows =
    elsewhere-knows part into owners kept old grows left new
    (puts-elsewhere tells told part into n bytes old new inside call) areas ends

-- Its chain has the areas that it had.
pub put-areas : (tells : Bool) → IsTrue tells → (part : KeyedChain) (into n : ℕ) (bytes : Block)
    (owners : Owners) (kept : Lengths) (old new : Seen) → InArea (area_of part into) n
    → Puts tells n bytes old new → Left old old.cur → IsGrowing part into owners kept old
    → areas_in part new.cur ≡ areas_in part old.cur
put-areas tells told part into n bytes owners kept old new inside call left grows =
    elsewhere-areas part into owners kept old grows left new
    (puts-elsewhere tells told part into n bytes old new inside call)

-- Its heads lead to as many intervals.
pub put-counts : (tells : Bool) → IsTrue tells → (part : KeyedChain) (into n : ℕ) (bytes : Block)
    (owners : Owners) (kept : Lengths) (old new : Seen) → InArea (area_of part into) n
    → Puts tells n bytes old new → Left old old.cur → IsGrowing part into owners kept old
    → intervals_in part new.cur ≡ intervals_in part old.cur
put-counts tells told part into n bytes owners kept old new inside call left grows =
    elsewhere-counts part into owners kept old grows left new
    (puts-elsewhere tells told part into n bytes old new inside call)
