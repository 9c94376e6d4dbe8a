-- Chains of the areas of a keyed part: what stays true of one where a crash may leave less of its
-- blocks, where a way over it leads, and what is true of each of its areas.
use Rattle.std.proofs.Common.{◌≡◌, ℕ, zero, suc, ◌+◌, ◌<◌, Bool, true, false, List, []}
use Rattle.std.proofs.Common.{Option, Some, None, IfSome, arith, refl, sym, subst, mul-le-mul_right}
use Rattle.std.proofs.Common.{⊎_elim}
use Rattle.std.specs.Prelude.{All, Contains, cond}
use Rattle.std.proofs.lemmas.Bool.{cases_lt}
use Rattle.std.proofs.lemmas.List.Elements.{All-cons, All-contains, All-nil}
use Rattle.vr_types.specs.Geometry.{area_count}
use Rattle.vr_types.specs.Image.{Block, Image, block_at}
use Rattle.vr_types.specs.Seen.{Seen}
use Rattle.vr_seqset.specs.Reading.{record_in}
use Rattle.vr_space.specs.Keyed.{InArea, IsKeyedSound, entries_of, low_of, way_under}
use Rattle.vr_space.specs.Areas.{EachAfter, IsChainOn, IsFollowed, KeyedChain, Links, LinksIn}
use Rattle.vr_space.specs.Areas.{area_of, areas_after, areas_way, end_of, head_in, head_of, reaches}
use Rattle.vr_space.specs.Rosters.{IsOf, after_next}
use Rattle.vr_space.specs.Way.{Found, IsWithin}
use Rattle.vr_space.proofs.Chains.{area-ends}
use Rattle.vr_space.proofs.KeyedSound.{IsBlock, head-block, head-in, keyed-less, keyed-within}
use Rattle.vr_space.proofs.KeyedSound.{ranges-held}
use Rattle.vr_space.proofs.Ways.{within-more}

-- ---- blocks of an area

-- the blocks of an area of the volume are there
pub area-there : (part : KeyedChain) (now : Seen) → IsChainOn part now → (area : ℕ)
    → area < area_count part.geometry
    → (area_of part area).head + (area_of part area).area < now.count
area-there part now on area below = omega (
  arith,
  on.blocks,
  area-ends part.geometry.blocks part.geometry.log part.geometry.area area below,
)

-- two areas have no common block
pub areas-apart : (part : KeyedChain) (one other n : ℕ) → (one ≡ other → ⊥)
    → InArea (area_of part one) n → InArea (area_of part other) n → ⊥
areas-apart part one other n differ here there =
    ⊎_elim (λ below. ordered one other below here there)
    (λ most. ordered other one (omega (arith, most, differ)) there here) (cases_lt one other)
  where
    ordered : (less more : ℕ) → less < more → InArea (area_of part less) n
        → InArea (area_of part more) n → ⊥
    ordered less more below low high = omega (
      arith,
      low.1,
      high.0,
      mul-le-mul_right {m = less + 1} {n = more} (part.geometry.area + 1) (omega (arith, below)),
    )

-- ---- what a crash may leave of a chain

pub followed-more : (part : KeyedChain) (After Further : ℕ → Option (List ℕ) → Type 0)
    → ((area : ℕ) (low : Option (List ℕ)) → After area low → Further area low)
    → (top : Block) (next : Option ℕ) → IsFollowed part After top next
    → IsFollowed part Further top next
followed-more part After Further more top None is = is
followed-more part After Further more top (Some area) is = more area (end_of top) is

-- A chain over areas is one over what they are, too, where a crash may leave less of their blocks.
pub links-less : (part : KeyedChain) (Own Wider : ℕ → Type 0) (old new : Seen)
    → new.count ≡ old.count → new.size ≡ old.size → ((area : ℕ) → Own area → Wider area)
    → ((area : ℕ) → Own area → (n : ℕ) → IsBlock (area_of part area) old n → (block : Block)
    → new.may n block → old.may n block)
    → (k area : ℕ) (low : Option (List ℕ)) → Links part Own old k area low
    → Links part Wider new k area low
links-less part Own Wider old new count size wider each zero area low chain = absurd chain
links-less part Own Wider old new count size wider each (suc k) area low chain =
    let at_head : IsBlock (area_of part area) old (head_of part area) =
    head-block (area_of part area) old chain.1.sound in
    let before : (top : Block) → new.may (head_of part area) top → old.may (head_of part area) top =
    λ top. each area chain.0 (head_of part area) at_head top in (
      wider area chain.0,
      record {
        sound = keyed-less (area_of part area) old new count size
            (λ n block is. each area chain.0 n is block) chain.1.sound;
        begins = λ top may. chain.1.begins top (before top may);
        next = λ top may. followed-more part (Links part Own old k) (Links part Wider new k)
            (λ further bound. links-less part Own Wider old new count size wider each k further
            bound)
            top (record_in top).next (chain.1.next top (before top may));
      },
    )

followed-both : (part : KeyedChain) (One Other : ℕ → Option (List ℕ) → Type 0) (top : Block)
    (next : Option ℕ) → IsFollowed part One top next → IsFollowed part Other top next
    → IsFollowed part (λ area low. One area low × Other area low) top next
followed-both part One Other top None one other = one
followed-both part One Other top (Some area) one other = (one, other)

-- Two chains of the same heads are over the same areas.
pub links-both : (part : KeyedChain) (One Other : ℕ → Type 0) (now : Seen) (k area : ℕ)
    (low : Option (List ℕ)) → Links part One now k area low → Links part Other now k area low
    → Links part (λ at. One at × Other at) now k area low
links-both part One Other now zero area low one other = absurd one
links-both part One Other now (suc k) area low one other = (
  (one.0, other.0),
  record {
    sound = one.1.sound;
    begins = one.1.begins;
    next = λ top may. followed-more part
        (λ at bound. Links part One now k at bound × Links part Other now k at bound)
        (Links part (λ at. One at × Other at) now k)
        (λ further bound both. links-both part One Other now k further bound both.0 both.1)
        top (record_in top).next
        (followed-both part (Links part One now k) (Links part Other now k) top
        (record_in top).next (one.1.next top may) (other.1.next top may));
  },
)

-- the area that a chain goes on from is one of its areas
pub links-here : (part : KeyedChain) (Own : ℕ → Type 0) (now : Seen) (k area : ℕ)
    (low : Option (List ℕ)) → Links part Own now k area low → Own area
links-here part Own now zero area low chain = absurd chain
links-here part Own now (suc k) area low chain = chain.0

-- A chain leads a way over blocks of its areas.
pub links-within : (part : KeyedChain) (Own Region : ℕ → Type 0) (now : Seen) (place : List ℕ)
    → ((area : ℕ) → Own area → (n : ℕ) → IsBlock (area_of part area) now n → Region n)
    → (k area : ℕ) (low : Option (List ℕ)) → Links part Own now k area low
    → IsWithin Region now.may (areas_way part place k area)
links-within part Own Region now place inside zero area low chain = absurd chain
links-within part Own Region now place inside (suc k) area low chain = (
  inside area chain.0 (head_of part area) (head-block (area_of part area) now chain.1.sound),
  λ top may. by_test top (reaches top place) (record_in top).next (chain.1.next top may)
      (λ further bound goes. links-within part Own Region now place inside k further bound goes)
      (within-more (IsBlock (area_of part area) now) Region now.may (inside area chain.0)
      (way_under (area_of part area) place top)
      ((keyed-within (area_of part area) now chain.1.sound place).1 top may)),
)
  where
    by_test : (top : Block) (test : Bool) (next : Option ℕ)
        → IsFollowed part (Links part Own now k) top next
        → ((further : ℕ) (bound : Option (List ℕ)) → Links part Own now k further bound
        → IsWithin Region now.may (areas_way part place k further))
        → IsWithin Region now.may (way_under (area_of part area) place top)
        → IsWithin Region now.may (cond test (way_under (area_of part area) place top)
        (after_next (Found None) (areas_way part place k) next))
    by_test top true next is more under = under
    by_test top false None is more under = tt
    by_test top false (Some further) is more under = more further (end_of top) is

-- ---- what is true of each area

pub each-next : (part : KeyedChain) (P Q : ℕ → Type 0) (next : Option ℕ)
    → ((area : ℕ) → P area → Q area) → IfSome next P → IfSome next Q
each-next part P Q None more is = tt
each-next part P Q (Some area) more is = more area is

-- What follows of what is true of each area is true of each, also where fewer heads are allowed.
pub each-after-less : (part : KeyedChain) (P Q : ℕ → Type 0) (more less : ℕ → Block → Type 0)
    → ((area : ℕ) → P area → Q area)
    → ((area : ℕ) → P area → (top : Block) → less (head_of part area) top
    → more (head_of part area) top)
    → (k area : ℕ) → EachAfter part P more k area → EachAfter part Q less k area
each-after-less part P Q more less wider heads zero area each = tt
each-after-less part P Q more less wider heads (suc k) area each = (
  wider area each.0,
  λ top may. each-next part (EachAfter part P more k) (EachAfter part Q less k)
      (record_in top).next
      (λ further. each-after-less part P Q more less wider heads k further)
      (each.1 top (heads area each.0 top may)),
)

-- the same of the heads of an image, each of which is allowed
pub each-after-image : (part : KeyedChain) (P Q : ℕ → Type 0) (may : ℕ → Block → Type 0)
    (image : Image) → ((area : ℕ) → P area → Q area)
    → ((area : ℕ) → P area → may (head_of part area) (head_in part image area))
    → (k area : ℕ) → EachAfter part P may k area → EachAfter part Q (IsOf image) k area
each-after-image part P Q may image wider heads = each-after-less part P Q may (IsOf image) wider
    (λ area is top here. subst (may (head_of part area)) (sym here) (heads area is))

next-both : (P Q : ℕ → Type 0) (next : Option ℕ) → IfSome next P → IfSome next Q
    → IfSome next (λ area. P area × Q area)
next-both P Q None one other = tt
next-both P Q (Some area) one other = (one, other)

-- two things that are true of each area
pub each-after-both : (part : KeyedChain) (P Q : ℕ → Type 0) (may : ℕ → Block → Type 0)
    (k area : ℕ) → EachAfter part P may k area → EachAfter part Q may k area
    → EachAfter part (λ at. P at × Q at) may k area
each-after-both part P Q may zero area one other = tt
each-after-both part P Q may (suc k) area one other = (
  (one.0, other.0),
  λ top here. each-next part (λ at. EachAfter part P may k at × EachAfter part Q may k at)
      (EachAfter part (λ at. P at × Q at) may k) (record_in top).next
      (λ further both. each-after-both part P Q may k further both.0 both.1)
      (next-both (EachAfter part P may k) (EachAfter part Q may k) (record_in top).next
      (one.1 top here) (other.1 top here)),
)

-- so it is of the one that the chain goes on from
pub each-here : (part : KeyedChain) (P : ℕ → Type 0) (may : ℕ → Block → Type 0) (k area : ℕ)
    → 0 < k → EachAfter part P may k area → P area
each-here part P may zero area some each = absurd (omega (arith, some))
each-here part P may (suc k) area some each = each.0

-- each area of a chain is one that it goes over, and in order
pub links-each : (part : KeyedChain) (Own : ℕ → Type 0) (now : Seen) (k area : ℕ)
    (low : Option (List ℕ)) → Links part Own now k area low
    → EachAfter part (λ at. Own at × IsKeyedSound (area_of part at) now) now.may k area
links-each part Own now zero area low chain = absurd chain
links-each part Own now (suc k) area low chain = (
  (chain.0, chain.1.sound),
  λ top may. by_next top (record_in top).next (chain.1.next top may)
      (λ further bound goes. links-each part Own now k further bound goes),
)
  where
    Each : ℕ → Type 0
    Each = EachAfter part (λ at. Own at × IsKeyedSound (area_of part at) now) now.may k

    by_next : (top : Block) (next : Option ℕ) → IsFollowed part (Links part Own now k) top next
        → ((further : ℕ) (bound : Option (List ℕ)) → Links part Own now k further bound
        → Each further)
        → IfSome next Each
    by_next top None is more = tt
    by_next top (Some further) is more = more further (end_of top) is

-- ---- the areas of an image

-- the one that the chain goes on from is the first of them
pub area-here : (part : KeyedChain) (image : Image) (k area : ℕ) → 0 < k
    → Contains (areas_after part image k area) area
area-here part image zero area some = absurd (omega (arith, some))
area-here part image (suc k) area some = (0, omega arith, refl)

-- what is true of each area by the heads of an image is true of all that it has in the chain
pub areas-each : (part : KeyedChain) (P : ℕ → Type 0) (image : Image) (k area : ℕ)
    → EachAfter part P (IsOf image) k area → All P (areas_after part image k area)
areas-each part P image zero area each = All-nil P
areas-each part P image (suc k) area each =
    All-cons P area (after_next [] (areas_after part image k)
    (record_in (head_in part image area)).next) each.0
    (by_next (record_in (head_in part image area)).next (each.1 (head_in part image area) refl)
    (λ further. areas-each part P image k further))
  where
    by_next : (next : Option ℕ) → IfSome next (EachAfter part P (IsOf image) k)
        → ((further : ℕ) → EachAfter part P (IsOf image) k further
        → All P (areas_after part image k further))
        → All P (after_next [] (areas_after part image k) next)
    by_next None is more = All-nil P
    by_next (Some further) is more = more further is

-- so it is of one of them
pub area-each : (part : KeyedChain) (P : ℕ → Type 0) (image : Image) (k area at : ℕ)
    → EachAfter part P (IsOf image) k area → Contains (areas_after part image k area) at → P at
area-each part P image k area at each =
    All-contains P (areas_after part image k area) at (areas-each part P image k area each)

-- each area that an image has, whose heads are allowed, is one of the chain's, and in order
pub links-area : (part : KeyedChain) (Own : ℕ → Type 0) (now : Seen) (image : Image)
    (k area : ℕ) (low : Option (List ℕ)) → Links part Own now k area low
    → ((at : ℕ) → Own at → IsKeyedSound (area_of part at) now
    → now.may (head_of part at) (head_in part image at))
    → (at : ℕ) → Contains (areas_after part image k area) at
    → Own at × IsKeyedSound (area_of part at) now
links-area part Own now image k area low chain allowed at =
    area-each part (λ one. Own one × IsKeyedSound (area_of part one) now) image k area at
    (each-after-image part (λ one. Own one × IsKeyedSound (area_of part one) now)
    (λ one. Own one × IsKeyedSound (area_of part one) now) now.may image (λ one is. is)
    (λ one is. allowed one is.0 is.1) k area (links-each part Own now k area low chain))

-- An image has a chain in order, whose blocks are allowed.
pub links-image : (part : KeyedChain) (Own : ℕ → Type 0) (now : Seen) (image : Image)
    → ((area : ℕ) → Own area → area < area_count part.geometry)
    → ((area : ℕ) → Own area → (n : ℕ) → IsBlock (area_of part area) now n
    → now.may n (block_at image n))
    → (k area : ℕ) (low : Option (List ℕ)) → Links part Own now k area low
    → LinksIn part image k area low
links-image part Own now image there each zero area low chain = absurd chain
links-image part Own now image there each (suc k) area low chain =
    let one = area_of part area in
    let top : Block = head_in part image area in
    let may : now.may (head_of part area) top =
    each area chain.0 (head_of part area) (head-block one now chain.1.sound) in
    record {
      there = there area chain.0;
      head = chain.1.sound.heads top may;
      intervals = ranges-held one now image (low_of top) (entries_of top) (each area chain.0)
          chain.1.sound.area (head-in one top (chain.1.sound.heads top may))
          (chain.1.sound.intervals top may);
      begins = chain.1.begins top may;
      next = followed-more part (Links part Own now k) (LinksIn part image k)
          (λ further bound. links-image part Own now image there each k further bound)
          top (record_in top).next (chain.1.next top may);
    }

-- It stays in areas of the chain.
pub links-stay : (part : KeyedChain) (Own : ℕ → Type 0) (now : Seen) (image : Image)
    → ((area : ℕ) → Own area → IsKeyedSound (area_of part area) now
    → now.may (head_of part area) (head_in part image area))
    → (k area : ℕ) (low : Option (List ℕ)) → Links part Own now k area low
    → EachAfter part (λ at. Own at × IsKeyedSound (area_of part at) now) (IsOf image) k area
links-stay part Own now image allowed k area low chain =
    each-after-image part (λ one. Own one × IsKeyedSound (area_of part one) now)
    (λ one. Own one × IsKeyedSound (area_of part one) now) now.may image (λ one is. is)
    (λ one is. allowed one is.0 is.1) k area (links-each part Own now k area low chain)
