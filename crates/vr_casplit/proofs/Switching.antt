-- What the last stage of a split finds, and the areas of the chain while the old head and the
-- shortened one may be left: each is in order, the new one too, and has room for what is kept.
use Rattle.std.proofs.Common.{◌≡◌, ◌⊎◌, ⊎_elim, ℕ, zero, suc, ◌+◌, ◌<◌, List, []}
use Rattle.std.proofs.Common.{◌∷◌, Option, Some, length, drop, refl, sym, ap, subst, ◌∙◌, arith}
use Rattle.std.specs.Prelude.{Contains, slice_index, unwrap_or}
use Rattle.std.specs.List.{slice_get}
use Rattle.std.proofs.lemmas.Option.{slice_get_within}
use Rattle.vr_types.specs.Image.{Block, block_at}
use Rattle.vr_types.specs.Seen.{Left, Seen}
use Rattle.vr_seqset.specs.Entry.{Entry}
use Rattle.vr_space.specs.Areas.{IsChainAtRest, IsOwnedArea, KeyedChain, area_of, areas_in, head_in}
use Rattle.vr_space.specs.Areas.{head_of}
use Rattle.vr_space.specs.Keyed.{EachMayLeave, HoldsRange, InArea, IsHead, IsKeyedSound, Keyed}
use Rattle.vr_space.specs.Keyed.{KeepsRoom, entries_of, entry_block, lengths_of, low_of}
use Rattle.vr_space.specs.Owners.{Owners}
use Rattle.vr_space.specs.Room.{HaveRoom, Lengths, Range}
use Rattle.vr_space.specs.UnderWay.{interval_block}
use Rattle.vr_space.proofs.CallerLemmas.{AreIn, IsBlock, IsResting, area-room-less, area-there}
use Rattle.vr_space.proofs.CallerLemmas.{areas-apart, head-in, keyed-less, resting-area}
use Rattle.vr_space.specs.Moves.{IsLower, IsMoved, numbered_from}
use Rattle.vr_casplit.proofs.Heads.{AreHeads, lower-each, lower-head}
use Rattle.vr_casplit.proofs.Heads.{upper-each, upper-entries, upper-head}
use Rattle.vr_casplit.proofs.Upper.{AreCopied, holds-alike}

-- The part is at rest, the area is one of its chain and the other its own, but none of the chain;
-- and the entries that move, all but the first `stay`, are there, under a head that a crash leaves
-- alone. The block is the old head without them.
pub record CanSwitch (part : KeyedChain) (owners : Owners) (area into stay : ℕ) (old : Seen)
    (lower : Block) : Type 0 where
  pub rests : IsChainAtRest part owners old
  pub left : Left old old.cur
  pub inside : Contains (areas_in part old.cur) area
  pub own : IsOwnedArea part owners into
  pub apart : Contains (areas_in part old.cur) into → ⊥
  pub some : 0 < stay
  pub fewer : stay < length (entries_of (head_in part old.cur area))
  pub moved : IsMoved part area into stay old
  pub is_lower : IsLower (area_of part area) stay into (head_in part old.cur area) lower

-- What is allowed then of blocks beside the head of the area was allowed before, as their contents
-- are; and of that head the old content and the shortened one.
pub record Narrows (part : KeyedChain) (area : ℕ) (lower : Block) (old : Seen)
    (may less : ℕ → Block → Type 0) : Type 0 where
  pub others : (n : ℕ) (block : Block) → n < old.count → (n ≡ head_of part area → ⊥)
      → may n block → less n block
  pub heads : (top : Block) → may (head_of part area) top
      → (top ≡ head_in part old.cur area) ⊎ (top ≡ lower)
  pub allowed : (n : ℕ) (block : Block) → n < old.count → less n block → old.may n block
  pub current : (n : ℕ) → n < old.count → less n (block_at old.cur n)

-- ---- elements of a list

-- past the first ones
slice_get-drop : {X : Type 0} (n : ℕ) (xs : List X) (i : ℕ)
    → slice_get (drop n xs) i ≡ slice_get xs (n + i)
slice_get-drop zero xs i = ap (slice_get xs) (omega arith)
slice_get-drop (suc n) [] i = refl
slice_get-drop (suc n) (x ∷ xs) i =
    let next : suc (n + i) ≡ suc n + i = omega arith in
    slice_get-drop n xs i ∙ ap (slice_get (x ∷ xs)) next

-- the interval of each entry is one of the area
pub in-nth : (area : ℕ) (entries : List Entry) (i : ℕ) (entry : Entry) → AreIn area entries
    → slice_get entries i ≡ Some entry → slice_index entry.intervals 0 < area
in-nth area [] i entry inside got = absurd cc
in-nth area (first ∷ entries) zero entry inside got =
    let same : first ≡ entry = ap (λ (o : Option Entry). unwrap_or o first) got in
    subst (λ (one : Entry). slice_index one.intervals 0 < area) same inside.0
in-nth area (first ∷ entries) (suc i) entry inside got = in-nth area entries i entry inside.1 got

numbered-nth : (area n : ℕ) (entries : List Entry) (i : ℕ) (entry : Entry)
    → AreIn area (numbered_from n entries) → slice_get entries i ≡ Some entry → n + i < area
numbered-nth area n [] i entry inside got = absurd cc
numbered-nth area n (first ∷ entries) zero entry inside got = omega (arith, inside.0)
numbered-nth area n (first ∷ entries) (suc i) entry inside got =
    omega (arith, numbered-nth area (suc n) entries i entry inside.1 got)

-- ---- intervals whose head is another

-- A crash leaves no more of the intervals where it leaves no more of blocks beside the head.
pub each-still : (part : Keyed) (old now : Seen) (Q : Range → Block → Type 0)
    → ((n : ℕ) (block : Block) → n < old.count → (n ≡ part.head → ⊥) → now.may n block
    → old.may n block)
    → part.head + part.area < old.count → (low : Option (List ℕ)) (entries : List Entry)
    → AreIn part.area entries → EachMayLeave part old low entries Q
    → EachMayLeave part now low entries Q
each-still part old now Q less there low [] inside each = tt
each-still part old now Q less there low (entry ∷ entries) inside each = (
  λ block may. each.0 block (less (entry_block part entry) block
      (omega (arith, there, inside.0)) (λ same. omega (arith, same)) may),
  each-still part old now Q less there (Some entry.high) entries inside.1 each.1,
)

-- ---- the areas

module _ (part : KeyedChain) (owners : Owners) (area into stay : ℕ) (old : Seen) (lower : Block)
    (can : CanSwitch part owners area into stay old lower) where
  abbrev pub top : Block
  top = head_in part old.cur area

  pub here : IsResting part owners old area
  here = resting-area part owners old can.rests can.left area can.inside

  pub top-may : old.may (head_of part area) top
  top-may = can.left.each (head_of part area) (omega (arith, here.1.area))

  pub top-head : IsHead (area_of part area) top
  top-head = here.1.heads top top-may

  -- the heads that are there, and written
  pub are-heads : AreHeads part area into stay top lower can.moved.upper
  are-heads = record {
    head = top-head;
    some = can.some;
    fewer = can.fewer;
    is_lower = can.is_lower;
    is_upper = can.moved.is_upper;
  }

  -- no block of another area is the head of this one
  pub other-head : (at : ℕ) → (at ≡ area → ⊥) → (n : ℕ) → InArea (area_of part at) n
      → n ≡ head_of part area → ⊥
  other-head at differ n within same = areas-apart part at area n differ within
      (subst (InArea (area_of part area)) (sym same) (omega arith, omega arith))

  pub differs : into ≡ area → ⊥
  differs same = can.apart (subst (Contains (areas_in part old.cur)) (sym same) can.inside)

  pub into-there : head_of part into + part.geometry.area < old.count
  into-there = area-there part old can.rests.on into can.own.there

  pub new-head : IsHead (area_of part into) can.moved.upper
  new-head = upper-head part area into stay top lower can.moved.upper are-heads

  module _ (may less : ℕ → Block → Type 0) (narrows : Narrows part area lower old may less) where
    -- of the head of the other area the new one alone is allowed,
    pub upper-only : (head : Block) → may (head_of part into) head → head ≡ can.moved.upper
    upper-only head held = can.moved.stable head
        (narrows.allowed (head_of part into) head below
        (narrows.others (head_of part into) head below
        (other-head into differs (head_of part into) (omega arith, omega arith)) held))
      where
        below : head_of part into < old.count
        below = omega (arith, into-there)

    -- and of its intervals what the old ones have.
    pub copied : AreCopied part area into may less 0 (drop stay (entries_of top))
    copied j m entry is got block held =
        let there : slice_get (entries_of top) (stay + j) ≡ Some entry =
        sym (slice_get-drop stay (entries_of top) j) ∙ got in
        let copy = can.moved.copies j (slice_get_within (entries_of top) (stay + j) entry there) in
        let same : copy.entry ≡ entry =
        ap (λ (o : Option Entry). unwrap_or o copy.entry) (sym copy.is ∙ there) in
        let at_least : 0 + j < part.geometry.area = numbered-nth part.geometry.area 0
        (drop stay (entries_of top)) j entry
        (subst (AreIn part.geometry.area)
        (upper-entries part area into stay top lower can.moved.upper are-heads)
        (head-in (area_of part into) can.moved.upper new-head)) got in
        let inside : j < part.geometry.area = omega (arith, at_least) in
        let from : slice_index entry.intervals 0 < part.geometry.area =
        in-nth part.geometry.area (entries_of top) (stay + j) entry
        (head-in (area_of part area) top top-head) there in
        let number : m ≡ j = omega (arith, is) in
        let to : interval_block (area_of part into) j < old.count =
        omega (arith, into-there, inside) in
        let at_j : may (interval_block (area_of part into) j) block =
        subst (λ (i : ℕ). may (interval_block (area_of part into) i) block) number held in
        let has : block ≡ block_at old.cur (entry_block (area_of part area) entry) =
        copy.stable block
        (narrows.allowed (interval_block (area_of part into) j) block to
        (narrows.others (interval_block (area_of part into) j) block to
        (other-head into differs (interval_block (area_of part into) j)
        (omega arith, omega (arith, inside))) at_j))
        ∙ ap (λ (one : Entry). block_at old.cur (entry_block (area_of part area) one)) same in
        subst (less (entry_block (area_of part area) entry)) (sym has)
        (narrows.current (entry_block (area_of part area) entry)
        (omega (arith, here.1.area, from)))

  module _ (now : Seen) (count : now.count ≡ old.count) (size : now.size ≡ old.size)
      (narrows : Narrows part area lower old now.may old.may) where
    -- what a crash may leave of another area it might have left
    pub other-less : (at : ℕ) → (at ≡ area → ⊥) → (n : ℕ) (block : Block)
        → IsBlock (area_of part at) old n → now.may n block → old.may n block
    other-less at differ n block is =
        narrows.others n block is.0 (other-head at differ n is.1)

    -- under the old head it leaves no more, and under the shortened one
    kept-each : (Q : Range → Block → Type 0)
        → EachMayLeave (area_of part area) old (low_of top) (entries_of top) Q → (head : Block)
        → now.may (head_of part area) head
        → EachMayLeave (area_of part area) now (low_of head) (entries_of head) Q
    kept-each Q each head may =
        let still : EachMayLeave (area_of part area) now (low_of top) (entries_of top) Q =
        each-still (area_of part area) old now Q narrows.others here.1.area (low_of top)
        (entries_of top) (head-in (area_of part area) top top-head) each in
        ⊎_elim
        (λ same. subst
        (λ (h : Block). EachMayLeave (area_of part area) now (low_of h) (entries_of h) Q)
        (sym same) still)
        (λ new. subst
        (λ (h : Block). EachMayLeave (area_of part area) now (low_of h) (entries_of h) Q)
        (sym new)
        (lower-each part area into stay top lower can.moved.upper are-heads now Q still))
        (narrows.heads head may)

    -- and under the new one what it might leave under the old one
    new-each : (Q R : Range → Block → Type 0)
        → ((range : Range) (block : Block) → Q range block → R range block)
        → EachMayLeave (area_of part area) old (low_of top) (entries_of top) Q → (head : Block)
        → now.may (head_of part into) head
        → EachMayLeave (area_of part into) now (low_of head) (entries_of head) R
    new-each Q R wider each head may =
        subst (λ (h : Block). EachMayLeave (area_of part into) now (low_of h) (entries_of h) R)
        (sym (upper-only now.may old.may narrows head may))
        (upper-each part area into stay top lower can.moved.upper are-heads old now Q R wider
        (copied now.may old.may narrows) each)

    -- So each area is in order,
    pub area-sound : IsKeyedSound (area_of part area) now
    area-sound = record {
      area = omega (arith, here.1.area, count);
      size = size ∙ here.1.size;
      heads = λ head may. ⊎_elim
          (λ same. subst (IsHead (area_of part area)) (sym same) top-head)
          (λ new. subst (IsHead (area_of part area)) (sym new)
          (lower-head part area into stay top lower can.moved.upper are-heads))
          (narrows.heads head may);
      intervals = kept-each (HoldsRange (area_of part area)) (here.1.intervals top top-may);
    }

    pub into-sound : IsKeyedSound (area_of part into) now
    into-sound = record {
      area = omega (arith, into-there, count);
      size = size ∙ here.1.size;
      heads = λ head may. subst (IsHead (area_of part into))
          (sym (upper-only now.may old.may narrows head may)) new-head;
      intervals = new-each (HoldsRange (area_of part area)) (HoldsRange (area_of part into))
          (holds-alike part area into) (here.1.intervals top top-may);
    }

    pub other-sound : (at : ℕ) → (at ≡ area → ⊥) → IsResting part owners old at
        → IsKeyedSound (area_of part at) now
    other-sound at differ resting =
        keyed-less (area_of part at) old now count size (other-less at differ) resting.1

    -- and has room for what is kept.
    module _ (kept : Lengths) where
      pub area-room : KeepsRoom (area_of part area) kept old
          → KeepsRoom (area_of part area) kept now
      area-room room = record {
        places = room.places;
        each = kept-each
            (λ range block. HaveRoom part.geometry.size
            (lengths_of (area_of part area) kept range block))
            (room.each top top-may);
      }

      pub into-room : KeepsRoom (area_of part area) kept old
          → KeepsRoom (area_of part into) kept now
      into-room room = record {
        places = room.places;
        each = new-each
            (λ range block. HaveRoom part.geometry.size
            (lengths_of (area_of part area) kept range block))
            (λ range block. HaveRoom part.geometry.size
            (lengths_of (area_of part into) kept range block))
            (λ range block has. has) (room.each top top-may);
      }

      pub other-room : (at : ℕ) → (at ≡ area → ⊥) → IsResting part owners old at
          → KeepsRoom (area_of part at) kept old → KeepsRoom (area_of part at) kept now
      other-room at differ resting =
          area-room-less (area_of part at) kept old now (other-less at differ) resting.1
