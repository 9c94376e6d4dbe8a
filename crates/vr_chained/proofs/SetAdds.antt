-- A put into an interval of the chain with one item set: what a crash may find on each way then.
use Rattle.std.proofs.Common.{◌≡◌, ◌≢◌, ◌⊎◌, inl, inr, ⊎_elim, ◌<◌, ◌-◌, ℕ, zero, suc, Bool, IsTrue}
use Rattle.std.proofs.Common.{true, false, List, [], ◌∷◌, length, Option, Some, None, refl, sym, ap}
use Rattle.std.proofs.Common.{subst, ◌∙◌, arith, true≢false}
use Rattle.std.specs.Prelude.{Contains, nat_eq}
use Rattle.std.specs.List.{list_any}
use Rattle.std.proofs.Math.Nat.{mod-lt}
use Rattle.std.proofs.lemmas.Cmp.{nat_eq_equiv}
use Rattle.std.proofs.lemmas.List.Elements.{All-contains_itself, All-weaker, Contains-push}
use Rattle.std.proofs.lemmas.Map.Views.{Contains-from_any, list_any-from_Contains}
use Rattle.vr_types.specs.Blocks.{Puts}
use Rattle.vr_types.specs.Content.{Item}
use Rattle.vr_types.specs.Geometry.{area_count}
use Rattle.vr_types.specs.Image.{Block, MayAlso, block_at}
use Rattle.vr_types.specs.Regions.{Touches}
use Rattle.vr_types.specs.Seen.{Left, Seen}
use Rattle.vr_types.proofs.CallerLemmas.{cur-elsewhere, puts-touches}
use Rattle.vr_seqset.specs.Reading.{roster_in}
use Rattle.vr_space.specs.Owners.{Owners}
use Rattle.vr_space.specs.Part.{AddsTo, DueMoreAt, HasOnly, HasRoom, InPart, Just, MayHold}
use Rattle.vr_space.specs.Part.{MayAlsoHold, NumberedShape, SetsOne, Shape, item_of}
use Rattle.vr_space.specs.Room.{Lengths}
use Rattle.vr_space.specs.Rosters.{Chains, IsChained, IsChainedBy, IsInArea, IsNextOf, IsOf}
use Rattle.vr_space.specs.Rosters.{IsOwnArea, Numbered, chain_of, interval_in, roster_block}
use Rattle.vr_space.specs.Rosters.{used_of}
use Rattle.vr_space.specs.Numbered.{IsNumberedAtRest, IsNumberedSound, IsRestingArea, KeepsNumbered}
use Rattle.vr_space.specs.Numbered.{IsFilled, at_in, item_in, item_read, left_in, number_of}
use Rattle.vr_space.specs.Numbered.{numbered_way, span_of, start_of}
use Rattle.vr_space.specs.Way.{MayFind, MayOnceForced, found_on}
use Rattle.vr_space.proofs.CallerLemmas.{IsPartBlock, area-owned, areas-same, chain-here}
use Rattle.vr_space.proofs.CallerLemmas.{holds-less, interval-inside, only-weaken}
use Rattle.vr_space.proofs.CallerLemmas.{rest-sound, room-image, roster-inside, numbered-put}
use Rattle.vr_space.proofs.CallerLemmas.{PutKeepsLengths, PutsLong, span-some}
use Rattle.vr_space.proofs.CallerLemmas.{sound-image, sound-less, used-most, used-same}
use Rattle.vr_chained.specs.Filled.{IsItemSet}
use Rattle.vr_chained.proofs.EntryLengths.{long-still}
use Rattle.vr_chained.proofs.PlaceBlock.{block_for, one-place, place-finds, place-from, place-may}
use Rattle.vr_chained.proofs.PlaceBlock.{place-reads, place-same, way_for}
use Rattle.vr_chained.proofs.Reached.{AreAllowed, ComesFrom, roster-apart, way_at}
use Rattle.vr_chained.proofs.Resting.{also, equal_or, resting-chain}

-- a block is listed, or it isn't
listed_or : (listed : List ℕ) (n : ℕ) → Contains listed n ⊎ (Contains listed n → ⊥)
listed_or listed n = by_test (list_any (nat_eq n) listed) refl
  where
    by_test : (b : Bool) → list_any (nat_eq n) listed ≡ b
        → Contains listed n ⊎ (Contains listed n → ⊥)
    by_test true it = inl (Contains-from_any Rattle.std.proofs.Common.eqb-true n listed it)
    by_test false it =
        inr (λ there. true≢false (sym (list_any-from_Contains nat_eq_equiv n listed there) ∙ it))

-- ---- a chain with another interval

next-put : (used whole : ℕ) (After Further : ℕ → Type 0)
    → ((area : ℕ) → After area → Further area) → (next : Option ℕ)
    → IsNextOf used whole After next → IsNextOf used whole Further next
next-put used whole After Further more None is = tt
next-put used whole After Further more (Some area) is = (is.0, more area is.1)

-- A chain is one with an interval of the part's kind put into a block that is none of its rosters.
pub chain-put : (part : Numbered) (Own Wider : ℕ → Type 0) (may new : ℕ → Block → Type 0)
    (n : ℕ) (bytes : Block) → ((area : ℕ) → Own area → Wider area)
    → ((area : ℕ) → Own area → (m : ℕ) → IsInArea part area m → (block : Block) → new m block
    → MayAlso may n bytes m block)
    → ((area : ℕ) → roster_block part area ≡ n → ⊥) → IsFilled part bytes
    → (k area : ℕ) → Chains part Own (IsFilled part) may k area
    → Chains part Wider (IsFilled part) new k area
chain-put part Own Wider may new n bytes wider each off filled zero area chain = absurd chain
chain-put part Own Wider may new n bytes wider each off filled (suc k) area chain = (
  wider area chain.0,
  λ top now.
      let before : may (roster_block part area) top = ⊎_elim (λ old. old)
      (λ put. absurd (off area put.0))
      (each area chain.0 (roster_block part area) (roster-inside part area) top now) in
      let by : IsChainedBy part (IsFilled part) may area (Chains part Own (IsFilled part) may k)
      top =
      chain.1 top before in
      record {
        roster = by.roster;
        intervals = λ interval below block there. ⊎_elim
            (λ old. by.intervals interval below block old)
            (λ put. subst (IsFilled part) (sym put.1) filled)
            (each area chain.0 (interval_in part area interval)
            (interval-inside part area interval
            (omega (arith, below, used-most part top by.roster)))
            block there);
        next = next-put (roster_in top).used part.geometry.area
            (Chains part Own (IsFilled part) may k) (Chains part Wider (IsFilled part) new k)
            (λ further. chain-put part Own Wider may new n bytes wider each off filled k further)
            (roster_in top).next by.next;
      },
)

-- ---- the put

module _ (part : Numbered) (tells : Bool) (told : IsTrue tells) (a b : Seen) (n : ℕ)
    (bytes : Block) (call : Puts tells n bytes a b) (left : Left a a.cur) (place : List ℕ)
    (item : Option (List ℕ)) (at : block_for part a.cur place ≡ Some n)
    (set : IsItemSet part (at_in part place) item (block_at a.cur n) bytes)
    (owners : Owners) (rests : IsNumberedAtRest part owners a) where
  abbrev shape : Shape
  shape = NumberedShape part

  abbrev Own : ℕ → Type 0
  Own = IsRestingArea part owners a

  abbrev spot : ℕ
  spot = at_in part place

  -- where it is in its interval another place is too
  below : (q : List ℕ) → at_in part q < span_of part
  below q = mod-lt (number_of q - start_of part) (span-some part rests.on.part_is)

  -- what is left at the place
  abbrev leaves : Option Item
  leaves = left_in part.relative (item_of shape a.cur place) item

  image-chain : IsChained part (IsRestingArea part owners a) (IsFilled part) (IsOf a.cur)
  image-chain = resting-chain part owners a left rests

  from : (q : List ℕ) (m : ℕ) → block_for part a.cur q ≡ Some m
      → ComesFrom part Own (IsFilled part) a.cur (length (chain_of part a.cur)) m
  from q m is = place-from part Own (IsFilled part) a.cur image-chain q m is

  -- the block is the part's own, and there
  owned : (q : List ℕ) (m : ℕ) → block_for part a.cur q ≡ Some m
      → IsPartBlock shape owners a m
  owned q m is =
      let it = from q m is in
      let own : Own it.area = chain-here part Own (IsFilled part) (IsOf a.cur) it.left it.area
      it.chain in
      subst (IsPartBlock shape owners a) it.is
      (area-owned part owners a rests.on it.area own.own (interval_in part it.area it.interval)
      (interval-inside part it.area it.interval it.below))

  -- and no roster
  off : (area : ℕ) → roster_block part area ≡ n → ⊥
  off area same =
      let it = from place n at in
      roster-apart part area it.area it.interval it.below (same ∙ sym it.is)

  still : (area : ℕ) → block_at b.cur (roster_block part area)
      ≡ block_at a.cur (roster_block part area)
  still area = cur-elsewhere tells a b (roster_block part area) n bytes told (off area) call

  within : (m : ℕ) (block : Block) → IsPartBlock shape owners a m → b.may m block
      → MayAlso a.may n bytes m block
  within m block is may = call.adds told m block is.0 may

  -- what may be left of a roster might have been left before
  before : (area : ℕ) (top : Block) → MayAlso a.may n bytes (roster_block part area) top
      → a.may (roster_block part area) top
  before area top = ⊎_elim (λ old. old) (λ put. absurd (off area put.0))

  roster-before : (area : ℕ) → Own area → (top : Block) → b.may (roster_block part area) top
      → a.may (roster_block part area) top
  roster-before area own top may = before area top
      (within (roster_block part area) top
      (area-owned part owners a rests.on area own.own (roster_block part area)
      (roster-inside part area)) may)

  allowed : AreAllowed part Own a.may a.cur
  allowed area own = left.each (roster_block part area)
      (area-owned part owners a rests.on area own.own (roster_block part area)
      (roster-inside part area)).0

  -- what is read in it
  read-before : (q : List ℕ) (m : ℕ) → block_for part a.cur q ≡ Some m
      → item_of shape a.cur q ≡ item_in part (at_in part q) (block_at a.cur m)
  read-before q m is = place-reads part a.cur q
      ∙ ap (λ (block : Option ℕ). found_on a.cur (way_at (item_read part (at_in part q)) block)) is

  -- ---- what a crash may leave

  sound-also : IsNumberedSound part owners (also a n bytes)
  sound-also = record {
    on = record {
      part_is = rests.on.part_is;
      blocks = rests.on.blocks;
      size = rests.on.size;
    };
    chain = chain-put part Own (IsOwnArea part owners) a.may (MayAlso a.may n bytes) n bytes
        (λ area own. own.own) (λ area own m inside block may. may) off set.filled
        (area_count part.geometry) part.first rests.chain;
  }

  -- what may be held with the bytes: what might have been, or at the one place what is given
  holds-also : (q : List ℕ) (found : Option Item)
      → MayHold shape (MayAlso a.may n bytes) q found
      → MayAlsoHold shape a.may (Just place leaves) q found
  holds-also q found holds = by_block (block_for part a.cur q) refl
      (place-finds part Own (IsFilled part) a.cur image-chain (MayAlso a.may n bytes) found q
      (λ area own top may. own.roster top (before area top may)) holds)
    where
      back : (block : Option ℕ) → block_for part a.cur q ≡ block
          → MayFind a.may found (way_at (item_read part (at_in part q)) block)
          → MayFind a.may found (numbered_way part q)
      back block is here = place-may part Own (IsFilled part) a.cur image-chain a.may found q
          allowed
          (subst (λ (o : Option ℕ). MayFind a.may found (way_at (item_read part (at_in part q)) o))
          (sym is) here)

      by_block : (block : Option ℕ) → block_for part a.cur q ≡ block
          → MayFind (MayAlso a.may n bytes) found (way_at (item_read part (at_in part q)) block)
          → MayAlsoHold shape a.may (Just place leaves) q found
      by_block None is here = inl (back None is here)
      by_block (Some m) is here = ⊎_elim
          (λ old. inl (back (Some m) is (here.0, old, here.2)))
          (λ put.
          let there : block_for part a.cur q ≡ Some n =
          is ∙ ap (λ (k : ℕ). Some k) put.0 in
          let has : found ≡ item_in part (at_in part q) bytes =
          here.2 ∙ ap (item_in part (at_in part q)) put.1 in
          ⊎_elim
          (λ same. inr (
            one-place part Own (IsFilled part) a.cur image-chain q place n there at same,
            has ∙ ap (λ (s : ℕ). item_in part s bytes) same ∙ set.here
                ∙ ap (λ (now : Option Item). left_in part.relative now item)
                (sym (read-before place n at)),
          ))
          (λ apart. inl (back (Some n) there (
            block_at a.cur n,
            left.each n (owned q n there).0,
            has ∙ set.others (at_in part q) (below q) apart,
          )))
          (equal_or (at_in part q) spot))
          here.1

  pub set-adds : AddsTo (NumberedShape part) owners (Just place leaves) a b
  set-adds = record {
    touches = puts-touches tells (InPart shape owners)
        (HasOnly shape owners (MayAlsoHold shape a.may (Just place leaves))) n
        bytes a b told (owned place n at).1 call
        (λ image inside. only-weaken shape owners (MayHold shape (MayAlso a.may n bytes))
        (MayAlsoHold shape a.may (Just place leaves)) holds-also image
        (sound-image shape owners (also a n bytes) sound-also image inside));
    rest = λ q found holds. holds-also q found
        (holds-less shape owners (also a n bytes) b.may sound-also within q found holds);
    sound = sound-less (also a n bytes) b shape owners call.count_same call.size_same within
        sound-also;
  }

  -- ---- room

  -- each length that is kept, and that is in the interval, is there
  put-keeps : (kept : Lengths) → PutKeepsLengths part owners kept n bytes a
  put-keeps kept area own top may i below same =
      All-weaker (Contains kept) (PutsLong part (a.may n) bytes)
      (λ entry among had. long-still part.relative spot item (block_at a.cur n) bytes set.lengths
      (at_in part entry.0) entry.1
      (had (block_at a.cur n) (left.each n (owned place n at).0)))
      kept (All-contains_itself kept)

  kept-with : (kept : Lengths) (new : ℕ → Block → Type 0)
      → ((m : ℕ) (block : Block) → IsPartBlock shape owners a m → new m block
      → MayAlso a.may n bytes m block) → KeepsNumbered part kept a.may → KeepsNumbered part kept new
  kept-with kept new adds = numbered-put part owners kept n bytes a new
      (rest-sound shape owners a rests) adds (λ area own same. absurd (off area same))
      (put-keeps kept)

  pub set-room : (kept : Lengths) → KeepsNumbered part kept a.may → KeepsNumbered part kept b.may
  set-room kept = kept-with kept b.may within

  pub set-rooms : (kept : Lengths) → KeepsNumbered part kept a.may
      → Touches (InPart (NumberedShape part) owners) (HasRoom (NumberedShape part) kept) a b
  set-rooms kept room = puts-touches tells (InPart shape owners) (HasRoom shape kept) n bytes a b
      told (owned place n at).1 call
      (room-image shape owners kept (also a n bytes) sound-also
      (kept-with kept (MayAlso a.may n bytes) (λ m block is may. may) room))

  -- ---- at rest

  pub set-rests : IsNumberedAtRest part owners b
  set-rests = record {
    on = set-adds.sound.on;
    chain = chain-put part Own (IsRestingArea part owners b) a.may b.may n bytes
        (λ area own. record {
          own = own.own;
          roster = λ block may. own.roster block (roster-before area own block may)
              ∙ sym (still area);
        })
        (λ area own m inside block may. within m block
        (area-owned part owners a rests.on area own.own m inside) may)
        off set.filled (area_count part.geometry) part.first rests.chain;
  }

  -- the chain is as it was
  pub set-chain : (chain_of part b.cur ≡ chain_of part a.cur)
      × (used_of part b.cur ≡ used_of part a.cur)
  set-chain = (
    areas-same part Own (IsFilled part) (IsOf a.cur) a.cur b.cur (λ area own. refl)
        (λ area own. still area) (area_count part.geometry) part.first image-chain,
    used-same part Own (IsFilled part) (IsOf a.cur) a.cur b.cur (λ area own. refl)
        (λ area own. still area) (area_count part.geometry) part.first image-chain,
  )

  -- ---- what is read

  module _ (now : block_at b.cur n ≡ bytes) where
    -- what is read at a place, in the block that it had before
    read-now : (q : List ℕ) → item_of shape b.cur q
        ≡ found_on b.cur (way_for part a.cur q)
    read-now q = place-reads part b.cur q
        ∙ ap (λ (block : Option ℕ). found_on b.cur (way_at (item_read part (at_in part q)) block))
        (place-same part Own (IsFilled part) a.cur image-chain b.cur q (λ area own. still area))

    read-at : (q : List ℕ) (m : ℕ) → block_for part a.cur q ≡ Some m
        → item_of shape b.cur q ≡ item_in part (at_in part q) (block_at b.cur m)
    read-at q m is = read-now q
        ∙ ap (λ (block : Option ℕ). found_on b.cur (way_at (item_read part (at_in part q)) block))
        is

    others-same : (q : List ℕ) → q ≢ place → item_of shape b.cur q ≡ item_of shape a.cur q
    others-same q apart = by_block (block_for part a.cur q) refl
      where
        by_block : (block : Option ℕ) → block_for part a.cur q ≡ block
            → item_of shape b.cur q ≡ item_of shape a.cur q
        by_block None is = read-now q
            ∙ ap (λ (block : Option ℕ).
            found_on b.cur (way_at (item_read part (at_in part q)) block)) is
            ∙ sym (place-reads part a.cur q ∙ ap (λ (block : Option ℕ).
            found_on a.cur (way_at (item_read part (at_in part q)) block)) is)
        by_block (Some m) is = ⊎_elim
            (λ same.
            let there : block_for part a.cur q ≡ Some n = is ∙ ap (λ (k : ℕ). Some k) same in
            read-at q n there
            ∙ ap (item_in part (at_in part q)) now
            ∙ set.others (at_in part q) (below q)
            (λ spots. apart (one-place part Own (IsFilled part) a.cur image-chain q place n there at
            spots))
            ∙ sym (read-before q n there))
            (λ other. read-at q m is
            ∙ ap (item_in part (at_in part q)) (cur-elsewhere tells a b m n bytes told other call)
            ∙ sym (read-before q m is))
            (equal_or m n)

    pub set-one : SetsOne (NumberedShape part) place item a.cur b.cur
    set-one = record {
      here = read-at place n at ∙ ap (item_in part spot) now ∙ set.here
          ∙ ap (λ (now : Option Item). left_in part.relative now item)
          (sym (read-before place n at));
      others = others-same;
    }

    -- ---- what has to be forced

    pub set-due : DueMoreAt (NumberedShape part) place (n ∷ []) a b
    set-due listed q due either found holds = by_block (block_for part a.cur q) refl
        (place-finds part Own (IsFilled part) a.cur image-chain (MayOnceForced listed b) found q
        (λ area own top once. own.roster top (roster-before area own top once.0)) holds)
      where
        -- what might have been found before
        found-before : (m : ℕ) (block : Block) → block_for part a.cur q ≡ Some m
            → MayOnceForced listed a m block → found ≡ item_in part (at_in part q) block
            → found ≡ item_of shape a.cur q
        found-before m block is once same = due found
            (place-may part Own (IsFilled part) a.cur image-chain (MayOnceForced listed a) found q
            (λ area own. (allowed area own, λ there. refl))
            (subst (λ (o : Option ℕ). MayFind (MayOnceForced listed a) found
            (way_at (item_read part (at_in part q)) o)) (sym is) (block, once, same)))

        forced : (m : ℕ) (block : Block) → block_for part a.cur q ≡ Some m
            → block ≡ block_at b.cur m → found ≡ item_in part (at_in part q) block
            → found ≡ item_of shape b.cur q
        forced m block is same has =
            has ∙ ap (item_in part (at_in part q)) same ∙ sym (read-at q m is)

        -- of the block that was put
        in-block : (block : Block) → block_for part a.cur q ≡ Some n
            → MayOnceForced listed b n block → found ≡ item_in part (at_in part q) block
            → found ≡ item_of shape b.cur q
        in-block block is once has = ⊎_elim
            (λ apart. ⊎_elim
            (λ there. forced n block is (once.1 there) has)
            (λ unforced. ⊎_elim
            (λ old. found-before n block is (old, λ there. absurd (unforced there)) has
            ∙ sym (others-same q apart))
            (λ put. forced n block is (put.1 ∙ sym now) has)
            (within n block (owned q n is) once.0))
            (listed_or listed n))
            (λ all. forced n block is (once.1 (all n (Contains-push [] n))) has)
            either

        by_block : (block : Option ℕ) → block_for part a.cur q ≡ block
            → MayFind (MayOnceForced listed b) found (way_at (item_read part (at_in part q)) block)
            → found ≡ item_of shape b.cur q
        by_block None is here = here ∙ sym (read-now q ∙ ap (λ (block : Option ℕ).
            found_on b.cur (way_at (item_read part (at_in part q)) block)) is)
        by_block (Some m) is here = ⊎_elim
            (λ same.
            let there : block_for part a.cur q ≡ Some n = is ∙ ap (λ (k : ℕ). Some k) same in
            in-block here.0 there
            (subst (λ (k : ℕ). MayOnceForced listed b k here.0) same here.1) here.2)
            (λ other.
            let kept = cur-elsewhere tells a b m n bytes told other call in
            let old : a.may m here.0 = ⊎_elim (λ old. old) (λ put. absurd (other put.0))
            (within m here.0 (owned q m is) here.1.0) in
            found-before m here.0 is (old, λ there. here.1.1 there ∙ kept) here.2
            ∙ read-before q m is
            ∙ ap (item_in part (at_in part q)) (sym kept)
            ∙ sym (read-at q m is))
            (equal_or m n)
