-- A put by which the chain of a part is as it was, or longer at its end: it adds nothing to
-- what places may hold, and what is kept has room.
use Rattle.std.proofs.Common.{◌≡◌, ◌⊎◌, inl, inr, ⊎_elim, ◌<◌, ◌≤◌, ◌+◌, ℕ, Bool, IsTrue, true}
use Rattle.std.proofs.Common.{false, List, [], length, All, Option, None, refl, sym, ap, subst, ◌∙◌}
use Rattle.std.proofs.Common.{arith}
use Rattle.std.specs.Prelude.{cond}
use Rattle.vr_types.specs.Blocks.{Puts}
use Rattle.vr_types.specs.Content.{Item}
use Rattle.vr_types.specs.Geometry.{area_count}
use Rattle.vr_types.specs.Image.{Block, Image, MayAlso, block_at}
use Rattle.vr_types.specs.Regions.{Touches}
use Rattle.vr_types.specs.Seen.{Left, Only, Seen}
use Rattle.vr_types.proofs.CallerLemmas.{cur-elsewhere, cur-put, puts-touches}
use Rattle.vr_seqset.specs.Reading.{roster_in}
use Rattle.vr_space.specs.Owners.{Owners}
use Rattle.vr_space.specs.Part.{AddsTo, DueMore, HasOnly, HasRoom, InPart, MayAlsoHold, MayHold}
use Rattle.vr_space.specs.Part.{Nothing, NumberedShape, SameRecords, Shape}
use Rattle.vr_space.specs.Room.{Lengths}
use Rattle.vr_space.specs.Rosters.{IsChained, IsInArea, IsOf, IsOwnArea, Numbered, chain_of}
use Rattle.vr_space.specs.Rosters.{interval_way, roster_block}
use Rattle.vr_space.specs.Numbered.{IsFilled, IsNumberedAtRest, IsNumberedOn, IsNumberedSound}
use Rattle.vr_space.specs.Numbered.{IsRestingArea, KeepsNumbered, at_in, interval_of}
use Rattle.vr_space.specs.Numbered.{is_number_place, item_read, numbered_way}
use Rattle.vr_space.specs.Way.{Found, MayFind, MayOnceForced, Reads, Way, found_on}
use Rattle.vr_space.proofs.CallerLemmas.{IsPartBlock, KeepsLengths, area-owned, chain-less}
use Rattle.vr_space.proofs.CallerLemmas.{holds-less, numbered-grow, on-still, only-weaken}
use Rattle.vr_space.proofs.CallerLemmas.{room-image, roster-inside, sound-image, sound-less}
use Rattle.vr_space.proofs.CallerLemmas.{used-keep, used-most}
use Rattle.vr_chained.proofs.Longer.{Lengthens, chain-longer, find-longer, grows-longer}
use Rattle.vr_chained.proofs.Reached.{AreAllowed, AreStable}
use Rattle.vr_chained.proofs.Resting.{also, equal_or}

-- What may be found in an image's own blocks is what it has.
pub found-of : (image : Image) (way : Way) → MayFind (IsOf image) (found_on image way) way
found-of image (Found item) = refl
found-of image (Reads n next) =
    (block_at image n, refl, found-of image (next (block_at image n)))

pub of-found : (image : Image) (item : Option Item) (way : Way) → MayFind (IsOf image) item way
    → item ≡ found_on image way
of-found image item (Found found) is = is
of-found image item (Reads n next) is = of-found image item (next (block_at image n))
    (subst (λ (block : Block). MayFind (IsOf image) item (next block)) is.1 is.2)

-- Of what might be left of blocks, with the current ones among it, a put makes what may be left
-- now.
pub record IsPutOver (a : Seen) (n : ℕ) (bytes : Block) (old new : ℕ → Block → Type 0) : Type 0
  where
    pub less : (m : ℕ) (block : Block) → m < a.count → old m block → a.may m block
    pub current : (m : ℕ) → m < a.count → old m (block_at a.cur m)
    pub adds : (m : ℕ) (block : Block) → m < a.count → new m block → MayAlso old n bytes m block

module _ (part : Numbered) (tells : Bool) (told : IsTrue tells) (a b : Seen) (n : ℕ)
    (bytes : Block) (call : Puts tells n bytes a b) (left : Left a a.cur) (more : List ℕ)
    (owners : Owners) (Own : ℕ → Type 0) (on : IsNumberedOn part a)
    (resting : (area : ℕ) → Own area → IsRestingArea part owners a area)
    (chain : IsChained part Own (IsFilled part) a.may)
    (room : length (chain_of part a.cur) + length more ≤ area_count part.geometry)
    (lengthens : (Wider : ℕ → Type 0) (old new : ℕ → Block → Type 0) → All Wider more
    → IsPutOver a n bytes old new → Lengthens part Own Wider a.cur more old new) where
  abbrev shape : Shape
  shape = NumberedShape part

  abbrev count : ℕ
  count = area_count part.geometry

  there : (area : ℕ) → Own area → (m : ℕ) → IsInArea part area m → m < a.count
  there area own m inside =
      (area-owned part owners a on area (resting area own).own m inside).0

  module _ (old new : ℕ → Block → Type 0) (puts : IsPutOver a n bytes old new) where
    stable : AreStable part Own old a.cur
    stable area own top may = (resting area own).roster top (puts.less (roster_block part area) top
        (there area own (roster_block part area) (roster-inside part area)) may)

    allowed : AreAllowed part Own old a.cur
    allowed area own = puts.current (roster_block part area)
        (there area own (roster_block part area) (roster-inside part area))

    chain-old : IsChained part Own (IsFilled part) old
    chain-old = chain-less part Own Own (IsFilled part) old a.may (λ area own. own)
        (λ area own m inside block may. puts.less m block (there area own m inside) may) count
        part.first chain

    chain-new : (Wider : ℕ → Type 0) → ((area : ℕ) → Own area → Wider area) → All Wider more
        → IsChained part Wider (IsFilled part) new
    chain-new Wider wider all = chain-longer part Own Wider a.cur more old new stable
        (lengthens Wider old new all puts) wider count part.first chain-old room

    -- what is added has no say here
    abbrev Any : ℕ → Type 0
    Any area = Unit {0}

    as-any : Lengthens part Own Any a.cur more old new
    as-any = lengthens Any old new (λ k d below. tt) puts

    -- what a place may hold now it might have held
    holds-before : (place : List ℕ) (item : Option Item)
        → MayHold (NumberedShape part) new place item → MayHold (NumberedShape part) old place item
    holds-before place item = by_place (is_number_place part place)
      where
        by_place : (is : Bool) → MayFind new item (cond is
            (interval_way part (item_read part (at_in part place)) (interval_of part place))
            (Found None))
            → MayFind old item (cond is
            (interval_way part (item_read part (at_in part place)) (interval_of part place))
            (Found None))
        by_place true found = find-longer part Own Any a.cur more old new stable as-any allowed
            (at_in part place) item count (interval_of part place) part.first chain-old found
        by_place false found = found

    -- no used interval has anything new
    keeps-lengths : (kept : Lengths) → KeepsLengths part Own kept old new
    keeps-lengths kept = used-keep part Own kept old new
        (λ area own top may roster i below block is.
        as-any.blocks area i own
        (subst (λ (b : Block). i < (roster_in b).used) (stable area own top may) below)
        (omega (arith, below, used-most part top roster)) block is)

    keeps-room : (kept : Lengths) → KeepsNumbered part kept old → KeepsNumbered part kept new
    keeps-room kept = numbered-grow part Own (IsFilled part) old new kept
        (grows-longer part Own Any a.cur more old new stable as-any allowed) (keeps-lengths kept)
        chain-old

  -- ---- what may be left

  puts-also : IsPutOver a n bytes a.may (MayAlso a.may n bytes)
  puts-also = record {
    less = λ m block below may. may;
    current = λ m below. left.each m below;
    adds = λ m block below may. may;
  }

  puts-now : IsPutOver a n bytes a.may b.may
  puts-now = record {
    less = λ m block below may. may;
    current = λ m below. left.each m below;
    adds = λ m block below may. call.adds told m block below may;
  }

  -- of the images themselves
  puts-image : block_at b.cur n ≡ bytes ⊎ (b.cur ≡ a.cur)
      → IsPutOver a n bytes (IsOf a.cur) (IsOf b.cur)
  puts-image now = record {
    less = λ m block below is. subst (a.may m) (sym is) (left.each m below);
    current = λ m below. refl;
    adds = λ m block below is. ⊎_elim
        (λ same. ⊎_elim
        (λ put. inr (same, is ∙ ap (block_at b.cur) same ∙ put))
        (λ kept. inl (is ∙ ap (λ (image : Image). block_at image m) kept)) now)
        (λ other. inl (is ∙ cur-elsewhere tells a b m n bytes told other call))
        (equal_or m n);
  }

  -- ---- whether it failed or not

  image-either : length a.cur ≡ a.count → n < a.count
      → block_at b.cur n ≡ bytes ⊎ (b.cur ≡ a.cur)
  image-either long below = ⊎_elim (λ same. inr same)
      (λ put. inl (cur-put a n bytes below long b.cur put))
      (call.content told)

  pub put-same : n < a.count → SameRecords (NumberedShape part) a.cur b.cur
  put-same below place =
      of-found a.cur (found_on b.cur (numbered_way part place)) (numbered_way part place)
      (holds-before (IsOf a.cur) (IsOf b.cur) (puts-image (image-either left.length_is below))
      place (found_on b.cur (numbered_way part place)) (found-of b.cur (numbered_way part place)))

  pub put-room : (kept : Lengths) → KeepsNumbered part kept a.may → KeepsNumbered part kept b.may
  put-room = keeps-room a.may b.may puts-now

  module _ (grown : Owners) (mine : InPart (NumberedShape part) grown n)
      (wider : (area : ℕ) → Own area → IsOwnArea part grown area)
      (added : All (IsOwnArea part grown) more) where
    sound-also : IsNumberedSound part grown (also a n bytes)
    sound-also = record {
      on = record { part_is = on.part_is; blocks = on.blocks; size = on.size };
      chain = chain-new a.may (MayAlso a.may n bytes) puts-also (IsOwnArea part grown) wider added;
    }

    within : (m : ℕ) (block : Block) → IsPartBlock shape grown a m → b.may m block
        → MayAlso a.may n bytes m block
    within m block is may = call.adds told m block is.0 may

    holds-also : (place : List ℕ) (item : Option Item)
        → MayHold (NumberedShape part) (MayAlso a.may n bytes) place item
        → MayAlsoHold (NumberedShape part) a.may Nothing place item
    holds-also place item held =
        inl (holds-before a.may (MayAlso a.may n bytes) puts-also place item held)

    pub put-adds : AddsTo (NumberedShape part) grown Nothing a b
    put-adds = record {
      touches = puts-touches tells (InPart shape grown)
          (HasOnly shape grown (MayAlsoHold shape a.may Nothing)) n bytes a b told mine call
          (λ image inside. only-weaken shape grown (MayHold shape (MayAlso a.may n bytes))
          (MayAlsoHold shape a.may Nothing) holds-also image
          (sound-image shape grown (also a n bytes) sound-also image inside));
      rest = λ place item held. holds-also place item
          (holds-less shape grown (also a n bytes) b.may sound-also within place item held);
      sound = sound-less (also a n bytes) b shape grown call.count_same call.size_same within
          sound-also;
    }

    pub put-rooms : (kept : Lengths) → KeepsNumbered part kept a.may
        → Touches (InPart (NumberedShape part) grown) (HasRoom (NumberedShape part) kept) a b
    put-rooms kept keeps = puts-touches tells (InPart shape grown) (HasRoom shape kept) n bytes a b
        told mine call
        (room-image shape grown kept (also a n bytes) sound-also
        (keeps-room a.may (MayAlso a.may n bytes) puts-also kept keeps))

  -- ---- where it is forced

  module _ (only : Only b n (λ (block : Block). block ≡ bytes)) (after : Left b b.cur)
      (below : n < a.count) where
    now : block_at b.cur n ≡ bytes
    now = only (block_at b.cur n) (after.each n (omega (arith, below, call.count_same)))

    puts-forced : (listed : List ℕ)
        → IsPutOver a n bytes (MayOnceForced listed a) (MayOnceForced listed b)
    puts-forced listed = record {
      less = λ m block below may. may.0;
      current = λ m below. (left.each m below, λ there. refl);
      adds = λ m block below may. ⊎_elim
          (λ same. inr (same, only block (subst (λ (k : ℕ). b.may k block) same may.0)))
          (λ other. ⊎_elim
          (λ old. inl (
            old,
            λ there. may.1 there ∙ cur-elsewhere tells a b m n bytes told other call,
          ))
          (λ put. absurd (other put.0)) (call.adds told m block below may.0))
          (equal_or m n);
    }

    pub put-due : DueMore (NumberedShape part) [] a b
    put-due listed place due within item held =
        due item (holds-before (MayOnceForced listed a) (MayOnceForced listed b)
        (puts-forced listed) place item held)
        ∙ sym (put-same below place)

    -- an area that rested does so still
    pub rests-still : (grown : Owners) (area : ℕ) → IsOwnArea part grown area
        → IsRestingArea part owners a area → IsRestingArea part grown b area
    rests-still grown area own rested = record {
      own = own;
      roster = λ block may. ⊎_elim
          (λ same. only block (subst (λ (m : ℕ). b.may m block) same may) ∙ sym now
          ∙ ap (block_at b.cur) (sym same))
          (λ other. ⊎_elim
          (λ old. rested.roster block old
          ∙ sym (cur-elsewhere tells a b (roster_block part area) n bytes told other call))
          (λ put. absurd (other put.0))
          (call.adds told (roster_block part area) block
          (area-owned part owners a on area rested.own (roster_block part area)
          (roster-inside part area)).0 may))
          (equal_or (roster_block part area) n);
    }

    pub put-rests : (grown : Owners) → ((area : ℕ) → Own area → IsOwnArea part grown area)
        → All (IsRestingArea part grown b) more → IsNumberedAtRest part grown b
    put-rests grown wider added = record {
      on = on-still (NumberedShape part) a b on call.count_same call.size_same;
      chain = chain-new a.may b.may puts-now (IsRestingArea part grown b)
          (λ area own. rests-still grown area (wider area own) (resting area own)) added;
    }
