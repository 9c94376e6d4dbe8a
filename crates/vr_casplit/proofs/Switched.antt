-- What the last stage of a split leaves of its part: the records that it had, with the room that
-- was kept, whether the put fails or not; and a part at rest where it is done.
use Rattle.std.proofs.Common.{◌≡◌, ◌⊎◌, inl, inr, ⊎_elim, ℕ, zero, suc, ◌<◌, Bool, IsTrue, List, []}
use Rattle.std.proofs.Common.{Option, Some, None, refl, sym, ap, subst, ◌∙◌, arith}
use Rattle.std.specs.Prelude.{Contains}
use Rattle.vr_types.specs.Blocks.{Puts}
use Rattle.vr_types.specs.Content.{Item}
use Rattle.vr_types.specs.Geometry.{area_count}
use Rattle.vr_types.specs.Image.{Block, Image, MayAlso, block_at}
use Rattle.vr_types.specs.Seen.{Left, Only, Seen}
use Rattle.vr_seqset.specs.Reading.{record_in}
use Rattle.vr_types.proofs.CallerLemmas.{cur-elsewhere, cur-put, puts-touches}
use Rattle.vr_space.specs.Areas.{ChainKeepsRoom, IsChainAtRest, IsChainSound, IsOwnedArea}
use Rattle.vr_space.specs.Areas.{IsQuietArea, KeyedChain, KnowsAreas, area_for, area_of, areas_in}
use Rattle.vr_space.specs.Areas.{chain_way}
use Rattle.vr_space.specs.Areas.{head_in, head_of, intervals_in}
use Rattle.vr_space.specs.Keyed.{IsKeyedSound, KeepsRoom, area_way}
use Rattle.vr_space.specs.Owners.{Owners}
use Rattle.vr_space.specs.Part.{AddsTo, DueMore, HasOnly, HasRoom, InPart, KeyedShape, MayAlsoHold}
use Rattle.vr_space.specs.Part.{MayHold, Nothing, SameRecords, item_of}
use Rattle.vr_space.specs.Room.{Lengths}
use Rattle.vr_space.specs.Rosters.{IsOf}
use Rattle.vr_space.specs.Way.{Found, MayFind, MayOnceForced, Reads, Way, found_on}
use Rattle.vr_space.proofs.CallerLemmas.{MayHoldBy, by-area, chain-on-less, due-here}
use Rattle.vr_space.proofs.CallerLemmas.{each-after-less}
use Rattle.vr_space.proofs.CallerLemmas.{hold-up, item-of-area, item-of-none, links-each}
use Rattle.vr_space.proofs.CallerLemmas.{only-weaken}
use Rattle.vr_space.proofs.CallerLemmas.{room-here, room-image, sound-image}
use Rattle.vr_space.specs.Moves.{cut_of, with_area, with_end}
use Rattle.vr_casplit.specs.Growing.{LeavesRecords, LeavesRest}
use Rattle.vr_casplit.proofs.SwitchedAreas.{IsShortened, into-is, knows-switched, other-same}
use Rattle.vr_casplit.proofs.SwitchedAreas.{switched-count}
use Rattle.vr_casplit.proofs.SwitchedLinks.{links-switched, other-only, rests-inside}
use Rattle.vr_casplit.proofs.SwitchedWay.{way-switched}
use Rattle.vr_casplit.proofs.Switching.{CanSwitch, Narrows, area-room, here, into-room, other-room}
use Rattle.vr_casplit.proofs.Switching.{upper-only}

-- ---- the way in one image

found-is : (image : Image) (way : Way) → MayFind (IsOf image) (found_on image way) way
found-is image (Found item) = refl
found-is image (Reads n next) = (block_at image n, refl, found-is image (next (block_at image n)))

is-found : (image : Image) (item : Option Item) (way : Way) → MayFind (IsOf image) item way
    → item ≡ found_on image way
is-found image item (Found found) is = is
is-found image item (Reads n next) (block, same, found) =
    is-found image item (next block) found
    ∙ ap (λ (one : Block). found_on image (next one)) same

-- what is seen, and what the put may leave beside it
abbrev pub also : Seen → ℕ → Block → Seen
also a n bytes = record {
  count = a.count;
  size = a.size;
  cur = a.cur;
  may = MayAlso a.may n bytes;
  moment = a.moment;
  images = a.images;
}

one-less : (n : ℕ) → 0 < n → (k : ℕ) × (n ≡ suc k)
one-less zero some = absurd (omega (arith, some))
one-less (suc k) some = (k, refl)

module _ (tells : Bool) (told : IsTrue tells) (part : KeyedChain) (owners : Owners)
    (area into stay : ℕ) (a b : Seen) (lower : Block)
    (can : CanSwitch part owners area into stay a lower)
    (call : Puts tells (head_of part area) lower a b) where
  abbrev head : ℕ
  head = head_of part area

  abbrev more : Seen
  more = also a (head_of part area) lower

  below : head_of part area < a.count
  below = omega (arith, (here part owners area into stay a lower can).1.area)

  counted : (k : ℕ) × (area_count part.geometry ≡ suc k)
  counted = one-less (area_count part.geometry) (omega (arith, can.rests.on.part_is.first))

  inside : InPart (KeyedShape part) owners (head_of part area)
  inside = (here part owners area into stay a lower can).0.own.owned (head_of part area)
      (omega arith, omega arith)

  -- ---- what is allowed

  also-narrows : Narrows part area lower a (MayAlso a.may head lower) a.may
  also-narrows = record {
    others = λ n block under other. ⊎_elim (λ old. old) (λ new. absurd (other new.0));
    heads = λ top. ⊎_elim
        (λ old. inl ((here part owners area into stay a lower can).0.one_head top old))
        (λ new. inr new.1);
    allowed = λ n block under may. may;
    current = λ n under. can.left.each n under;
  }

  then-narrows : Narrows part area lower a b.may a.may
  then-narrows = record {
    others = λ n block under other may.
        also-narrows.others n block under other (call.adds told n block under may);
    heads = λ top may. also-narrows.heads top (call.adds told head top below may);
    allowed = λ n block under may. may;
    current = λ n under. can.left.each n under;
  }

  -- what is read is the old head, or the shortened one
  now-head : (block_at b.cur (head_of part area) ≡ head_in part a.cur area)
      ⊎ (block_at b.cur (head_of part area) ≡ lower)
  now-head = ⊎_elim
      (λ same. inl (ap (λ (image : Image). block_at image head) same))
      (λ set. inr (cur-put a head lower below can.left.length_is b.cur set))
      (call.content told)

  read-narrows : Narrows part area lower a (IsOf b.cur) (IsOf a.cur)
  read-narrows = record {
    others = λ n block under other is. is ∙ cur-elsewhere tells a b n head lower told other call;
    heads = λ top is. ⊎_elim (λ old. inl (is ∙ old)) (λ new. inr (is ∙ new)) now-head;
    allowed = λ n block under is. subst (a.may n) (sym is) (can.left.each n under);
    current = λ n under. refl;
  }

  -- ---- what is in order

  module _ (now : Seen) (count : now.count ≡ a.count) (size : now.size ≡ a.size)
      (narrows : Narrows part area lower a now.may a.may) where
    sound-now : IsChainSound part owners now
    sound-now = record {
      on = chain-on-less part a now count size can.rests.on;
      chain = links-switched part owners area into stay a lower can now count size narrows
          (IsOwnedArea part owners)
          (λ at is. (rests-inside part owners area into stay a lower can at is).0.own) can.own
          counted.0 counted.1;
    }

    room-now : (kept : Lengths) → ChainKeepsRoom part kept a → ChainKeepsRoom part kept now
    room-now kept room =
        let has : (at : ℕ) → Contains (areas_in part a.cur) at → KeepsRoom (area_of part at) kept a
        = room-here part owners a can.rests can.left kept room in
        each-after-less part
        (λ at. KeepsRoom (area_of part at) kept now × IsKeyedSound (area_of part at) now)
        (λ at. KeepsRoom (area_of part at) kept now) now.may now.may (λ at is. is.0)
        (λ at is top may. may) (area_count part.geometry) part.first
        (links-each part (λ at. KeepsRoom (area_of part at) kept now) now
        (area_count part.geometry) part.first None
        (links-switched part owners area into stay a lower can now count size narrows
        (λ at. KeepsRoom (area_of part at) kept now)
        (λ at is. by-area (λ one. KeepsRoom (area_of part one) kept now) area at
        (area-room part owners area into stay a lower can now count size narrows kept
        (has area can.inside))
        (λ differ. other-room part owners area into stay a lower can now count size narrows kept at
        differ (rests-inside part owners area into stay a lower can at is) (has at is)))
        (into-room part owners area into stay a lower can now count size narrows kept
        (has area can.inside))
        counted.0 counted.1))

  -- ---- what places may hold

  held-before : (may : ℕ → Block → Type 0) → Narrows part area lower a may a.may
      → (place : List ℕ) (item : Option Item) → MayHold (KeyedShape part) may place item
      → MayHold (KeyedShape part) a.may place item
  held-before may narrows place item holds =
      hold-up part owners a can.rests can.left place item
      (way-switched part owners area into stay a lower can may a.may narrows place item counted.0
      counted.1 holds)

  -- It adds nothing to what a place may hold,
  pub switch-adds : AddsTo (KeyedShape part) owners Nothing a b
  switch-adds = record {
    touches = puts-touches tells (InPart (KeyedShape part) owners)
        (HasOnly (KeyedShape part) owners (MayAlsoHold (KeyedShape part) a.may Nothing)) head lower
        a b told inside call
        (λ image left. only-weaken (KeyedShape part) owners (MayHold (KeyedShape part) more.may)
        (MayAlsoHold (KeyedShape part) a.may Nothing)
        (λ place item holds. inl (held-before more.may also-narrows place item holds)) image
        (sound-image (KeyedShape part) owners more (sound-now more refl refl also-narrows) image
        left));
    rest = λ place item holds. inl (held-before b.may then-narrows place item holds);
    sound = sound-now b call.count_same call.size_same then-narrows;
  }

  -- each has its record,
  pub switch-same : SameRecords (KeyedShape part) a.cur b.cur
  switch-same place = by_found (area_for part a.cur place) refl
      (way-switched part owners area into stay a lower can (IsOf b.cur) (IsOf a.cur) read-narrows
      place (item_of (KeyedShape part) b.cur place) counted.0 counted.1
      (found-is b.cur (chain_way part place)))
    where
      by_found : (found : Option ℕ) → area_for part a.cur place ≡ found
          → MayHoldBy part a.cur (IsOf a.cur) place (item_of (KeyedShape part) b.cur place) found
          → item_of (KeyedShape part) b.cur place ≡ item_of (KeyedShape part) a.cur place
      by_found None is none = none ∙ sym (item-of-none part a.cur place is)
      by_found (Some at) is held =
          is-found a.cur (item_of (KeyedShape part) b.cur place) (area_way (area_of part at) place)
          held
          ∙ sym (item-of-area part a.cur place at is)

  -- and what is kept has room.
  pub switch-leaves : (kept : Lengths) → ChainKeepsRoom part kept a
      → LeavesRecords part owners kept a b
  switch-leaves kept room = record {
    adds = switch-adds;
    same = switch-same;
    room = room-now b call.count_same call.size_same then-narrows kept room;
    rooms = puts-touches tells (InPart (KeyedShape part) owners) (HasRoom (KeyedShape part) kept)
        head lower a b told inside call
        (room-image (KeyedShape part) owners kept more (sound-now more refl refl also-narrows)
        (room-now more refl refl also-narrows kept room));
  }

  -- ---- once it is forced

  module _ (then : Left b b.cur) (only : Only b (head_of part area) (λ block. block ≡ lower)) where
    is_now : head_in part b.cur area ≡ lower
    is_now = only (head_in part b.cur area)
        (then.each (head_of part area) (omega (arith, below, call.count_same)))

    shortened : IsShortened part area lower a.cur b.cur
    shortened = record {
      others = λ n other. cur-elsewhere tells a b n head lower told other call;
      here = is_now;
    }

    -- The part is at rest,
    rest-now : IsChainAtRest part owners b
    rest-now = record {
      on = chain-on-less part a b call.count_same call.size_same can.rests.on;
      chain = links-switched part owners area into stay a lower can b call.count_same call.size_same
          then-narrows (IsQuietArea part owners b)
          (λ at is.
          let resting = rests-inside part owners area into stay a lower can at is in record {
            own = resting.0.own;
            one_head = by-area
                (λ one. Only b (head_of part one) (λ top. top ≡ head_in part b.cur one)) area at
                (λ top may. only top may ∙ sym is_now)
                (λ differ top may.
                other-only part owners area into stay a lower can b.may a.may then-narrows at
                resting differ top may
                ∙ sym
                (other-same part owners area into stay a lower can b.cur shortened at differ));
          })
          (record {
            own = can.own;
            one_head = λ top may.
                upper-only part owners area into stay a lower can b.may a.may then-narrows top may
                ∙ sym (into-is part owners area into stay a lower can b.cur shortened);
          })
          counted.0 counted.1;
    }

    once-narrows : (listed : List ℕ)
        → Narrows part area lower a (MayOnceForced listed b) (MayOnceForced listed a)
    once-narrows listed = record {
      others = λ n block under other held. (
        then-narrows.others n block under other held.0,
        λ there. held.1 there ∙ cur-elsewhere tells a b n head lower told other call,
      );
      heads = λ top held. inr (only top held.0);
      allowed = λ n block under held. held.0;
      current = λ n under. (can.left.each n under, λ there. refl);
    }

    -- and nothing more has to be forced.
    due-now : DueMore (KeyedShape part) [] a b
    due-now listed place due within item holds =
        by_found (area_for part a.cur place) refl
        (way-switched part owners area into stay a lower can (MayOnceForced listed b)
        (MayOnceForced listed a) (once-narrows listed) place item counted.0 counted.1 holds)
        ∙ sym (switch-same place)
      where
        by_found : (found : Option ℕ) → area_for part a.cur place ≡ found
            → MayHoldBy part a.cur (MayOnceForced listed a) place item found
            → item ≡ item_of (KeyedShape part) a.cur place
        by_found None is none = none ∙ sym (item-of-none part a.cur place is)
        by_found (Some at) is held =
            due-here part owners a can.rests can.left listed place due at is item held
            ∙ sym (item-of-area part a.cur place at is)

    pub switch-rests : LeavesRest part owners a b
    switch-rests = record { rests = rest-now; due = due-now }

    -- What is kept in memory of its areas is right with one more.
    pub switch-knows : (areas : List ℕ) (ends : List (List ℕ)) → KnowsAreas part areas ends a.cur
        → KnowsAreas part (with_area area into areas)
        (with_end area (cut_of stay (record_in (head_in part a.cur area))) areas ends) b.cur
    switch-knows = knows-switched part owners area into stay a lower can b.cur shortened counted.0
        counted.1

    -- Its heads lead to as many intervals as before.
    pub switch-counts : intervals_in part b.cur ≡ intervals_in part a.cur
    switch-counts = switched-count part owners area into stay a lower can b.cur shortened counted.0
        counted.1
