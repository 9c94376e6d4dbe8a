-- An area of a keyed part after a put into one of its intervals: at rest, with room, what has to be
-- forced, and which record each place has.
use Rattle.std.proofs.Common.{◌≡◌, ◌≢◌, ⊎_elim, ◌<◌, ◌+◌, ℕ, Bool, IsTrue, List}
use Rattle.std.proofs.Common.{[], ◌∷◌, Option, Some, None, refl, sym, ap, subst, ◌∙◌}
use Rattle.std.proofs.Common.{arith}
use Rattle.std.specs.Prelude.{IfSome, slice_index}
use Rattle.std.specs.Option.{option_map}
use Rattle.vr_types.specs.Content.{Item, item_at}
use Rattle.vr_types.specs.Content.Item.{Standing}
use Rattle.vr_types.specs.Image.{Block, block_at}
use Rattle.vr_types.specs.Seen.{Seen, Left}
use Rattle.vr_types.specs.Blocks.{Puts}
use Rattle.vr_types.specs.Regions.{Touches}
use Rattle.vr_types.proofs.CallerLemmas.{cur-elsewhere, puts-touches}
use Rattle.vr_seqset.specs.Entry.{Entry}
use Rattle.vr_space.specs.Way.{found_on, MayFind, MayOnceForced}
use Rattle.vr_space.specs.Room.{Lengths, Range, HaveRoom}
use Rattle.vr_space.specs.Keyed.{HasEnds, Keyed, HoldsRange, IsKeyedSound, IsKeyedAtRest, KeepsRoom}
use Rattle.vr_space.specs.Keyed.{InArea, entries_of, entry_block, entry_in}
use Rattle.vr_space.specs.Keyed.{lengths_of, low_of, records_of, way_in, way_under}
use Rattle.vr_space.specs.AreaCalls.{HasRoomHere, IsDueHere, SetsHere, item_here}
use Rattle.vr_space.proofs.CallerLemmas.{area-room-image, each-less, entry-in-above, head-in}
use Rattle.vr_space.proofs.CallerLemmas.{same-ends}
use Rattle.vr_split.specs.Switching.{OfRead, entry_read}
use Rattle.vr_split.proofs.Puts.{also, OfBlock, each-also, KeepsOthers, equal_or}
use Rattle.vr_split.proofs.Puts.{head-still, still-found, led-is, interval-sound}

module _ (part : Keyed) (tells : Bool) (told : IsTrue tells) (a b : Seen) (n : ℕ) (bytes : Block)
  where
    -- a head that may be left might have been left before
    head-before : IsKeyedSound part a → Puts tells n bytes a b → n ≢ part.head → (top : Block)
        → b.may part.head top → a.may part.head top
    head-before sound call other top may =
        ⊎_elim (λ old. old) (λ new. absurd (other (sym new.0)))
        (call.adds told part.head top (omega (arith, sound.area)) may)

    -- the current head has its ends
    pub current-after : Puts tells n bytes a b → n ≢ part.head
        → HasEnds (block_at a.cur part.head) (block_at b.cur part.head)
    current-after call other = subst (HasEnds (block_at a.cur part.head))
        (sym (head-still part tells told a b n bytes call other))
        (same-ends (block_at a.cur part.head))

    -- the area is at rest
    pub rest-after : IsKeyedAtRest part a → Puts tells n bytes a b → n ≢ part.head
        → IsKeyedSound part b → IsKeyedAtRest part b
    rest-after rests call other sound = record {
      sound = sound;
      one_head = λ top may. rests.one_head top (head-before rests.sound call other top may)
          ∙ sym (head-still part tells told a b n bytes call other);
    }

    -- it has room for what is kept, where the bytes have
    pub room-after : (kept : Lengths) → IsKeyedAtRest part a → Puts tells n bytes a b
        → n ≢ part.head
        → KeepsRoom part kept a
        → OfRead part a.cur n (λ range. HaveRoom part.size (lengths_of part kept range bytes))
        → KeepsRoom part kept b
    room-after kept rests call other room of = record {
      places = room.places;
      each = λ top may.
          let before : a.may part.head top = head-before rests.sound call other top may in
          each-less part (also a n bytes) b
          (λ range block. HaveRoom part.size (lengths_of part kept range block)) (low_of top)
          (entries_of top)
          (λ k block is now. call.adds told k block is.0 now) rests.sound.area
          (head-in part top (rests.sound.heads top before))
          (each-also part a n bytes
          (λ range block. HaveRoom part.size (lengths_of part kept range block)) (low_of top)
          (entries_of top) (room.each top before)
          (subst (λ (head : Block). OfBlock part n (low_of head) (entries_of head)
          (λ range. HaveRoom part.size (lengths_of part kept range bytes)))
          (sym (rests.one_head top before)) of));
    }

    -- with the bytes too, whichever head is left
    room-also : (kept : Lengths) → IsKeyedAtRest part a → n ≢ part.head → KeepsRoom part kept a
        → OfRead part a.cur n (λ range. HaveRoom part.size (lengths_of part kept range bytes))
        → KeepsRoom part kept (also a n bytes)
    room-also kept rests other room of = record {
      places = room.places;
      each = λ top may.
          let before : a.may part.head top =
          ⊎_elim (λ old. old) (λ new. absurd (other (sym new.0))) may in
          each-also part a n bytes
          (λ range block. HaveRoom part.size (lengths_of part kept range block)) (low_of top)
          (entries_of top) (room.each top before)
          (subst (λ (head : Block). OfBlock part n (low_of head) (entries_of head)
          (λ range. HaveRoom part.size (lengths_of part kept range bytes)))
          (sym (rests.one_head top before)) of);
    }

    -- and so has the image of each moment
    pub rooms-after : (kept : Lengths) → IsKeyedAtRest part a → Puts tells n bytes a b
        → n ≢ part.head → InArea part n → KeepsRoom part kept a
        → OfRead part a.cur n (λ range. HoldsRange part range bytes)
        → OfRead part a.cur n (λ range. HaveRoom part.size (lengths_of part kept range bytes))
        → Touches (InArea part) (HasRoomHere part kept) a b
    rooms-after kept rests call other inside room holds of =
        puts-touches tells (InArea part) (HasRoomHere part kept) n bytes a b told inside call
        (area-room-image part kept (also a n bytes)
        (interval-sound part a n bytes rests other holds) (room-also kept rests other room of))

    -- how a place is read by way of the same head
    read-after : Puts tells n bytes a b → n ≢ part.head → (place : List ℕ)
        → item_here part b.cur place ≡ found_on b.cur
        (way_in part place (entry_read part a.cur place))
    read-after call other place =
        ap (λ (top : Block). found_on b.cur (way_under part place top))
        (head-still part tells told a b n bytes call other)

    -- one place has the record that the bytes have there, and each other what it had
    pub sets-one : (at : List ℕ) (given : Option (List ℕ)) (led : Range × Entry)
        → Puts tells n bytes a b → n ≢ part.head → block_at b.cur n ≡ bytes
        → entry_read part a.cur at ≡ Some led → entry_block part led.1 ≡ n
        → item_at (records_of part bytes) at ≡ option_map Standing given
        → KeepsOthers part a n bytes at (option_map Standing given)
        → SetsHere part at given a.cur b.cur
    sets-one at given led call other now leads here has keeps = record {
      here = read-after call other at
          ∙ ap (λ (found : Option (Range × Entry)). found_on b.cur (way_in part at found)) leads
          ∙ ap (λ (k : ℕ). item_at (records_of part (block_at b.cur k)) at) here
          ∙ ap (λ (block : Block). item_at (records_of part block) at) now ∙ has;
      others = λ place apart. read-after call other place
          ∙ still-found part tells told a b n bytes place
          (entry_read part a.cur place) call (λ found is there. ⊎_elim
          (λ same. ap (λ (block : Block). item_at (records_of part block) place) now ∙ same
          ∙ led-is part tells told a b n bytes place found is
          ∙ ap (λ (k : ℕ). item_at (records_of part (block_at a.cur k)) place) there)
          (λ it. absurd (apart it.0))
          (keeps place found is there));
    }

    -- what else may be found at a place once the list is forced
    due-found : (listed place : List ℕ) (item : Option Item) (found : Option (Range × Entry))
        → part.head + part.area < a.count → Puts tells n bytes a b
        → ((at : Range × Entry) → found ≡ Some at → entry_block part at.1 < a.count)
        → ((at : Range × Entry) → found ≡ Some at → entry_block part at.1 ≡ n → (block : Block)
        → MayOnceForced listed b n block
        → item_at (records_of part block) place ≡ found_on b.cur (way_in part place found))
        → (MayFind (MayOnceForced listed a) item (way_in part place found)
        → item ≡ found_on a.cur (way_in part place found))
        → MayFind (MayOnceForced listed b) item (way_in part place found)
        → item ≡ found_on b.cur (way_in part place found)
    due-found listed place item None area call below leads due is = is
    due-found listed place item (Some at) area call below leads due is = ⊎_elim
        (λ same. is.2
        ∙ leads at refl same is.0 (subst (λ (k : ℕ). MayOnceForced listed b k is.0) same is.1))
        (λ apart.
        let still : block_at b.cur (entry_block part at.1) ≡ block_at a.cur
        (entry_block part at.1) =
        cur-elsewhere tells a b (entry_block part at.1) n bytes told apart call in
        let may : a.may (entry_block part at.1) is.0 =
        ⊎_elim (λ old. old) (λ new. absurd (apart new.0))
        (call.adds told (entry_block part at.1) is.0 (below at refl) is.1.0) in
        due (is.0, (may, λ there. is.1.1 there ∙ still), is.2)
        ∙ sym (ap (λ (block : Block). item_at (records_of part block) place) still))
        (equal_or part tells told a b n bytes (entry_block part at.1) n)

    below-some : (found : Option (Range × Entry)) (at : Range × Entry) → found ≡ Some at
        → IfSome found (λ f. slice_index f.1.intervals 0 < part.area)
        → slice_index at.1.intervals 0 < part.area
    below-some found at is within =
        subst (λ (o : Option (Range
        × Entry)). IfSome o (λ f. slice_index f.1.intervals 0 < part.area)) is within

    -- What had to be forced for a place has to be, where all that may be left of the block once it
    -- is has the record that is read there.
    pub due-put : (listed place : List ℕ) → IsKeyedAtRest part a → Left a a.cur
        → Puts tells n bytes a b → n ≢ part.head
        → ((at : Range × Entry) → entry_read part a.cur place ≡ Some at
        → entry_block part at.1 ≡ n → (block : Block) → MayOnceForced listed b n block
        → item_at (records_of part block) place ≡ item_here part b.cur place)
        → IsDueHere part listed a place → IsDueHere part listed b place
    due-put listed place rests left call other leads due item is =
        let now : Block = block_at a.cur part.head in
        let may : a.may part.head now = left.each part.head (omega (arith, rests.sound.area)) in
        let top : is.0 ≡ now =
        rests.one_head is.0 (head-before rests.sound call other is.0 is.1.0) in
        let found : Option (Range × Entry) = entry_in now place in
        let within : IfSome found (λ f. slice_index f.1.intervals 0 < part.area) =
        entry-in-above part.area (low_of now) (entries_of now) place
        (head-in part now (rests.sound.heads now may)) in
        due-found listed place item found rests.sound.area call
        (λ at some. omega (arith, rests.sound.area, below-some found at some within))
        (λ at some here block once. leads at some here block once ∙ read-after call other place)
        (λ find. due item (now, (may, λ there. refl), find))
        (subst (λ (head : Block). MayFind (MayOnceForced listed b) item (way_under part place head))
        top is.2)
        ∙ sym (read-after call other place)

-- where no entry leads to the block, what is said of those that do is so
pub of-nothing : (part : Keyed) (n : ℕ) (P : Range
    → Type 0) (low : Option (List ℕ)) (entries : List Entry)
    → OfBlock part n low entries (λ range. ⊥) → OfBlock part n low entries P
of-nothing part n P low [] none = tt
of-nothing part n P low (entry ∷ entries) none =
    (λ here. absurd (none.0 here), of-nothing part n P (Some entry.high) entries none.1)
