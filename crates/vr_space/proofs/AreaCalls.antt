-- Calls that put into one area of a keyed part, one after another: what they add to what its places
-- may hold, what has to be forced then, and the room that they leave.
use Rattle.std.proofs.Common.{◌≡◌, ◌⊎◌, inl, inr, ⊎_elim, ℕ, Bool, IsTrue, List, [], Option, ap, ◌∙◌}
use Rattle.std.proofs.Common.{arith}
use Rattle.vr_types.specs.Content.{Item}
use Rattle.vr_types.specs.Image.{Block, Image, block_at}
use Rattle.vr_types.specs.Seen.{Seen}
use Rattle.vr_types.specs.Blocks.{Keeps}
use Rattle.vr_types.specs.Regions.{Touches}
use Rattle.vr_types.proofs.CallerLemmas.{keeps-touches, touches-then, touches-weaken}
use Rattle.vr_space.specs.Room.{Lengths}
use Rattle.vr_space.specs.Way.{MayOnceForced}
use Rattle.vr_space.specs.Keyed.{InArea, IsKeyedAtRest, IsKeyedSound, KeepsEnds, KeepsRoom, Keyed}
use Rattle.vr_space.specs.Keyed.{area_way}
use Rattle.vr_space.specs.Part.{Nothing}
use Rattle.vr_space.specs.AreaCalls.{AddsHere, DueMoreAtHere, DueMoreHere, HasHere, HasRoomHere}
use Rattle.vr_space.specs.AreaCalls.{IsDueHere, MayAlsoHoldHere, MayHoldHere, SameHere, SetsHere}
use Rattle.vr_space.specs.AreaCalls.{item_here}
use Rattle.vr_space.proofs.Ways.{find-less}
use Rattle.vr_space.proofs.Ends.{ends-after, ends-less, ends-then}
use Rattle.vr_space.proofs.KeyedSound.{IsBlock, head-block, keyed-image, keyed-less, keyed-within}
use Rattle.vr_space.proofs.PartBlocks.{keyed-rest}
use Rattle.vr_space.proofs.Due.{on-way-due}
use Rattle.vr_space.proofs.Rooms.{area-room-image, area-room-less}

-- ---- what calls add, one after another

-- what is allowed in an image may be allowed more widely
pub here-weaken : (part : Keyed) (old : Seen) (O P : List ℕ → Option Item → Type 0)
    → ((place : List ℕ) (item : Option Item) → O place item → P place item)
    → (image : Image) → HasHere part old O image → HasHere part old P image
here-weaken part old O P wider image has = record {
  head = has.head;
  intervals = has.intervals;
  before = has.before;
  allowed = has.allowed;
  ends = has.ends;
  each = λ place. wider place (item_here part image place) (has.each place);
}

-- An image with the ends of a head that might be left after a call has those of one that might be
-- left before it.
pub here-since : (part : Keyed) (a b : Seen) (O : List ℕ → Option Item → Type 0)
    → KeepsEnds part a b → (image : Image) → HasHere part b O image → HasHere part a O image
here-since part a b O keeps image has =
    let from = keeps has.before has.allowed in
    record {
      head = has.head;
      intervals = has.intervals;
      before = from.0;
      allowed = from.1;
      ends = ends-after from.0 has.before (block_at image part.head) from.2 has.ends;
      each = has.each;
    }

-- what calls add may be allowed more widely
pub adds-here-weaken : (part : Keyed) (A C : List ℕ → Option Item → Type 0) (a b : Seen)
    → AddsHere part A a b
    → ((place : List ℕ) (item : Option Item) → A place item → C place item)
    → AddsHere part C a b
adds-here-weaken part A C a b call wider =
    let over : (place : List ℕ) (item : Option Item) → MayAlsoHoldHere part a.may A place item
    → MayAlsoHoldHere part a.may C place item =
    λ place item. ⊎_elim (λ old. inl old) (λ new. inr (wider place item new)) in
    record {
      touches = touches-weaken (InArea part) _ _ a b call.touches
          (here-weaken part a (MayAlsoHoldHere part a.may A) (MayAlsoHoldHere part a.may C) over);
      rest = λ place item holds. over place item (call.rest place item holds);
      sound = call.sound;
      ends = call.ends;
    }

-- two calls add what each allows
pub here-then : (part : Keyed) (A C : List ℕ → Option Item → Type 0) (a b c : Seen)
    → AddsHere part A a b → AddsHere part C b c
    → AddsHere part (λ place item. A place item ⊎ C place item) a c
here-then part A C a b c first second =
    let both : List ℕ → Option Item → Type 0 = λ place item. A place item ⊎ C place item in
    let early : (place : List ℕ) (item : Option Item) → MayAlsoHoldHere part a.may A place item
    → MayAlsoHoldHere part a.may both place item =
    λ place item. ⊎_elim (λ old. inl old) (λ new. inr (inl new)) in
    let late : (place : List ℕ) (item : Option Item) → MayAlsoHoldHere part b.may C place item
    → MayAlsoHoldHere part a.may both place item =
    λ place item. ⊎_elim (λ old. early place item (first.rest place item old))
    (λ new. inr (inr new)) in
    record {
      touches = touches-then (InArea part) _ a b c
          (touches-weaken (InArea part) _ _ a b first.touches
          (here-weaken part a (MayAlsoHoldHere part a.may A) (MayAlsoHoldHere part a.may both)
          early))
          (touches-weaken (InArea part) _ _ b c second.touches
          (λ image has. here-since part a b (MayAlsoHoldHere part a.may both) first.ends image
          (here-weaken part b (MayAlsoHoldHere part b.may C) (MayAlsoHoldHere part a.may both)
          late image has)));
      rest = λ place item holds. late place item (second.rest place item holds);
      sound = second.sound;
      ends = ends-then part a b c first.ends second.ends;
    }

-- a call that adds nothing, and then another
pub nothing-then-here : (part : Keyed) (A : List ℕ → Option Item → Type 0) (a b c : Seen)
    → AddsHere part Nothing a b → AddsHere part A b c → AddsHere part A a c
nothing-then-here part A a b c first second =
    adds-here-weaken part _ A a c (here-then part Nothing A a b c first second)
    (λ place item. ⊎_elim (λ none. absurd none) (λ new. new))

-- and the other way round
pub then-nothing-here : (part : Keyed) (A : List ℕ → Option Item → Type 0) (a b c : Seen)
    → AddsHere part A a b → AddsHere part Nothing b c → AddsHere part A a c
then-nothing-here part A a b c first second =
    adds-here-weaken part _ A a c (here-then part A Nothing a b c first second)
    (λ place item. ⊎_elim (λ new. new) (λ none. absurd none))

-- each place keeps its item through both
pub same-here-then : (part : Keyed) (a b c : Image) → SameHere part a b → SameHere part b c
    → SameHere part a c
same-here-then part a b c first second place = second place ∙ first place

-- a record set after a call that leaves each its own
pub sets-here-after : (part : Keyed) (at : List ℕ) (bytes : Option (List ℕ)) (a b c : Image)
    → SameHere part a b → SetsHere part at bytes b c → SetsHere part at bytes a c
sets-here-after part at bytes a b c first second = record {
  here = second.here;
  others = λ place other. second.others place other ∙ first place;
}

-- ---- what has to be forced

-- calls after which nothing more has to be forced, and then others
pub due-here-then : (part : Keyed) (put : List ℕ) (a b c : Seen) → DueMoreHere part [] a b
    → DueMoreHere part put b c → DueMoreHere part put a c
due-here-then part put a b c first second listed place due within =
    second listed place (first listed place due (λ n there. absurd (omega (arith, there.1)))) within

-- and then a record set
pub due-at-here-then : (part : Keyed) (at put : List ℕ) (a b c : Seen) → DueMoreHere part [] a b
    → DueMoreAtHere part at put b c → DueMoreAtHere part at put a c
due-at-here-then part at put a b c first second listed place due either =
    second listed place (first listed place due (λ n there. absurd (omega (arith, there.1)))) either

-- a record set needs no more than the blocks that were put
pub due-at-here-more : (part : Keyed) (at put : List ℕ) (a b : Seen)
    → DueMoreAtHere part at put a b → DueMoreHere part put a b
due-at-here-more part at put a b call listed place due within = call listed place due (inr within)

-- What is due to some blocks is due to others by which a crash leaves no more.
pub due-here-less : (part : Keyed) (listed left place : List ℕ) (a b : Seen) → IsKeyedSound part a
    → ((n : ℕ) (block : Block) → IsBlock part a n → MayOnceForced left b n block
    → MayOnceForced listed a n block)
    → item_here part b.cur place ≡ item_here part a.cur place
    → IsDueHere part listed a place → IsDueHere part left b place
due-here-less part listed left place a b sound =
    on-way-due (IsBlock part a) listed left (area_way part place) a b
    (keyed-within part a sound place)

-- ---- calls that put nothing

module _ (tells : Bool) (told : IsTrue tells) (part : Keyed) (a b : Seen) (call : Keeps tells a b)
  where
    -- a crash may leave no more
    pub less-here : (n : ℕ) (block : Block) → IsBlock part a n → b.may n block → a.may n block
    less-here n block is may = call.adds_none told n block is.0 may

    -- the area stays at rest,
    pub rest-here-keeps : IsKeyedAtRest part a → IsKeyedAtRest part b
    rest-here-keeps rests = keyed-rest part a b call.count_same call.size_same less-here
        (ap (λ (image : Image). block_at image part.head) (call.content told)) rests

    -- with the item of each place
    pub same-here-keeps : SameHere part a.cur b.cur
    same-here-keeps place =
        ap (λ (image : Image). item_here part image place) (call.content told)

    module _ (sound : IsKeyedSound part a) where
      pub ends-here-keeps : KeepsEnds part a b
      ends-here-keeps = ends-less part a b
          (λ top may. less-here part.head top (head-block part a sound) may)

      -- they add nothing,
      pub keeps-here : AddsHere part Nothing a b
      keeps-here = record {
        touches = keeps-touches tells (InArea part) _ a b told call
            (λ image left. here-weaken part a (MayHoldHere part a.may) _
            (λ place item held. inl held) image (keyed-image part a sound image left));
        rest = λ place item holds. inl (find-less (IsBlock part a) b.may a.may item less-here
            (area_way part place) (keyed-within part a sound place) holds);
        sound = keyed-less part a b call.count_same call.size_same less-here sound;
        ends = ends-here-keeps;
      }

      -- what had to be forced has to be,
      pub due-here-keeps : DueMoreHere part [] a b
      due-here-keeps listed place due within =
          due-here-less part listed listed place a b sound
          (λ n block is may. (
            less-here n block is may.0,
            λ there. may.1 there
                ∙ ap (λ (image : Image). block_at image n) (call.content told),
          )) (same-here-keeps place) due

      -- and what is kept has room, in the image of each moment too.
      pub room-here-keeps : (kept : Lengths) → KeepsRoom part kept a → KeepsRoom part kept b
      room-here-keeps kept room = area-room-less part kept a b less-here sound room

      pub rooms-here-keep : (kept : Lengths) → KeepsRoom part kept a
          → Touches (InArea part) (HasRoomHere part kept) a b
      rooms-here-keep kept room = keeps-touches tells (InArea part) (HasRoomHere part kept) a b
          told call (area-room-image part kept a sound room)
