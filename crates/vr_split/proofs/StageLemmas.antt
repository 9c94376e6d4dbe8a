-- Stages of a split, one put after another.
use Rattle.std.proofs.Common.{◌≡◌, ◌≢◌, ◌<◌, ℕ, Bool, IsTrue, []}
use Rattle.std.proofs.Common.{Some, sym, ap, subst, ◌∙◌, arith}
use Rattle.vr_types.specs.Content.{item_at}
use Rattle.vr_types.specs.Image.{Block, Image, block_at}
use Rattle.vr_types.specs.Seen.{Seen, Left, Only}
use Rattle.vr_types.specs.Blocks.{Puts}
use Rattle.vr_types.proofs.CallerLemmas.{touches-then}
use Rattle.vr_space.specs.Room.{Lengths, HaveRoom}
use Rattle.vr_space.specs.Keyed.{InArea, Keyed, HoldsRange, entries_of, entry_in, lengths_of, low_of}
use Rattle.vr_space.specs.Keyed.{records_of}
use Rattle.vr_space.specs.Part.{Nothing}
use Rattle.vr_space.specs.AreaCalls.{HasRoomHere, SameHere}
use Rattle.vr_space.proofs.CallerLemmas.{due-here-then, ends-after}
use Rattle.vr_space.proofs.CallerLemmas.{nothing-then-here, same-here-then}
use Rattle.vr_split.specs.Switching.{OfBlock, IsIntervalBlock, IsResting, CanReplace, KeepsPart}
use Rattle.vr_split.specs.Switching.{IsStageDone}
use Rattle.vr_split.proofs.Puts.{interval-sound, rewrite-adds, rewrite-same, sound-put}
use Rattle.vr_split.proofs.After.{current-after, rest-after, room-after, rooms-after, due-put}

module _ (part : Keyed) (tells : Bool) (told : IsTrue tells) (a b : Seen) (n : ℕ) (bytes : Block)
    (kept : Lengths) where
  other-than : IsIntervalBlock part n → n ≢ part.head
  other-than block same = omega (arith, block.low, same)

  -- an interval is replaced by one with its records
  pub keeps-replace : IsResting part kept a → IsIntervalBlock part n → n < a.count → Left a a.cur
      → CanReplace part kept a.cur n bytes → Puts tells n bytes a b → KeepsPart part kept a b
  keeps-replace resting block below left can call = record {
    adds = rewrite-adds part tells told a b n bytes resting.rests left call (other-than block)
        (omega (arith, block.low), block.high) can.holds can.records;
    same = rewrite-same part tells told a b n bytes call (other-than block) below left.length_is
        can.records;
    current = current-after part tells told a b n bytes call (other-than block);
    room = room-after part tells told a b n bytes kept resting.rests call (other-than block)
        resting.room can.room;
    rooms = rooms-after part tells told a b n bytes kept resting.rests call (other-than block)
        (omega (arith, block.low), block.high) resting.room can.holds can.room;
  }

  -- and is stable with it
  pub done-replace : IsResting part kept a → IsIntervalBlock part n → n < a.count → Left a a.cur
      → CanReplace part kept a.cur n bytes → Puts tells n bytes a b
      → Only b n (λ block. block ≡ bytes) → IsStageDone part a b
  done-replace resting block below left can call only = record {
    rests = rest-after part tells told a b n bytes resting.rests call (other-than block)
        (sound-put part tells n bytes a b told call
        (interval-sound part a n bytes resting.rests (other-than block) can.holds));
    due = λ listed place due within. due-put part tells told a b n bytes listed place resting.rests
        left call (other-than block)
        (λ at leads here there once. ap (λ (x : Block). item_at (records_of part x) place)
        (only there once.0) ∙ can.records place at leads here
        ∙ sym ((keeps-replace resting block below left can call).same place))
        due;
  }

module _ (part : Keyed) (kept : Lengths) where
  pub keeps-then : (a b c : Seen) → KeepsPart part kept a b → KeepsPart part kept b c
      → KeepsPart part kept a c
  keeps-then a b c first second = record {
    adds = nothing-then-here part Nothing a b c first.adds second.adds;
    same = same-here-then part a.cur b.cur c.cur first.same second.same;
    current = ends-after (block_at a.cur part.head) (block_at b.cur part.head)
        (block_at c.cur part.head) first.current second.current;
    room = second.room;
    rooms = touches-then (InArea part) (HasRoomHere part kept) a b c first.rooms second.rooms;
  }

  pub done-then : (a b c : Seen) → IsStageDone part a b → IsStageDone part b c
      → IsStageDone part a c
  done-then a b c first second = record {
    rests = second.rests;
    due = due-here-then part [] a b c first.due second.due;
  }

  -- an interval may still be replaced where the head and the records stay
  pub replace-still : (a b : Image) (n : ℕ) (bytes : Block)
      → block_at b part.head ≡ block_at a part.head → SameHere part a b
      → CanReplace part kept a n bytes → CanReplace part kept b n bytes
  replace-still a b n bytes head same can = record {
    holds = subst
        (λ (top : Block). OfBlock part n (low_of top) (entries_of top)
        (λ range. HoldsRange part range bytes)) (sym head) can.holds;
    room = subst (λ (top : Block). OfBlock part n (low_of top) (entries_of top)
        (λ range. HaveRoom part.size (lengths_of part kept range bytes))) (sym head) can.room;
    records = λ place at leads here. can.records place at
        (subst (λ (top : Block). entry_in top place ≡ Some at) head leads) here
        ∙ sym (same place);
  }
