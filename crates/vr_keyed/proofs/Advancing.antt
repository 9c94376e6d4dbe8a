-- Where a stage is due and no split is under way, the interval that was met lacks room.
use Rattle.std.proofs.Common.{◌≡◌, ℕ, ◌+◌, ◌≤◌, Bool, true, false, List, length, refl, sym, ap}
use Rattle.std.proofs.Common.{subst, ◌∙◌, arith, Option, Some, None, IsTrue, []}
use Rattle.vr_types.specs.Image.{Block, block_at}
use Rattle.vr_types.specs.Seen.{Seen, Left}
use Rattle.vr_types.specs.Blocks.{Keeps}
use Rattle.vr_types.proofs.CallerLemmas.{touches-then}
use Rattle.vr_types.specs.declared.unit.StageKind.{StageKind}
use Rattle.vr_types.specs.declared.unit.StageKind.TheVariants.{CiCopy, CiSwitch}
use Rattle.vr_space.specs.declared.room.Room.TheVariants.{Stage, Ready, NoSpace}
use Rattle.vr_space.specs.Room.{Lengths, Range, HaveRoom, have_room, with_length}
use Rattle.vr_space.specs.Keyed.{EachMayLeave, HasEnds, HoldsRange, InArea, IsHead, IsKeyedAtRest}
use Rattle.vr_space.specs.Keyed.{KeepsRoom, Keyed}
use Rattle.vr_space.specs.Keyed.{entries_of, entry_block, lengths_of, low_of}
use Rattle.vr_space.specs.Split.{SplitNow, free_interval, room_by}
use Rattle.vr_space.specs.Met.{Met, IsMet}
use Rattle.vr_space.specs.Split.{room_by_split}
use Rattle.vr_space.specs.Part.{Nothing}
use Rattle.vr_space.specs.AreaCalls.{HasRoomHere}
use Rattle.vr_space.proofs.CallerLemmas.{due-here-keeps, due-here-then, found-in, keeps-here}
use Rattle.vr_space.proofs.CallerLemmas.{nothing-then-here, room-here-keeps, rooms-here-keep}
use Rattle.vr_space.proofs.CallerLemmas.{same-here-keeps, same-here-then}
use Rattle.vr_split.specs.Splits.{after_stage, split_by, stage_after, stage_now}
use Rattle.vr_split.specs.Switching.{KeepsPart, IsStageDone}
use Rattle.vr_keyed.specs.Advance.{IsDue}
use Rattle.vr_keyed.specs.Planned.{LacksRoom}
use Rattle.vr_keyed.proofs.Looking.{each-in}
use Rattle.vr_keyed.proofs.MetRoom.{answer-met}
use Rattle.vr_keyed.proofs.Reading.{still-current, still-head}

-- What a stage that is due says where no split is under way, and no area is free.
pub record IsDueNew (fits : Bool) (free : Option ℕ) (kind : StageKind) : Type 0 where
  pub lacks : fits ≡ false
  pub into : ℕ
  pub free_is : free ≡ Some into
  pub copy : kind ≡ CiCopy

stage-is : (one other : StageKind) → Stage one ≡ Stage other → one ≡ other
stage-is one other same = cc

new-due : (fits : Bool) (free : Option ℕ) (kind : StageKind)
    → room_by fits (room_by_split None free false) ≡ Stage kind → IsDueNew fits free kind
new-due true free kind is = absurd (other is)
  where
    other : Ready ≡ Stage kind → ⊥
    other same = cc
new-due false None kind is = absurd (other is)
  where
    other : NoSpace 1 0 ≡ Stage kind → ⊥
    other same = cc
new-due false (Some into) kind is = record {
  lacks = refl;
  into = into;
  free_is = refl;
  copy = sym (stage-is CiCopy kind is);
}

module _ (part : Keyed) (now : Seen) (left : Left now now.cur) (rests : IsKeyedAtRest part now)
    (kept : Lengths) (room : KeepsRoom part kept now) (met : Met)
    (known : IsMet part now.cur met) (place : List ℕ) (same : met.place ≡ place) (n : ℕ)
    (due : IsDue part None now.cur kept place n) where
  abbrev top : Block
  top = block_at now.cur part.head

  top-may : now.may part.head (block_at now.cur part.head)
  top-may = left.each part.head (omega (arith, rests.sound.area))

  head : IsHead part (block_at now.cur part.head)
  head = rests.sound.heads (block_at now.cur part.head) top-may

  -- it lacks room, and an interval is free
  pub due-new : IsDueNew
      (have_room part.size (with_length (lengths_of part kept met.range met.block) place n))
      (free_interval part (block_at now.cur part.head)) due.0
  due-new =
      new-due (have_room part.size (with_length (lengths_of part kept met.range met.block) place n))
      (free_interval part (block_at now.cur part.head)) due.0
      (sym (answer-met part now.cur met known None None 0 kept n place None
      (have_room part.size (with_length (lengths_of part kept met.range met.block) place n)) same
      refl refl) ∙ due.1)

  entry-may : now.may (entry_block part known.entry)
      (block_at now.cur (entry_block part known.entry))
  entry-may = left.each (entry_block part known.entry)
      (omega (
        arith,
        found-in part (block_at now.cur part.head) met.place (met.range, known.entry) head
            known.leads,
        rests.sound.area,
      ))

  -- what a crash may leave of each interval is so of the one that was met
  met-has : (Q : Range → Block → Type 0) → EachMayLeave part now (low_of top) (entries_of top) Q
      → Q met.range met.block
  met-has Q each = subst (Q met.range) (ap (block_at now.cur) known.number ∙ known.still)
      (each-in part now Q top met.place (met.range, known.entry) each known.leads
      (block_at now.cur (entry_block part known.entry)) entry-may)

  pub lacks-room : length place ≡ part.key → n + 7 ≤ part.size
      → LacksRoom part now.cur kept met place n
  lacks-room key alone = record {
    known = known;
    same = same;
    head = head;
    holds = met-has (HoldsRange part) (rests.sound.intervals top top-may);
    places = room.places;
    key = key;
    fits = met-has (λ range block. HaveRoom part.size (lengths_of part kept range block))
        (room.each top top-may);
    alone = alone;
    lacks = due-new.lacks;
  }

-- Once the copy of a split is done its switch is next.
pub after-copy : (split next : Option SplitNow) → stage_now split ≡ Some CiCopy
    → next ≡ after_stage split → stage_now next ≡ Some CiSwitch
after-copy None next copy goes = absurd cc
after-copy (Some split) next copy goes =
    let it : split.stage ≡ CiCopy = cc in
    ap stage_now goes
    ∙ ap (λ (stage : StageKind).
    stage_now (split_by (stage_after stage) split.old split.into split.cut)) it

-- ---- calls that only read, and then a stage

module _ (tells : Bool) (told : IsTrue tells) (part : Keyed) (kept : Lengths) (a b c : Seen)
    (call : Keeps tells a b) (rests : IsKeyedAtRest part a) (room : KeepsRoom part kept a) where
  pub part-after : KeepsPart part kept b c → KeepsPart part kept a c
  part-after after = record {
    adds = nothing-then-here part Nothing a b c
        (keeps-here tells told part a b call rests.sound) after.adds;
    same = same-here-then part a.cur b.cur c.cur (same-here-keeps tells told part a b call)
        after.same;
    current = subst (λ (top : Block). HasEnds top (block_at c.cur part.head))
        (still-head part tells told a b call) after.current;
    room = after.room;
    rooms = touches-then (InArea part) (HasRoomHere part kept) a b c
        (rooms-here-keep tells told part a b call rests.sound kept room) after.rooms;
  }

  -- or nothing more
  pub part-kept : KeepsPart part kept a b
  part-kept = record {
    adds = keeps-here tells told part a b call rests.sound;
    same = same-here-keeps tells told part a b call;
    current = still-current part tells told a b call;
    room = room-here-keeps tells told part a b call rests.sound kept room;
    rooms = rooms-here-keep tells told part a b call rests.sound kept room;
  }

  pub done-after : IsStageDone part b c → IsStageDone part a c
  done-after after = record {
    rests = after.rests;
    due = due-here-then part [] a b c (due-here-keeps tells told part a b call rests.sound)
        after.due;
  }
