-- A stage whole: first it reads, which keeps all, and then it puts.
use Rattle.std.proofs.Common.{ap, ◌≡◌, ◌≢◌, ◌<◌, ℕ, ◌+◌, ◌≤◌, Bool, IsTrue, true, false, List, []}
use Rattle.std.proofs.Common.{◌∷◌}
use Rattle.std.proofs.Common.{refl, sym}
use Rattle.std.proofs.Common.{subst, ◌∙◌, arith, length, Option, Some}
use Rattle.std.specs.Prelude.{cond, filter, map}
use Rattle.std.proofs.lemmas.List.Elements.{All-nil}
use Rattle.vr_types.specs.Content.{Content, Placed}
use Rattle.vr_types.specs.Image.{Block, Image, block_at}
use Rattle.vr_types.specs.Seen.{Seen, Left, Only}
use Rattle.vr_types.specs.Blocks.{Keeps, Puts}
use Rattle.vr_types.specs.declared.unit.StageKind.{StageKind}
use Rattle.vr_types.specs.declared.unit.StageKind.TheVariants.{CiCopy, CiSwitch, CiClean}
use Rattle.vr_ci_match.specs.declared.form.Form.TheVariants.{Plain}
use Rattle.vr_ci.specs.Interval as ci
use Rattle.vr_ci.proofs.CallerLemmas.{interval_room}
use Rattle.vr_seqset.specs.Entry.{Entry}
use Rattle.vr_seqset.specs.SequenceSet.{SequenceSet, IsSequenceSet}
use Rattle.vr_seqset.specs.Reading.{record_in}
use Rattle.vr_seqset.proofs.CallerLemmas.{record_is}
use Rattle.vr_ci_match.specs.Fault.{is_busy}
use Rattle.vr_space.specs.Room.{Lengths, Range, HaveRoom, is_in, weight}
use Rattle.vr_space.specs.Keyed.{Keyed, HoldsRange, EachMayLeave, IsKeyedSound, IsKeyedAtRest}
use Rattle.vr_space.specs.Keyed.{HasEnds, KeepsRoom, entries_of, items_of, length_of, low_of}
use Rattle.vr_space.specs.Keyed.{lengths_of, placed, range_of, key_of}
use Rattle.vr_space.specs.Split.{SplitNow}
use Rattle.vr_space.specs.UnderWay.{AreaUnderWay, IsBegun, IsCopied, IsSwitched, interval_block}
use Rattle.vr_space.proofs.CallerLemmas.{due-here-keeps, keeps-here, less-here, rest-here-keeps}
use Rattle.vr_space.proofs.CallerLemmas.{room-here-keeps, rooms-here-keep, same-ends}
use Rattle.vr_space.proofs.CallerLemmas.{same-here-keeps, way-stays}
use Rattle.vr_split.specs.Switching.{IsResting, KeepsPart, IsStageDone, IsIntervalBlock, IsFree}
use Rattle.vr_split.specs.Switching.{CanReplace, CanSwitch, IsSettledAt}
use Rattle.vr_split.specs.Halves.{halves, MakesUpper, MakesLower, MakesHead, IsBusyCopy}
use Rattle.vr_split.specs.Halves.{halved_record}
use Rattle.vr_split.specs.Splits.{AddsEntries}
use Rattle.vr_split.proofs.HalvedRules.{halved-count}
use Rattle.vr_split.proofs.Ready.{head-now, old-holds, old-block, into-block, into-free, two-blocks}
use Rattle.vr_split.proofs.Ready.{can-halve, into-in}
use Rattle.vr_split.proofs.EachStage.{can-copy, can-switch, can-clean, clean-holds, settled-old}
use Rattle.vr_split.proofs.EachStage.{copied-after, switched-after}
use Rattle.vr_split.proofs.StageLemmas.{keeps-then, done-then}

-- ---- room where nothing is kept

standing-fits : (part : Keyed) (range : Range) (items : List ci.Item)
    → weight (map length_of
    (filter (λ (entry : Placed). is_in range entry.0) (map (placed part) items)))
    ≤ ci.room items
standing-fits part range [] = omega arith
standing-fits part range (item ∷ items) =
    by (is_in range (key_of part item.bytes)) (standing-fits part range items)
  where
    rest : Content
    rest = filter (λ (entry : Placed). is_in range entry.0) (map (placed part) items)

    by : (b : Bool) → weight (map length_of rest) ≤ ci.room items
        → weight (map length_of (cond b (placed part item ∷ rest) rest)) ≤ ci.room (item ∷ items)
    by true less = omega (arith, less)
    by false less = omega (arith, less)

range-fits : (part : Keyed) (range : Range) (block : Block) → HoldsRange part range block
    → HaveRoom part.size (lengths_of part [] range block)
range-fits part range block holds =
    omega (
      arith,
      standing-fits part range (items_of block),
      interval_room Plain block _ holds.spelled refl,
      holds.size,
    )

each-fits : (part : Keyed) (now : Seen) (low : Option (List ℕ))
    (entries : List Entry) → EachMayLeave part now low entries (HoldsRange part)
    → EachMayLeave part now low entries
    (λ range block. HaveRoom part.size (lengths_of part [] range block))
each-fits part now low [] left = tt
each-fits part now low (entry ∷ entries) left = (
  λ block may. range-fits part (range_of low entry) block (left.0 block may),
  each-fits part now (Some entry.high) entries left.1,
)

-- what stands has room
pub none-kept : (part : Keyed) (now : Seen) → IsKeyedSound part now → KeepsRoom part [] now
none-kept part now sound = record {
  places = All-nil (λ (entry : List ℕ × ℕ). length entry.0 ≡ part.key);
  each = λ top may. each-fits part now (low_of top) (entries_of top)
      (sound.intervals top may);
}

-- ---- what reading keeps

module _ (part : Keyed) (tells : Bool) (told : IsTrue tells) (a m : Seen) (call : Keeps tells a m)
    (rests : IsKeyedAtRest part a) where
  head-kept : block_at m.cur part.head ≡ block_at a.cur part.head
  head-kept = ap (λ (image : Image). block_at image part.head) (call.content told)

  pub kept-part : (kept : Lengths) → KeepsRoom part kept a → KeepsPart part kept a m
  kept-part kept room = record {
    adds = keeps-here tells told part a m call rests.sound;
    same = same-here-keeps tells told part a m call;
    current = subst (HasEnds (block_at a.cur part.head)) (sym head-kept)
        (same-ends (block_at a.cur part.head));
    room = room-here-keeps tells told part a m call rests.sound kept room;
    rooms = rooms-here-keep tells told part a m call rests.sound kept room;
  }

  pub kept-rest : IsKeyedAtRest part m
  kept-rest = rest-here-keeps tells told part a m call rests

  pub kept-resting : (kept : Lengths) → KeepsRoom part kept a → IsResting part kept m
  kept-resting kept room = record {
    rests = kept-rest;
    room = room-here-keeps tells told part a m call rests.sound kept room;
  }

  pub kept-done : IsStageDone part a m
  kept-done = record {
    rests = kept-rest;
    due = due-here-keeps tells told part a m call rests.sound;
  }

  pub kept-way : (split : SplitNow) → Left a a.cur → AreaUnderWay part (Some split) a
      → AreaUnderWay part (Some split) m
  kept-way split left way = way-stays part (Some split) a m rests.sound left
      (λ now some n is named. record {
        cur = ap (λ (image : Image). block_at image n) (call.content told);
        less = λ block may. less-here tells told part a m call n block is may;
      }) way

  pub then-part : (kept : Lengths) (b : Seen) → KeepsRoom part kept a → KeepsPart part kept m b
      → KeepsPart part kept a b
  then-part kept b room further = keeps-then part kept a m b (kept-part kept room) further

  pub then-done : (b : Seen) → IsStageDone part m b → IsStageDone part a b
  then-done b further = done-then part [] a m b kept-done further

-- ---- the puts of the stages, after the reads

-- a head that stays has as many entries
same-count : (part : Keyed) (old new : Seen)
    → block_at old.cur part.head ≡ block_at new.cur part.head
    → length (entries_of (block_at old.cur part.head))
    ≡ length (entries_of (block_at new.cur part.head))
same-count part old new same = ap (λ (top : Block). length (entries_of top)) same

-- the stage is no part of what a split left
pub begun-at : (part : Keyed) (split : SplitNow) (image : Image) (stage : StageKind)
    → IsBegun part split image → IsBegun part (record split { stage = stage }) image
begun-at part split image stage begun = record {
  at = begun.at;
  length = begun.length;
  found = begun.found;
  old = begun.old;
  below = begun.below;
  free = begun.free;
}

pub switched-at : (part : Keyed) (split : SplitNow) (now : Seen) (stage : StageKind)
    → IsSwitched part split now → IsSwitched part (record split { stage = stage }) now
switched-at part split now stage switched = record {
  at = switched.at;
  found = switched.found;
  interval = switched.interval;
  high = switched.high;
  old = switched.old;
}

module _ (part : Keyed) (tells : Bool) (told : IsTrue tells) (split : SplitNow) (a m : Seen)
    (call : Keeps tells a m) (rests : IsKeyedAtRest part a) (left : Left a a.cur)
    (still : Left m m.cur) where
  rest-m : IsKeyedAtRest part m
  rest-m = kept-rest part tells told a m call rests

  -- what was made of the blocks is made of those that are there now
  at-m : (P : Image → Type 0) → P a.cur → P m.cur
  at-m P is = subst P (sym (call.content told)) is

  module _ (begun : IsBegun part split a.cur) (into old : ℕ)
      (into_is : into ≡ interval_block part split.into)
      (old_is : old ≡ interval_block part split.old) (whole : Block)
      (copies : (range : Range)
      → HoldsRange part range (block_at a.cur (interval_block part split.old))
      → IsBusyCopy part (block_at a.cur (interval_block part split.old)) whole) where
    begun-m : IsBegun part split m.cur
    begun-m = at-m (IsBegun part split) begun

    copy-m : IsBusyCopy part (block_at m.cur (interval_block part split.old)) whole
    copy-m = at-m
        (λ image. IsBusyCopy part (block_at image (interval_block part split.old)) whole)
        (copies begun.at.0 (old-holds part split a rests left begun))

    -- the blocks of a copy may be put
    pub copy-apply : (P : Lengths → Type 0)
        → ((kept : Lengths) → IsIntervalBlock part into → IsIntervalBlock part old
        → IsResting part kept m → IsFree part m.cur into → CanReplace part kept m.cur old whole
        → P kept)
        → (kept : Lengths) → KeepsRoom part kept a → P kept
    copy-apply P clause kept room =
        clause kept
        (subst (IsIntervalBlock part) (sym into_is)
        (into-block part split m rest-m still begun-m))
        (subst (IsIntervalBlock part) (sym old_is) (old-block part split m rest-m still begun-m))
        (kept-resting part tells told a m call rests kept room)
        (subst (IsFree part m.cur) (sym into_is) (into-free part split m rest-m still begun-m))
        (subst (λ (n : ℕ). CanReplace part kept m.cur n whole) (sym old_is)
        (can-copy part kept split m (kept-resting part tells told a m call rests kept room) still
        begun-m whole copy-m))

    -- and leave what the switch wants
    pub copy-leaves : (b : Seen) (upper : Block) → Left b b.cur → b.count ≡ m.count
        → MakesUpper part (block_at a.cur part.head) split.cut
        (block_at a.cur (interval_block part split.old)) upper
        → ((n : ℕ) → n ≢ into → n ≢ old → block_at b.cur n ≡ block_at m.cur n)
        → (into ≢ old → Only b into (λ block. block ≡ upper))
        → Only b old (λ block. block ≡ whole)
        → IsCopied part (record split { stage = CiSwitch }) b
    copy-leaves b upper after count makes elsewhere only_into only_old =
        let apart : into ≢ old = λ same. two-blocks part split m rest-m still begun-m
        (sym into_is ∙ same ∙ old_is) in
        let made : MakesUpper part (block_at m.cur part.head) split.cut
        (block_at m.cur (interval_block part split.old)) upper =
        at-m (λ image. MakesUpper part (block_at image part.head) split.cut
        (block_at image (interval_block part split.old)) upper) makes in
        let now : IsBegun part (record split { stage = CiSwitch }) m.cur =
        begun-at part split m.cur CiSwitch begun-m in
        copied-after part (record split { stage = CiSwitch }) m b rest-m still now upper whole
        after count
        (elsewhere part.head (λ same. omega (arith, same, into_is))
        (λ same. omega (arith, same, old_is)))
        (made now.at (head-now part split m rest-m still) now.found now.below
        (old-holds part (record split { stage = CiSwitch }) m rest-m still now)) copy-m
        (subst (λ (n : ℕ). Only b n (λ block. block ≡ upper)) into_is (only_into apart))
        (subst (λ (n : ℕ). Only b n (λ block. block ≡ whole)) old_is only_old)

    -- the interval with the upper records is not busy
    pub copy-idle : (b : Seen) (upper : Block) → Left b b.cur → b.count ≡ m.count
        → MakesUpper part (block_at a.cur part.head) split.cut
        (block_at a.cur (interval_block part split.old)) upper
        → (into ≢ old → Only b into (λ block. block ≡ upper))
        → is_busy (block_at b.cur (interval_block part split.into)) ≡ false
    copy-idle b upper after count makes only_into =
        let apart : into ≢ old = λ same. two-blocks part split m rest-m still begun-m
        (sym into_is ∙ same ∙ old_is) in
        let within : split.into < part.area = into-in part split m rest-m still begun-m in
        let now : block_at b.cur into ≡ upper = only_into apart (block_at b.cur into)
        (after.each into (omega (arith, rest-m.sound.area, into_is, within, count))) in
        ap (λ (n : ℕ). is_busy (block_at b.cur n)) (sym into_is) ∙ ap is_busy now
        ∙ (makes begun.at (head-now part split a rests left) begun.found begun.below
        (old-holds part split a rests left begun)).idle

    -- the head stays
    pub copy-counts : (b : Seen)
        → ((n : ℕ) → n ≢ into → n ≢ old → block_at b.cur n ≡ block_at m.cur n)
        → AddsEntries part CiCopy a.cur b.cur
    copy-counts b elsewhere = omega (
      arith,
      same-count part b m
          (elsewhere part.head (λ same. omega (arith, same, into_is))
          (λ same. omega (arith, same, old_is))),
      ap (λ (image : Image). length (entries_of (block_at image part.head))) (call.content told),
    )

  module _ (copied : IsCopied part split m) (top : Block) (long : length top ≡ part.size)
      (makes : MakesHead part.area (block_at a.cur part.head) split.old split.into split.cut top)
    where
      spelled-m : IsSequenceSet part.area top
          (halved_record split.old split.into split.cut (record_in (block_at m.cur part.head)))
      spelled-m = at-m (λ image. MakesHead part.area (block_at image part.head) split.old split.into
          split.cut top) makes (head-now part split m rest-m still).spelled
          (can-halve part split m rest-m still copied.begun)

      -- the head with both entries may be put
      pub switch-apply : (P : Lengths → Type 0)
          → ((kept : Lengths) → IsResting part kept m → CanSwitch part kept top m → P kept)
          → (kept : Lengths) → KeepsRoom part kept a → P kept
      switch-apply P clause kept room =
          let resting : IsResting part kept m =
          kept-resting part tells told a m call rests kept room in
          clause kept resting
          (can-switch part kept split m resting still copied top
          (long ∙ sym (head-now part split m rest-m still).size) spelled-m)

      -- and leaves what the cleaning wants
      pub switch-leaves : (b : Seen) → Puts tells part.head top m b
          → block_at b.cur part.head ≡ top
          → IsSwitched part (record split { stage = CiClean }) b
      switch-leaves b puts now =
          switched-at part split b CiClean
          (switched-after part split m b tells told rest-m still copied top puts now spelled-m)

      -- it has both entries
      pub switch-entries : (b : Seen) → block_at b.cur part.head ≡ top
          → entries_of (block_at b.cur part.head)
          ≡ halves split.old split.into split.cut (entries_of (block_at a.cur part.head))
      switch-entries b now =
          ap entries_of now
          ∙ ap (λ (s : SequenceSet). s.entries) (record_is part.area top
          (halved_record split.old split.into split.cut (record_in (block_at m.cur part.head)))
          spelled-m)
          ∙ ap (λ (image : Image). halves split.old split.into split.cut
          (entries_of (block_at image part.head))) (call.content told)

      -- one more than it had
      pub switch-counts : (b : Seen) → block_at b.cur part.head ≡ top
          → AddsEntries part CiSwitch a.cur b.cur
      switch-counts b now =
          let top_m : Block = block_at m.cur part.head in
          let more : length (halves split.old split.into split.cut (entries_of top_m))
          ≡ length (entries_of top_m) + 1 =
          halved-count part.area (length top_m) split.old split.into split.cut (record_in top_m)
          (head-now part split m rest-m still).spelled.rules
          (can-halve part split m rest-m still copied.begun) in
          ap (λ (entries : List Entry). length entries) (switch-entries b now)
          ∙ subst (λ (image : Image).
          length (halves split.old split.into split.cut (entries_of (block_at image part.head)))
          ≡ length (entries_of (block_at image part.head)) + 1) (call.content told) more

  module _ (switched : IsSwitched part split m) (old : ℕ)
      (old_is : old ≡ interval_block part split.old) (lower : Block)
      (makes : MakesLower part (block_at a.cur part.head) split.cut
      (block_at a.cur (interval_block part split.old)) lower) where
    old-there : old < part.head + 1 + part.area
    old-there = omega (
      arith,
      old_is,
      switched.interval,
      Rattle.vr_split.proofs.Ready.in-area part split m rest-m still switched.at switched.found,
    )

    -- the old interval may be put without the records that moved
    pub clean-apply : (P : Lengths → Type 0)
        → ((kept : Lengths) → IsIntervalBlock part old → IsResting part kept m
        → IsSettledAt part old m → CanReplace part kept m.cur old lower → P kept)
        → (kept : Lengths) → KeepsRoom part kept a → P kept
    clean-apply P clause kept room =
        let resting : IsResting part kept m =
        kept-resting part tells told a m call rests kept room in
        let made : MakesLower part (block_at m.cur part.head) split.cut
        (block_at m.cur (interval_block part split.old)) lower =
        at-m (λ image. MakesLower part (block_at image part.head) split.cut
        (block_at image (interval_block part split.old)) lower) makes in
        clause kept (record { low = omega (arith, old_is); high = omega (arith, old-there) })
        resting
        (subst (λ (n : ℕ). IsSettledAt part n m) (sym old_is)
        (settled-old part kept split m resting still switched))
        (subst (λ (n : ℕ). CanReplace part kept m.cur n lower) (sym old_is)
        (can-clean part kept split m resting still switched lower
        (made switched.at (head-now part split m rest-m still) switched.found
        (clean-holds part kept split m resting still switched))))

    -- which are not busy
    pub clean-idle : (b : Seen) → block_at b.cur old ≡ lower
        → is_busy (block_at b.cur (interval_block part split.old)) ≡ false
    clean-idle b now =
        let made : MakesLower part (block_at m.cur part.head) split.cut
        (block_at m.cur (interval_block part split.old)) lower =
        at-m (λ image. MakesLower part (block_at image part.head) split.cut
        (block_at image (interval_block part split.old)) lower) makes in
        let kept : KeepsRoom part [] m = none-kept part m rest-m.sound in
        ap (λ (n : ℕ). is_busy (block_at b.cur n)) (sym old_is) ∙ ap is_busy now
        ∙ (made switched.at (head-now part split m rest-m still) switched.found
        (clean-holds part [] split m (record { rests = rest-m; room = kept }) still switched)).idle

    -- the head stays
    pub clean-counts : (b : Seen) → ((n : ℕ) → n ≢ old → block_at b.cur n ≡ block_at m.cur n)
        → AddsEntries part CiClean a.cur b.cur
    clean-counts b elsewhere = omega (
      arith,
      same-count part b m (elsewhere part.head (λ same. omega (arith, same, old_is))),
      ap (λ (image : Image). length (entries_of (block_at image part.head))) (call.content told),
    )
