-- The stages of a split: the blocks that each writes may be put, and what they leave is what the
-- next one wants.
use Rattle.std.proofs.Common.{◌≡◌, ◌≢◌, ◌⊎◌, inl, inr, ⊎_elim, ◌<◌, ℕ, Bool, IsTrue, true}
use Rattle.std.proofs.Common.{List, Option, Some, sym, ap, subst, ◌∙◌, arith}
use Rattle.std.proofs.Common.{true≢false, length}
use Rattle.std.specs.Prelude.{filter, map}
use Rattle.vr_types.specs.Content.{Content, Placed, item_at}
use Rattle.vr_types.specs.Image.{Block, block_at}
use Rattle.vr_types.specs.Seen.{Seen, Left, Only}
use Rattle.vr_types.specs.Blocks.{Puts}
use Rattle.vr_types.proofs.CallerLemmas.{cur-elsewhere, only-elsewhere}
use Rattle.vr_ci_match.specs.Fault.{is_busy}
use Rattle.vr_seqset.specs.Entry.{Entry}
use Rattle.vr_seqset.specs.SequenceSet.{SequenceSet, IsSequenceSet}
use Rattle.vr_seqset.specs.Reading.{record_in}
use Rattle.vr_seqset.proofs.CallerLemmas.{record_is}
use Rattle.vr_space.specs.Room.{Lengths, Range, HaveRoom, is_in, lengths_in, with_lengths}
use Rattle.vr_space.specs.Keyed.{Keyed, HoldsRange, EachMayLeave, IsKeyedAtRest}
use Rattle.vr_space.specs.Keyed.{entries_of, entry_above, entry_block, entry_for, entry_in}
use Rattle.vr_space.specs.Keyed.{length_of, lengths_of, low_in, low_of, records_of}
use Rattle.vr_space.specs.Keyed.{records_in, way_in, way_under}
use Rattle.vr_space.specs.AreaCalls.{item_here}
use Rattle.vr_space.specs.Split.{SplitNow, free_interval}
use Rattle.vr_space.specs.UnderWay.{IsBegun, IsCopied, IsSwitched, IsStable, interval_block}
use Rattle.vr_space.specs.UnderWay.{above_cut}
use Rattle.vr_space.proofs.CallerLemmas.{above-more, record-filter, in-above, in-most, in-both}
use Rattle.vr_space.proofs.CallerLemmas.{found-above, leads-above}
use Rattle.vr_split.specs.Switching.{CanReplace, CanSwitch, IsResting, IsSettledAt, OfRead}
use Rattle.vr_split.specs.Switching.{entry_read}
use Rattle.vr_split.specs.Halves.{HasRange, IsBusyCopy, halves, halved_record}
use Rattle.vr_split.proofs.Leading.{in-leads, in-range, of-each, of-more, of-one, one-range}
use Rattle.vr_split.proofs.Lighter.{IsInside, twice, room-inside}
use Rattle.vr_split.proofs.HalvedHead.{above-halves, cut-halves, each-halves, halved-ends}
use Rattle.vr_split.proofs.HalvedHead.{halved-head, le-trans}
use Rattle.vr_split.proofs.Ready.{may-top, head-now, once-now, may-found, holds-found, room-found}
use Rattle.vr_split.proofs.Ready.{item-found, is-old, old-holds, old-in, into-in}

-- ---- ranges

abbrev pub below_cut : Range → List ℕ → Range
below_cut range cut = record { low = range.low; high = cut }

-- both halves of a range are in it, where the cut is
pub lower-inside : (range : Range) (cut : List ℕ) → is_in range cut ≡ true
    → IsInside (below_cut range cut) range
lower-inside range cut within place is =
    in-both range place (in-above (below_cut range cut) place is)
    (le-trans place cut range.high (in-most (below_cut range cut) place is)
    (in-most range cut within))

pub upper-inside : (range : Range) (cut : List ℕ) → is_in range cut ≡ true
    → IsInside (above_cut range cut) range
upper-inside range cut within place is =
    in-both range place
    (above-more range.low cut place (in-above range cut within)
    (in-above (above_cut range cut) place is)) (in-most (above_cut range cut) place is)

-- ---- blocks

-- a busy interval is one of any range
pub busy-any : (part : Keyed) (range other : Range) (block : Block) → HoldsRange part range block
    → is_busy block ≡ true → HoldsRange part other block
busy-any part range other block holds busy = record {
  spelled = holds.spelled;
  size = holds.size;
  kept = holds.kept;
  ascends = holds.ascends;
  within = λ idle. absurd (true≢false (sym busy ∙ idle));
}

-- the records of a range are those that an interval of it has
pub range-records : (part : Keyed) (range : Range) (block bytes : Block)
    → HasRange part range block bytes → records_in part range bytes ≡ records_in part range block
range-records part range block bytes has =
    ap (filter (λ (entry : Placed). is_in range entry.0)) has.records
    ∙ twice (λ (entry : Placed). entry.0) range range (records_of part block) (λ place is. is)

-- the same records have the same lengths beside what is kept
pub same-lengths : (part : Keyed) (kept : Lengths) (range : Range) (block bytes : Block)
    → records_in part range bytes ≡ records_in part range block
    → lengths_of part kept range bytes ≡ lengths_of part kept range block
same-lengths part kept range block bytes same =
    ap (λ (xs : Content). with_lengths (map length_of xs) (lengths_in range kept)) same

-- and the same record at each place of the range
pub same-record : (part : Keyed) (range : Range) (block bytes : Block) (place : List ℕ)
    → is_in range place ≡ true → records_in part range bytes ≡ records_in part range block
    → item_at (records_of part bytes) place ≡ item_at (records_of part block) place
same-record part range block bytes place within same =
    sym (record-filter range (records_of part bytes) place within)
    ∙ ap (λ (xs : Content). item_at xs place) same
    ∙ record-filter range (records_of part block) place within

module _ (part : Keyed) (kept : Lengths) (split : SplitNow) (a : Seen)
    (resting : IsResting part kept a) (left : Left a a.cur) where
  abbrev old_now : Block
  old_now = block_at a.cur (interval_block part split.old)

  abbrev into_now : Block
  into_now = block_at a.cur (interval_block part split.into)

  abbrev low_now : Option (List ℕ)
  low_now = low_of (block_at a.cur part.head)

  abbrev entries_now : List Entry
  entries_now = entries_of (block_at a.cur part.head)

  -- with both of the interval that is split
  abbrev entries_new : List Entry
  entries_new = halves split.old split.into split.cut entries_now

  -- ---- the copy

  -- the old interval may be written whole and busy
  pub can-copy : IsBegun part split a.cur → (whole : Block) → IsBusyCopy part old_now whole
      → CanReplace part kept a.cur (interval_block part split.old) whole
  can-copy begun whole copy =
      let n : ℕ = interval_block part split.old in
      let Q : Range → Block → Type 0 =
      λ range block. HaveRoom part.size (lengths_of part kept range block) in
      let now : a.may n old_now = subst (λ (k : ℕ). a.may k (block_at a.cur k))
      (is-old part split a resting.rests left begun)
      (may-found part split a resting.rests left begun.at begun.found) in
      let top : Block = block_at a.cur part.head in
      let same : (range : Range) → lengths_of part kept range whole
      ≡ lengths_of part kept range old_now =
      λ range. same-lengths part kept range old_now whole
      (ap (filter (λ (entry : Placed). is_in range entry.0)) copy.records) in
      record {
        holds = of-more part n (λ range. Only a n (Q range)) (λ range. HoldsRange part range whole)
            (low_of top) (entries_of top) (λ range each. copy.holds range)
            (of-each part a n Q (low_of top) (entries_of top)
            (resting.room.each top (may-top part split a resting.rests left)));
        room = of-more part n (λ range. Only a n (Q range))
            (λ range. HaveRoom part.size (lengths_of part kept range whole)) (low_of top)
            (entries_of top)
            (λ range each. subst (HaveRoom part.size) (sym (same range)) (each old_now now))
            (of-each part a n Q (low_of top) (entries_of top)
            (resting.room.each top (may-top part split a resting.rests left)));
        records = λ place at leads here. ap (λ (xs : Content). item_at xs place) copy.records
            ∙ ap (λ (k : ℕ). item_at (records_of part (block_at a.cur k)) place) (sym here)
            ∙ sym (item-found part split a resting.rests left place at leads);
      }

  -- ---- the switch

  module _ (copied : IsCopied part split a) where
    abbrev begun : IsBegun part split a.cur
    begun = copied.begun

    abbrev at_range : Range
    at_range = begun.at.0

    cut-in : is_in at_range split.cut ≡ true
    cut-in = in-range low_now entries_now split.cut begun.at begun.found

    cut-leads : entry_for low_now entries_now split.cut ≡ Some begun.at
    cut-leads = in-leads (block_at a.cur part.head) split.cut begun.at begun.found

    old-range : HoldsRange part at_range old_now
    old-range = old-holds part split a resting.rests left begun

    room-old : HaveRoom part.size (lengths_of part kept at_range old_now)
    room-old = subst (λ (n : ℕ). HaveRoom part.size
        (lengths_of part kept at_range (block_at a.cur n)))
        (is-old part split a resting.rests left begun)
        (room-found part split a resting.rests left kept resting.room begun.at begun.found)

    room-lower : HaveRoom part.size (lengths_of part kept (below_cut at_range split.cut) old_now)
    room-lower = room-inside part kept (below_cut at_range split.cut) at_range old_now
        (lower-inside at_range split.cut cut-in) old-range room-old

    room-upper : HaveRoom part.size (lengths_of part kept (above_cut at_range split.cut) into_now)
    room-upper = subst (HaveRoom part.size)
        (sym (same-lengths part kept (above_cut at_range split.cut) old_now into_now
        copied.records))
        (room-inside part kept (above_cut at_range split.cut) at_range old_now
        (upper-inside at_range split.cut cut-in) old-range room-old)

    each-switch : (Q : Range → Block → Type 0) → Q (below_cut at_range split.cut) old_now
        → Q (above_cut at_range split.cut) into_now
        → EachMayLeave part a low_now entries_now Q
        → EachMayLeave part a low_now (halves split.old split.into split.cut entries_now) Q
    each-switch Q lower upper each =
        each-halves part split.old split.into split.cut a Q low_now entries_now begun.at
        (once-now part split a resting.rests left) cut-leads begun.old
        (λ block may. subst (Q (below_cut at_range split.cut)) (sym (copied.old block may)) lower)
        (λ block may. subst (Q (above_cut at_range split.cut)) (sym (copied.into block may)) upper)
        each

    -- a place that moved has the record that it had
    moved-record : (place : List ℕ) (to : Range × Entry) → is_in to.0 place ≡ true
        → to.0 ≡ above_cut at_range split.cut
        → entry_in (block_at a.cur part.head) place ≡ Some begun.at
        → item_at (records_of part into_now) place ≡ item_here part a.cur place
    moved-record place to within range leads =
        same-record part (above_cut at_range split.cut) old_now into_now place
        (subst (λ (r : Range). is_in r place ≡ true) range within) copied.records
        ∙ ap (λ (n : ℕ). item_at (records_of part (block_at a.cur n)) place)
        (sym (is-old part split a resting.rests left begun))
        ∙ sym (item-found part split a resting.rests left place begun.at leads)

    switch-at : (place : List ℕ)
        → (way_in part place (entry_above low_now entries_new place)
        ≡ way_under part place (block_at a.cur part.head))
        ⊎ ((at : Range × Entry) × (entry_above low_now entries_new place ≡ Some at)
        × Only a (entry_block part at.1)
        (λ block. item_at (records_of part block) place ≡ item_here part a.cur place))
    switch-at place = ⊎_elim
        (λ same. inl same)
        (λ moved.
        let within : is_in moved.to.0 place ≡ true =
        in-range low_now entries_new place moved.to moved.now_at in
        inr (
          moved.to,
          moved.now_at,
          λ block may. ap (λ (b : Block). item_at (records_of part b) place)
              (copied.into block (subst (λ (n : ℕ). a.may n block)
              (ap (interval_block part) moved.interval) may))
              ∙ moved-record place moved.to within moved.its_range moved.was_at,
        ))
        (above-halves part split.old split.into split.cut low_now entries_now begun.at place
        (once-now part split a resting.rests left) cut-leads begun.old)

    -- the head with both entries may be put
    pub can-switch : (top : Block) → length top ≡ length (block_at a.cur part.head)
        → IsSequenceSet part.area top
        (halved_record split.old split.into split.cut (record_in (block_at a.cur part.head)))
        → CanSwitch part kept top a
    can-switch top long spelled =
        let now : Block = block_at a.cur part.head in
        let said : record_in top ≡ halved_record split.old split.into split.cut (record_in now) =
        record_is part.area top
        (halved_record split.old split.into split.cut (record_in now)) spelled in
        record {
          head = halved-head part now top split.old split.into split.cut
              (head-now part split a resting.rests left) long spelled;
          ends = halved-ends part.area now top split.old split.into split.cut spelled;
          holds = subst
              (λ (s : SequenceSet). EachMayLeave part a (low_in s) s.entries (HoldsRange part))
              (sym said)
              (each-switch (HoldsRange part)
              (busy-any part at_range (below_cut at_range split.cut) old_now old-range copied.busy)
              copied.holds
              (resting.rests.sound.intervals now (may-top part split a resting.rests left)));
          room = subst (λ (s : SequenceSet). EachMayLeave part a (low_in s) s.entries
              (λ range block. HaveRoom part.size (lengths_of part kept range block))) (sym said)
              (each-switch (λ range block. HaveRoom part.size (lengths_of part kept range block))
              room-lower room-upper
              (resting.room.each now (may-top part split a resting.rests left)));
          places = λ place. subst (λ (s : SequenceSet).
              (way_in part place (entry_above (low_in s) s.entries place)
              ≡ way_under part place now)
              ⊎ ((at : Range × Entry) × (entry_above (low_in s) s.entries place ≡ Some at)
              × Only a (entry_block part at.1)
              (λ block. item_at (records_of part block) place
              ≡ item_here part a.cur place))) (sym said) (switch-at place);
        }

  -- ---- the cleaning

  module _ (switched : IsSwitched part split a) where
    clean-block : entry_block part switched.at.1 ≡ interval_block part split.old
    clean-block = ap (interval_block part) switched.interval

    pub clean-holds : HoldsRange part switched.at.0 old_now
    clean-holds = subst (λ (n : ℕ). HoldsRange part switched.at.0 (block_at a.cur n)) clean-block
        (holds-found part split a resting.rests left switched.at switched.found)

    clean-room : HaveRoom part.size (lengths_of part kept switched.at.0 old_now)
    clean-room = subst (λ (n : ℕ). HaveRoom part.size
        (lengths_of part kept switched.at.0 (block_at a.cur n))) clean-block
        (room-found part split a resting.rests left kept resting.room switched.at switched.found)

    -- the entries that lead to the old interval are one
    clean-of : (P : Range → Type 0) → P switched.at.0
        → OfRead part a.cur (interval_block part split.old) P
    clean-of P holds = subst (λ (n : ℕ). OfRead part a.cur n P) clean-block
        (of-one part P low_now entries_now split.cut switched.at
        (once-now part split a resting.rests left)
        (in-leads (block_at a.cur part.head) split.cut switched.at switched.found) holds)

    -- a place that leads there is in its range
    clean-in : (place : List ℕ) (at : Range × Entry)
        → entry_read part a.cur place ≡ Some at
        → entry_block part at.1 ≡ interval_block part split.old
        → is_in switched.at.0 place ≡ true
    clean-in place at leads here =
        subst (λ (r : Range). is_in r place ≡ true)
        (one-range part low_now entries_now split.cut place switched.at at
        (once-now part split a resting.rests left)
        (in-leads (block_at a.cur part.head) split.cut switched.at switched.found)
        (in-leads (block_at a.cur part.head) place at leads) (here ∙ sym clean-block))
        (in-range low_now entries_now place at leads)

    -- the old interval may be written with the records of its range alone
    pub can-clean : (lower : Block) → HasRange part switched.at.0 old_now lower
        → CanReplace part kept a.cur (interval_block part split.old) lower
    can-clean lower has = record {
      holds = clean-of (λ range. HoldsRange part range lower) has.holds;
      room = clean-of (λ range. HaveRoom part.size (lengths_of part kept range lower))
          (subst (HaveRoom part.size) (sym (same-lengths part kept switched.at.0 old_now lower
          (range-records part switched.at.0 old_now lower has))) clean-room);
      records = λ place at leads here. same-record part switched.at.0 old_now lower place
          (clean-in place at leads here)
          (range-records part switched.at.0 old_now lower has)
          ∙ ap (λ (n : ℕ). item_at (records_of part (block_at a.cur n)) place) (sym here)
          ∙ sym (item-found part split a resting.rests left place at leads);
    }

    pub settled-old : IsSettledAt part (interval_block part split.old) a
    settled-old place at leads here block may =
        ap (λ (b : Block). item_at (records_of part b) place) (switched.old block may)
        ∙ ap (λ (n : ℕ). item_at (records_of part (block_at a.cur n)) place) (sym here)
        ∙ sym (item-found part split a resting.rests left place at leads)

-- ---- what the stages leave

stable-with : (now : Seen) (n : ℕ) (bytes : Block) → now.may n (block_at now.cur n)
    → Only now n (λ block. block ≡ bytes) → IsStable now n
stable-with now n bytes may only block left = only block left ∙ sym (only (block_at now.cur n) may)

module _ (part : Keyed) (split : SplitNow) (a b : Seen) where
  -- the copy leaves what the switch wants
  pub copied-after : (rests : IsKeyedAtRest part a) (left : Left a a.cur)
      (begun : IsBegun part split a.cur) (upper whole : Block) → Left b b.cur → b.count ≡ a.count
      → block_at b.cur part.head ≡ block_at a.cur part.head
      → HasRange part (above_cut begun.at.0 split.cut)
      (block_at a.cur (interval_block part split.old)) upper
      → IsBusyCopy part (block_at a.cur (interval_block part split.old)) whole
      → Only b (interval_block part split.into) (λ block. block ≡ upper)
      → Only b (interval_block part split.old) (λ block. block ≡ whole) → IsCopied part split b
  copied-after rests left begun upper whole after count head has copy only_into only_old =
      let old_block : ℕ = interval_block part split.old in
      let into_block : ℕ = interval_block part split.into in
      let may_old : b.may old_block (block_at b.cur old_block) = after.each old_block
      (omega (arith, count, rests.sound.area, old-in part split a rests left begun)) in
      let may_into : b.may into_block (block_at b.cur into_block) = after.each into_block
      (omega (arith, count, rests.sound.area, into-in part split a rests left begun)) in
      let whole_is : block_at b.cur old_block ≡ whole = only_old (block_at b.cur old_block) may_old
      in
      let upper_is : block_at b.cur into_block ≡ upper =
      only_into (block_at b.cur into_block) may_into in
      let above : Range = above_cut begun.at.0 split.cut in
      record {
        begun = record {
          at = begun.at;
          length = begun.length;
          found = ap (λ (top : Block). entry_in top split.cut) head ∙ begun.found;
          old = begun.old;
          below = begun.below;
          free = ap (free_interval part) head ∙ begun.free;
        };
        old = stable-with b old_block whole may_old only_old;
        busy = ap is_busy whole_is ∙ copy.busy;
        into = stable-with b into_block upper may_into only_into;
        holds = subst (HoldsRange part above) (sym upper_is) has.holds;
        records = ap (records_in part above) upper_is
            ∙ range-records part above (block_at a.cur old_block) upper has
            ∙ sym (ap (filter (λ (entry : Placed). is_in above entry.0)) copy.records)
            ∙ sym (ap (records_in part above) whole_is);
      }

  -- the switch leaves what the cleaning wants
  pub switched-after : (tells : Bool) → IsTrue tells → (rests : IsKeyedAtRest part a)
      (left : Left a a.cur) → IsCopied part split a → (top : Block) → Puts tells part.head top a b
      → block_at b.cur part.head ≡ top
      → IsSequenceSet part.area top
      (halved_record split.old split.into split.cut (record_in (block_at a.cur part.head)))
      → IsSwitched part split b
  switched-after tells told rests left copied top call now spelled =
      let was : Block = block_at a.cur part.head in
      let n : ℕ = interval_block part split.old in
      let other : n ≢ part.head = λ same. omega (arith, same) in
      let below : n < a.count =
      omega (arith, rests.sound.area, old-in part split a rests left copied.begun) in
      let at : Range × Entry = copied.begun.at in
      let both : List Entry = halves split.old split.into split.cut (entries_of was) in
      let leads = found-above (low_of was) (entries_of was) split.cut at copied.begun.found in
      let to = cut-halves part split.old split.into split.cut (low_of was) (entries_of was) at
      (once-now part split a rests left) leads.leads copied.begun.old in
      let said : record_in top ≡ halved_record split.old split.into split.cut (record_in was) =
      record_is part.area top
      (halved_record split.old split.into split.cut (record_in was)) spelled in
      record {
        at = to.0;
        found = ap (λ (block : Block). entry_in block split.cut) now
            ∙ ap (λ (s : SequenceSet). entry_above (low_in s) s.entries split.cut) said
            ∙ leads-above (low_of was) both split.cut leads.above ∙ to.1;
        interval = to.2;
        high = to.3;
        old = λ block may. only-elsewhere tells a b n part.head top
            (λ (x : Block). x ≡ block_at a.cur n) told below other call copied.old block may
            ∙ sym (cur-elsewhere tells a b n part.head top told other call);
      }
