use Rattle.std.proofs.Common.{◌≡◌, ℕ, ◌+◌, List, ◌++◌, length, get_or, set, drop, ap, ◌∙◌, arith}
use Rattle.std.proofs.lemmas.List.{length-set}
use Rattle.std.specs.Int.{w16, to_be_bytes}
use Rattle.vr_types.specs.Fields.{two}
use Rattle.vr_seqset.specs.Entry.{entry_bytes}
use Rattle.vr_seqset.specs.SequenceSet.{SequenceSet}
use Rattle.vr_seqset.specs.Reading.{record_in}
use Rattle.vr_seqset.specs.Writing.{with_entry}
use Rattle.vr_seqset.proofs.WritingLemmas.{entry_added, entry_length, length-spelling_more}
use Rattle.vr_seqset.proofs.WritingLemmas.{length-entries_more, has_head, count_below, count_is}
use Rattle.vr_seqset.proofs.spelling.put_entry.Goals as goal

pub two_at-requires : goal.two_at-requires
two_at-requires c =
    omega (
      arith,
      has_head (record_in c.args.block.now) c.args.intervals.now c.args.high.now
          (length c.args.block.now) c.requires.room,
    )

pub overflow_add-two_at : goal.overflow_add-two_at
overflow_add-two_at c =
    omega (
      arith,
      count_below (record_in c.args.block.now) c.args.intervals.now c.args.high.now
          (length c.args.block.now) c.requires.room c.requires.most,
      count_is c.args.block.now,
      c.two_at.ensures,
    )

pub bounds-block-2 : goal.bounds-block-2
bounds-block-2 c =
    omega (
      arith,
      has_head (record_in c.args.block.now) c.args.intervals.now c.args.high.now
          (length c.args.block.now) c.requires.room,
    )

pub bounds-block-3 : goal.bounds-block-3
bounds-block-3 c =
    omega (
      arith,
      length-set c.args.block.now 2 (get_or c.to_be_bytes-count.result 0 0),
      has_head (record_in c.args.block.now) c.args.intervals.now c.args.high.now
          (length c.args.block.now) c.requires.room,
    )

pub put_bytes-requires-clause-room : goal.put_bytes-requires-clause-room
put_bytes-requires-clause-room c =
    let first = set c.args.block.now 2 (get_or c.to_be_bytes-count.result 0 0) in
    omega (
      arith,
      length-set c.args.block.now 2 (get_or c.to_be_bytes-count.result 0 0),
      length-set first 3 (get_or c.to_be_bytes-count.result 1 0),
      c.split_at_mut-free.ensures.back_len,
      length-spelling_more
          (record_in c.args.block.now) c.args.intervals.now c.args.high.now,
      entry_length (record { intervals = c.args.intervals.now; high = c.args.high.now }),
      c.requires.room,
      c.requires.end,
    )

pub returns-clause-end : goal.returns-clause-end
returns-clause-end c =
    omega (
      arith,
      length-spelling_more (record_in c.args.block.now) c.args.intervals.now
          c.args.high.now,
      c.put_bytes.ensures.length,
      c.requires.end,
    )

pub returns-clause-spelled : goal.returns-clause-spelled
unfolding two
returns-clause-spelled c =
    let s : SequenceSet = record_in c.args.block.now in
    let e : List ℕ =
    entry_bytes (record { intervals = c.args.intervals.now; high = c.args.high.now }) in
    let count : c.two_at.result + 1 ≡ length
    (with_entry (record_in c.args.block.now) c.args.intervals.now c.args.high.now).entries =
    omega (
      arith,
      length-entries_more (record_in c.args.block.now) c.args.intervals.now
          c.args.high.now,
      count_is c.args.block.now,
      c.two_at.ensures,
    ) in
    entry_added s c.args.intervals.now c.args.high.now
    (length c.args.block.now) c.args.end c.args.block.now c.split_at_mut-free.result.0.now
    c.put_bytes.new.free c.to_be_bytes-count.result
    c.requires.spelled c.requires.end c.requires.room
    (c.to_be_bytes-count.ensures ∙ ap (to_be_bytes w16) count) c.split_at_mut-free.ensures.front
    (c.put_bytes.ensures.bytes ∙ ap (λ (n : ℕ). e
    ++ drop n c.split_at_mut-free.result.1.now) c.put_bytes.ensures.length
    ∙ ap (λ (x : List ℕ). e ++ drop (length e) x) c.split_at_mut-free.ensures.back)
