use Rattle.std.proofs.Common.{ℕ, ◌<◌, length, [], ap, subst, ◌∙◌}
use Rattle.vr_seqset.specs.Entry.{Entry}
use Rattle.vr_seqset.specs.Writer.{written, intervals_of, block_of}
use Rattle.vr_seqset.proofs.CopyLemmas.{begun_keeps, added_keeps}
use Rattle.vr_base_cases.proofs.heads.copied.Goals as goal

pub begin-writer-requires : goal.begin-writer-requires
begin-writer-requires c =
    begun_keeps c.args.intervals (length c.as_mut_slice.result.now) c.args.block.now c.in-Ok.view _
    c.in-Ok.ensures.found (c.as_mut_slice.ensures.len ∙ c.in_ok-out.ensures.len)
    (λ i. record {
      first = c.first.ensures i;
      part = c.part.ensures i;
      next = c.next.ensures i;
      top = c.top.ensures i;
      index_area = c.index_area.ensures i;
      low = c.low.ensures i;
      entries = [];
    })

pub add-requires : goal.add-requires
add-requires c =
    added_keeps c.args.intervals (intervals_of c.loop-i.writer)
    (length (block_of c.loop-i.writer).now) c.args.block.now c.in-Ok.view
    (written c.loop-i.writer) c.loop-i.i c.deref.result.now c.high.result.now
    c.in-Ok.ensures.found (subst (λ (n : ℕ). c.loop-i.i < n) c.count-i-end.ensures
    c.loop-i-test.true) c.loop-i.invariant.intervals c.loop-i.invariant.size
    c.loop-i.invariant.so_far
    (c.deref.ensures.value ∙ c.in_ok-numbers.ensures
    ∙ ap (λ (e : Entry). e.intervals) c.entry.ensures) c.high.ensures
