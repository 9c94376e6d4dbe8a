use Rattle.std.proofs.Common.{◌+◌, ◌<◌, ◌∷◌, [], ◌++◌, List, length, take, drop, ap, sym, ◌∙◌}
use Rattle.std.proofs.Common.{arith}
use Rattle.std.proofs.lemmas.List.{get_or-drop, length-drop}
use Rattle.vr_seqset.specs.Entry.{Entry}
use Rattle.vr_seqset.specs.SequenceSet.{SequenceSet}
use Rattle.vr_seqset.specs.Writer.{block_of, intervals_of, written}
use Rattle.vr_space.specs.Moves.{numbered_from}
use Rattle.vr_casplit.proofs.WrittenHeads.{entries-field, length-numbered}
use Rattle.vr_casplit.proofs.Writing.{moved-next, moved-whole, next-rules}
use Rattle.vr_casplit.proofs.head.add_moved.Goals as goal

pub overflow_cast-i : goal.overflow_cast-i
overflow_cast-i c =
    let writer = c.args.writer.now in
    omega (
      arith,
      entries-field (intervals_of writer) (length (block_of writer).now) _ c.requires.rules,
      length-numbered 0 (drop c.args.stay c.args.view.now.entries),
      length-drop c.args.stay c.args.view.now.entries,
    )

pub add-requires : goal.add-requires
add-requires c =
    let a = c.args in
    let i = c.loop-i.i in
    let moved : List Entry = drop a.stay a.view.now.entries in
    let none : Entry = record { intervals = []; high = [] } in
    let within : i < length moved =
    omega (arith, length-drop a.stay a.view.now.entries) in
    let rest : List Entry =
    numbered_from (0 + length (take (i + 1) moved)) (drop (i + 1) moved) in
    let writer = a.writer.now in
    next-rules (intervals_of writer) (length (block_of writer).now) _ _ (written writer) _
    (numbered_from 0 moved) (numbered_from 0 (take i moved)) rest
    (record { intervals = i ∷ []; high = c.high.result.now })
    c.loop-i.invariant.written c.loop-i.invariant.intervals c.loop-i.invariant.size
    (moved-whole moved (i + 1)
    ∙ ap (λ (es : List Entry). es ++ rest) (sym (moved-next moved i c.high.result.now none within
    (c.high.ensures
    ∙ sym (ap (λ (entry : Entry). entry.high) (get_or-drop a.stay a.view.now.entries i none))))))
    c.requires.rules

pub loop-i-preserved : goal.loop-i-preserved
loop-i-preserved c =
    let a = c.args in
    let i = c.loop-i.i in
    let moved : List Entry = drop a.stay a.view.now.entries in
    let none : Entry = record { intervals = []; high = [] } in
    let within : i < length moved =
    omega (arith, length-drop a.stay a.view.now.entries) in
    record {
      written = c.add.ensures.written
          ∙ ap (λ (s : SequenceSet). record s {
            entries = s.entries ++ record { intervals = i ∷ []; high = c.high.result.now } ∷ [];
          }) c.loop-i.invariant.written
          ∙ ap (λ (es : List Entry). record (written a.writer.now) { entries = es })
          (moved-next moved i c.high.result.now none within
          (c.high.ensures ∙ sym (ap (λ (entry : Entry). entry.high)
          (get_or-drop a.stay a.view.now.entries i none))));
      same_block = c.add.ensures.same_block ∙ c.loop-i.invariant.same_block;
      size = c.add.ensures.size ∙ c.loop-i.invariant.size;
      intervals = c.add.ensures.intervals ∙ c.loop-i.invariant.intervals;
    }
