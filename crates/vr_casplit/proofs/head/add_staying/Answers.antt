use Rattle.std.proofs.Common.{◌+◌, ◌∷◌, [], ◌++◌, List, length, take, drop, ap, sym, ◌∙◌, arith}
use Rattle.vr_seqset.specs.Entry.{Entry}
use Rattle.vr_seqset.specs.Writer.{block_of, intervals_of, written}
use Rattle.vr_casplit.proofs.Writing.{next-rules, staying-next, staying-whole}
use Rattle.vr_casplit.proofs.head.add_staying.Goals as goal

pub add-requires : goal.add-requires
add-requires c =
    let a = c.args in
    let i = c.loop-i.i in
    let entries : List Entry = a.view.now.entries in
    let entry : Entry = record { intervals = c.interval.result ∷ []; high = c.high.result.now } in
    let writer = a.writer.now in
    next-rules (intervals_of writer) (length (block_of writer).now) _ _ (written writer) _
    (take a.stay entries) (take i entries) (drop (i + 1) (take a.stay entries)) entry
    c.loop-i.invariant.written c.loop-i.invariant.intervals c.loop-i.invariant.size
    (staying-whole entries (i + 1) a.stay (omega arith)
    ∙ ap (λ (es : List Entry). es ++ drop (i + 1) (take a.stay entries))
    (sym (staying-next entries i c.interval.result c.high.result.now
    (record { intervals = []; high = [] }) (omega arith)
    (c.requires.single i _ (omega arith)) c.interval.ensures c.high.ensures)))
    c.requires.rules
