use Rattle.std.proofs.Common.{◌≡◌, ◌++◌, ◌∷◌, ℕ, List, length, sym, ap, ◌∙◌, subst}
use Rattle.vr_seqset.specs.Entry.{Entry}
use Rattle.vr_seqset.specs.SequenceSet.{SequenceSet, KeepsRules}
use Rattle.vr_seqset.specs.Writer.{block_of, intervals_of, written}
use Rattle.vr_split.specs.Halves.{halved}
use Rattle.vr_split.proofs.HeadTests.{rules-upto}
use Rattle.vr_split.proofs.head.add_all.Goals as goal

pub add_halved-requires-clause-rules : goal.add_halved-requires-clause-rules
add_halved-requires-clause-rules c =
    let a = c.args in
    let entry : Entry = c.in-Some.entry in
    let before : List Entry = c.loop-entry.yielded in
    let kept = c.loop-entry.invariant in
    let more : List Entry = halved a.old a.into a.cut.now entry in
    let whole : a.entries ≡ before ++ entry ∷ c.next.new.self =
    kept.all ∙ ap (λ (es : List Entry). before ++ es) c.in-Some.ensures.steps in
    subst (λ (s : SequenceSet). KeepsRules (intervals_of c.loop-entry.writer)
    (length (block_of c.loop-entry.writer).now) (record s { entries = s.entries ++ more }))
    (sym kept.written)
    (subst (λ (size : ℕ). KeepsRules (intervals_of c.loop-entry.writer) size
    (record (written a.writer.now) {
      entries = Rattle.vr_split.specs.Halves.halves a.old a.into a.cut.now before ++ more;
    })) (sym kept.size)
    (subst (λ (cis : ℕ). KeepsRules cis (length (block_of a.writer.now).now)
    (record (written a.writer.now) {
      entries = Rattle.vr_split.specs.Halves.halves a.old a.into a.cut.now before ++ more;
    })) (sym kept.intervals)
    (rules-upto (intervals_of a.writer.now) (length (block_of a.writer.now).now) a.old a.into
    a.cut.now (written a.writer.now) a.entries before c.next.new.self entry whole
    c.requires.rules)))
