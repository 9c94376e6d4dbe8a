use Rattle.std.proofs.Common.{[], List, length, ap, arith, subst, sym}
use Rattle.vr_seqset.specs.Entry.{Entry}
use Rattle.vr_seqset.specs.SequenceSet.{SequenceSet, KeepsRules}
use Rattle.vr_seqset.proofs.CallerLemmas.{earlier_keep}
use Rattle.vr_split.specs.Halves.{halves}
use Rattle.vr_split.proofs.HalvedRules.{more-entries}
use Rattle.vr_split.proofs.HeadTests.{begun-same}
use Rattle.vr_split.proofs.head.write_halved.Goals as goal

pub begin-writer-requires : goal.begin-writer-requires
begin-writer-requires c =
    let view : SequenceSet = c.args.view.now in
    subst (KeepsRules c.args.cis (length c.args.out.now))
    (sym (begun-same view c.first.result c.part.result c.next.result c.top.result
    c.index_area.result c.low.result.now c.first.ensures c.part.ensures c.next.ensures
    c.top.ensures c.index_area.ensures c.low.ensures))
    (earlier_keep c.args.cis (length c.args.out.now) view []
    (halves c.args.old c.args.into c.args.cut.now view.entries) c.requires.rules)

pub end-requires : goal.end-requires
end-requires c =
    omega (
      arith,
      ap (λ (s : SequenceSet). length s.entries) c.add_all.ensures.written,
      ap (λ (es : List Entry). length (halves c.args.old c.args.into c.args.cut.now es))
          c.entries.ensures,
      more-entries c.args.old c.args.into c.args.cut.now c.args.view.now.entries,
      c.requires.some,
    )
