use Rattle.std.proofs.Common.{length}
use Rattle.vr_seqset.specs.Writer.{begun_by}
use Rattle.vr_seqset.proofs.WritingLemmas.{begun_of}
use Rattle.vr_seqset.proofs.writer.SeqWriter.begin.Goals as goal

pub invariant_of-result : goal.invariant_of-result
invariant_of-result c = record {
  begun = (begun_of c.args.cis (length c.args.out.now)
      (begun_by c.args.head.now) c.put_head-end.new.out c.put_head-end.result c.requires
      c.put_head-end.ensures.spelled c.put_head-end.ensures.end).0;
}

pub returns-clause-written : goal.returns-clause-written
returns-clause-written c =
    (begun_of c.args.cis (length c.args.out.now)
    (begun_by c.args.head.now) c.put_head-end.new.out c.put_head-end.result c.requires
    c.put_head-end.ensures.spelled c.put_head-end.ensures.end).1
