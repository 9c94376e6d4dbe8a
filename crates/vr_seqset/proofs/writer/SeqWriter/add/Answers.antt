use Rattle.std.proofs.Common.{length}
use Rattle.vr_seqset.specs.Writing.{with_entry}
use Rattle.vr_seqset.specs.Writer.{written}
use Rattle.vr_seqset.proofs.WritingLemmas.{begun_of}
use Rattle.vr_seqset.proofs.writer.SeqWriter.add.Goals as goal

pub invariant_of-self : goal.invariant_of-self
invariant_of-self c = record {
  begun = (begun_of c.args.self.now.cis (length c.args.self.now.block.now)
      (with_entry (written c.args.self.now) c.args.intervals.now c.args.high.now)
      c.put_entry-self.new.block c.put_entry-self.result c.requires
      c.put_entry-self.ensures.spelled c.put_entry-self.ensures.end).0;
}

pub returns-clause-written : goal.returns-clause-written
returns-clause-written c =
    (begun_of c.args.self.now.cis (length c.args.self.now.block.now)
    (with_entry (written c.args.self.now) c.args.intervals.now c.args.high.now)
    c.put_entry-self.new.block c.put_entry-self.result c.requires c.put_entry-self.ensures.spelled
    c.put_entry-self.ensures.end).1
