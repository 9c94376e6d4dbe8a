use Rattle.std.proofs.Common.{arith}
use Rattle.vr_seqset.proofs.EntryLemmas.{is_whole}
use Rattle.vr_seqset.proofs.checks.after_entry.Goals as goal

pub returns-clause-whole : goal.returns-clause-whole
returns-clause-whole c = is_whole c.args.place c.args.bytes.now (omega arith) (omega arith)
