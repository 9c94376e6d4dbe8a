use Rattle.vr_seqset.proofs.NumberLemmas.{none_marked}
use Rattle.vr_seqset.proofs.checks.are_used_once.Goals as goal

pub mark_entries-requires-clause-unset : goal.mark_entries-requires-clause-unset
mark_entries-requires-clause-unset c = none_marked 256 c.args.limit

pub mark_entries-requires-else-limit-le-FEW_INTERVALS-clause-unset :
    goal.mark_entries-requires-else-limit-le-FEW_INTERVALS-clause-unset
mark_entries-requires-else-limit-le-FEW_INTERVALS-clause-unset c = none_marked 6547 c.args.limit
