use Rattle.vr_seqset.specs.Search.{reaches}
use Rattle.vr_seqset.proofs.SearchLemmas.{Searches}
use Rattle.vr_seqset.proofs.view.SeqView.find.Given as goal

abbrev pub invariant-loop-i : goal.invariant-loop-i
invariant-loop-i l = Searches (reaches l.place) l.self.entries l.i l.entries
