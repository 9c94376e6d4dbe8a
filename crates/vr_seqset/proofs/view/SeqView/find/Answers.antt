use Rattle.std.proofs.Common.{◌≡◌, false, sym, subst, arith}
use Rattle.std.proofs.lemmas.Grind.{common_steps}
use Rattle.vr_seqset.specs.Search.{reaches}
use Rattle.vr_seqset.proofs.SearchLemmas.{Searches, begins, passes, is_there}
use Rattle.vr_seqset.proofs.view.SeqView.find.Goals as goal

pub loop-i-init : goal.loop-i-init
loop-i-init c =
    subst (Searches (reaches c.args.place.now) c.args.self.now.entries 0)
    (sym c.entries-entries.ensures) (begins (reaches c.args.place.now) c.args.self.now.entries)

pub returns-then-is_le-clause-entry : goal.returns-then-is_le-clause-entry
returns-then-is_le-clause-entry c =
    is_there (reaches c.args.place.now) c.args.self.now.entries c.loop-i.entries c.next.new.self
    c.loop-i.i c.in_ok-entry.entry c.in_ok-entry.ensures.steps c.loop-i.invariant

pub loop-i-preserved : goal.loop-i-preserved
loop-i-preserved c =
    let fails : reaches c.args.place.now c.in_ok-entry.entry ≡ false =
    grind (arith, common_steps) in
    passes (reaches c.args.place.now) c.args.self.now.entries c.loop-i.entries c.next.new.self
    c.loop-i.i c.in_ok-entry.entry c.in_ok-entry.ensures.steps fails c.loop-i.invariant
