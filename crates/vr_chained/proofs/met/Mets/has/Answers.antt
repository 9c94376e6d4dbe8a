use Rattle.std.proofs.Common.{take, sym, ◌∙◌, subst, IsTrue}
use Rattle.vr_chained.proofs.Meeting.{has-met, hasnt-met}
use Rattle.vr_chained.proofs.met.Mets.has.Goals as goal

pub returns-clause-some : goal.returns-clause-some
returns-clause-some c = λ is.
    has-met c.args.place.now (take c.args.self.now.filled c.args.self.now.slots.items)
    c.find.result c.find.ensures (subst IsTrue c.is_some.ensures is)

pub returns-clause-none : goal.returns-clause-none
returns-clause-none c = λ none.
    hasnt-met c.args.place.now (take c.args.self.now.filled c.args.self.now.slots.items)
    c.find.result c.find.ensures (sym c.is_some.ensures ∙ none)
