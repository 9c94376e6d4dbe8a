use Rattle.std.proofs.Common.{take, sym}
use Rattle.vr_space.specs.Numbered.{IsIntervalMet}
use Rattle.vr_chained.proofs.Meeting.{found-met, met-of, none-met}
use Rattle.vr_chained.proofs.met.Mets.met_at.Goals as goal

pub unreachable-requires : goal.unreachable-requires
unreachable-requires c =
    none-met c.args.place.now (take c.args.self.now.filled c.args.self.now.slots.items)
    (sym c.in_default.ensures) c.requires

pub returns-clause-place : goal.returns-clause-place
returns-clause-place c =
    (found-met c.args.place.now (take c.args.self.now.filled c.args.self.now.slots.items)
    c.in-Some.met.now (sym c.in-Some.ensures)).here

pub returns-clause-met : goal.returns-clause-met
returns-clause-met c = λ part image all.
    let slots = take c.args.self.now.filled c.args.self.now.slots.items in
    met-of (IsIntervalMet part image) slots c.in-Some.met.now all
    (found-met c.args.place.now slots c.in-Some.met.now (sym c.in-Some.ensures)).among
