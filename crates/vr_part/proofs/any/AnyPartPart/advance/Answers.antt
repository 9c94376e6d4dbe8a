use Rattle.vr_part.proofs.any.AnyPartPart.advance.Goals as goal

pub returns-in-Keyed-clause-due : goal.returns-in-Keyed-clause-due
returns-in-Keyed-clause-due g c = rw c.in-Keyed.is c.advance.ensures.due

pub returns-in-Chained-clause-same : goal.returns-in-Chained-clause-same
returns-in-Chained-clause-same g c = rw c.in-Chained.is c.advance-in-Chained.ensures.same

pub returns-in-Chained-clause-due : goal.returns-in-Chained-clause-due
returns-in-Chained-clause-due g c = rw c.in-Chained.is c.advance-in-Chained.ensures.due

pub returns-in-Chained-clause-room : goal.returns-in-Chained-clause-room
returns-in-Chained-clause-room g c = rw c.in-Chained.is c.advance-in-Chained.ensures.room
