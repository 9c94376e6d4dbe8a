use Rattle.vr_part.proofs.any.AnyPartPart.set.Goals as goal

pub returns-in-Keyed-clause-adds : goal.returns-in-Keyed-clause-adds
returns-in-Keyed-clause-adds g c = rw c.in-Keyed.is c.set.ensures.adds

pub returns-in-Keyed-clause-due : goal.returns-in-Keyed-clause-due
returns-in-Keyed-clause-due g c = rw c.in-Keyed.is c.set.ensures.due

pub returns-in-Keyed-clause-put : goal.returns-in-Keyed-clause-put
returns-in-Keyed-clause-put g c = rw c.in-Keyed.is c.set.ensures.put

pub returns-in-Keyed-clause-rooms : goal.returns-in-Keyed-clause-rooms
returns-in-Keyed-clause-rooms g c = rw c.in-Keyed.is c.set.ensures.rooms

pub returns-in-Chained-clause-adds : goal.returns-in-Chained-clause-adds
returns-in-Chained-clause-adds g c = rw c.in-Chained.is c.set-in-Chained.ensures.adds

pub returns-in-Chained-clause-due : goal.returns-in-Chained-clause-due
returns-in-Chained-clause-due g c = rw c.in-Chained.is c.set-in-Chained.ensures.due

pub returns-in-Chained-clause-room : goal.returns-in-Chained-clause-room
returns-in-Chained-clause-room g c = rw c.in-Chained.is c.set-in-Chained.ensures.room

pub returns-in-Keyed-clause-stages : goal.returns-in-Keyed-clause-stages
returns-in-Keyed-clause-stages g c = rw c.in-Keyed.is c.set.ensures.stages

pub returns-in-Chained-clause-stages : goal.returns-in-Chained-clause-stages
returns-in-Chained-clause-stages g c = rw c.in-Chained.is c.set-in-Chained.ensures.stages

pub returns-in-Keyed-clause-met : goal.returns-in-Keyed-clause-met
returns-in-Keyed-clause-met g c = rw c.in-Keyed.is c.set.ensures.met

pub returns-in-Chained-clause-met : goal.returns-in-Chained-clause-met
returns-in-Chained-clause-met g c = rw c.in-Chained.is c.set-in-Chained.ensures.met
