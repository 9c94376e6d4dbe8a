use Rattle.std.proofs.Common.{rules, Some}
use Rattle.vr_store.proofs.visit.visit_at.Goals as goal

pub returns-in_ok-visit-in-Some-clause-one : goal.returns-in_ok-visit-in-Some-clause-one
returns-in_ok-visit-in-Some-clause-one g c = (Some c.in-Some.record.now, search rules)
