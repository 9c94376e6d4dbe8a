use Rattle.std.proofs.Common.{ap, subst, sym, ◌∙◌}
use Rattle.std.specs.HashMap.{get}
use Rattle.vr_types.specs.Locks.{same_unit}
use Rattle.vr_locks.specs.Filed.{AreUsed, numbers_in}
use Rattle.vr_locks.proofs.EndLemmas.{ended-kept, ended-locks}
use Rattle.vr_locks.proofs.maps.LockMaps.end.Goals as goal

pub returns-clause-locks : goal.returns-clause-locks
returns-clause-locks c =
    ended-locks c.args.self.now c.drop_locks.new.self c.args.unit c.deref.result.now c.requires
    (c.deref.ensures.value
    ∙ c.take_numbers-numbers.ensures.numbers) c.drop_locks.ensures.locks
    c.drop_locks.ensures.names
    (λ q. ap (λ map. numbers_in (get same_unit map q)) c.drop_locks.ensures.units
    ∙ c.take_numbers-numbers.ensures.others q)
    c.drop_locks.ensures.next

pub returns-clause-kept : goal.returns-clause-kept
returns-clause-kept c =
    ended-kept c.args.self.now c.drop_locks.new.self c.args.unit c.deref.result.now c.requires
    (c.deref.ensures.value
    ∙ c.take_numbers-numbers.ensures.numbers) c.drop_locks.ensures.locks
    c.drop_locks.ensures.names
    (λ q. ap (λ map. numbers_in (get same_unit map q)) c.drop_locks.ensures.units
    ∙ c.take_numbers-numbers.ensures.others q)
    c.drop_locks.ensures.next
    c.drop_locks.ensures.used
    (subst (λ map. AreUsed (get same_unit map)) (sym c.drop_locks.ensures.units)
    c.take_numbers-numbers.ensures.used)
