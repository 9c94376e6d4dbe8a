use Rattle.std.proofs.Common.{List, nat_eq, ap, ◌∙◌, arith}
use Rattle.std.specs.HashMap.{get}
use Rattle.vr_types.specs.Locks.{Lock}
use Rattle.vr_locks.specs.Locked.{with_locks}
use Rattle.vr_locks.proofs.AskLemmas.{locks-same}
use Rattle.vr_locks.proofs.maps.LockMaps.grant.Goals as goal

pub returns-in-Ok-clause-taken : goal.returns-in-Ok-clause-taken
returns-in-Ok-clause-taken c =
    c.carry_out.ensures.locks
    ∙ ap (λ (locks : List Lock). with_locks c.args.unit c.args.mode locks c.args.names.now)
    (locks-same c.args.self.now c.plan_all.new.self c.requires.kept
    (omega (arith, c.in-Ok.ensures.next, c.in_ok-first.ensures.next, c.in_ok-reserve.ensures.next))
    (λ n. ap (λ map. get nat_eq map n) (c.in-Ok.ensures.locks ∙ c.in_ok-first.ensures.locks)
    ∙ c.in_ok-reserve.ensures.locks n))

pub returns-in-Err-clause-unchanged : goal.returns-in-Err-clause-unchanged
returns-in-Err-clause-unchanged c =
    locks-same c.args.self.now c.forget.new.self c.requires.kept
    (omega (
      arith,
      c.forget.ensures.next,
      c.in-Err.ensures.next,
      c.in_ok-first.ensures.next,
      c.in_ok-reserve.ensures.next,
    ))
    (λ n. ap (λ map. get nat_eq map n) (c.forget.ensures.locks ∙ c.in-Err.ensures.locks
    ∙ c.in_ok-first.ensures.locks) ∙ c.in_ok-reserve.ensures.locks n)
