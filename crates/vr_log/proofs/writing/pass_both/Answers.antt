use Rattle.std.proofs.Common.{ℕ, List, ◌++◌, subst, append_assoc}
use Rattle.vr_log.specs.Memory.{IsTail}
use Rattle.vr_log.proofs.writing.pass_both.Goals as goal

pub returns-clause-passed : goal.returns-clause-passed
returns-clause-passed c geometry written t =
    subst (λ (x : List ℕ). IsTail geometry x c.pass-2.new.self)
    (append_assoc written c.args.first.now c.args.second.now)
    (c.pass-2.ensures.passed geometry (written
    ++ c.args.first.now) (c.pass.ensures.passed geometry written t))
