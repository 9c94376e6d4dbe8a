use Rattle.std.proofs.Common.{rules, nat_eq, not}
use Rattle.std.proofs.lemmas.Fn.{filter_same}
use Rattle.vr_locks.proofs.filed.drop_from.Goals as goal

pub returns : goal.returns
returns c = filter_same _ (λ n. not (nat_eq n c.args.number)) _
    (λ n kept next_test called. search rules) _ _ c.retain.ensures.filtered
