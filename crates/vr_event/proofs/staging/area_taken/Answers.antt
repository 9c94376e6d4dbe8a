use Rattle.std.proofs.Common.{◌≡◌, None, cond, arith, nat_lt, true, false, subst}
use Rattle.std.proofs.lemmas.Bool.Decides.{nat_tests}
use Rattle.vr_event.specs.Staging.{IsTakenBy}
use Rattle.vr_event.proofs.Staged.{taken-by}
use Rattle.vr_event.proofs.staging.area_taken.Goals as goal

pub returns-then-now-free : goal.returns-then-now-free
returns-then-now-free c part old new least before after stage =
    let test : nat_lt c.args.now c.args.free ≡ true = grind (arith, nat_tests, c.if-now-free.true) in
    subst (λ b. IsTakenBy part old new (cond b c.args.least None)) test
    (taken-by part old new c.args.least c.args.free c.args.now least before after stage)

pub returns-else-now-free : goal.returns-else-now-free
returns-else-now-free c part old new least before after stage =
    let test : nat_lt c.args.now c.args.free ≡ false =
    grind (arith, nat_tests, c.if-now-free.false) in
    subst (λ b. IsTakenBy part old new (cond b c.args.least None)) test
    (taken-by part old new c.args.least c.args.free c.args.now least before after stage)
