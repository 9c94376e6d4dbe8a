use Rattle.std.proofs.Common.{◌≡◌, ℕ, ◌+◌, List, length, Option, ap, sym, ◌∙◌, arith}
use Rattle.vr_log.specs.Records.{old_bytes}
use Rattle.vr_log.proofs.Lives.{length-none, length-some}
use Rattle.vr_log.proofs.writing.old_length.Goals as goal

pub returns-in-None-clause-value : goal.returns-in-None-clause-value
returns-in-None-clause-value c =
    sym (ap (λ (o : Option (List ℕ)). length (old_bytes o)) c.in-None.is ∙ length-none)

pub returns-in-Some-clause-value : goal.returns-in-Some-clause-value
returns-in-Some-clause-value c =
    let is : length (old_bytes c.args.old.now) ≡ 5 + length c.in-Some.bytes =
    ap (λ (o : Option (List ℕ)). length (old_bytes o)) c.in-Some.is
    ∙ length-some c.in-Some.bytes in
    omega (arith, is, c.len.ensures)
