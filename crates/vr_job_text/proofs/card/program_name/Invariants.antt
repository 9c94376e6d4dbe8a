use Rattle.std.proofs.Common.{◌≡◌, ◌+◌, ◌==◌, ◌||◌, drop, not}
use Rattle.std.specs.List.{prefix_len}
use Rattle.vr_job_text.proofs.card.program_name.Given as goal

abbrev pub invariant-loop-at : goal.invariant-loop-at
invariant-loop-at l =
    l.at + prefix_len (λ b. not (b == 32 || b == 44)) (drop l.at l.rest)
    ≡ prefix_len (λ b. not (b == 32 || b == 44)) l.rest
