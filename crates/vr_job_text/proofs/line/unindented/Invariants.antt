use Rattle.std.proofs.Common.{◌≡◌, ◌+◌, drop}
use Rattle.std.specs.List.{prefix_len}
use Rattle.vr_deck_text.specs.Words.{is_blank}
use Rattle.vr_job_text.proofs.line.unindented.Given as goal

abbrev pub invariant-loop-at : goal.invariant-loop-at
invariant-loop-at l = l.at + prefix_len is_blank (drop l.at l.line) ≡ prefix_len is_blank l.line
