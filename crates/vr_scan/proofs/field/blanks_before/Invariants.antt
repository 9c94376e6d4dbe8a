use Rattle.std.proofs.Common.{◌≡◌, ◌+◌, drop}
use Rattle.std.specs.List.{prefix_len}
use Rattle.vr_scan.specs.Mark.{is_blank}
use Rattle.vr_scan.proofs.field.blanks_before.Given as goal

abbrev pub invariant-loop-at : goal.invariant-loop-at
invariant-loop-at l = l.at + prefix_len is_blank (drop l.at l.text) ≡ prefix_len is_blank l.text
