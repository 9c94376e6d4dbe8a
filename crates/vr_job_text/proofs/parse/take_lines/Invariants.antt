use Rattle.std.proofs.Common.{◌≡◌, ◌+◌, ◌≤◌, ◌^◌, length}
use Rattle.std.specs.List.{AllByRecursion}
use Rattle.vr_job_text.specs.Layout.{with_lines}
use Rattle.vr_job_text.proofs.parse.take_lines.Given as goal

-- what is left comes to the same
abbrev pub invariant-loop-line : goal.invariant-loop-line
invariant-loop-line l = record {
  count : l.number + length l.line-iterator ≤ 2 ^ 26;
  short : AllByRecursion (λ line. length line ≤ 2 ^ 26) l.line-iterator;
  same : with_lines (l.number + 1) l.reading l.line-iterator
      ≡ with_lines 1 l.fn.reading l.fn.lines;
}
