use Rattle.std.proofs.Common.{◌≡◌, ◌+◌, ◌-◌, ◌^◌, ◌≤◌, take, vec_len}
use Rattle.vr_outside.specs.Told.{Reads}
use Rattle.vr_job_ends.proofs.input.read_text.Given as goal

-- what was read so far stands at the beginning of the buffer
abbrev pub invariant-loop-filled : goal.invariant-loop-filled
invariant-loop-filled g l = record {
  limit : vec_len l.text ≤ 2 ^ 26 + 1;
  within : l.filled ≤ vec_len l.text;
  read : Reads (g.S.Source.left l.fn.source) (g.S.Source.left l.source)
      (take l.filled l.text.items);
  steady : g.S.Source.faults l.source ≡ g.S.Source.faults l.fn.source;
}

abbrev pub decreases-loop-filled : goal.decreases-loop-filled
decreases-loop-filled g l = 67108864 + 1 - l.filled
