use Rattle.std.proofs.Common.{◌≡◌, ◌≤◌, ◌==◌, count_by, take}
use Rattle.std.specs.Mem.Slots.{slots_items}
use Rattle.vr_frames.proofs.closing.count_home.Given as goal

-- the words so far are counted
abbrev pub invariant-loop-number : goal.invariant-loop-number
invariant-loop-number l =
    record {
      counted : l.home ≡ count_by (λ word. word == 0)
          (take l.number (slots_items l.closed.words));
      fits : l.home ≤ l.number;
    }
