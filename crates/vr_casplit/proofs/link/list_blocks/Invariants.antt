use Rattle.std.proofs.Common.{◌≡◌, ◌<◌, ◌≤◌, ◌+◌, ℕ, length, get_or, vec_capacity}
use Rattle.vr_space.specs.UnderWay.{interval_block}
use Rattle.vr_casplit.proofs.link.list_blocks.Given as goal

abbrev pub invariant-loop-j : goal.invariant-loop-j
invariant-loop-j l = record {
  length : length l.listed.items ≡ l.j + 1;
  head : get_or l.listed.items 0 0 ≡ l.to.head;
  intervals : (j : ℕ) → j < l.j → get_or l.listed.items (j + 1) 0 ≡ interval_block l.to j;
  room : vec_capacity l.fn.listed ≤ vec_capacity l.listed;
}
