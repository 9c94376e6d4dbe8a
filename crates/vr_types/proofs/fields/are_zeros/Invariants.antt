use Rattle.std.proofs.Common.{◌≡◌, ◌<◌, ◌≤◌, ℕ, get_or}
use Rattle.vr_types.proofs.fields.are_zeros.Given as goal

abbrev pub invariant-loop-byte : goal.invariant-loop-byte
invariant-loop-byte l = record {
  below : (k : ℕ) → k < l.byte-index → get_or l.bytes k 0 ≤ l.most;
  zero : ((k : ℕ) → k < l.byte-index → get_or l.bytes k 0 ≡ 0) → l.most ≡ 0;
}
