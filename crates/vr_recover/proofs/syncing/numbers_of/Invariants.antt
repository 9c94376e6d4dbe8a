use Rattle.std.proofs.Common.{◌<◌, ℕ}
use Rattle.std.specs.Prelude.{All, Contains}
use Rattle.vr_recover.proofs.syncing.numbers_of.Given as goal

abbrev pub invariant-loop-n : goal.invariant-loop-n
invariant-loop-n l = record {
  below : All (λ n. n < l.count) l.numbers.items;
  all : (n : ℕ) → n < l.n → Contains l.numbers.items n;
}
