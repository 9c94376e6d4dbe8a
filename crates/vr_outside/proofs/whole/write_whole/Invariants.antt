use Rattle.std.proofs.Common.{length, ◌-◌, ◌≡◌, ℕ, ◌≤◌, take, List, Option}
use Rattle.vr_outside.specs.Told.{Takes}
use Rattle.vr_outside.proofs.whole.write_whole.Given as goal

-- The sink took the bytes as far as `at`, without a fault.
pub record Went (first now : Option (List ℕ)) (faults_first faults_now : ℕ) (bytes : List ℕ)
    (at : ℕ) : Type 0 where
  pub within : at ≤ length bytes
  pub taken : Takes first now (take at bytes)
  pub steady : faults_now ≡ faults_first

abbrev pub invariant-loop-at : goal.invariant-loop-at
invariant-loop-at g l = Went (g.K.Sink.taken l.fn.sink) (g.K.Sink.taken l.sink)
    (g.K.Sink.faults l.fn.sink) (g.K.Sink.faults l.sink) l.bytes l.at

abbrev pub decreases-loop-at : goal.decreases-loop-at
decreases-loop-at g l = length l.bytes - l.at
