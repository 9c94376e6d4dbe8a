-- A sink in memory, as clauses see it, and what its calls do. The rules are this project's own.
use Rattle.std.specs.Prelude.{◌≡◌, ℕ, ◌+◌, ◌==◌, ◌&&◌, nat_lt, min, if◌then◌else◌, List, length}
use Rattle.std.specs.Prelude.{take, ◌++◌}
use Rattle.vr_types.specs.Calls.{Calls, counted, fails_next}

-- The bytes that it took, how many bytes a call takes at most, which calls fail and which take
-- nothing, how many failed or took nothing of some bytes, and how many failed since memory ran out.
pub record SinkState : Type 0 where
  pub taken : List ℕ
  pub most : ℕ
  pub calls : Calls
  pub idle : Calls
  pub faults : ℕ
  pub refused : ℕ

-- how many of these bytes the next call takes
abbrev pub count_taken : SinkState → List ℕ → ℕ
count_taken sink bytes = if fails_next sink.idle then 0 else min sink.most (length bytes)

-- the faults of a call that took n of these bytes: one where it took nothing and there was
-- something to take
abbrev pub faults_of : List ℕ → ℕ → ℕ
faults_of bytes n = if n == 0 && nat_lt 0 (length bytes) then 1 else 0

-- The call took the first n of these bytes, and keeps them after those that it had.
pub record TakesFirst (old new : SinkState) (bytes : List ℕ) (n : ℕ) : Type 0 where
  pub count : n ≡ count_taken old bytes
  pub state : new ≡ record old {
    taken = old.taken ++ take n bytes;
    calls = counted old.calls;
    idle = counted old.idle;
    faults = old.faults + faults_of bytes n;
  }

-- whether a failing call failed since memory ran out: one that was not set to fail
abbrev pub refusals_of : SinkState → ℕ
refusals_of sink = if fails_next sink.calls then 0 else 1

-- The call failed and took nothing. The count rose by one, and where the call was not set to fail,
-- so did that of refusals.
abbrev pub FailsWriting : SinkState → SinkState → Type 0
FailsWriting old new = new ≡ record old {
  calls = counted old.calls;
  idle = counted old.idle;
  faults = old.faults + 1;
  refused = old.refused + refusals_of old;
}
