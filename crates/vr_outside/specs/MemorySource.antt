-- A source in memory, as clauses see it, and what its calls do. The rules are this project's own.
use Rattle.std.specs.Prelude.{◌≡◌, ℕ, ◌+◌, min, List, length, take, drop, ◌++◌}
use Rattle.vr_types.specs.Calls.{Calls, counted}

-- The bytes still to come, how many of them a call hands out at most, which calls fail, and how
-- many failed.
pub record SourceState : Type 0 where
  pub left : List ℕ
  pub most : ℕ
  pub calls : Calls
  pub faults : ℕ

-- The call handed out the first n bytes that are left: as many as there is room for, as are left
-- and as a call may.
pub record HandsOut (old new : SourceState) (before after : List ℕ) (n : ℕ) : Type 0 where
  pub count : n ≡ min old.most (min (length before) (length old.left))
  pub bytes : after ≡ take n old.left ++ drop n before
  pub state : new ≡ record old { left = drop n old.left; calls = counted old.calls }

-- The call failed: the count rose by one, and no byte is gone.
abbrev pub FailsReading : SourceState → SourceState → Type 0
FailsReading old new = new ≡ record old { calls = counted old.calls; faults = old.faults + 1 }
