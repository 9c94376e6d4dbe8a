-- When the fault count of a sink rises. The rules are this project's own.
use Rattle.std.specs.Prelude.{◌≡◌, ℕ, ◌<◌, List, length, Result, MatchResult}
use Rattle.vr_types.specs.declared.fault.Failed.{Failed}

-- A sink that took nothing, though there was something to take, counts a fault. No other success
-- does.
pub record CountsNone (old new : ℕ) (bytes : List ℕ) (n : ℕ) : Type 0 where
  pub none_taken : n ≡ 0 → 0 < length bytes → old < new
  pub some_taken : 0 < n → new ≡ old
  pub none_given : length bytes ≡ 0 → new ≡ old

-- A sink's count rises exactly when the call failed or took nothing of some bytes.
abbrev pub CountsRefusal : ℕ → ℕ → List ℕ → Result ℕ Failed → Type 0
CountsRefusal old new bytes result = MatchResult result (CountsNone old new bytes) (λ _. old < new)
