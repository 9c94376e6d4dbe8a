use Rattle.std.proofs.Common.{◌≡◌, ℕ, ◌<◌, false}
use Rattle.std.specs.Prelude.{◌==◌, slice_index}
use Rattle.vr_catalog.proofs.read.first_blank.Given as goal

-- no byte so far is a blank
abbrev pub invariant-loop-at : goal.invariant-loop-at
invariant-loop-at l = (i : ℕ) → i < l.at → (slice_index l.field i == 32) ≡ false
