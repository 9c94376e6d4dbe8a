use Rattle.std.proofs.Common.{◌≡◌, ◌==◌, ℕ, false, ◌<◌, get_or}
use Rattle.vr_store.specs.declared.parts.Laid.{Laid}
use Rattle.vr_store.proofs.parts.index_of.Given as goal

abbrev pub invariant-loop-at : goal.invariant-loop-at
invariant-loop-at g l =
    (k : ℕ) (d : Laid _) → k < l.at → ((get_or l.parts k d).number.0 == l.number.0) ≡ false
