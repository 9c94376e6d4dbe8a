use Rattle.std.proofs.Common.{◌≡◌, ℕ, false, ◌<◌, get_or}
use Rattle.vr_types.specs.Locks.{same_unit}
use Rattle.vr_store.specs.declared.changed.UnitBlocks.{UnitBlocks}
use Rattle.vr_store.proofs.changed.place_of.Given as goal

abbrev pub invariant-loop-at : goal.invariant-loop-at
invariant-loop-at l =
    (k : ℕ) (d : UnitBlocks) → k < l.at → same_unit l.unit (get_or l.changed k d).unit ≡ false
