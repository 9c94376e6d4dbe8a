use Rattle.std.proofs.Common.{◌≡◌, ℕ}
use Rattle.vr_frames.specs.Frames.{failed_claims}
use Rattle.vr_resident.specs.Places.{count_of}
use Rattle.vr_resident.specs.Cache.{IsSeated, KeepsSeat, entries_of}
use Rattle.vr_resident.specs.declared.place.Sought.TheVariants as sought
use Rattle.vr_resident.proofs.giving.give_all.Given as goal

abbrev pub invariant-loop-number : goal.invariant-loop-number
invariant-loop-number l = record {
  claims : (k : ℕ) → failed_claims l.left.seat k ≡ failed_claims l.fn.frames.seat k;
  seated : IsSeated l.left;
  seat : KeepsSeat l.fn.frames l.left;
}

abbrev pub decreases-loop-number : goal.decreases-loop-number
decreases-loop-number l = count_of sought.Shared (entries_of l.left)
