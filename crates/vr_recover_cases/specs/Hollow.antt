-- A device that keeps nothing, as it is seen.
use Rattle.std.specs.Prelude.{ℕ, []}
use Rattle.vr_types.specs.Seen.{Seen}
use Rattle.vr_types.specs.Faults.{Faults}

abbrev pub seen_of : ℕ → ℕ → Seen
seen_of size blocks = record {
  count = blocks;
  size = size;
  cur = [];
  may = λ n block. ⊥;
  moment = 0;
  images = λ t image. ⊥;
}

abbrev pub no_faults : Faults
no_faults = record { reads = 0; writes = 0 }
