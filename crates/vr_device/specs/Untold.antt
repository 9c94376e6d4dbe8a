-- What stands for the content of a device that reports none.
use Rattle.std.specs.Prelude.{ℕ, [], false, IsTrue}
use Rattle.std.proofs.Common.{true≢false, sym}
use Rattle.vr_types.specs.Seen.{Seen}

-- blocks of this number and size, of which nothing is said
abbrev pub unseen : ℕ → ℕ → Seen
unseen count size = record {
  count = count;
  size = size;
  cur = [];
  may = λ n block. ⊥;
  moment = 0;
  images = λ t image. ⊥;
}

pub not_told : IsTrue false → ⊥
not_told told = true≢false (sym told)
