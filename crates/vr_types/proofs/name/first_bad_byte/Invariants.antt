use Rattle.std.proofs.Common.{◌≡◌, ℕ, ◌<◌, true}
use Rattle.vr_types.specs.Name.{column_at, is_right_at}
use Rattle.vr_types.proofs.name.first_bad_byte.Given as goal

-- the column is that of the byte at hand, and each byte before it is right
abbrev pub invariant-loop-at : goal.invariant-loop-at
invariant-loop-at l = record {
  column : l.column ≡ column_at l.text l.at;
  before : (i : ℕ) → i < l.at → is_right_at l.text i ≡ true;
}
