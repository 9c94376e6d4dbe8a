-- The order of the names of locks: records before unique keys, then by part number, then by place.
-- The order is this project's own.
use Rattle.std.specs.Prelude.{ℕ, Bool, List, nat_eq, bytes_eq}
use Rattle.std.specs.declared.cmp.Ordering.{Ordering}
use Rattle.std.specs.Ordering.{nat_cmp, on, then_cmp, eq_of_both}
use Rattle.vr_types.specs.Content.{place_cmp}
use Rattle.vr_types.specs.declared.lock_name.LockName.{LockName}
use Rattle.vr_types.specs.declared.lock_name.LockName.TheVariants.{Record, Unique}

-- 0 for a record, 1 for a key of a unique alternate index
abbrev pub kind_number : LockName → ℕ
kind_number (Record part place) = 0
kind_number (Unique part key) = 1

abbrev pub part_number : LockName → ℕ
part_number (Record part place) = part.0
part_number (Unique part key) = part.0

abbrev pub place_of : LockName → List ℕ
place_of (Record part place) = place
place_of (Unique part key) = key

abbrev pub lock_name_cmp : LockName → LockName → Ordering
lock_name_cmp =
    then_cmp (on kind_number nat_cmp) (then_cmp (on part_number nat_cmp) (on place_of place_cmp))

abbrev pub lock_name_eq : LockName → LockName → Bool
lock_name_eq =
    eq_of_both (on kind_number nat_eq) (eq_of_both (on part_number nat_eq) (on place_of bytes_eq))
