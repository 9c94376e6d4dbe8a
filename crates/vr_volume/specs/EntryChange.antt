-- A change of a record of the catalog, and the part that goes with it where one does: what it makes of
-- the contents, and of who owns the blocks (Access Method Services Commands, ALTER and DELETE, for what
-- is there once the command is done; how it gets there is this project's own).
use Rattle.std.specs.Prelude.{◌≡◌, ◌≢◌, ℕ, Bool, false, List, [], Option, Some, None, if◌then◌else◌}
use Rattle.std.specs.Prelude.{◌==◌}
use Rattle.std.specs.Option.{option_map}
use Rattle.vr_types.specs.Content.{Content, Standing}
use Rattle.vr_space.specs.Owners.{Owners}
use Rattle.vr_history.specs.Effects.{with_change}

-- ---- the blocks

-- Blocks of this part may be nobody's now; those of the others stay theirs.
pub record IsTakenFrom (part : ℕ) (owners shrunk : Owners) : Type 0 where
  pub kept : (n p : ℕ) → owners n ≡ Some p → p ≢ part → shrunk n ≡ Some p
  pub fewer : (n p : ℕ) → shrunk n ≡ Some p → owners n ≡ Some p

-- ---- the state

-- the contents with this record in the catalog, or with none at its place
abbrev pub with_entry_change : List ℕ → Option (List ℕ) → (ℕ → Content) → ℕ → Content
with_entry_change place bytes contents =
    with_change (record { part = 0; place = place; new = option_map Standing bytes }) contents

-- the part is the one that goes, where one does
abbrev pub is_gone : Option ℕ → ℕ → Bool
is_gone None part = false
is_gone (Some n) part = n == part

-- the part that goes has nothing any more, and the others stay
abbrev pub without_gone : Option ℕ → (ℕ → Content) → ℕ → Content
without_gone gone contents part = if is_gone gone part then [] else contents part
