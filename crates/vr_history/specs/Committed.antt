-- The committed contents of a history: the opening contents with the changes of the units that
-- committed, in order, and of any that are counted beside them (DFSMStvs Planning and Operating
-- Guide, units of recovery).
use Rattle.std.specs.Prelude.{ℕ, Bool, true, false, cond, not, if◌then◌else◌, List, [], ◌∷◌, Option}
use Rattle.std.specs.Prelude.{Some, None, ◌==◌, ◌&&◌, ◌||◌, bytes_eq, find}
use Rattle.std.specs.List.{list_any}
use Rattle.vr_types.specs.Locks.{same_unit}
use Rattle.vr_catalog.specs.Catalog.{entries_in, parts_in}
use Rattle.vr_types.specs.Content.{Content, Item, item_at}
use Rattle.vr_types.specs.declared.geometry.Geometry.{Geometry}
use Rattle.vr_types.specs.declared.reply.Reply.{Reply}
use Rattle.vr_types.specs.declared.reply.Reply.TheVariants.{Done, Refused}
use Rattle.vr_types.specs.declared.request.Request.{Request}
use Rattle.vr_types.specs.declared.request.Request.TheVariants.{Get, Point, Add, Update, Erase}
use Rattle.vr_types.specs.declared.request.Request.TheVariants.{EndReq, Commit, Backout}
use Rattle.vr_types.specs.declared.unit.Unit.{Unit as UnitOfRecovery}
use Rattle.vr_history.specs.declared.entry.Entry.{Entry}
use Rattle.vr_history.specs.declared.entry.What.{What}
use Rattle.vr_history.specs.declared.entry.What.TheVariants.{Asked, Undone, Claimed, Split, Faulted}
use Rattle.vr_history.specs.Change.{Change}
use Rattle.vr_history.specs.Effects.{has_part, with_change}
use Rattle.vr_history.specs.State.{BeforeImage, State}
use Rattle.vr_history.specs.Step.{place_changes, state_after}

-- a unit's COMMIT, or its BACKOUT, that was accepted
abbrev pub is_done : Reply → Bool
is_done (Done feedback place bytes) = true
is_done (Refused refusal) = false

abbrev pub is_commit : Request → Bool
is_commit Commit = true
is_commit Backout = false
is_commit (Get file find update integrity) = false
is_commit (Point file find) = false
is_commit (Add file place bytes) = false
is_commit (Update file bytes) = false
is_commit (Erase file) = false
is_commit (EndReq file) = false

abbrev pub commits : What → Bool
commits (Asked request reply) = is_done reply && is_commit request
commits (Undone part place) = false
commits (Claimed part area) = false
commits (Split part) = false
commits (Faulted fault) = false

-- the units that count: those that committed, and any others that are named
abbrev pub is_counted : List UnitOfRecovery → List Entry → UnitOfRecovery → Bool
is_counted others entries unit = list_any (same_unit unit) others
    || list_any (λ entry. same_unit unit entry.unit && commits entry.what) entries

-- contents after some changes
abbrev pub changed : (ℕ → Content) → List Change → ℕ → Content
changed contents [] = contents
changed contents (change ∷ later) = changed (with_change change contents) later

-- at the end of a unit the contents of parts go that the catalog has no record of
abbrev pub without_parts : (ℕ → Content) → ℕ → Content
without_parts contents part =
    if has_part (parts_in (entries_in (contents 0))) part then contents part else []

abbrev pub left_at_end : Bool → (ℕ → Content) → ℕ → Content
left_at_end true contents = without_parts contents
left_at_end false contents = contents

-- contents after an entry that counts
abbrev pub counted_entry : Geometry → State → Entry → (ℕ → Content) → ℕ → Content
counted_entry geometry state entry contents =
    left_at_end (commits entry.what)
    (changed contents (place_changes geometry state entry.unit entry.what))

-- contents after some entries, of those units alone that count
abbrev pub counted_run : Geometry → (UnitOfRecovery → Bool) → State → (ℕ → Content) → List Entry
    → ℕ → Content
counted_run geometry counts state contents [] = contents
counted_run geometry counts state contents (entry ∷ entries) =
    counted_run geometry counts (state_after geometry state entry)
    (cond (counts entry.unit) (counted_entry geometry state entry contents) contents) entries

-- the committed contents of a history, with other units counted beside those that committed
abbrev pub committed : Geometry → State → List Entry → List UnitOfRecovery → ℕ → Content
committed geometry opening entries others =
    counted_run geometry (is_counted others entries) opening opening.contents entries

-- what a unit that doesn't count keeps of a place
abbrev pub is_kept_of : (UnitOfRecovery → Bool) → ℕ → List ℕ → BeforeImage → Bool
is_kept_of counts part place kept = not (counts kept.unit)
    && (kept.part == part && bytes_eq place kept.place)

abbrev pub kept_or : Option BeforeImage → Option Item → Option Item
kept_or None now = now
kept_or (Some kept) now = kept.old

-- the item of a state at a place, or the before-image that a unit which doesn't count keeps there
abbrev pub settled_item : (UnitOfRecovery → Bool) → State → ℕ → List ℕ → Option Item
settled_item counts state part place =
    kept_or (find (is_kept_of counts part place) state.befores)
    (item_at (state.contents part) place)
