-- How many requests of a history were refused since the device failed to read. That a failed read
-- is a reply of its own, 904, is this project's own rule.
use Rattle.std.specs.Prelude.{◌≡◌, ◌+◌, ◌&&◌, ℕ, Bool, cond, not, List, [], ◌∷◌, ◌++◌}
use Rattle.std.proofs.Common.{arith}
use Rattle.vr_types.specs.declared.reply.Reply.{Reply}
use Rattle.vr_history.specs.Legal.{is_write_fault}
use Rattle.vr_history.specs.declared.entry.Entry.{Entry}
use Rattle.vr_history.specs.declared.entry.What.{What}
use Rattle.vr_history.specs.declared.entry.What.TheVariants.{Asked, Undone, Claimed, Split, Faulted}
use Rattle.vr_event.specs.Cause.{is_faulted}

-- the reply is a fault of the device, and not that of a write: 904
abbrev pub is_read_fault : Reply → Bool
is_read_fault reply = is_faulted reply && not (is_write_fault reply)

-- how many requests an entry says were refused with it
abbrev pub read_fault : What → ℕ
read_fault (Asked request reply) = cond (is_read_fault reply) 1 0
read_fault (Undone part place) = 0
read_fault (Claimed part area) = 0
read_fault (Split part) = 0
read_fault (Faulted fault) = 0

-- how many requests entries say were refused with it
abbrev pub read_faults : List Entry → ℕ
read_faults [] = 0
read_faults (entry ∷ entries) = read_fault entry.what + read_faults entries

-- ---- a law, which those of later states cite

pub read-faults-append : (entries more : List Entry)
    → read_faults (entries ++ more) ≡ read_faults entries + read_faults more
read-faults-append [] more = omega arith
read-faults-append (entry ∷ entries) more = omega (arith, read-faults-append entries more)
