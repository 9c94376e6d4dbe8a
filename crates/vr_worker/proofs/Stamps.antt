-- Stamps that rise, over two lists of entries.
use Rattle.std.proofs.Common.{◌≡◌, ℕ, List, [], ◌∷◌, ◌++◌, refl}
use Rattle.vr_history.specs.declared.entry.Entry.{Entry}
use Rattle.vr_history.specs.Merged.{IsStamped, last_stamp}

-- the stamps of both rise, where those of the second go on from the first's last
pub stamped-both : (before : ℕ) (one more : List Entry) → IsStamped before one
    → IsStamped (last_stamp before one) more → IsStamped before (one ++ more)
stamped-both before [] more first second = second
stamped-both before (entry ∷ one) more first second =
    (first.0, stamped-both entry.stamp one more first.1 second)

-- the last stamp is the second's
pub last_stamp-both : (before : ℕ) (one more : List Entry)
    → last_stamp before (one ++ more) ≡ last_stamp (last_stamp before one) more
last_stamp-both before [] more = refl
last_stamp-both before (entry ∷ one) more = last_stamp-both entry.stamp one more
