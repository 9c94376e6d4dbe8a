-- The entry whose range holds a place.
use Rattle.std.specs.Prelude.{ℕ, Bool, List}
use Rattle.std.specs.Ordering.{nat_cmp, is_le}
use Rattle.std.specs.Cmp.Lexicographic.{slice_cmp}
use Rattle.vr_seqset.specs.Entry.{Entry}

-- its high place is at or past the place, byte by byte
abbrev pub reaches : List ℕ → Entry → Bool
reaches place entry = is_le (slice_cmp nat_cmp place entry.high)
