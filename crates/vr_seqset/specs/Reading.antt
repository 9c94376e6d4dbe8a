-- What a block has at the places of the fields, whether or not the block keeps the rules.
use Rattle.std.specs.Prelude.{ℕ, ◌+◌, List, take, drop, slice_index, slice_index_or, nat_eq, []}
use Rattle.vr_types.specs.Fields.{two_at, four_at, area_of}
use Rattle.vr_seqset.specs.Entry.{Entry, entries_in}
use Rattle.vr_seqset.specs.SequenceSet.{SequenceSet}
use Rattle.vr_seqset.specs.Roster.{Roster}

unfoldable pub record_in : List ℕ → SequenceSet
record_in block = record {
  first = nat_eq (slice_index block 1) 1;
  part = four_at 8 block;
  next = area_of (four_at 12 block);
  top = four_at 16 block;
  index_area = area_of (four_at 20 block);
  low = take (two_at 6 block) (drop 32 block);
  entries = entries_in (two_at 2 block) (two_at 6 block) (drop (32 + two_at 6 block) block);
}

unfoldable pub roster_in : List ℕ → Roster
roster_in block = record {
  used = two_at 2 block;
  part = four_at 8 block;
  next = area_of (four_at 12 block);
}

-- the entry of that number, and past the last one with no interval
abbrev pub entry_of : SequenceSet → ℕ → Entry
entry_of s i = slice_index_or s.entries i (record { intervals = []; high = [] })
