-- A sequence-set record that is being written: at each moment the block spells what was added so
-- far.
use Rattle.std.specs.Prelude.{◌≡◌, ℕ, List, [], ◌∷◌, ◌++◌, length}
use Rattle.vr_seqset.specs.SequenceSet.{SequenceSet, spelling, block_of_record, KeepsRules}
use Rattle.vr_seqset.specs.Reading.{record_in}

-- the record with one more entry, after the others
abbrev pub with_entry : SequenceSet → List ℕ → List ℕ → SequenceSet
with_entry s intervals high = record s {
  entries =
      s.entries ++ record { intervals = intervals; high = high } ∷ [];
}

-- The block spells a record that keeps the rules, in an area of that many intervals, and its last
-- entry ends before the byte.
pub record IsBegun (intervals : ℕ) (block : List ℕ) (end : ℕ) : Type 0 where
  pub rules : KeepsRules intervals (length block) (record_in block)
  pub spelled : block ≡ block_of_record (length block) (record_in block)
  pub ends : end ≡ length (spelling (record_in block))
