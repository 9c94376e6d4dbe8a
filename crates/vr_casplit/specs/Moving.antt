-- What the stages of an area split leave: copies of the intervals that move, a head over them, and
-- then the old head, shortened. Until the old head leads to it no chain reaches the new area. The
-- stages are this project's own.
use Rattle.std.specs.Prelude.{◌≡◌, ℕ, All, length, None}
use Rattle.vr_seqset.specs.Entry.{Entry}
use Rattle.vr_seqset.specs.SequenceSet.{SequenceSet}
use Rattle.vr_space.specs.Keyed.{Keyed}

-- The record is that of a head of the part, in a block of this size, with this many entries.
pub record HasShape (part : Keyed) (size entries : ℕ) (s : SequenceSet) : Type 0 where
  pub block : size ≡ part.size
  pub number : s.part ≡ part.part
  pub key : length s.low ≡ part.key
  pub index : s.top ≡ 0
  pub index_area : s.index_area ≡ None
  pub count : length s.entries ≡ entries
  pub single : All (λ (entry : Entry). length entry.intervals ≡ 1) s.entries
