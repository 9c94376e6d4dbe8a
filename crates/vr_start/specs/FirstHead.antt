-- The head of the first area of a key-sequenced part without records: one entry, whose interval has
-- all places. The sequence set is DFSMS Using Data Sets; which interval that is, is this project's
-- own rule.
use Rattle.std.specs.Prelude.{◌<◌, ◌≤◌, ◌^◌, ℕ, [], ◌∷◌, true, None, replicate}
use Rattle.vr_types.specs.BlockSize.{IsBlockSize}
use Rattle.vr_seqset.specs.Entry.{Entry}
use Rattle.vr_seqset.specs.Numbers.{intervals_used}
use Rattle.vr_seqset.specs.SequenceSet.{SequenceSet}
use Rattle.vr_space.specs.Keyed.{Keyed}

-- interval 0 has all places up to the greatest one
abbrev pub all_places : ℕ → Entry
all_places key = record { intervals = 0 ∷ []; high = replicate key 255 }

-- no area comes before it and none after it
abbrev pub first_record : Keyed → SequenceSet
first_record part = record {
  first = true;
  part = part.part;
  next = None;
  top = 0;
  index_area = None;
  low = replicate part.key 0;
  entries = all_places part.key ∷ [];
}

-- An area of a part may have such a head.
pub record MayBegin (part : Keyed) : Type 0 where
  pub size : IsBlockSize part.size
  pub key : 0 < part.key
  pub short : part.key ≤ 255
  pub used : 0 < intervals_used part.area part.size part.key
  pub number : part.part < 2 ^ 32
