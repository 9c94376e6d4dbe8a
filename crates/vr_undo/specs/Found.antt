-- What a search from the end of the records finds.
use Rattle.std.specs.Prelude.{◌≡◌, ◌<◌, ◌+◌, ℕ, Bool, true, false, List, drop, slice_index_or}
use Rattle.std.specs.List.{list_any}
use Rattle.vr_undo.specs.declared.record.KeptRecord.{KeptRecord}
use Rattle.std.specs.Prelude.{length, None}

-- what is read past the last record
abbrev pub no_record : KeptRecord
no_record = record { unit = record { deck = 0; number = 0 }; logged = None; kept = None }

-- the last record that passes a test is at this place
pub record IsLastAt (test : KeptRecord → Bool) (records : List KeptRecord) (at : ℕ) : Type 0 where
  pub in_range : at < length records
  pub passes : test (slice_index_or records at no_record) ≡ true
  pub none_after : list_any test (drop (at + 1) records) ≡ false
