-- What a log says: its generation and its records.
use Rattle.std.specs.Prelude.{ℕ, List}
use Rattle.vr_log.specs.declared.record.LogRecord.{LogRecord}

pub record Content : Type 0 where
  pub generation : ℕ
  pub records : List LogRecord
