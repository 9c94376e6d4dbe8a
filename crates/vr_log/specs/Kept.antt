-- The records of a log as clauses see them, which take no memory.
use Rattle.std.specs.Prelude.{List, [], ◌∷◌, ◌++◌}
use Rattle.vr_log.specs.declared.record.LogRecord.{LogRecord}
use Rattle.vr_log.specs.declared.kept.Kept.{Kept}
use Rattle.vr_log.specs.declared.kept.Kept.TheVariants.{Nothing, Of, After'}

abbrev pub records_in : Kept → List LogRecord
records_in Nothing = []
records_in (Of content) = content.value.records
records_in (After' _ before last) = records_in before ++ last.value ∷ []
