-- What clauses see of a source over a std reader and of a sink over a std writer.
use Rattle.std.specs.Prelude.{ℕ}
use Rattle.vr_outside.specs.declared.std_source.StdSource.{StdSource}
use Rattle.vr_outside.specs.declared.std_sink.StdSink.{StdSink}

-- the reader below a source
abbrev pub reader_of : {R : Type 0} → StdSource R → R
reader_of source = source.reader

-- the writer below a sink
abbrev pub writer_of : {W : Type 0} → StdSink W → W
writer_of sink = sink.writer

-- how often the source failed
abbrev pub source_faults : {R : Type 0} → StdSource R → ℕ
source_faults source = source.faults

-- how often the sink failed, or took nothing of a buffer
abbrev pub sink_faults : {W : Type 0} → StdSink W → ℕ
sink_faults sink = sink.faults
