-- What clauses see of a source over a file of the host.
use Rattle.std.specs.Prelude.{ℕ, ◌≡◌, None}
use Rattle.vr_outside.specs.declared.file_source.FileSource.{FileSource}

-- how often the source failed
abbrev pub file_faults : FileSource → ℕ
file_faults source = source.faults

-- The file could not be opened.
abbrev pub HasNoFile : FileSource → Type 0
HasNoFile source = source.file ≡ None
