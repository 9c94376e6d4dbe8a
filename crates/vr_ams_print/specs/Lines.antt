-- The lines in which PRINT shows the bytes of a record, in each of the forms of Access Method
-- Services Commands. How many bytes a line has, and the layout of DUMP, are this project's own.
use Rattle.std.specs.Prelude.{ℕ, ◌*◌, List, [], ◌∷◌, ◌++◌, codes, length, map}
use Rattle.std.specs.Fork.{slice_chunk}
use Rattle.std.specs.Int.{div_ceil}
use Rattle.std.specs.List.{flat_map, range_with_len}
use Rattle.vr_amsparse.specs.declared.command.PrintForm.{PrintForm}
use Rattle.vr_amsparse.specs.declared.command.PrintForm.TheVariants.{Character, Hex, Dump}
use Rattle.vr_ams_print.specs.Texts.{characters, digits, offset_digits, padded}

-- how many bytes a line shows; the last line may show fewer
abbrev pub line_size : PrintForm → ℕ
line_size Character = 120
line_size Hex = 60
line_size Dump = 16

-- the bytes of a line, and the offset of the first of them in the record
pub record Chunk : Type 0 where
  pub offset : ℕ
  pub bytes : List ℕ

abbrev pub chunk_at : ℕ → List ℕ → ℕ → Chunk
chunk_at size bytes number =
    record { offset = number * size; bytes = slice_chunk bytes size number }

-- the bytes of a record cut into chunks of a size, the last of which may be shorter
abbrev pub chunks_of : ℕ → List ℕ → List Chunk
chunks_of size bytes =
    map (chunk_at size bytes) (range_with_len 0 (div_ceil (length bytes) size))

-- the bytes of chunks, one after another
abbrev pub joined : List Chunk → List ℕ
joined chunks = flat_map (λ (chunk : Chunk). chunk.bytes) chunks

-- a group of a line of DUMP: a blank, and the digits of four bytes, blanks where bytes are missing
abbrev pub group : List ℕ → List ℕ
group bytes = codes " " ++ padded 8 (digits bytes)

-- the four groups of a line
abbrev pub groups : List ℕ → List ℕ
groups bytes = flat_map group (map (slice_chunk bytes 4) (range_with_len 0 4))

-- the characters of a line of DUMP, blanks where bytes are missing
abbrev pub framed : List ℕ → List ℕ
framed bytes = codes " *" ++ padded 16 (characters bytes) ++ codes "*"

-- what a line shows
abbrev pub shown : PrintForm → Chunk → List ℕ
shown Character chunk = characters chunk.bytes
shown Hex chunk = digits chunk.bytes
shown Dump chunk = offset_digits chunk.offset ++ groups chunk.bytes ++ framed chunk.bytes

abbrev pub line_of : PrintForm → Chunk → List ℕ
line_of form chunk = shown form chunk ++ 10 ∷ []

-- the lines of a record: a line for each chunk, none for a record without bytes
abbrev pub lines_of : PrintForm → List ℕ → List ℕ
lines_of form bytes = flat_map (line_of form) (chunks_of (line_size form) bytes)
