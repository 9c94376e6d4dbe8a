-- Block 0 of a volume: its mark, version, shape and serial. It is written by formatting alone. The
-- bytes are this project's own.
use Rattle.std.specs.Prelude.{ℕ, ◌+◌, ◌/◌, ◌%◌, List, [], ◌∷◌, ◌++◌}
use Rattle.vr_types.specs.Fields.{four, padded}
use Rattle.vr_types.specs.Image.{Block}
use Rattle.vr_types.specs.declared.geometry.Geometry.{Geometry}

-- `VRMV`
abbrev pub mark : List ℕ
mark = 86 ∷ 82 ∷ 77 ∷ 86 ∷ []

-- the version that is written
abbrev pub version : ℕ
version = 1

-- the serial of a volume of this number: `VOL`, two digits and a blank
abbrev pub serial_of : ℕ → List ℕ
serial_of number = 86 ∷ 79 ∷ 76 ∷ (48 + number / 10 % 10) ∷ (48 + number % 10) ∷ 32 ∷ []

abbrev pub header_bytes : Geometry → ℕ → List ℕ
header_bytes geometry number = mark ++ four version ++ four geometry.size ++ four geometry.blocks
    ++ four geometry.log ++ four geometry.area ++ serial_of number

-- with zeros after them
unfoldable pub header_block : Geometry → ℕ → Block
header_block geometry number = padded geometry.size (header_bytes geometry number)
