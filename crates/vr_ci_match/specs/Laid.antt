-- How a block is laid out: records from its left end, zeros after them, RDFs from right to left and
-- the CIDF in the last four bytes (DFSMS Using Data Sets, "Control interval format"). Zero free
-- space is this project's own.
use Rattle.std.specs.Prelude.{ℕ, ◌+◌, ◌-◌, ◌/◌, Bool, if◌then◌else◌, List, ◌++◌, length, take}
use Rattle.std.specs.Prelude.{replicate}
use Rattle.vr_ci_match.specs.declared.rdf.Rdf.{Rdf}
use Rattle.vr_ci_match.specs.Rdf.{spans, two_bytes, control}

-- how many slots of this length a block has
abbrev pub slots_in : ℕ → ℕ → ℕ
slots_in size length = (size - 4) / (length + 3)

-- the first n bytes, with zeros after them where there are fewer
abbrev pub padded : ℕ → List ℕ → List ℕ
padded n bytes = take n (bytes ++ replicate n 0)

-- displacement and length of the free space; the high bit is the busy flag
abbrev pub cidf : ℕ → ℕ → Bool → List ℕ
cidf displacement free busy =
    two_bytes displacement ++ two_bytes (free + (if busy then 32768 else 0))

-- where the RDFs begin, and the free space ends
abbrev pub control_at : ℕ → List Rdf → ℕ
control_at size rdfs = size - 4 - length (control rdfs)

-- a block with these bytes at its left end, zeros after them, these RDFs and their CIDF
abbrev pub laid : ℕ → List ℕ → List Rdf → Bool → List ℕ
laid size bytes rdfs busy =
    padded (control_at size rdfs) bytes ++ control rdfs
    ++ cidf (spans rdfs) (control_at size rdfs - spans rdfs) busy
