-- Record definition fields: what they say, how they are spelled, and which may stand side by side.
-- That a block has RDFs of three bytes, from right to left, is DFSMS Using Data Sets, "Control
-- interval format"; the bits, the pairing and the bytes of segments are this project's own profile.
use Rattle.std.specs.Prelude.{◌≢◌, ℕ, ◌+◌, ◌*◌, ◌/◌, ◌%◌, ◌<◌, ◌≤◌, Bool, true, false}
use Rattle.std.specs.Prelude.{if◌then◌else◌, List, [], ◌∷◌, ◌++◌, Option, Some, None, replicate}
use Rattle.vr_ci_match.specs.declared.form.Form.{Form}
use Rattle.vr_ci_match.specs.declared.form.Form.TheVariants.{Plain, Slots}
use Rattle.vr_ci_match.specs.declared.form.Piece.{Piece}
use Rattle.vr_ci_match.specs.declared.form.Piece.TheVariants.{First, Inner, Last}
use Rattle.vr_ci_match.specs.declared.form.Shape.{Shape}
use Rattle.vr_ci_match.specs.declared.form.Shape.TheVariants as shapes
use Rattle.vr_ci_match.specs.declared.rdf.Rdf.{Rdf}
use Rattle.vr_ci_match.specs.declared.rdf.Rdf.TheVariants.{Single, Run, Segment}

-- a record's live mark and its length
pub record Mark : Type 0 where
  pub live : Bool
  pub len : ℕ

-- the records that an RDF, or a pair, is of
abbrev pub marks : Rdf → List Mark
marks (Single live n) = record { live = live; len = n } ∷ []
marks (Run n count) = replicate count (record { live = true; len = n })
marks (Segment piece live number n) = record { live = live; len = n } ∷ []

-- the length of each of its records
abbrev pub record_length : Rdf → ℕ
record_length (Single live n) = n
record_length (Run n count) = n
record_length (Segment piece live number n) = n

-- how many bytes its records have
abbrev pub span : Rdf → ℕ
span (Single live n) = n
span (Run n count) = n * count
span (Segment piece live number n) = n

abbrev pub spans : List Rdf → ℕ
spans [] = 0
spans (r ∷ rs) = span r + spans rs

-- a number in two bytes, high byte first
abbrev pub two_bytes : ℕ → List ℕ
two_bytes n = n / 256 ∷ n % 256 ∷ []

-- X'04': no live record
abbrev pub withdrawn_bit : Bool → ℕ
withdrawn_bit live = if live then 0 else 4

-- X'30': 01 first segment, 10 last, 11 inner
abbrev pub segment_bits : Piece → ℕ
segment_bits First = 16
segment_bits Last = 32
segment_bits Inner = 48

-- The spelling. X'40' pairs an RDF with the one to its left, and X'08' marks a count or an update
-- number.
abbrev pub rdf_bytes : Rdf → List ℕ
rdf_bytes (Single live n) = withdrawn_bit live ∷ two_bytes n
rdf_bytes (Run n count) = 8 ∷ two_bytes count ++ 64 ∷ two_bytes n
rdf_bytes (Segment piece live number n) =
    (8 + segment_bits piece + withdrawn_bit live) ∷ two_bytes number
    ++ (64 + segment_bits piece + withdrawn_bit live) ∷ two_bytes n

-- the RDFs of a block from left to right: the rightmost is of the first record
abbrev pub control : List Rdf → List ℕ
control [] = []
control (r ∷ rs) = control rs ++ rdf_bytes r

-- a number of two bytes that is not 0
pub record IsCount (n : ℕ) : Type 0 where
  pub low : 0 < n
  pub high : n < 65536

-- Lengths, counts and update numbers are at least 1, and a pair is of two records or more.
abbrev pub IsRdf : Rdf → Type 0
IsRdf (Single live n) = IsCount n
IsRdf (Run n count) = IsCount n × IsCount count × (2 ≤ count)
IsRdf (Segment piece live number n) = IsCount number × IsCount n

-- the length of the live records that a run could go on with
abbrev pub run_length : Rdf → Option ℕ
run_length (Single true n) = Some n
run_length (Single false n) = None
run_length (Run n count) = Some n
run_length (Segment piece live number n) = None

-- Runs are maximal: live records of one length beside each other share one pair. Slots have no
-- pairs.
abbrev pub AreApart : Form → Option ℕ → Option ℕ → Type 0
AreApart Plain (Some n) (Some m) = n ≢ m
AreApart Plain (Some n) None = Unit {0}
AreApart Plain None m = Unit {0}
AreApart (Slots length) n m = Unit {0}

abbrev pub IsOfRecords : Rdf → Type 0
IsOfRecords (Single live n) = Unit {0}
IsOfRecords (Run n count) = Unit {0}
IsOfRecords (Segment piece live number n) = ⊥

-- In form Slots each slot has an RDF of its own.
abbrev pub IsOfForm : Form → Rdf → Type 0
IsOfForm Plain r = Unit {0}
IsOfForm (Slots length) (Single live n) = Unit {0}
IsOfForm (Slots length) (Run n count) = ⊥
IsOfForm (Slots length) (Segment piece live number n) = Unit {0}

-- what may stand to the left of an RDF, or at the right end: a segment stands alone
abbrev pub MayFollow : Form → Option Rdf → Rdf → Type 0
MayFollow form None r = IsOfForm form r
MayFollow form (Some before) r =
    IsOfForm form r × IsOfRecords before × IsOfRecords r
    × AreApart form (run_length before) (run_length r)

-- The RDFs, from the right, of some block of the form, whatever its size and the slots' length.
abbrev pub IsChainFrom : Form → Option Rdf → List Rdf → Type 0
IsChainFrom form before [] = Unit {0}
IsChainFrom form before (r ∷ rs) = IsRdf r × MayFollow form before r × IsChainFrom form (Some r) rs

abbrev pub IsChain : Form → List Rdf → Type 0
IsChain form rs = IsChainFrom form None rs

-- the RDF farthest to the left, or the one before where there is none
abbrev pub last_from : Option Rdf → List Rdf → Option Rdf
last_from before [] = before
last_from before (r ∷ rdfs) = last_from (Some r) rdfs

-- what a block with these RDFs holds
abbrev pub shape_of : List Rdf → Shape
shape_of [] = shapes.Records
shape_of (Single live n ∷ rs) = shapes.Records
shape_of (Run n count ∷ rs) = shapes.Records
shape_of (Segment piece live number n ∷ rs) = shapes.Segment piece number

-- the same, by the RDF farthest to the left
abbrev pub shape_by : Option Rdf → Shape
shape_by None = shapes.Records
shape_by (Some (Single live n)) = shapes.Records
shape_by (Some (Run n count)) = shapes.Records
shape_by (Some (Segment piece live number n)) = shapes.Segment piece number
