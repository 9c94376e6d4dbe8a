-- What a block's form, size and CIDF say of its places before its RDFs are read.
use Rattle.std.specs.Prelude.{◌≡◌, ℕ, ◌-◌, ◌*◌, ◌/◌, nat_lt, if◌then◌else◌, Option, Some, None}
use Rattle.vr_ci_match.specs.declared.form.Form.{Form}
use Rattle.vr_ci_match.specs.declared.form.Form.TheVariants.{Plain, Slots}
use Rattle.vr_ci_match.specs.declared.form.Shape.{Shape}
use Rattle.vr_ci_match.specs.declared.form.Shape.TheVariants as shapes
use Rattle.vr_ci_match.specs.declared.rdf.Rdf.{Rdf}
use Rattle.vr_ci_match.specs.declared.rdf.Rdf.TheVariants.{Segment}
use Rattle.vr_ci_match.specs.declared.layout.Layout.{Layout}
use Rattle.vr_ci_match.specs.Rdf.{record_length}
use Rattle.vr_ci_match.specs.Laid.{slots_in}
use Rattle.vr_ci_match.specs.Fault.{filled}

-- how many slots the form gives a block, and how long they are
abbrev pub slot_count : Form → ℕ → ℕ
slot_count Plain size = 0
slot_count (Slots len) size = slots_in size len

abbrev pub slot_length : Form → ℕ
slot_length Plain = 0
slot_length (Slots len) = len

-- Where the place of records and free space ends: plain records have the RDFs that the CIDF leaves
-- place for, and each slot has one.
abbrev pub records_end : Form → ℕ → ℕ → ℕ
records_end Plain size low = size - 4 - (size - 4 - low) / 3 * 3
records_end (Slots len) size low = size - 4 - 3 * slots_in size len

-- a segment has two RDFs
abbrev pub data_end : Form → ℕ → ℕ → Shape → ℕ
data_end form size low (shapes.Segment piece number) = size - 10
data_end form size low shapes.Records = records_end form size low
data_end form size low shapes.EndOfFile = records_end form size low

-- The length that an RDF is to say with that many records to its right. One that is of no slot of
-- the
-- block has none.
abbrev pub length_meant : Form → ℕ → ℕ → Rdf → Option ℕ
length_meant form size before (Segment piece live number n) =
    Some (record_length (filled size (Segment piece live number n)))
length_meant Plain size before r = Some (record_length r)
length_meant (Slots len) size before r =
    if nat_lt before (slots_in size len) then Some len else None

-- the layout of a block of this form and size whose RDFs begin there
pub record IsLayout (form : Form) (size start : ℕ) (layout : Layout) : Type 0 where
  pub low : layout.low ≡ start
  pub slots : layout.slots ≡ slot_count form size
  pub limit : layout.limit ≡ records_end form size start
