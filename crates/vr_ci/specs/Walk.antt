-- How far the RDFs of a block of records were walked, from the right.
use Rattle.std.specs.Prelude.{◌≡◌, ◌≢◌, ℕ, ◌+◌, ◌*◌, ◌-◌, ◌≤◌, true, false, List, length, take}
use Rattle.std.specs.Prelude.{Option, Some, None}
use Rattle.std.specs.List.{flat_map, AllByRecursion}
use Rattle.vr_ci_match.specs.declared.form.Form.{Form}
use Rattle.vr_ci_match.specs.declared.form.Form.TheVariants.{Plain, Slots}
use Rattle.vr_ci_match.specs.declared.rdf.Rdf.{Rdf}
use Rattle.vr_ci_match.specs.declared.rdf.Rdf.TheVariants.{Single, Run, Segment}
use Rattle.vr_ci.specs.declared.walk.Walk.{Walk}
use Rattle.vr_ci_match.specs.Rdf.{marks, spans, last_from, IsOfRecords}
use Rattle.vr_ci_match.specs.Laid.{slots_in}
use Rattle.vr_ci_match.specs.Fault.{StandFrom, masked}

-- A live record stands to the left of live ones of this length, or of none where it is 0.
abbrev pub MayStand : Form → ℕ → ℕ → Type 0
MayStand Plain run n = n ≢ run
MayStand (Slots len) run n = n ≡ len

-- the length of the live records that an RDF is of, or 0
abbrev pub live_length : Option Rdf → ℕ
live_length None = 0
live_length (Some (Single true n)) = n
live_length (Some (Single false n)) = 0
live_length (Some (Run n count)) = n
live_length (Some (Segment piece live number n)) = 0

-- The RDF is of records, and in form Slots it says the slots' length.
abbrev pub IsOfSlots : Form → Rdf → Type 0
IsOfSlots Plain r = IsOfRecords r
IsOfSlots (Slots len) (Single live n) = n ≡ len
IsOfSlots (Slots len) (Run n count) = ⊥
IsOfSlots (Slots len) (Segment piece live number n) = ⊥

-- Plain records have room for three bytes each beside their own, and slots fill the block.
abbrev pub HasRoom : Form → ℕ → Walk → Type 0
HasRoom Plain size walk = walk.span + 3 * walk.count ≤ size - 4
HasRoom (Slots len) size walk = walk.count ≡ slots_in size len

-- RDFs of records that a block of the form may have stand from a place on, and their withdrawn
-- records are zero.
pub record IsWalked (form : Form) (block : List ℕ) (walk : Walk) : Type 0 where
  pub rdfs : List Rdf
  pub right : StandFrom form block rdfs walk.end
  pub records : AllByRecursion (IsOfSlots form) rdfs
  pub bytes : masked rdfs block ≡ take (spans rdfs) block
  pub span : walk.span ≡ spans rdfs
  pub count : walk.count ≡ length (flat_map marks rdfs)
  pub run : walk.run ≡ live_length (last_from None rdfs)
  pub short : walk.span + 4294967296 * walk.end ≤ 140737488355328
  pub few : walk.count + 65536 * walk.end ≤ 2147483648
