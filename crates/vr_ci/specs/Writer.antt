-- What a writer holds before its block is ended.
use Rattle.std.specs.Prelude.{◌≡◌, ℕ, ◌+◌, ◌-◌, ◌<◌, ◌≤◌, Bool, true, false, ◌==◌, if◌then◌else◌}
use Rattle.std.specs.Prelude.{List, length, take, drop, map, replicate, Option, Some, None}
use Rattle.std.specs.List.{flat_map, AllByRecursion}
use Rattle.vr_ci_match.specs.declared.form.Form.{Form}
use Rattle.vr_ci_match.specs.declared.form.Form.TheVariants.{Plain, Slots}
use Rattle.vr_ci_match.specs.declared.form.Piece.{Piece}
use Rattle.vr_ci_match.specs.declared.form.Piece.TheVariants.{First, Inner, Last}
use Rattle.vr_ci_match.specs.declared.form.Shape.TheVariants.{Records}
use Rattle.vr_ci_match.specs.declared.rdf.Rdf.{Rdf}
use Rattle.vr_ci_match.specs.declared.rdf.Rdf.TheVariants.{Single, Run, Segment}
use Rattle.vr_ci.specs.declared.writer.CiWriter.{CiWriter}
use Rattle.vr_types.specs.BlockSize.{IsBlockSize}
use Rattle.vr_ci_match.specs.Rdf.{marks, control, IsChain, last_from, shape_of}
use Rattle.vr_ci.specs.Interval.{Item, IsItem, bytes_of, mark_of}
use Rattle.vr_ci_match.specs.Laid.{slots_in}

abbrev pub form_of : CiWriter → Form
form_of w = w.form

abbrev pub size_of : CiWriter → ℕ
size_of w = length w.out.now

-- how many items were added
abbrev pub added_of : CiWriter → ℕ
added_of w = w.added

abbrev pub block_of : CiWriter → List ℕ
block_of w = w.out.now

abbrev pub buffer_of : CiWriter → ℕ
buffer_of w = w.out.ghost_name

abbrev pub IsSlotLength : Form → Type 0
IsSlotLength Plain = Unit {0}
IsSlotLength (Slots len) = 0 < len

-- In form Slots an item has the slots' length.
abbrev pub IsItemLength : Form → ℕ → Type 0
IsItemLength Plain n = 0 < n
IsItemLength (Slots len) n = (0 < n) × (n ≡ len)

abbrev pub SlotsAdded : Form → ℕ → ℕ → Type 0
SlotsAdded Plain size added = Unit {0}
SlotsAdded (Slots len) size added = added ≡ slots_in size len

-- in form Slots every slot is there
abbrev pub IsComplete : CiWriter → Type 0
IsComplete w = SlotsAdded w.form (length w.out.now) w.added

-- A withdrawn record and an empty slot keep their length alone: their bytes are zero.
abbrev pub written : List ℕ → Bool → Item
written bytes live = record {
  bytes = if live then bytes else replicate (length bytes) 0;
  live = live;
}

-- A segment that is not the last has as many bytes as fill its block, if it has any.
abbrev pub Fills : Piece → ℕ → ℕ → Type 0
Fills First size n = 0 < n → size - 10 ≤ n
Fills Inner size n = 0 < n → size - 10 ≤ n
Fills Last size n = Unit {0}

-- The length and the number of the last records, where they are live and a run could go on with
-- them.
abbrev pub IsLastRun : Form → Option Rdf → ℕ → ℕ → Type 0
IsLastRun Plain None n count = count ≡ 0
IsLastRun Plain (Some (Single true m)) n count = (count ≡ 1) × (n ≡ m)
IsLastRun Plain (Some (Single false m)) n count = count ≡ 0
IsLastRun Plain (Some (Run m k)) n count = (count ≡ k) × (n ≡ m) × (2 ≤ k)
IsLastRun Plain (Some (Segment piece live number m)) n count = ⊥
IsLastRun (Slots len) last n count = count ≡ 0

-- how many records a new RDF begins a run with
abbrev pub run_started : Form → Bool → ℕ
run_started Plain true = 1
run_started Plain false = 0
run_started (Slots len) live = 0

-- the RDF or pair of `count` live records
abbrev pub run_rdf : ℕ → ℕ → Rdf
run_rdf n count = if count == 1 then Single true n else Run n count

-- What a writer holds: these items are at the left end of its block, and their RDFs at the right
-- end.
pub record Holds (w : CiWriter) (held : List Item) : Type 0 where
  pub rdfs : List Rdf
  pub size : IsBlockSize (length w.out.now)
  pub chain : IsChain w.form rdfs
  pub shape : shape_of rdfs ≡ Records
  pub said : flat_map marks rdfs ≡ map mark_of held
  pub front : w.front ≡ length (flat_map bytes_of held)
  pub bytes : take w.front w.out.now ≡ flat_map bytes_of held
  pub back : w.back + length (control rdfs) + 4 ≡ length w.out.now
  pub control : drop w.back (take (length w.out.now - 4) w.out.now) ≡ control rdfs
  pub items : AllByRecursion IsItem held
  pub lengths : AllByRecursion (λ item. IsItemLength w.form (length item.bytes)) held
  pub added : w.added ≡ length held
  pub run : IsLastRun w.form (last_from None rdfs) w.run_length w.run_count

-- A writer of this form, for a buffer of this size, that holds these items: what a caller's loop
-- keeps.
pub record IsWriting (form : Form) (size buffer : ℕ) (items : List Item)
    (w : CiWriter) : Type 0 where
  pub holds : Holds w items
  pub same_form : form_of w ≡ form
  pub same_size : size_of w ≡ size
  pub same_buffer : buffer_of w ≡ buffer
  pub count : added_of w ≡ length items
