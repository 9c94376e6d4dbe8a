-- The grammar of control intervals, as the relation between a block and its value. What lies where
-- in a block is DFSMS Using Data Sets, "Control interval format". The one spelling of each value
-- and the room of records are this project's own rules.
use Rattle.std.specs.Prelude.{◌≡◌, ℕ, ◌+◌, ◌-◌, ◌<◌, ◌≤◌, ◌⊎◌, Bool, false, List, [], ◌∷◌, length}
use Rattle.std.specs.Prelude.{map, replicate}
use Rattle.std.specs.List.{flat_map, AllByRecursion}
use Rattle.vr_ci_match.specs.declared.form.Form.{Form}
use Rattle.vr_ci_match.specs.declared.form.Form.TheVariants.{Plain, Slots}
use Rattle.vr_ci_match.specs.declared.form.Piece.{Piece}
use Rattle.vr_ci_match.specs.declared.form.Piece.TheVariants.{First, Inner, Last}
use Rattle.vr_ci_match.specs.declared.form.Shape.{Shape}
use Rattle.vr_ci_match.specs.declared.form.Shape.TheVariants.{Records, Segment, EndOfFile}
use Rattle.vr_ci_match.specs.declared.rdf.Rdf.{Rdf}
use Rattle.vr_types.specs.BlockSize.{IsBlockSize}
use Rattle.vr_ci_match.specs.Rdf.{Mark, marks, IsCount, IsChain, shape_of}
use Rattle.vr_ci_match.specs.Laid.{slots_in, laid}

-- a record, a slot or a segment
pub record Item : Type 0 where
  pub bytes : List ℕ
  pub live : Bool

-- The value of a control interval. A segment is one item, and an end of file has none.
pub record Interval : Type 0 where
  pub shape : Shape
  pub items : List Item
  pub busy : Bool

-- An item has a byte or more, and one that is withdrawn, or an empty slot, has zeros.
pub record IsItem (item : Item) : Type 0 where
  pub some : 0 < length item.bytes
  pub zeros : item.live ≡ false → item.bytes ≡ replicate (length item.bytes) 0

abbrev pub bytes_of : Item → List ℕ
bytes_of item = item.bytes

abbrev pub live_of : Item → Bool
live_of item = item.live

abbrev pub mark_of : Item → Mark
mark_of item = record { live = item.live; len = length item.bytes }

-- the room that records need: three bytes for each, also where a run shares a pair of RDFs
abbrev pub room : List Item → ℕ
room [] = 0
room (item ∷ items) = length item.bytes + 3 + room items

-- A segment that is not the last fills its block.
abbrev pub IsSegmentLength : Piece → ℕ → ℕ → Type 0
IsSegmentLength First size n = n ≡ size - 10
IsSegmentLength Inner size n = n ≡ size - 10
IsSegmentLength Last size n = n ≤ size - 10

-- which values a block of this size holds
abbrev pub FitsBlock : Form → ℕ → Shape → List Item → Type 0
FitsBlock Plain size Records items = room items ≤ size - 4
FitsBlock (Slots len) size Records items =
    AllByRecursion (λ item. length item.bytes ≡ len) items × (length items ≡ slots_in size len)
FitsBlock form size (Segment piece number) items =
    IsCount number × AllByRecursion (λ item. IsSegmentLength piece size (length item.bytes)) items
    × (length items ≡ 1)
FitsBlock form size EndOfFile items = items ≡ []

pub record Fits (form : Form) (size : ℕ) (value : Interval) : Type 0 where
  pub items : AllByRecursion IsItem value.items
  pub block : FitsBlock form size value.shape value.items
  pub idle : value.shape ≡ EndOfFile → value.busy ≡ false

-- The RDFs say the marks of the items in order, and the block is laid out from the items' bytes and
-- the RDFs.
pub record IsLaidOut (form : Form) (block : List ℕ) (value : Interval) : Type 0 where
  pub rdfs : List Rdf
  pub chain : IsChain form rdfs
  pub shape : shape_of rdfs ≡ value.shape
  pub said : flat_map marks rdfs ≡ map mark_of value.items
  pub layout : block ≡ laid (length block) (flat_map bytes_of value.items) rdfs value.busy

-- A software end of file is all zeros.
abbrev pub IsLaid : Form → List ℕ → Interval → Type 0
IsLaid form block value =
    IsLaidOut form block value ⊎ ((value.shape ≡ EndOfFile) × (block ≡ replicate (length block) 0))

-- the block is a control interval of the form, and this is its value
pub record IsInterval (form : Form) (block : List ℕ) (value : Interval) : Type 0 where
  pub size : IsBlockSize (length block)
  pub fits : Fits form (length block) value
  pub laid : IsLaid form block value
