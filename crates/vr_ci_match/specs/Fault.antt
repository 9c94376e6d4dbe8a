-- Why a block is not a control interval: the first cause, and where it is. These rules are this
-- project's own.
use Rattle.std.specs.Prelude.{◌≡◌, ◌≢◌, ℕ, ◌+◌, ◌-◌, ◌*◌, ◌%◌, ◌<◌, ◌≤◌, ◌⊎◌, Bool, true, false}
use Rattle.std.specs.Prelude.{if◌then◌else◌, nat_le, List, [], ◌∷◌, ◌++◌, length, take, drop, map}
use Rattle.std.specs.Prelude.{replicate, slice_index, bit_and}
use Rattle.vr_ci_match.specs.declared.form.Form.{Form}
use Rattle.vr_ci_match.specs.declared.form.Form.TheVariants.{Plain, Slots}
use Rattle.vr_ci_match.specs.declared.form.Piece.TheVariants.{First, Inner, Last}
use Rattle.vr_ci_match.specs.declared.rdf.Rdf.{Rdf}
use Rattle.vr_ci_match.specs.declared.rdf.Rdf.TheVariants.{Single, Run, Segment}
use Rattle.vr_ci_match.specs.declared.fault.CiFault.{CiFault}
use Rattle.vr_ci_match.specs.declared.fault.CiFault.TheVariants.{Size, Cidf, Chain, Lengths}
use Rattle.vr_ci_match.specs.Rdf.{span, rdf_bytes, control, IsChain}
use Rattle.vr_ci_match.specs.Laid.{slots_in, control_at, laid}
use Rattle.vr_ci_match.specs.Compare.{DifferFirst}

-- the number in two bytes
abbrev pub number_at : List ℕ → ℕ → ℕ
number_at block i = slice_index block i * 256 + slice_index block (i + 1)

-- where the CIDF stands
abbrev pub cidf_at : List ℕ → ℕ
cidf_at block = length block - 4

abbrev pub displacement : List ℕ → ℕ
displacement block = number_at block (cidf_at block)

-- the length of the free space with the busy flag, and without
abbrev pub free_field : List ℕ → ℕ
free_field block = number_at block (cidf_at block + 2)

abbrev pub free_length : List ℕ → ℕ
free_length block = free_field block % 32768

abbrev pub is_busy : List ℕ → Bool
is_busy block = nat_le 32768 (free_field block)

-- where the free space ends, and the RDFs begin
abbrev pub free_end : List ℕ → ℕ
free_end block = displacement block + free_length block

abbrev pub HasZeroCidf : List ℕ → Type 0
HasZeroCidf block = (displacement block ≡ 0) × (free_field block ≡ 0)

-- the free space ends before the CIDF, and an end of file is all zeros
pub record IsCidfSound (block : List ℕ) : Type 0 where
  pub fits : free_end block ≤ cidf_at block
  pub zeros : HasZeroCidf block → block ≡ replicate (length block) 0

-- the RDFs stand at the right end, from this place on
pub record StandFrom (form : Form) (block : List ℕ) (rdfs : List Rdf) (at : ℕ) : Type 0 where
  pub chain : IsChain form rdfs
  pub low : free_end block ≤ at
  pub high : at ≤ cidf_at block
  pub bytes : drop at (take (cidf_at block) block) ≡ control rdfs

-- The leftmost byte of what ends there: an RDF with X'40' is paired with the one to its left, if
-- there is one.
abbrev pub IsUnit : ℕ → List ℕ → ℕ → ℕ → Type 0
IsUnit low block end at =
    ((at + 6 ≡ end) × (low ≤ at) × (bit_and (slice_index block (end - 3)) 64 ≢ 0))
    ⊎ ((at + 3 ≡ end) × (low ≤ at) × (low + 6 ≤ end → bit_and (slice_index block (end - 3)) 64 ≡ 0))

-- To the left of RDFs that some block of the form has stands an RDF or a pair that none has there.
pub record IsBroken (form : Form) (block : List ℕ) (at : ℕ) : Type 0 where
  pub rdfs : List Rdf
  pub end : ℕ
  pub right : StandFrom form block rdfs end
  pub unit : IsUnit (free_end block) block end at
  pub none : (r : Rdf) → IsChain form (rdfs ++ r ∷ []) → rdf_bytes r ≢ drop at (take end block)

-- all the RDFs that the CIDF leaves place for
pub record IsWhole (form : Form) (block : List ℕ) (rdfs : List Rdf) : Type 0 where
  pub right : StandFrom form block rdfs (control_at (length block) rdfs)
  pub whole : control_at (length block) rdfs < free_end block + 3

-- a segment that is not the last fills the block
abbrev pub filled : ℕ → Rdf → Rdf
filled size (Segment First live number n) = Segment First live number (size - 10)
filled size (Segment Inner live number n) = Segment Inner live number (size - 10)
filled size (Segment Last live number n) = Segment Last live number n
filled size (Single live n) = Single live n
filled size (Run n count) = Run n count

-- a slot has the slots' length
abbrev pub slotted : ℕ → Rdf → Rdf
slotted len (Single live n) = Single live len
slotted len (Run n count) = Run n count
slotted len (Segment piece live number n) = Segment piece live number n

abbrev pub slots_of : ℕ → ℕ → List Rdf → List Rdf
slots_of size len rdfs = take (slots_in size len) (map (slotted len) rdfs
    ++ replicate (slots_in size len) (Single false len))

-- The RDFs of the block that is meant: a slot that has none is empty.
abbrev pub meant : Form → ℕ → List Rdf → List Rdf
meant form size (Segment piece live number n ∷ rdfs) =
    filled size (Segment piece live number n) ∷ []
meant Plain size rdfs = rdfs
meant (Slots len) size rdfs = slots_of size len rdfs

abbrev pub is_live : Rdf → Bool
is_live (Single live n) = live
is_live (Run n count) = true
is_live (Segment piece live number n) = live

-- the bytes of the records that these RDFs are of, with zeros for those that are withdrawn
abbrev pub masked : List Rdf → List ℕ → List ℕ
masked [] bytes = []
masked (r ∷ rdfs) bytes =
    (if is_live r then take (span r) bytes else replicate (span r) 0)
    ++ masked rdfs (drop (span r) bytes)

-- the block that the RDFs, the records' bytes and the busy flag describe
abbrev pub described : Form → List ℕ → List Rdf → List ℕ
described form block rdfs =
    let implied = meant form (length block) rdfs in
    laid (length block) (masked implied block) implied (is_busy block)

-- the room of the records of these RDFs: three bytes for each beside its own
abbrev pub rdf_room : Rdf → ℕ
rdf_room (Single live n) = n + 3
rdf_room (Run n count) = (n + 3) * count
rdf_room (Segment piece live number n) = n + 3

abbrev pub rdfs_room : List Rdf → ℕ
rdfs_room [] = 0
rdfs_room (r ∷ rdfs) = rdf_room r + rdfs_room rdfs

-- The records up to an RDF or pair need more room than the block has, and those before it do not.
pub record PassesRoom (size : ℕ) (rdfs : List Rdf) (at : ℕ) : Type 0 where
  pub before : List Rdf
  pub r : Rdf
  pub more : List Rdf
  pub parts : rdfs ≡ before ++ r ∷ more
  pub fits : rdfs_room before ≤ size - 4
  pub passes : size - 4 < rdfs_room (before ++ r ∷ [])
  pub place : at ≡ control_at size (before ++ r ∷ [])

-- Only plain records have a room of their own rule; slots fill what the block has.
abbrev pub IsRoomKept : Form → ℕ → List Rdf → Type 0
IsRoomKept Plain size rdfs = rdfs_room rdfs ≤ size - 4
IsRoomKept (Slots len) size rdfs = Unit {0}

abbrev pub IsRoomPassed : Form → ℕ → List Rdf → ℕ → Type 0
IsRoomPassed Plain size rdfs at = PassesRoom size rdfs at
IsRoomPassed (Slots len) size rdfs at = ⊥

-- the block is what its RDFs describe, and its records have room
pub record HasRightLengths (form : Form) (block : List ℕ) (rdfs : List Rdf) : Type 0 where
  pub same : block ≡ described form block rdfs
  pub room : IsRoomKept form (length block) rdfs

-- the first byte that differs from what the RDFs describe, or else where the room is passed
abbrev pub HasWrongLengths : Form → List ℕ → List Rdf → ℕ → Type 0
HasWrongLengths form block rdfs at =
    DifferFirst block (described form block rdfs) at
    ⊎ ((block ≡ described form block rdfs) × IsRoomPassed form (length block) rdfs at)

-- the CIDF is right, and the block is not an end of file
pub record HasControl (block : List ℕ) : Type 0 where
  pub sound : IsCidfSound block
  pub some : HasZeroCidf block → ⊥

-- The first fault of a block, with its place. Whether blocks may have its size is not asked here.
abbrev pub IsFirstMismatch : Form → List ℕ → CiFault → Type 0
IsFirstMismatch form block (Size at) = ⊥
IsFirstMismatch form block (Cidf at) = (IsCidfSound block → ⊥) × (at ≡ cidf_at block)
IsFirstMismatch form block (Chain at) = HasControl block × IsBroken form block at
IsFirstMismatch form block (Lengths at) =
    HasControl block × ((rdfs : List Rdf) × IsWhole form block rdfs
    × HasWrongLengths form block rdfs at)
