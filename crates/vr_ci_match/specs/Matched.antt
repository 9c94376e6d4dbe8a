-- What a block without a fault was found to hold.
use Rattle.std.specs.Prelude.{◌≡◌, ℕ, ◌-◌, ◌⊎◌, false, List, length, replicate}
use Rattle.std.specs.List.{flat_map}
use Rattle.vr_ci_match.specs.declared.form.Form.{Form}
use Rattle.vr_ci_match.specs.declared.form.Shape.TheVariants.{EndOfFile}
use Rattle.vr_ci_match.specs.declared.rdf.Rdf.{Rdf}
use Rattle.vr_ci_match.specs.declared.matching.Found.{Found}
use Rattle.vr_ci_match.specs.Rdf.{marks, shape_of}
use Rattle.vr_ci_match.specs.Fault.{free_end, is_busy, IsWhole, HasRightLengths}

-- The block is the one that these RDFs, its records' bytes and its busy flag describe.
pub record IsDescribed (form : Form) (block : List ℕ) (found : Found) : Type 0 where
  pub rdfs : List Rdf
  pub whole : IsWhole form block rdfs
  pub right : HasRightLengths form block rdfs
  pub low : found.low ≡ free_end block
  pub shape : found.shape ≡ shape_of rdfs
  pub busy : found.busy ≡ is_busy block
  pub count : found.count ≡ length (flat_map marks rdfs)

-- The block is all zeros.
pub record IsZeros (block : List ℕ) (found : Found) : Type 0 where
  pub zeros : block ≡ replicate (length block) 0
  pub is : found ≡ record { shape = EndOfFile; count = 0; low = length block - 4; busy = false }

-- Nothing in the block disagrees with its RDFs.
abbrev pub IsMatched : Form → List ℕ → Found → Type 0
IsMatched form block found = IsDescribed form block found ⊎ IsZeros block found
