-- Why a block is refused: its size comes first. The rule is this project's own.
use Rattle.std.specs.Prelude.{◌≡◌, ◌⊎◌, ℕ, List, length}
use Rattle.vr_ci_match.specs.declared.form.Form.{Form}
use Rattle.vr_ci_match.specs.declared.fault.CiFault.{CiFault}
use Rattle.vr_ci_match.specs.declared.fault.CiFault.TheVariants.{Size}
use Rattle.vr_types.specs.BlockSize.{IsBlockSize}
use Rattle.vr_ci_match.specs.Fault.{IsFirstMismatch}

-- The first fault of a block, with its place: no block may have its size, or blocks may and it is
-- the first thing that is wrong in it.
abbrev pub IsFirstFault : Form → List ℕ → CiFault → Type 0
IsFirstFault form block fault =
    ((IsBlockSize (length block) → ⊥) × (fault ≡ Size 0))
    ⊎ (IsBlockSize (length block) × IsFirstMismatch form block fault)
