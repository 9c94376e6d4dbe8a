-- Which locks may stand side by side, as the DFSMStvs Planning and Operating Guide gives record
-- locks.
use Rattle.std.specs.Prelude.{◌≡◌, ◌≢◌, List, AllPairs}
use Rattle.vr_types.specs.declared.unit.Mode.TheVariants.{Shared}
use Rattle.vr_types.specs.Locks.{Lock}

-- two locks on one name are of two units, and both are shared
abbrev pub GoTogether : Lock → Lock → Type 0
GoTogether a b = a.name ≡ b.name → (a.unit ≢ b.unit) × (a.mode ≡ Shared) × (b.mode ≡ Shared)

-- any two of the locks may stand side by side
abbrev pub IsSound : List Lock → Type 0
IsSound locks = AllPairs GoTogether locks
