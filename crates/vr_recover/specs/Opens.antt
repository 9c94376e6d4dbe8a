-- Which blocks an opening refuses for nothing that they have. The rules are this project's own.
use Rattle.std.specs.Prelude.{ℕ, List, All}
use Rattle.vr_types.specs.Seen.{Seen}
use Rattle.vr_types.specs.declared.geometry.Geometry.{Geometry}
use Rattle.vr_catalog.specs.declared.entry.CatEntry.{CatEntry}
use Rattle.vr_edits.specs.Edits.{IsServedEntry}
use Rattle.vr_recover.specs.OpenNo.{IsSilentNo}
use Rattle.vr_recover.specs.Opening.{IsRefused}
use Rattle.vr_recover.specs.declared.open_no.OpenNo.{OpenNo}

-- A catalog that is served: its entries are clusters with records that have room in an interval,
-- alternate indexes that aren't built, and paths.
abbrev pub AreServed : Geometry → List CatEntry → Type 0
AreServed geometry entries = All (IsServedEntry geometry) entries

-- No answer of an opening of the volume of this number says anything of the blocks: for what they
-- have it isn't refused. Left are a fault of the device and out of memory.
abbrev pub MayBeOpened : ℕ → Seen → Type 0
MayBeOpened number now = (no : OpenNo) → IsRefused number now no → IsSilentNo no
