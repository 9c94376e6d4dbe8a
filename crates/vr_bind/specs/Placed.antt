-- Where the requests of a deck go: each to a volume that is there, and a request on a file to the
-- volume of that file. Volume 0 counts as there. The rule is this project's own.
use Rattle.std.specs.Prelude.{◌≡◌, ℕ, ◌<◌, ◌≤◌, true, List, All, Option, Some, None}
use Rattle.vr_types.specs.declared.bound.Bound.{Bound}
use Rattle.vr_types.specs.declared.request.FileRef.{FileRef}
use Rattle.vr_types.specs.declared.request.Request.{Request}
use Rattle.vr_types.specs.declared.request.Request.TheVariants as requests
use Rattle.vr_catalog.specs.Entry.{is_allowed}
use Rattle.vr_catalog.specs.declared.entry.CatEntry.{CatEntry}

-- the file of a request
abbrev pub file_in : Request → Option FileRef
file_in (requests.Get file find update integrity) = Some file
file_in (requests.Point file find) = Some file
file_in (requests.Add file place bytes) = Some file
file_in (requests.Update file bytes) = Some file
file_in (requests.Erase file) = Some file
file_in (requests.EndReq file) = Some file
file_in requests.Commit = None
file_in requests.Backout = None

-- one of this many volumes, where there are any
abbrev pub IsThere : ℕ → ℕ → Type 0
IsThere count volume = 1 ≤ count → volume < count

pub record IsPlaced (count : ℕ) (bound : Bound) : Type 0 where
  pub there : IsThere count bound.volume
  pub with_file : (file : FileRef) → file_in bound.request ≡ Some file → file.volume ≡ bound.volume

-- the catalogs have allowed entries alone
abbrev pub IsAllowed : CatEntry → Type 0
IsAllowed entry = is_allowed entry ≡ true

abbrev pub AreAllowed : List (List CatEntry) → Type 0
AreAllowed catalogs = All (All IsAllowed) catalogs

-- then a file on a known name isn't on part 0, which is the catalog
abbrev pub IsBased : Bound → Type 0
IsBased bound =
    (file : FileRef) → file_in bound.request ≡ Some file → file.known ≡ true → 0 < file.base.0
