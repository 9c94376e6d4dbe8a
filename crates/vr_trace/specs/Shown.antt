-- A volume as the commands of IDCAMS see it. What they see is this project's own.
use Rattle.std.specs.Prelude.{ℕ, Bool, List, is_some}
use Rattle.std.specs.List.{list_any}
use Rattle.vr_catalog.specs.Catalog.{entry_named}
use Rattle.vr_catalog.specs.declared.entry.CatEntry.{CatEntry}

-- the entries of its catalog, and whether it has stopped
pub record Shown : Type 0 where
  pub catalog : List CatEntry
  pub stopped : Bool

-- whether the catalog of a volume has the name
abbrev pub has_name : Shown → List ℕ → Bool
has_name volume name = is_some (entry_named volume.catalog name)

-- whether some volume has it
abbrev pub is_known : List Shown → List ℕ → Bool
is_known volumes name = list_any (λ (volume : Shown). has_name volume name) volumes
