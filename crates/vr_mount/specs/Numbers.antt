-- The numbers of entries that have to be distinct: those of their parts, and of the areas that they
-- lay. The rules are this project's own.
use Rattle.std.specs.Prelude.{ℕ, List, ◌∷◌, Option, Some, None, nat_eq}
use Rattle.std.specs.List.{AllByRecursion, IsDistinct, filter_map}
use Rattle.std.specs.Prelude.{◌≡◌, false}
use Rattle.std.specs.Option.{option_and_then, option_map}
use Rattle.vr_types.specs.declared.unit.AreaNo.{AreaNo}
use Rattle.vr_catalog.specs.Catalog.{cluster_definition}
use Rattle.vr_catalog.specs.declared.definition.Definition.{Definition}
use Rattle.vr_catalog.specs.declared.entry.CatEntry.{CatEntry}
use Rattle.vr_mount.specs.declared.distinct.Which.{Which}
use Rattle.vr_mount.specs.declared.distinct.Which.TheVariants.{Part, Area}

abbrev pub area_number : AreaNo → ℕ
area_number area = area.0

-- the first area of a cluster, of whichever kind
abbrev pub laid_area : CatEntry → Option ℕ
laid_area entry = option_and_then
    (λ (definition : Definition). option_map area_number entry.first_area)
    (cluster_definition entry.entry_kind entry)

abbrev pub number_by : Which → CatEntry → Option ℕ
number_by Part entry = Some entry.part.0
number_by Area entry = laid_area entry

-- of those that have one
abbrev pub numbers_by : Which → List CatEntry → List ℕ
numbers_by which entries = filter_map (number_by which) entries

-- no number of the list is this one
abbrev pub IsNew : ℕ → List ℕ → Type 0
IsNew n numbers = AllByRecursion (λ (other : ℕ). nat_eq n other ≡ false) numbers

-- the same of a number that there may be
abbrev pub IsLone : List ℕ → Option ℕ → Type 0
IsLone numbers None = Unit {0}
IsLone numbers (Some n) = IsNew n numbers

-- no two are the same, and none is 0, the number of the catalog's own part and area
abbrev pub AreToldApart : Which → List CatEntry → Type 0
AreToldApart which entries = IsDistinct nat_eq (0 ∷ numbers_by which entries)
