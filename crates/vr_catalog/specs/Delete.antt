-- What DELETE of Access Method Services Commands makes of a catalog: with a cluster go its
-- alternate indexes, their paths and
-- its own; with an alternate index its paths.
use Rattle.std.specs.Prelude.{ℕ, Bool, false, ◌||◌, not, if◌then◌else◌, List, [], ◌∷◌, Option}
use Rattle.std.specs.Prelude.{is_some, bytes_eq}
use Rattle.std.specs.List.{flat_map, list_any, list_all}
use Rattle.std.specs.Option.{option_and_then, option_map_or}
use Rattle.vr_types.specs.declared.unit.PartNo.{PartNo}
use Rattle.vr_catalog.specs.declared.entry.CatEntry.{CatEntry}
use Rattle.vr_catalog.specs.declared.changes.Change.{Change}
use Rattle.vr_catalog.specs.declared.changes.Change.TheVariants.{Erase}
use Rattle.vr_catalog.specs.declared.fault.CatFault.{CatFault}
use Rattle.vr_catalog.specs.declared.fault.CatFault.TheVariants.{NotFound}
use Rattle.vr_catalog.specs.Catalog.{entry_named, entry_with_part, is_over}
use Rattle.vr_catalog.specs.Define.{fault_if}

-- the part under the part that an entry stands over
abbrev pub second_related : List CatEntry → Option PartNo → Option PartNo
second_related entries related = option_and_then (λ entry. entry.related)
    (option_and_then (λ (part : PartNo). entry_with_part entries part.0) related)

-- an entry stands over a part, or over what stands over it
abbrev pub stands_over : List CatEntry → ℕ → CatEntry → Bool
stands_over entries part entry = is_over entry.related part
    || is_over (second_related entries entry.related) part

-- an entry goes with a name: it has the name, or stands over what has it
abbrev pub goes_with : List CatEntry → CatEntry → List ℕ → Bool
goes_with entries entry name = bytes_eq entry.name name
    || option_map_or (λ target. stands_over entries target.part.0 entry)
    (entry_named entries name) false

-- some name is of no entry
abbrev pub delete_fault : List CatEntry → List (List ℕ) → Option CatFault
delete_fault entries names =
    fault_if (not (list_all (λ name. is_some (entry_named entries name)) names)) NotFound

-- the erase of an entry that goes with one of the names
abbrev pub erase_of : List CatEntry → List (List ℕ) → CatEntry → List Change
erase_of entries names entry = if list_any
    (λ name. goes_with entries entry name) names then Erase entry.name ∷ [] else []

-- the changes of a DELETE that isn't refused: one for each entry that goes, in the order of the
-- catalog
abbrev pub delete_changes : List CatEntry → List (List ℕ) → List Change
delete_changes entries names = flat_map (λ entry. erase_of entries names entry) entries
