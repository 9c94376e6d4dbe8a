-- The part numbers of entries, as a catalog's rules have them.
use Rattle.std.proofs.Common.{◌≡◌, ℕ, List, ◌∷◌, sym, subst}
use Rattle.std.specs.Prelude.{nat_eq}
use Rattle.std.specs.List.{IsDistinct}
use Rattle.vr_catalog.specs.Catalog.{parts_in}
use Rattle.vr_catalog.specs.declared.entry.CatEntry.{CatEntry}
use Rattle.vr_mount.specs.Numbers.{numbers_by, AreToldApart}
use Rattle.vr_mount.specs.declared.distinct.Which.TheVariants.{Part}
use Rattle.vr_mount.proofs.Telling.{map_some}

parts_are : (entries : List CatEntry) → numbers_by Part entries ≡ parts_in entries
parts_are entries = map_some (λ (entry : CatEntry). entry.part.0) entries

pub parts_told : (entries : List CatEntry) → IsDistinct nat_eq (0 ∷ parts_in entries)
    → AreToldApart Part entries
parts_told entries distinct =
    subst (λ (numbers : List ℕ). IsDistinct nat_eq (0 ∷ numbers)) (sym (parts_are entries)) distinct

pub parts_distinct : (entries : List CatEntry) → AreToldApart Part entries
    → IsDistinct nat_eq (0 ∷ parts_in entries)
parts_distinct entries told =
    subst (λ (numbers : List ℕ). IsDistinct nat_eq (0 ∷ numbers)) (parts_are entries) told
