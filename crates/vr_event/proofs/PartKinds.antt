-- The kind of a part is that of its cluster: of the part that the catalog lays, and of the data set
-- that a request's file is on.
use Rattle.std.proofs.Common.{◌≡◌, ◌==◌, ℕ, Bool, true, false, cond, List, [], ◌∷◌}
use Rattle.std.proofs.Common.{Option, Some, None, refl, ap, subst}
use Rattle.std.specs.Prelude.{find}
use Rattle.std.specs.Option.{option_and_then, option_map_or}
use Rattle.std.proofs.lemmas.Bool.{eqb-true}
use Rattle.std.proofs.lemmas.Option.{none-some, same_Some}
use Rattle.vr_types.specs.declared.geometry.Geometry.{Geometry}
use Rattle.vr_types.specs.declared.request.FileRef.{FileRef}
use Rattle.vr_types.specs.declared.unit.AreaNo.{AreaNo}
use Rattle.vr_types.specs.declared.unit.Kind.{Kind}
use Rattle.vr_types.specs.declared.unit.Kind.TheVariants.{Keyed, Entry, Relative}
use Rattle.vr_types.specs.declared.unit.PartNo.{PartNo}
use Rattle.vr_catalog.specs.Catalog.{Alternate, cluster_definition, definition_of, entry_with_part}
use Rattle.vr_catalog.specs.Definition.{catalog_definition}
use Rattle.vr_catalog.specs.declared.definition.Definition.{Definition}
use Rattle.vr_catalog.specs.declared.entry.CatEntry.{CatEntry}
use Rattle.vr_space.specs.Part.{KeyedShape, NumberedShape, Shape}
use Rattle.vr_attach.specs.Laid.{catalog_shape, keyed_shape, numbered_part, shape_by_kind}
use Rattle.vr_attach.specs.Laid.{shape_from, shape_in, shape_of}
use Rattle.vr_history.specs.Case.{Case, file_of}
use Rattle.vr_history.specs.Opened.{Unknown, base_of, built_over, by_name, by_path, catalog_of}
use Rattle.vr_history.specs.Opened.{definition_in, opened, opened_base, opened_file}
use Rattle.vr_history.specs.Replies.{is_keyed}
use Rattle.vr_history.specs.State.{State}

-- ---- what a definition says of the part that is laid by it

abbrev pub IsOfKind : Geometry → ℕ → Definition → Shape → Type 0
IsOfKind geometry part definition (KeyedShape keyed) = definition.kind ≡ Keyed
IsOfKind geometry part definition (NumberedShape numbered) = (is_keyed definition.kind ≡ false)
    × ((area : ℕ) × (numbered ≡ numbered_part geometry part area definition))

module _ (geometry : Geometry) where
  by-kind : (part area : ℕ) (definition : Definition) (kind : Kind) (shape : Shape)
      → definition.kind ≡ kind → shape_by_kind geometry part area definition kind ≡ Some shape
      → IsOfKind geometry part definition shape
  by-kind part area definition Keyed shape is there = subst (IsOfKind geometry part definition)
      (same_Some (keyed_shape geometry part area definition) shape there) is
  by-kind part area definition Entry shape is there = subst (IsOfKind geometry part definition)
      (same_Some (NumberedShape (numbered_part geometry part area definition)) shape there)
      (ap is_keyed is, (area, refl))
  by-kind part area definition Relative shape is there = subst (IsOfKind geometry part definition)
      (same_Some (NumberedShape (numbered_part geometry part area definition)) shape there)
      (ap is_keyed is, (area, refl))

  by-area : (part : ℕ) (area : Option AreaNo) (definition : Definition) (shape : Shape)
      → shape_from geometry part area definition ≡ Some shape
      → IsOfKind geometry part definition shape
  by-area part None definition shape there = absurd (none-some shape there)
  by-area part (Some area) definition shape there =
      by-kind part area.0 definition definition.kind shape refl there

  by-definition : (part : ℕ) (area : Option AreaNo) (o : Option Definition)
      (definition : Definition) (shape : Shape) → o ≡ Some definition
      → option_and_then (shape_from geometry part area) o ≡ Some shape
      → IsOfKind geometry part definition shape
  by-definition part area None definition shape is there = absurd (none-some shape there)
  by-definition part area (Some one) definition shape is there =
      subst (λ (d : Definition). IsOfKind geometry part d shape) (same_Some one definition is)
      (by-area part area one shape there)

  by-entry : (part : ℕ) (o : Option CatEntry) (definition : Definition) (shape : Shape)
      → ((entry : CatEntry) → o ≡ Some entry → entry.part.0 ≡ part)
      → option_and_then (λ (entry : CatEntry). cluster_definition entry.entry_kind entry) o
      ≡ Some definition → option_and_then (shape_of geometry) o ≡ Some shape
      → IsOfKind geometry part definition shape
  by-entry part None definition shape numbered is there = absurd (none-some shape there)
  by-entry part (Some entry) definition shape numbered is there =
      subst (λ (n : ℕ). IsOfKind geometry n definition shape) (numbered entry refl)
      (by-definition entry.part.0 entry.first_area (cluster_definition entry.entry_kind entry)
      definition shape is there)

  by-zero : (part : ℕ) (zero : Bool) (o : Option CatEntry) (definition : Definition)
      (shape : Shape) → ((entry : CatEntry) → o ≡ Some entry → entry.part.0 ≡ part)
      → cond zero (Some catalog_definition) (option_and_then
      (λ (entry : CatEntry). cluster_definition entry.entry_kind entry) o) ≡ Some definition
      → cond zero (Some (catalog_shape geometry)) (option_and_then (shape_of geometry) o)
      ≡ Some shape → IsOfKind geometry part definition shape
  by-zero part true o definition shape numbered is there =
      subst (λ (d : Definition). IsOfKind geometry part d shape)
      (same_Some catalog_definition definition is)
      (subst (IsOfKind geometry part catalog_definition)
      (same_Some (catalog_shape geometry) shape there) refl)
  by-zero part false o definition shape numbered is there =
      by-entry part o definition shape numbered is there

-- an entry that is found by its part's number has it
entry-numbered : (entries : List CatEntry) (part : ℕ) (entry : CatEntry)
    → entry_with_part entries part ≡ Some entry → entry.part.0 ≡ part
entry-numbered [] part entry there = absurd (none-some entry there)
entry-numbered (one ∷ entries) part entry there =
    by_test (one.part.0 == part) refl (entry-numbered entries part entry) there
  where
    by_test : (test : Bool) → (one.part.0 == part) ≡ test
        → (entry_with_part entries part ≡ Some entry → entry.part.0 ≡ part)
        → cond test (Some one) (entry_with_part entries part) ≡ Some entry → entry.part.0 ≡ part
    by_test true is further found = subst (λ (e : CatEntry). e.part.0 ≡ part)
        (same_Some one entry found) (eqb-true one.part.0 part is)
    by_test false is further found = further found

-- a part is of the kind that its definition states
pub of-kind : (geometry : Geometry) (entries : List CatEntry) (part : ℕ) (definition : Definition)
    (shape : Shape) → definition_of entries part ≡ Some definition
    → shape_in geometry entries part ≡ Some shape → IsOfKind geometry part definition shape
of-kind geometry entries part definition shape is there =
    by-zero geometry part (part == 0) (entry_with_part entries part) definition shape
    (entry-numbered entries part) is there

-- a part that is laid has a definition
pub laid-defined : (geometry : Geometry) (entries : List CatEntry) (part : ℕ) (shape : Shape)
    → shape_in geometry entries part ≡ Some shape
    → (definition : Definition) × (definition_of entries part ≡ Some definition)
laid-defined geometry entries part shape there =
    by_zero (part == 0) (entry_with_part entries part) there
  where
    by_cluster : (area : Option AreaNo) (number : ℕ) (o : Option Definition)
        → option_and_then (shape_from geometry number area) o ≡ Some shape
        → (definition : Definition) × (o ≡ Some definition)
    by_cluster area number None laid = absurd (none-some shape laid)
    by_cluster area number (Some definition) laid = (definition, refl)

    by_entry : (o : Option CatEntry) → option_and_then (shape_of geometry) o ≡ Some shape
        → (definition : Definition) × (option_and_then
        (λ (entry : CatEntry). cluster_definition entry.entry_kind entry) o ≡ Some definition)
    by_entry None laid = absurd (none-some shape laid)
    by_entry (Some entry) laid = by_cluster entry.first_area entry.part.0
        (cluster_definition entry.entry_kind entry) laid

    by_zero : (zero : Bool) (o : Option CatEntry)
        → cond zero (Some (catalog_shape geometry)) (option_and_then (shape_of geometry) o)
        ≡ Some shape
        → (definition : Definition) × (cond zero (Some catalog_definition) (option_and_then
        (λ (entry : CatEntry). cluster_definition entry.entry_kind entry) o) ≡ Some definition)
    by_zero true o laid = (catalog_definition, refl)
    by_zero false o laid = by_entry o laid

-- ---- the data set that a file is on

module _ (state : State) (definition : Definition) where
  by-alternate : (one : Definition) (found : Option Alternate)
      → definition_in (by_path one found) ≡ Some definition → Some one ≡ Some definition
  by-alternate one None is = absurd (none-some definition is)
  by-alternate one (Some alternate) is = is

  by-path : (base : ℕ) (path : Option PartNo) (one : Definition)
      → definition_in (by_name state base path one) ≡ Some definition → Some one ≡ Some definition
  by-path base None one is = is
  by-path base (Some path) one is = by-alternate one
      (find (λ alternate. alternate.part == path.0) (built_over state base)) is

  by-base : (file : FileRef) (o : Option Definition)
      → definition_in (opened_base state file o) ≡ Some definition → o ≡ Some definition
  by-base file None is = absurd (none-some definition is)
  by-base file (Some one) is = by-path file.base.0 file.path one is

  by-known : (file : FileRef) (known : Bool) (o : Option Definition)
      → definition_in (cond known (opened_base state file o) Unknown) ≡ Some definition
      → o ≡ Some definition
  by-known file true o is = by-base file o is
  by-known file false o is = absurd (none-some definition is)

  by-file : (o : Option FileRef)
      → definition_in (option_map_or (opened_file state) o Unknown) ≡ Some definition
      → definition_of (catalog_of state) (option_map_or (λ (file : FileRef). file.base.0) o 0)
      ≡ Some definition
  by-file None is = absurd (none-some definition is)
  by-file (Some file) is =
      by-known file file.known (definition_of (catalog_of state) file.base.0) is

-- its definition is that of the catalog for its base
pub opened-by : (case : Case) (definition : Definition)
    → definition_in (opened case) ≡ Some definition
    → definition_of (catalog_of case.state) (base_of case) ≡ Some definition
opened-by case definition is = by-file case.state definition (file_of case.request) is
