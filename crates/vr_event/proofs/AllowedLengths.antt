-- A part of which a unit keeps a before-image is defined, and its definition allows a record of some
-- length.
use Rattle.std.proofs.Common.{◌≡◌, ◌≢◌, ◌==◌, ◌∙◌, ◌≤◌, ◌<◌, ◌+◌, ◌&&◌, ℕ, Bool, true, false, cond}
use Rattle.std.proofs.Common.{List, Option, Some, None, refl, sym, ap, subst, arith, nat_eq, nat_le}
use Rattle.std.proofs.Common.{nat_lt}
use Rattle.std.specs.Prelude.{IfSome}
use Rattle.std.specs.Option.{option_and_then, option_map}
use Rattle.std.proofs.lemmas.Bool.Decides.{nat_tests}
use Rattle.std.proofs.lemmas.Option.{none-some, same_Some}
use Rattle.vr_catalog.specs.Catalog.{cluster_definition, definition_of, entry_with_part}
use Rattle.vr_catalog.specs.Definition.{catalog_definition}
use Rattle.vr_catalog.specs.declared.definition.Definition.{Definition}
use Rattle.vr_catalog.specs.declared.entry.CatEntry.{CatEntry}
use Rattle.vr_types.specs.Seen.{Seen}
use Rattle.vr_types.specs.declared.geometry.Geometry.{Geometry}
use Rattle.vr_types.specs.declared.unit.AreaNo.{AreaNo}
use Rattle.vr_types.specs.declared.unit.Kind.{Kind}
use Rattle.vr_types.specs.declared.unit.Kind.TheVariants.{Keyed, Entry, Relative}
use Rattle.vr_types.specs.declared.unit.Unit.{Unit as UnitOfRecovery}
use Rattle.vr_space.specs.Numbered.{IsNumberedLength}
use Rattle.vr_space.specs.Part.{NumberedShape, Shape}
use Rattle.vr_attach.specs.Laid.{is_relative, keyed_shape, numbered_part}
use Rattle.vr_undo.specs.Records.{befores_of}
use Rattle.vr_history.specs.State.{BeforeImage}
use Rattle.vr_volume.specs.Laid.{catalog_shape, shape_by_kind, shape_from, shape_in, shape_of}
use Rattle.vr_store.specs.LastImage.{last_of_unit}
use Rattle.vr_store.specs.Store.{HasLength, IsFitImage, PartNow, part_among, shape_among}
use Rattle.vr_store.proofs.CallerLemmas.{last-has}
use Rattle.vr_event.specs.Putting.{AllowsLength, is_length_for, is_length_in}
use Rattle.vr_event.specs.Volume.{IsWhole, VolumeNow}

-- there is a definition, and it does
pub record Allowing (found : Option Definition) : Type 0 where
  pub definition : Definition
  pub is : found ≡ Some definition
  pub allows : AllowsLength definition

pub allowed-there : (found : Option Definition) → Allowing found → found ≢ None
allowed-there found allowing none = none-some allowing.definition (sym none ∙ allowing.is)

pub allowed-length : (found : Option Definition) → Allowing found → IfSome found AllowsLength
allowed-length found allowing =
    subst (λ (o : Option Definition). IfSome o AllowsLength) (sym allowing.is) allowing.allows

module _ (geometry : Geometry) where
  numbered : (part area : ℕ) (definition : Definition) (kind : Kind) → definition.kind ≡ kind
      → ((n : ℕ) → IsNumberedLength (is_relative kind) definition.maximum n
      → is_length_for kind n definition ≡ true)
      → HasLength (NumberedShape (numbered_part geometry part area definition))
      → AllowsLength definition
  numbered part area definition kind same fits has = (
    has.0,
    ap (λ (k : Kind). is_length_for k has.0 definition) same
        ∙ fits has.0 (subst (λ (k : Kind).
        IsNumberedLength (is_relative k) definition.maximum has.0) same has.1),
  )

  by_kind : (part area : ℕ) (definition : Definition) (kind : Kind) (shape : Shape)
      → definition.kind ≡ kind → shape_by_kind geometry part area definition kind ≡ Some shape
      → HasLength shape → AllowsLength definition
  by_kind part area definition Keyed shape same there has =
      let here : HasLength (keyed_shape geometry part area definition) =
      subst HasLength
      (sym (same_Some (keyed_shape geometry part area definition) shape there)) has in
      let fits : is_length_for Keyed here.0 definition ≡ true =
      grind (arith, nat_tests, here.1.0, here.1.1) in (
        here.0,
        ap (λ (k : Kind). is_length_for k here.0 definition) same ∙ fits,
      )
  by_kind part area definition Entry shape same there has =
      numbered part area definition Entry same (λ n long. grind (arith, nat_tests, long.0, long.1))
      (subst HasLength (sym (same_Some
      (NumberedShape (numbered_part geometry part area definition)) shape there)) has)
  by_kind part area definition Relative shape same there has =
      numbered part area definition Relative same (λ n long. grind (arith, nat_tests, long))
      (subst HasLength (sym (same_Some
      (NumberedShape (numbered_part geometry part area definition)) shape there)) has)

  by_area : (part : ℕ) (area : Option AreaNo) (definition : Definition) (shape : Shape)
      → shape_from geometry part area definition ≡ Some shape → HasLength shape
      → AllowsLength definition
  by_area part None definition shape there has = absurd (none-some shape there)
  by_area part (Some area) definition shape there has =
      by_kind part area.0 definition definition.kind shape refl there has

  by_definition : (part : ℕ) (area : Option AreaNo) (found : Option Definition) (shape : Shape)
      → option_and_then (shape_from geometry part area) found ≡ Some shape → HasLength shape
      → Allowing found
  by_definition part area None shape there has = absurd (none-some shape there)
  by_definition part area (Some definition) shape there has = record {
    definition = definition;
    is = refl;
    allows = by_area part area definition shape there has;
  }

  by_entry : (found : Option CatEntry) (shape : Shape)
      → option_and_then (shape_of geometry) found ≡ Some shape → HasLength shape
      → Allowing (option_and_then
      (λ (entry : CatEntry). cluster_definition entry.entry_kind entry) found)
  by_entry None shape there has = absurd (none-some shape there)
  by_entry (Some entry) shape there has = by_definition entry.part.0 entry.first_area
      (cluster_definition entry.entry_kind entry) shape there has

  by_zero : (zero : Bool) (found : Option CatEntry) (shape : Shape)
      → cond zero (Some (catalog_shape geometry)) (option_and_then (shape_of geometry) found)
      ≡ Some shape → HasLength shape
      → Allowing (cond zero (Some catalog_definition) (option_and_then
      (λ (entry : CatEntry). cluster_definition entry.entry_kind entry) found))
  by_zero true found shape there has = record {
    definition = catalog_definition;
    is = refl;
    allows = (204, refl);
  }
  by_zero false found shape there has = by_entry found shape there has

  -- a part that is laid, and has a record of some length
  pub laid-allows : (entries : List CatEntry) (part : ℕ) (shape : Shape)
      → shape_in geometry entries part ≡ Some shape → HasLength shape
      → Allowing (definition_of entries part)
  laid-allows entries part shape there has =
      by_zero (part == 0) (entry_with_part entries part) shape there has

-- that of the last before-image of a unit
pub last-allows : {B : Type 0} (seen : B → Seen) (volume : VolumeNow B) (unit : UnitOfRecovery)
    (part : ℕ) → IsWhole seen volume → volume.file.stopped ≡ None
    → option_map (λ (last : BeforeImage). last.part) (last_of_unit volume.store unit) ≡ Some part
    → Allowing (definition_of volume.file.catalog part)
last-allows seen volume unit part whole going numbers = of (last_of_unit volume.store unit) refl numbers
  where
    by_shape : (found : Option PartNow) → part_among volume.store.parts part ≡ found
        → found ≢ None
        → IfSome (option_map (λ (one : PartNow). one.shape) found) HasLength
        → Allowing (definition_of volume.file.catalog part)
    by_shape None is there has = absurd (there refl)
    by_shape (Some one) is there has =
        laid-allows volume.file.geometry volume.file.catalog part one.shape
        (sym (whole.laid going part) ∙ ap (option_map (λ (p : PartNow). p.shape)) is) has

    of : (found : Option BeforeImage) → last_of_unit volume.store unit ≡ found
        → option_map (λ (last : BeforeImage). last.part) found ≡ Some part
        → Allowing (definition_of volume.file.catalog part)
    of None is number = absurd (none-some part number)
    of (Some last) is number =
        let fit = last-has (IsFitImage volume.store.parts) unit (befores_of volume.store.undo) last
        (whole.set going).kept is in
        let same : last.part ≡ part = same_Some last.part part number in
        by_shape (part_among volume.store.parts part) refl
        (subst (λ (n : ℕ). part_among volume.store.parts n ≢ None) same fit.part)
        (subst (λ (n : ℕ). IfSome (shape_among volume.store.parts n) HasLength) same fit.long)
