-- A record that a definition allows may stand in the part that the catalog lays by it.
use Rattle.std.proofs.Common.{◌≡◌, ◌==◌, ℕ, Bool, true, false, cond, List, Option, Some, None, refl}
use Rattle.std.proofs.Common.{◌<◌, ◌^◌, sym, ap, subst, length, arith}
use Rattle.std.specs.Prelude.{IfSome}
use Rattle.std.specs.Option.{option_and_then}
use Rattle.vr_catalog.specs.Catalog.{cluster_definition, definition_of, entry_with_part}
use Rattle.vr_catalog.specs.Definition.{catalog_definition}
use Rattle.vr_catalog.specs.declared.definition.Definition.{Definition}
use Rattle.vr_catalog.specs.declared.entry.CatEntry.{CatEntry}
use Rattle.vr_types.specs.declared.geometry.Geometry.{Geometry}
use Rattle.vr_types.specs.declared.unit.AreaNo.{AreaNo}
use Rattle.vr_types.specs.declared.unit.Kind.{Kind}
use Rattle.vr_types.specs.declared.unit.Kind.TheVariants.{Keyed, Entry, Relative}
use Rattle.vr_space.specs.Part.{IsRecordOf, NumberedShape, Shape}
use Rattle.vr_space.proofs.CallerLemmas.{place-is, record-length}
use Rattle.vr_attach.specs.Laid.{is_relative, numbered_part}
use Rattle.vr_volume.specs.Laid.{catalog_shape, shape_by_kind, shape_from, shape_of}
use Rattle.vr_event.specs.Putting.{AreLaidBy, FitsItem, FitsLength, FitsRecord, IsRecordBy}
use Rattle.vr_event.specs.Putting.{IsNumberedRecord, IsRecordFor}
use Rattle.vr_store.specs.Store.{PartNow, shape_among}

module _ (geometry : Geometry) (place bytes : List ℕ) where
  abbrev IsRecord : Shape → Type 0
  IsRecord shape = IsRecordOf shape place bytes

  numbered : (part area : ℕ) (definition : Definition) (relative : Bool)
      → is_relative definition.kind ≡ relative
      → IsNumberedRecord relative definition place bytes
      → IsRecord (NumberedShape (numbered_part geometry part area definition))
  numbered part area definition relative same is =
      let here : IsNumberedRecord (is_relative definition.kind) definition place bytes =
      subst (λ (b : Bool). IsNumberedRecord b definition place bytes) (sym same) is in
      record {
        numbered = place-is (numbered_part geometry part area definition) place here.number;
        whole = here.whole;
      }

  by_kind : (part area : ℕ) (definition : Definition) (kind : Kind) → definition.kind ≡ kind
      → IsRecordFor kind definition place bytes
      → IfSome (shape_by_kind geometry part area definition kind) IsRecord
  by_kind part area definition Keyed same is = (
    record { least = is.least; most = is.most },
    is.key,
  )
  by_kind part area definition Entry same is =
      numbered part area definition false (ap is_relative same) is
  by_kind part area definition Relative same is =
      numbered part area definition true (ap is_relative same) is

  by_area : (part : ℕ) (area : Option AreaNo) (o : Option Definition)
      → IfSome o (λ (definition : Definition). IsRecordBy definition place bytes)
      → IfSome (option_and_then (shape_from geometry part area) o) IsRecord
  by_area part area None is = tt
  by_area part None (Some definition) is = tt
  by_area part (Some area) (Some definition) is =
      by_kind part area.0 definition definition.kind refl is

  by_entry : (o : Option CatEntry)
      → IfSome (option_and_then
      (λ (entry : CatEntry). cluster_definition entry.entry_kind entry) o)
      (λ (definition : Definition). IsRecordBy definition place bytes)
      → IfSome (option_and_then (shape_of geometry) o) IsRecord
  by_entry None is = tt
  by_entry (Some entry) is = by_area entry.part.0 entry.first_area
      (cluster_definition entry.entry_kind entry) is

  by_zero : (b : Bool) (o : Option CatEntry)
      → IfSome (cond b (Some catalog_definition) (option_and_then
      (λ (entry : CatEntry). cluster_definition entry.entry_kind entry) o))
      (λ (definition : Definition). IsRecordBy definition place bytes)
      → IfSome (cond b (Some (catalog_shape geometry)) (option_and_then (shape_of geometry) o))
      IsRecord
  by_zero true o is = (record { least = is.least; most = is.most }, is.key)
  by_zero false o is = by_entry o is

  pub fits_by : (entries : List CatEntry) (part : ℕ) (definition : Definition)
      → definition_of entries part ≡ Some definition → IsRecordBy definition place bytes
      → (parts : List PartNow) → AreLaidBy geometry entries parts
      → FitsRecord parts part place bytes
  fits_by entries part definition found is parts laid =
      subst (λ (o : Option Shape). IfSome o IsRecord) (sym (laid part))
      (by_zero (part == 0) (entry_with_part entries part)
      (subst (λ (o : Option Definition). IfSome o
      (λ (one : Definition). IsRecordBy one place bytes)) (sym found) is))

pub fits_length : (parts : List PartNow) (part : ℕ) (place bytes : List ℕ)
    → FitsRecord parts part place bytes → FitsLength parts part (length bytes)
fits_length parts part place bytes = of (shape_among parts part)
  where
    of : (o : Option Shape) → IfSome o (λ shape. IsRecordOf shape place bytes)
        → IfSome o (λ shape. Rattle.vr_space.specs.Part.IsLengthOf shape (length bytes))
    of None is = tt
    of (Some shape) is = record-length shape place bytes is

module _ (entries : List CatEntry) (part : ℕ) (place : List ℕ) where
  -- what is known of the length of such a record
  abbrev Fits : List ℕ → Type 0
  Fits bytes = (shape : Geometry) (parts : List PartNow) → AreLaidBy shape entries parts
      → FitsRecord parts part place bytes

  pub item_fits : (geometry : Geometry) (bytes : List ℕ) (n : ℕ) (item : Option (List ℕ)) → item ≡ Some bytes
      → n ≡ length bytes → n < 2 ^ 32 → Fits bytes → (parts : List PartNow)
      → AreLaidBy geometry entries parts → FitsItem parts part place item
  item_fits geometry bytes n item is long short fits parts laid =
      subst (FitsItem parts part place) (sym is)
      (fits geometry parts laid, omega (arith, long, short))

  pub sizes_fit : (bytes : List ℕ) (result : Option ℕ) → IfSome result (λ n. n ≡ length bytes)
      → IfSome result (λ n. Fits bytes)
      → IfSome result (λ n. (shape : Geometry) (parts : List PartNow)
      → AreLaidBy shape entries parts → FitsLength parts part n)
  sizes_fit bytes None long fits = tt
  sizes_fit bytes (Some n) long fits = λ shape parts laid.
      subst (FitsLength parts part) (sym long)
      (fits_length parts part place bytes (fits shape parts laid))

  pub items_fit : (bytes : List ℕ) (item : Option (List ℕ)) (result : Option ℕ)
      → item ≡ Some bytes → IfSome result (λ n. n ≡ length bytes)
      → IfSome result (λ n. n < 2 ^ 32) → IfSome result (λ n. Fits bytes)
      → IfSome result (λ n. (shape : Geometry) (parts : List PartNow)
      → AreLaidBy shape entries parts → FitsItem parts part place item)
  items_fit bytes item None is long short fits = tt
  items_fit bytes item (Some n) is long short fits = λ shape parts laid.
      subst (FitsItem parts part place) (sym is)
      (fits shape parts laid, omega (arith, long, short))
