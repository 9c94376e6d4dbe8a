-- Where the parts of a volume are on its blocks: the catalog, which is part 0, from area 0 on, and
-- each cluster from the area on that its entry names. The rules are this project's own.
use Rattle.std.specs.Prelude.{◌≡◌, ◌≢◌, ℕ, List, Option, Some, None, if◌then◌else◌, ◌==◌}
use Rattle.std.specs.Prelude.{Bool, true, false, Contains}
use Rattle.std.specs.Option.{option_and_then}
use Rattle.vr_types.specs.Content.{Content}
use Rattle.vr_types.specs.Image.{Image}
use Rattle.vr_types.specs.declared.geometry.Geometry.{Geometry}
use Rattle.vr_types.specs.declared.unit.AreaNo.{AreaNo}
use Rattle.vr_types.specs.declared.unit.Kind.{Kind}
use Rattle.vr_types.specs.declared.unit.Kind.TheVariants as kinds
use Rattle.vr_catalog.specs.Catalog.{cluster_definition, entries_in, entry_with_part}
use Rattle.vr_catalog.specs.Definition.{catalog_definition}
use Rattle.vr_catalog.specs.declared.definition.Definition.{Definition}
use Rattle.vr_catalog.specs.declared.entry.CatEntry.{CatEntry}
use Rattle.vr_space.specs.Areas.{IsKeyedChain, KeyedChain, areas_in}
use Rattle.vr_space.specs.Known.{Known}
use Rattle.vr_space.specs.Part.{Shape, KeyedShape, NumberedShape, InFirstArea, held_by}
use Rattle.vr_space.specs.Rosters.{IsNumbered, Numbered, chain_of}

-- a keyed part of this definition, whose first area is this one
abbrev pub keyed_part : Geometry → ℕ → ℕ → Definition → KeyedChain
keyed_part geometry part area definition = record {
  part = part;
  first = area;
  geometry = geometry;
  key = definition.key_length;
  offset = definition.key_offset;
  most = definition.maximum;
}

abbrev pub keyed_shape : Geometry → ℕ → ℕ → Definition → Shape
keyed_shape geometry part area definition = KeyedShape (keyed_part geometry part area definition)

-- whether a cluster of this kind is a relative one
abbrev pub is_relative : Kind → Bool
is_relative kinds.Keyed = false
is_relative kinds.Entry = false
is_relative kinds.Relative = true

-- an entry-sequenced or relative part of this definition, whose chain begins with this area
abbrev pub numbered_part : Geometry → ℕ → ℕ → Definition → Numbered
numbered_part geometry part area definition = record {
  part = part;
  first = area;
  geometry = geometry;
  most = definition.maximum;
  relative = is_relative definition.kind;
}

abbrev pub catalog_shape : Geometry → Shape
catalog_shape geometry = keyed_shape geometry 0 0 catalog_definition

abbrev pub shape_by_kind : Geometry → ℕ → ℕ → Definition → Kind → Option Shape
shape_by_kind geometry part area definition kinds.Keyed =
    Some (keyed_shape geometry part area definition)
shape_by_kind geometry part area definition kinds.Entry =
    Some (NumberedShape (numbered_part geometry part area definition))
shape_by_kind geometry part area definition kinds.Relative =
    Some (NumberedShape (numbered_part geometry part area definition))

abbrev pub shape_from : Geometry → ℕ → Option AreaNo → Definition → Option Shape
shape_from geometry part None definition = None
shape_from geometry part (Some area) definition =
    shape_by_kind geometry part area.0 definition definition.kind

-- the shape of a cluster that has an area
abbrev pub shape_of : Geometry → CatEntry → Option Shape
shape_of geometry entry = option_and_then (shape_from geometry entry.part.0 entry.first_area)
    (cluster_definition entry.entry_kind entry)

-- the shape of a part, by the entries of the catalog
abbrev pub shape_in : Geometry → List CatEntry → ℕ → Option Shape
shape_in geometry entries part =
    if part == 0 then Some (catalog_shape geometry)
    else option_and_then (shape_of geometry) (entry_with_part entries part)

-- by a content of part 0
abbrev pub shape_by : Geometry → Content → ℕ → Option Shape
shape_by geometry catalog part = shape_in geometry (entries_in catalog) part

-- a part is on blocks that the volume has, with their size
abbrev pub IsInside : Geometry → Shape → Type 0
IsInside geometry (KeyedShape part) = IsKeyedChain part × (part.geometry ≡ geometry)
IsInside geometry (NumberedShape part) = IsNumbered part × (part.geometry ≡ geometry)

-- a part reaches the areas of its chain
abbrev pub ReachesArea : Geometry → Shape → Image → ℕ → Type 0
ReachesArea geometry (KeyedShape part) image area = Contains (areas_in part image) area
ReachesArea geometry (NumberedShape part) image area = Contains (chain_of part image) area

-- a part holds the area, by what it keeps in memory of its blocks
abbrev pub HasArea : Geometry → Shape → Known → ℕ → Type 0
HasArea geometry shape known area = Contains (held_by shape known) area

-- one of these parts other than this one reaches the area
pub record IsReachedElsewhere (geometry : Geometry) (shapes : ℕ → Option Shape) (image : Image)
    (part area : ℕ) : Type 0 where
  pub other : ℕ
  pub differs : other ≢ part
  pub shape : Shape
  pub laid : shapes other ≡ Some shape
  pub reaches : ReachesArea geometry shape image area

-- no block is in the first areas of two parts
abbrev pub AreApart : (ℕ → Option Shape) → Type 0
AreApart shapes = (one other : ℕ) (here there : Shape) → shapes one ≡ Some here
    → shapes other ≡ Some there → one ≢ other → (n : ℕ) → InFirstArea here n → InFirstArea there n
    → ⊥
