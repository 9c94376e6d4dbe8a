-- Where parts are laid, and who owns their blocks by who owns the areas.
use Rattle.std.proofs.Common.{◌≡◌, ℕ, ◌+◌, ◌-◌, ◌*◌, ◌/◌, ◌<◌, ◌≤◌}
use Rattle.std.proofs.Common.{Bool, true, false, cond, List, [], ◌∷◌, get_or}
use Rattle.std.proofs.Common.{Option, Some, None, refl, sym, ap, subst, ◌∙◌, arith, ◌==◌}
use Rattle.std.specs.Prelude.{IfSome, nat_le}
use Rattle.std.specs.List.{find}
use Rattle.std.specs.Option.{option_and_then, option_map}
use Rattle.std.proofs.lemmas.Bool.{leb-true, leb-false}
use Rattle.std.proofs.lemmas.Bool.Decides.{Decides-eqb}
use Rattle.std.proofs.lemmas.Nat.{div-mul-add}
use Rattle.vr_types.specs.Geometry.{area_count, head_block}
use Rattle.vr_types.specs.Image.{Image}
use Rattle.vr_types.specs.declared.geometry.Geometry.{Geometry}
use Rattle.vr_types.specs.declared.unit.AreaNo.{AreaNo}
use Rattle.vr_types.specs.declared.unit.Kind.{Kind}
use Rattle.vr_types.specs.declared.unit.Kind.TheVariants as kinds
use Rattle.vr_types.specs.declared.unit.PartNo.{PartNo}
use Rattle.vr_catalog.specs.Catalog.{cluster_definition, entry_with_part}
use Rattle.vr_catalog.specs.Definition.{catalog_definition}
use Rattle.vr_catalog.specs.declared.definition.Definition.{Definition}
use Rattle.vr_catalog.specs.declared.entry.CatEntry.{CatEntry}
use Rattle.vr_space.specs.Areas.{IsOwnedArea}
use Rattle.vr_space.specs.Owners.{Owners}
use Rattle.vr_space.specs.Part.{InFirstArea, InPart, KeyedShape, NumberedShape, Shape, StaysIn}
use Rattle.vr_space.specs.Part.{part_no}
use Rattle.vr_space.specs.Rosters.{IsOf, IsOwnArea}
use Rattle.vr_space.specs.Numbered.{IsFilled}
use Rattle.vr_space.proofs.CallerLemmas.{chain-here, each-here}
use Rattle.vr_attach.specs.Laid.{AreApart, catalog_shape, keyed_shape, numbered_part}
use Rattle.vr_attach.specs.Laid.{shape_by_kind, shape_from, shape_in, shape_of}
use Rattle.vr_attach.specs.Owning.{IsPastLog, owner_of}

-- ---- by the owners of areas

-- the blocks that are of a part are past the log
pub owner-past-log : (geometry : Geometry) (areas : List (Option PartNo))
    → IsPastLog geometry (owner_of geometry areas)
owner-past-log geometry areas n part is = by_test (nat_le n geometry.log) refl
    (option_map (λ (owner : PartNo). owner.0)
    (get_or areas ((n - 1 - geometry.log) / (geometry.area + 1)) None)) is
  where
    by_test : (before : Bool) → nat_le n geometry.log ≡ before → (owner : Option ℕ)
        → cond before None owner ≡ Some part → geometry.log < n
    by_test true before owner is = absurd cc
    by_test false past owner is = leb-false n geometry.log past

-- the number of the area of a block
area-of : (geometry : Geometry) (area n : ℕ) → head_block geometry area ≤ n
    → n ≤ head_block geometry area + geometry.area
    → (n - 1 - geometry.log) / (geometry.area + 1) ≡ area
area-of geometry area n from to =
    let more : ℕ = n - head_block geometry area in
    let is : n - 1 - geometry.log ≡ area * (geometry.area + 1) + more = omega (arith, from) in
    ap (λ (m : ℕ). m / (geometry.area + 1)) is
    ∙ div-mul-add area (geometry.area + 1) more (omega (arith, from, to))

-- the owner of each block of an area is the area's, if it has one
pub area-owner : (geometry : Geometry) (areas : List (Option PartNo)) (area n : ℕ)
    → head_block geometry area ≤ n → n ≤ head_block geometry area + geometry.area
    → owner_of geometry areas n
    ≡ option_map (λ (owner : PartNo). owner.0) (get_or areas area None)
area-owner geometry areas area n from to =
    ap (λ (before : Bool). cond before None
    (option_map (λ (owner : PartNo). owner.0)
    (get_or areas ((n - 1 - geometry.log) / (geometry.area + 1)) None)))
    (past (nat_le n geometry.log) refl)
    ∙ ap (λ (a : ℕ). option_map (λ (owner : PartNo). owner.0) (get_or areas a None))
    (area-of geometry area n from to)
  where
    past : (before : Bool) → nat_le n geometry.log ≡ before → before ≡ false
    past true is = absurd (omega (arith, leb-true n geometry.log is, from))
    past false is = refl

-- so each block of an area that has an owner is of this one
pub area-owned : (geometry : Geometry) (areas : List (Option PartNo)) (area : ℕ) (part : PartNo)
    → get_or areas area None ≡ Some part → (n : ℕ) → head_block geometry area ≤ n
    → n ≤ head_block geometry area + geometry.area
    → owner_of geometry areas n ≡ Some part.0
area-owned geometry areas area part owns n from to = area-owner geometry areas area n from to
    ∙ ap (option_map (λ (owner : PartNo). owner.0)) owns

-- ---- where a part is laid

-- a part is on areas of the volume
abbrev pub IsOnAreas : Geometry → Shape → Type 0
IsOnAreas geometry (KeyedShape part) = part.geometry ≡ geometry
IsOnAreas geometry (NumberedShape part) = part.geometry ≡ geometry

-- a shape of this number, on areas of the volume, which are past the log
pub record IsLaidAs (geometry : Geometry) (part : ℕ) (shape : Shape) : Type 0 where
  pub number : (part_no shape).0 ≡ part
  pub past : (n : ℕ) → InFirstArea shape n → geometry.log < n
  pub areas : IsOnAreas geometry shape

-- a part is, wherever it is laid: a keyed one,
as-keyed : (geometry : Geometry) (part area : ℕ) (definition : Definition)
    → IsLaidAs geometry part (keyed_shape geometry part area definition)
as-keyed geometry part area definition = record {
  number = refl;
  past = λ n inside. omega (arith, inside.0);
  areas = refl;
}

-- and an entry-sequenced or relative one
as-numbered : (geometry : Geometry) (part area : ℕ) (definition : Definition)
    → IsLaidAs geometry part (NumberedShape (numbered_part geometry part area definition))
as-numbered geometry part area definition = record {
  number = refl;
  past = λ n inside. omega (arith, inside.from);
  areas = refl;
}

as-kind : (geometry : Geometry) (part area : ℕ) (definition : Definition) (kind : Kind)
    → IfSome (shape_by_kind geometry part area definition kind) (IsLaidAs geometry part)
as-kind geometry part area definition kinds.Keyed = as-keyed geometry part area definition
as-kind geometry part area definition kinds.Entry = as-numbered geometry part area definition
as-kind geometry part area definition kinds.Relative = as-numbered geometry part area definition

as-from : (geometry : Geometry) (part : ℕ) (area : Option AreaNo) (definition : Definition)
    → IfSome (shape_from geometry part area definition) (IsLaidAs geometry part)
as-from geometry part None definition = tt
as-from geometry part (Some area) definition =
    as-kind geometry part area.0 definition definition.kind

as-defined : (geometry : Geometry) (entry : CatEntry) (definition : Option Definition)
    → IfSome (option_and_then (shape_from geometry entry.part.0 entry.first_area) definition)
    (IsLaidAs geometry entry.part.0)
as-defined geometry entry None = tt
as-defined geometry entry (Some definition) =
    as-from geometry entry.part.0 entry.first_area definition

-- the entry that is found is of the part
found-part : (entries : List CatEntry) (part : ℕ)
    → IfSome (entry_with_part entries part) (λ (entry : CatEntry). entry.part.0 ≡ part)
found-part [] part = tt
found-part (entry ∷ entries) part = by_test (entry.part.0 == part) refl (found-part entries part)
  where
    by_test : (is : Bool) → (entry.part.0 == part) ≡ is
        → IfSome (find (λ (one : CatEntry). one.part.0 == part) entries)
        (λ (one : CatEntry). one.part.0 ≡ part)
        → IfSome (cond is (Some entry) (find (λ (one : CatEntry). one.part.0 == part) entries))
        (λ (one : CatEntry). one.part.0 ≡ part)
    by_test true is further = (Decides-eqb entry.part.0 part).0 is
    by_test false is further = further

as-entry : (geometry : Geometry) (part : ℕ) (found : Option CatEntry)
    → IfSome found (λ (entry : CatEntry). entry.part.0 ≡ part)
    → IfSome (option_and_then (shape_of geometry) found) (IsLaidAs geometry part)
as-entry geometry part None is = tt
as-entry geometry part (Some entry) is =
    subst (λ (p : ℕ). IfSome (shape_of geometry entry) (IsLaidAs geometry p)) is
    (as-defined geometry entry (cluster_definition entry.entry_kind entry))

as-by : (geometry : Geometry) (entries : List CatEntry) (part : ℕ) (catalog : Bool)
    → (part == 0) ≡ catalog
    → IfSome (cond catalog (Some (catalog_shape geometry))
    (option_and_then (shape_of geometry) (entry_with_part entries part))) (IsLaidAs geometry part)
as-by geometry entries part true is =
    subst (λ (p : ℕ). IsLaidAs geometry p (catalog_shape geometry))
    (sym ((Decides-eqb part 0).0 is)) (as-keyed geometry 0 0 catalog_definition)
as-by geometry entries part false is =
    as-entry geometry part (entry_with_part entries part) (found-part entries part)

-- a part that is laid has its number, and is on areas of the volume
pub laid-as : (geometry : Geometry) (entries : List CatEntry) (part : ℕ) (shape : Shape)
    → shape_in geometry entries part ≡ Some shape → IsLaidAs geometry part shape
laid-as geometry entries part shape is =
    subst (λ (found : Option Shape). IfSome found (IsLaidAs geometry part)) is
    (as-by geometry entries part (part == 0) refl)

-- ---- parts that stay in their own

-- the blocks of the first area of a part that stays in its own are its own
pub stays-owned : (geometry : Geometry) (shape : Shape) (owners : Owners) (image : Image)
    → 0 < area_count geometry → IsOnAreas geometry shape → StaysIn shape owners image
    → (n : ℕ) → InFirstArea shape n → InPart shape owners n
stays-owned geometry (KeyedShape part) owners image some on stays =
    (each-here part (IsOwnedArea part owners) (IsOf image) (area_count part.geometry) part.first
    (subst (λ (g : Geometry). 0 < area_count g) (sym on) some) stays).owned
stays-owned geometry (NumberedShape part) owners image some on stays =
    (chain-here part (IsOwnArea part owners) (IsFilled part) (IsOf image)
    (area_count part.geometry) part.first stays).owned

-- So parts that stay in their own have no block of their first areas in common.
pub owned-apart : (geometry : Geometry) (entries : List CatEntry) (owners : Owners) (image : Image)
    → 0 < area_count geometry
    → ((part : ℕ) (shape : Shape) → shape_in geometry entries part ≡ Some shape
    → StaysIn shape owners image)
    → AreApart (shape_in geometry entries)
owned-apart geometry entries owners image some stays one other here there here-is there-is differ n
    in-here in-there =
    let mine : IsLaidAs geometry one here = laid-as geometry entries one here here-is in
    let yours : IsLaidAs geometry other there = laid-as geometry entries other there there-is in
    let first : owners n ≡ Some (part_no here).0 =
    stays-owned geometry here owners image some mine.areas (stays one here here-is) n in-here in
    let second : owners n ≡ Some (part_no there).0 =
    stays-owned geometry there owners image some yours.areas (stays other there there-is) n
    in-there in
    let same : (part_no here).0 ≡ (part_no there).0 = some-same (sym first ∙ second) in
    differ (sym mine.number ∙ same ∙ yours.number)
  where
    some-same : {x y : ℕ} → Some x ≡ Some y → x ≡ y
    some-same same = cc
