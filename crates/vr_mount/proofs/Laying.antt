-- On which areas the parts of a catalog are laid.
use Rattle.std.proofs.Common.{◌≡◌, ◌⊎◌, ℕ, ◌+◌, ◌<◌, ◌≤◌, Bool, true, false, List, refl, sym, ap}
use Rattle.std.proofs.Common.{◌∙◌, subst, arith, inl, inr, Option, Some, None, get_or, length}
use Rattle.std.specs.Prelude.{if◌then◌else◌, ◌==◌, All, IfSome}
use Rattle.std.specs.Option.{option_and_then, option_map}
use Rattle.std.proofs.lemmas.Bool.{ne_eqb}
use Rattle.std.proofs.lemmas.Bool.Decides.{Decides-eqb, eqb_tells}
use Rattle.vr_types.specs.Geometry.{area_count, head_block}
use Rattle.vr_types.specs.declared.geometry.Geometry.{Geometry}
use Rattle.vr_types.specs.declared.unit.AreaNo.{AreaNo}
use Rattle.vr_types.specs.declared.unit.Kind.{Kind}
use Rattle.vr_types.specs.declared.unit.Kind.TheVariants as kinds
use Rattle.vr_catalog.specs.Catalog.{entry_with_part, cluster_definition}
use Rattle.vr_catalog.specs.declared.definition.Definition.{Definition}
use Rattle.vr_catalog.specs.declared.entry.CatEntry.{CatEntry}
use Rattle.vr_space.specs.Part.{Shape, KeyedShape, NumberedShape, InFirstArea}
use Rattle.vr_attach.specs.Laid.{keyed_shape, catalog_shape, numbered_part, shape_by_kind}
use Rattle.vr_attach.specs.Laid.{shape_from, shape_of}
use Rattle.vr_attach.specs.Laid.{shape_in}
use Rattle.vr_attach.specs.Laid.{AreApart}
use Rattle.vr_mount.specs.Areas.{area_in, area_length, AreOn, EndsBefore, first_block, IsBelow}
use Rattle.vr_mount.specs.Numbers.{area_number, laid_area, number_by, numbers_by, AreToldApart}
use Rattle.vr_mount.specs.declared.distinct.Which.TheVariants.{Part, Area}
use Rattle.vr_mount.proofs.Blocks.{one_area, area_ends, area_there}
use Rattle.vr_mount.proofs.Telling.{distinct_from_zero, zero_is_new, others_distinct, found_not_new}
use Rattle.vr_mount.proofs.Telling.{one_found, new_by_each, none_has_new, distinct_by_each}
use Rattle.vr_mount.proofs.Telling.{each_distinct, found_at, found_passes, found_place}

pub some_is : {X : Type 0} (x y : X) → Some x ≡ Some y → x ≡ y
some_is x y same = cc

-- ---- a shape and its area

-- its areas are those of the volume
abbrev pub IsSized : Geometry → Shape → Type 0
IsSized geometry (KeyedShape part) = part.geometry ≡ geometry
IsSized geometry (NumberedShape part) = part.geometry ≡ geometry

-- the first area of a shape is on the blocks of an area
abbrev pub IsAt : Geometry → ℕ → Shape → Type 0
IsAt geometry area shape = (first_block shape ≡ head_block geometry area)
    × (area_length shape ≡ geometry.area) × IsSized geometry shape

by_kind : (geometry : Geometry) (part a : ℕ) (d : Definition) (kind : Kind) (shape : Shape)
    → shape_by_kind geometry part a d kind ≡ Some shape → IsAt geometry a shape
by_kind geometry part a d kinds.Keyed shape laid =
    subst (IsAt geometry a) (some_is (keyed_shape geometry part a d) shape laid) (refl, refl, refl)
by_kind geometry part a d kinds.Entry shape laid =
    subst (IsAt geometry a) (some_is (NumberedShape (numbered_part geometry part a d)) shape laid)
    (refl, refl, refl)
by_kind geometry part a d kinds.Relative shape laid =
    subst (IsAt geometry a) (some_is (NumberedShape (numbered_part geometry part a d)) shape laid)
    (refl, refl, refl)

by_area : (geometry : Geometry) (part : ℕ) (area : Option AreaNo) (d : Definition) (shape : Shape)
    → shape_from geometry part area d ≡ Some shape
    → (a : ℕ) × (option_map area_number area ≡ Some a) × IsAt geometry a shape
by_area geometry part None d shape laid = absurd cc
by_area geometry part (Some area) d shape laid =
    (area.0, refl, by_kind geometry part area.0 d d.kind shape laid)

by_definition : (geometry : Geometry) (part : ℕ) (area : Option AreaNo) (o : Option Definition)
    (shape : Shape) → option_and_then (shape_from geometry part area) o ≡ Some shape
    → (a : ℕ) × (option_and_then (λ (d : Definition). option_map area_number area) o ≡ Some a)
    × IsAt geometry a shape
by_definition geometry part area None shape laid = absurd cc
by_definition geometry part area (Some d) shape laid = by_area geometry part area d shape laid

kind_lays : (geometry : Geometry) (part a : ℕ) (d : Definition) (kind : Kind)
    → (shape : Shape) × (shape_by_kind geometry part a d kind ≡ Some shape) × IsAt geometry a shape
kind_lays geometry part a d kinds.Keyed =
    (keyed_shape geometry part a d, refl, (refl, refl, refl))
kind_lays geometry part a d kinds.Entry =
    (NumberedShape (numbered_part geometry part a d), refl, (refl, refl, refl))
kind_lays geometry part a d kinds.Relative =
    (NumberedShape (numbered_part geometry part a d), refl, (refl, refl, refl))

area_lays : (geometry : Geometry) (part a : ℕ) (area : Option AreaNo) (d : Definition)
    → option_map area_number area ≡ Some a
    → (shape : Shape) × (shape_from geometry part area d ≡ Some shape) × IsAt geometry a shape
area_lays geometry part a None d is = absurd cc
area_lays geometry part a (Some named) d is =
    let found = kind_lays geometry part a d d.kind in (
      found.0,
      ap (λ (n : ℕ). shape_by_kind geometry part n d d.kind) (some_is named.0 a is) ∙ found.1,
      found.2,
    )

definition_lays : (geometry : Geometry) (part a : ℕ) (area : Option AreaNo) (o : Option Definition)
    → option_and_then (λ (d : Definition). option_map area_number area) o ≡ Some a
    → (shape : Shape) × (option_and_then (shape_from geometry part area) o ≡ Some shape)
    × IsAt geometry a shape
definition_lays geometry part a area None is = absurd cc
definition_lays geometry part a area (Some d) is = area_lays geometry part a area d is

shape_by_test : (geometry : Geometry) (b : Bool) (o : Option CatEntry) (shape : Shape)
    → (if b then Some (catalog_shape geometry) else option_and_then (shape_of geometry) o)
    ≡ Some shape
    → (a : ℕ) × ((if b then Some 0 else option_and_then laid_area o) ≡ Some a)
    × IsAt geometry a shape
shape_by_test geometry true o shape laid =
    (0, refl, subst (IsAt geometry 0) (some_is (catalog_shape geometry) shape laid) (refl, refl, refl))
shape_by_test geometry false None shape laid = absurd cc
shape_by_test geometry false (Some entry) shape laid =
    by_definition geometry entry.part.0 entry.first_area
    (cluster_definition entry.entry_kind entry) shape laid

area_by_test : (geometry : Geometry) (b : Bool) (o : Option CatEntry) (a : ℕ)
    → (if b then Some 0 else option_and_then laid_area o) ≡ Some a
    → (shape : Shape) × ((if b then Some (catalog_shape geometry) else option_and_then
    (shape_of geometry) o) ≡ Some shape) × IsAt geometry a shape
area_by_test geometry true o a is = (
  catalog_shape geometry,
  refl,
  subst (λ (n : ℕ). IsAt geometry n (catalog_shape geometry)) (some_is 0 a is) (refl, refl, refl),
)
area_by_test geometry false None a is = absurd cc
area_by_test geometry false (Some entry) a is =
    definition_lays geometry entry.part.0 a entry.first_area
    (cluster_definition entry.entry_kind entry) is

-- a part that is laid has an area, and its shape is there
pub shape_at : (geometry : Geometry) (entries : List CatEntry) (part : ℕ) (shape : Shape)
    → shape_in geometry entries part ≡ Some shape
    → (a : ℕ) × (area_in entries part ≡ Some a) × IsAt geometry a shape
shape_at geometry entries part shape laid =
    shape_by_test geometry (part == 0) (entry_with_part entries part) shape laid

-- and a part that has an area is laid there
pub at_shape : (geometry : Geometry) (entries : List CatEntry) (part a : ℕ)
    → area_in entries part ≡ Some a
    → (shape : Shape) × (shape_in geometry entries part ≡ Some shape) × IsAt geometry a shape
at_shape geometry entries part a is =
    area_by_test geometry (part == 0) (entry_with_part entries part) a is

-- ---- shapes in one area

-- the blocks of the first area, by its first block and its length
pub inside-first : (shape : Shape) (n : ℕ) → InFirstArea shape n
    → (first_block shape ≤ n) × (n ≤ first_block shape + area_length shape)
inside-first (KeyedShape part) n inside = inside
inside-first (NumberedShape part) n inside = (inside.from, inside.to)

first-inside : (shape : Shape) (n : ℕ) → first_block shape ≤ n
    → n ≤ first_block shape + area_length shape → InFirstArea shape n
first-inside (KeyedShape part) n from to = (from, to)
first-inside (NumberedShape part) n from to = record { from = from; to = to }

first_in : (geometry : Geometry) (a : ℕ) (shape : Shape) → IsAt geometry a shape
    → InFirstArea shape (head_block geometry a)
first_in geometry a shape at =
    first-inside shape (head_block geometry a) (omega (arith, at.0)) (omega (arith, at.0))

same_area : (geometry : Geometry) (a b n : ℕ) (here there : Shape) → IsAt geometry a here
    → IsAt geometry b there → InFirstArea here n → InFirstArea there n → a ≡ b
same_area geometry a b n here there at to in-here in-there =
    let one = inside-first here n in-here in
    let other = inside-first there n in-there in
    one_area (1 + geometry.log) geometry.area a b n (omega (arith, at.0, one.0))
    (omega (arith, at.0, at.1, one.1)) (omega (arith, to.0, other.0))
    (omega (arith, to.0, to.1, other.1))

-- no two parts have one area
abbrev pub OneEach : List CatEntry → Type 0
OneEach entries = (one other a : ℕ) → area_in entries one ≡ Some a → area_in entries other ≡ Some a
    → one ≡ other

pub apart_by_areas : (geometry : Geometry) (entries : List CatEntry) → OneEach entries
    → AreApart (shape_in geometry entries)
apart_by_areas geometry entries each one other here there here-is there-is differ n in-here
    in-there =
    let first = shape_at geometry entries one here here-is in
    let second = shape_at geometry entries other there there-is in
    let same : first.0 ≡ second.0 =
    same_area geometry first.0 second.0 n here there first.2 second.2 in-here in-there in
    differ (each one other second.0 (first.1 ∙ ap Some same) second.1)

pub areas_by_apart : (geometry : Geometry) (entries : List CatEntry)
    → AreApart (shape_in geometry entries) → OneEach entries
areas_by_apart geometry entries apart one other a first second =
    elim (eqb_tells one other) [
      | inl same ↦ same.1
      | inr differ ↦
          let here = at_shape geometry entries one a first in
          let there = at_shape geometry entries other a second in
          absurd (apart one other here.0 there.0 here.1 there.1 differ.1 (head_block geometry a)
          (first_in geometry a here.0 here.2) (first_in geometry a there.0 there.2))
    ]

-- ---- parts and the entries that lay them

cases_by_test : (part : ℕ) (b : Bool) → (part == 0) ≡ b → (o : Option CatEntry) (a : ℕ)
    → (if b then Some 0 else option_and_then laid_area o) ≡ Some a
    → ((part ≡ 0) × (a ≡ 0)) ⊎ ((entry : CatEntry) × (o ≡ Some entry) × (laid_area entry ≡ Some a))
cases_by_test part true zero o a is =
    inl ((Decides-eqb part 0).0 zero, sym (some_is 0 a is))
cases_by_test part false other None a is = absurd cc
cases_by_test part false other (Some entry) a is = inr (entry, refl, is)

-- the catalog is in area 0, and each other part in the area of its entry
pub area_cases : (entries : List CatEntry) (part a : ℕ) → area_in entries part ≡ Some a
    → ((part ≡ 0) × (a ≡ 0))
    ⊎ ((entry : CatEntry) × (entry_with_part entries part ≡ Some entry)
    × (laid_area entry ≡ Some a))
area_cases entries part a is =
    cases_by_test part (part == 0) refl (entry_with_part entries part) a is

entry_by_test : (b : Bool) (o : Option CatEntry) (entry : CatEntry) (a : ℕ) → b ≡ false
    → o ≡ Some entry → laid_area entry ≡ Some a
    → (if b then Some 0 else option_and_then laid_area o) ≡ Some a
entry_by_test true o entry a is found laid = absurd cc
entry_by_test false None entry a is found laid = absurd cc
entry_by_test false (Some other) entry a is found laid =
    ap laid_area (some_is other entry found) ∙ laid

-- an entry's part has the area that the entry lays, where no two have the same number
pub area_of_entry : (entries : List CatEntry) (i : ℕ) (d : CatEntry) (a : ℕ)
    → AreToldApart Part entries → i < length entries → laid_area (get_or entries i d) ≡ Some a
    → area_in entries (get_or entries i d).part.0 ≡ Some a
area_of_entry entries i d a parts within laid =
    let entry = get_or entries i d in
    let not_zero : entry.part.0 ≡ 0 → ⊥ = λ zero.
    none_has_new (number_by Part) 0 entries i d within (ap Some zero)
    (zero_is_new (numbers_by Part entries) parts) in
    let found : entry_with_part entries entry.part.0 ≡ Some entry =
    found_at (λ (one : CatEntry). one.part.0) entries i d
    (others_distinct (numbers_by Part entries) parts) within in
    entry_by_test (entry.part.0 == 0) (entry_with_part entries entry.part.0) entry a
    (ne_eqb entry.part.0 0 not_zero) found laid

pub part_is : (entries : List CatEntry) (part : ℕ) (entry : CatEntry)
    → entry_with_part entries part ≡ Some entry → entry.part.0 ≡ part
part_is entries part entry found =
    (Decides-eqb entry.part.0 part).0
    (found_passes (λ (one : CatEntry). one.part.0 == part) entries entry found)

-- no two parts have one area where no two entries lay one, and none lays the catalog's
pub areas_by_distinct : (entries : List CatEntry) → AreToldApart Area entries → OneEach entries
areas_by_distinct entries areas one other a first second =
    by_cases (area_cases entries one a first) (area_cases entries other a second)
  where
    is_zero : (entry : CatEntry) (part : ℕ) → entry_with_part entries part ≡ Some entry
        → laid_area entry ≡ Some a → a ≡ 0 → ⊥
    is_zero entry part found laid zero =
        found_not_new laid_area (λ (one : CatEntry). one.part.0 == part) entries entry 0 found
        (laid ∙ ap Some zero) (zero_is_new (numbers_by Area entries) areas)

    by_cases : ((one ≡ 0) × (a ≡ 0)) ⊎ ((entry : CatEntry)
        × (entry_with_part entries one ≡ Some entry) × (laid_area entry ≡ Some a))
        → ((other ≡ 0) × (a ≡ 0)) ⊎ ((entry : CatEntry)
        × (entry_with_part entries other ≡ Some entry) × (laid_area entry ≡ Some a)) → one ≡ other
    by_cases (inl zero) (inl also) = zero.0 ∙ sym also.0
    by_cases (inl zero) (inr laid) = absurd (is_zero laid.0 other laid.1 laid.2 zero.1)
    by_cases (inr laid) (inl zero) = absurd (is_zero laid.0 one laid.1 laid.2 zero.1)
    by_cases (inr here) (inr there) =
        let same : here.0 ≡ there.0 =
        one_found laid_area (λ (entry : CatEntry). entry.part.0 == one)
        (λ (entry : CatEntry). entry.part.0 == other) entries here.0 there.0 a
        (others_distinct (numbers_by Area entries) areas) here.1 there.1 here.2 there.2 in
        sym (part_is entries one here.0 here.1) ∙ ap (λ (entry : CatEntry). entry.part.0) same
        ∙ part_is entries other there.0 there.1

-- and the other way round, where no two entries have one part
pub distinct_by_areas : (entries : List CatEntry) → AreToldApart Part entries → OneEach entries
    → AreToldApart Area entries
distinct_by_areas entries parts each =
    distinct_from_zero (numbers_by Area entries)
    (new_by_each laid_area 0 entries (λ j d within laid.
    none_has_new (number_by Part) 0 entries j d within
    (ap Some (sym (each 0 (get_or entries j d).part.0 0 refl
    (area_of_entry entries j d 0 parts within laid))))
    (zero_is_new (numbers_by Part entries) parts)))
    (distinct_by_each laid_area entries (λ i j d a below within first second.
    let before : i < length entries = omega (arith, below, within) in
    let same : (get_or entries i d).part.0 ≡ (get_or entries j d).part.0 =
    each (get_or entries i d).part.0 (get_or entries j d).part.0 a
    (area_of_entry entries i d a parts before first)
    (area_of_entry entries j d a parts within second) in
    each_distinct (number_by Part) entries i j d (get_or entries j d).part.0
    (others_distinct (numbers_by Part entries) parts) below within (ap Some same) refl))

-- the parts are apart exactly where the areas are told apart
pub told_apart : (geometry : Geometry) (entries : List CatEntry) → AreToldApart Area entries
    → AreApart (shape_in geometry entries)
told_apart geometry entries areas =
    apart_by_areas geometry entries (areas_by_distinct entries areas)

pub apart_told : (geometry : Geometry) (entries : List CatEntry) → AreToldApart Part entries
    → AreApart (shape_in geometry entries) → AreToldApart Area entries
apart_told geometry entries parts apart =
    distinct_by_areas entries parts (areas_by_apart geometry entries apart)

-- ---- the blocks of the volume

ends_at : (geometry : Geometry) (a : ℕ) (shape : Shape) → IsAt geometry a shape
    → a < area_count geometry → EndsBefore geometry.blocks shape
ends_at geometry a shape at below =
    omega (arith, at.0, at.1, area_ends geometry.blocks geometry.log geometry.area a below)

at_ends : (geometry : Geometry) (a : ℕ) (shape : Shape) → IsAt geometry a shape
    → EndsBefore geometry.blocks shape → a < area_count geometry
at_ends geometry a shape at ends =
    area_there geometry.blocks geometry.log geometry.area a (omega (arith, at.0, at.1, ends))

below_is : (areas a : ℕ) (entry : CatEntry) → laid_area entry ≡ Some a → IsBelow areas entry
    → a < areas
below_is areas a entry laid below =
    subst (λ (o : Option ℕ). IfSome o (λ area. area < areas)) laid below

is_below : (areas : ℕ) (entry : CatEntry)
    → ((a : ℕ) → laid_area entry ≡ Some a → a < areas) → IsBelow areas entry
is_below areas entry each = by_area_of (laid_area entry) each
  where
    by_area_of : (o : Option ℕ) → ((a : ℕ) → o ≡ Some a → a < areas)
        → IfSome o (λ area. area < areas)
    by_area_of None each = tt
    by_area_of (Some a) each = each a refl

-- the area of a laid part is one of the volume's, where those of the entries are
pub areas_below : (areas : ℕ) (entries : List CatEntry) (part a : ℕ) → 0 < areas
    → All (IsBelow areas) entries → area_in entries part ≡ Some a → a < areas
areas_below areas entries part a some below is =
    elim (area_cases entries part a is) [
      | inl zero ↦ omega (arith, zero.1)
      | inr laid ↦
          let place = found_place (λ (one : CatEntry). one.part.0 == part) entries laid.0 laid.1 in
          below_is areas a laid.0 laid.2
          (subst (IsBelow areas) place.2 (below place.0 laid.0 place.1))
    ]

pub on_by_areas : (geometry : Geometry) (entries : List CatEntry) → 0 < area_count geometry
    → All (IsBelow (area_count geometry)) entries → AreOn geometry entries
on_by_areas geometry entries some below part shape laid =
    let at = shape_at geometry entries part shape laid in
    ends_at geometry at.0 shape at.2
    (areas_below (area_count geometry) entries part at.0 some below at.1)

pub some_area : (geometry : Geometry) (entries : List CatEntry) → AreOn geometry entries
    → 0 < area_count geometry
some_area geometry entries on =
    at_ends geometry 0 (catalog_shape geometry) (refl, refl, refl) (on 0 (catalog_shape geometry) refl)

pub areas_by_on : (geometry : Geometry) (entries : List CatEntry) → AreToldApart Part entries
    → AreOn geometry entries → All (IsBelow (area_count geometry)) entries
areas_by_on geometry entries parts on i d within =
    is_below (area_count geometry) (get_or entries i d) (λ a laid.
    let at = at_shape geometry entries (get_or entries i d).part.0 a
    (area_of_entry entries i d a parts within laid) in
    at_ends geometry a at.0 at.2 (on (get_or entries i d).part.0 at.0 at.1))
