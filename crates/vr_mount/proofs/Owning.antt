-- Who owns each area, once the parts have marked theirs.
use Rattle.std.proofs.Common.{◌≡◌, ◌⊎◌, ◌∙◌, ℕ, ◌+◌, ◌<◌, List, length, get_or, sym, ap}
use Rattle.std.proofs.Common.{subst, arith, inl, inr, true, Option, Some, None}
use Rattle.std.specs.Prelude.{set, ◌==◌}
use Rattle.std.specs.List.{fold}
use Rattle.std.proofs.lemmas.Bool.{cases_lt}
use Rattle.std.proofs.lemmas.Bool.Decides.{Decides-eqb, eqb_tells}
use Rattle.std.proofs.lemmas.List.{get_or-set_same, get_or-set_other, length-set, get_or_past}
use Rattle.std.proofs.lemmas.List.{get_or-replicate, length-replicate}
use Rattle.vr_types.specs.Geometry.{area_count, head_block}
use Rattle.vr_types.specs.Space.{all_free, is_owner}
use Rattle.vr_types.specs.declared.geometry.Geometry.{Geometry}
use Rattle.vr_types.specs.declared.unit.PartNo.{PartNo}
use Rattle.vr_catalog.specs.Catalog.{entry_with_part}
use Rattle.vr_catalog.specs.declared.entry.CatEntry.{CatEntry}
use Rattle.vr_space.specs.Part.{Shape, owned_count}
use Rattle.vr_attach.specs.Laid.{shape_in}
use Rattle.vr_attach.specs.Laid.{AreApart}
use Rattle.vr_mount.specs.Areas.{AreFirstOwners, AreOn, BeginsWith, IsLaidIn, area_in}
use Rattle.vr_mount.specs.Areas.{catalog_part, part_of}
use Rattle.vr_mount.specs.Marks.{marked}
use Rattle.vr_mount.specs.Numbers.{laid_area, numbers_by, AreToldApart}
use Rattle.vr_mount.specs.declared.distinct.Which.TheVariants.{Part, Area}
use Rattle.vr_mount.proofs.Blocks.{one_area}
use Rattle.vr_mount.proofs.Laying.{IsAt, apart_told, area_cases, area_of_entry, areas_below}
use Rattle.vr_mount.proofs.Laying.{areas_by_on, at_shape, part_is, shape_at, some_area, some_is}
use Rattle.vr_mount.proofs.Marking.{marks_elsewhere, marks_here, marks_length, marks_whose}
use Rattle.vr_mount.proofs.Telling.{element, found_place, none_has_new, one_passes}
use Rattle.vr_mount.proofs.Telling.{others_distinct, zero_is_new}

same_part : (one other : PartNo) → one.0 ≡ other.0 → one ≡ other
same_part one other equal = ap (λ (n : ℕ). let part : PartNo = record { 0 = n } in part) equal

-- ---- the area of a part, by the block that it begins with

begins_at : (geometry : Geometry) (a area : ℕ) (shape : Shape) → IsAt geometry a shape
    → BeginsWith (head_block geometry area) shape → a ≡ area
begins_at geometry a area shape at begins =
    let same : head_block geometry a ≡ head_block geometry area = sym at.0 ∙ begins in
    one_area (1 + geometry.log) geometry.area a area (head_block geometry a) (omega arith)
    (omega arith) (omega (arith, same)) (omega (arith, same))

at_begins : (geometry : Geometry) (area : ℕ) (shape : Shape) → IsAt geometry area shape
    → BeginsWith (head_block geometry area) shape
at_begins geometry area shape at = at.0

pub laid_in : (geometry : Geometry) (entries : List CatEntry) (part area : ℕ)
    → area_in entries part ≡ Some area → IsLaidIn geometry entries part area
laid_in geometry entries part area is =
    let at = at_shape geometry entries part area is in
    record { shape = at.0; laid = at.1; begins = at_begins geometry area at.0 at.2 }

in_laid : (geometry : Geometry) (entries : List CatEntry) (part area : ℕ)
    → IsLaidIn geometry entries part area → area_in entries part ≡ Some area
in_laid geometry entries part area laid =
    let at = shape_at geometry entries part laid.shape laid.laid in
    at.1 ∙ ap Some (begins_at geometry at.0 area laid.shape at.2 laid.begins)

-- ---- before the entries mark theirs

first_owners : ℕ → List (Option PartNo)
first_owners areas = set (all_free areas) 0 (Some catalog_part)

free_at : (areas area : ℕ) → get_or (all_free areas) area None ≡ None
free_at areas area =
    elim (cases_lt area areas) [
      | inl within ↦ get_or-replicate areas area None None within
      | inr past ↦ get_or_past (all_free areas) area None
          (omega (arith, length-replicate {A = Option PartNo} areas None))
    ]

pub free_length : (areas n : ℕ) (owners : List (Option PartNo)) → owners ≡ all_free n → n ≡ areas
    → length owners ≡ areas
free_length areas n owners free same =
    ap (λ (os : List (Option PartNo)). length os) free ∙ length-replicate n None ∙ same

first_length : (areas : ℕ) → length (first_owners areas) ≡ areas
unfolding first_owners
first_length areas =
    length-set (all_free areas) 0 (Some catalog_part) ∙ length-replicate areas None

first_catalog : (areas : ℕ) → 0 < areas → get_or (first_owners areas) 0 None ≡ Some catalog_part
unfolding first_owners
first_catalog areas some =
    get_or-set_same (all_free areas) 0 (Some catalog_part) None
    (omega (arith, length-replicate {A = Option PartNo} areas None))

first_whose : (areas area : ℕ) (who : PartNo) → 0 < areas
    → get_or (first_owners areas) area None ≡ Some who → (area ≡ 0) × (catalog_part ≡ who)
unfolding first_owners
first_whose areas area who some is =
    elim (eqb_tells area 0) [
      | inl zero ↦
          let here : get_or (set (all_free areas) 0 (Some catalog_part)) 0 None ≡ Some who =
          subst (λ (n : ℕ). get_or (set (all_free areas) 0 (Some catalog_part)) n None ≡ Some who)
          zero.1 is in
          let put : get_or (set (all_free areas) 0 (Some catalog_part)) 0 None
          ≡ Some catalog_part =
          get_or-set_same (all_free areas) 0 (Some catalog_part) None
          (omega (arith, length-replicate {A = Option PartNo} areas None)) in
          (zero.1, cc)
      | inr other ↦
          let none : get_or (set (all_free areas) 0 (Some catalog_part)) area None ≡ None =
          get_or-set_other (all_free areas) 0 area (Some catalog_part) None other.1
          ∙ free_at areas area in
          absurd cc
    ]

-- ---- after that

abbrev owners_by : Geometry → List CatEntry → List (Option PartNo)
owners_by geometry entries =
    fold (marked laid_area part_of) (first_owners (area_count geometry)) entries

owned_by : (geometry : Geometry) (entries : List CatEntry) (part : PartNo) (area : ℕ)
    → AreToldApart Area entries → 0 < area_count geometry → area < area_count geometry
    → area_in entries part.0 ≡ Some area
    → get_or (owners_by geometry entries) area None ≡ Some part
owned_by geometry entries part area areas some below is =
    by_cases (area_cases entries part.0 area is)
  where
    by_cases : ((part.0 ≡ 0) × (area ≡ 0)) ⊎ ((entry : CatEntry)
        × (entry_with_part entries part.0 ≡ Some entry) × (laid_area entry ≡ Some area))
        → get_or (owners_by geometry entries) area None ≡ Some part
    by_cases (inl zero) =
        subst (λ (n : ℕ). get_or (owners_by geometry entries) n None ≡ Some part) (sym zero.1)
        (marks_elsewhere laid_area part_of (first_owners (area_count geometry)) entries 0
        (λ j d within laid. none_has_new laid_area 0 entries j d within laid
        (zero_is_new (numbers_by Area entries) areas))
        ∙ first_catalog (area_count geometry) some
        ∙ ap Some (same_part catalog_part part (sym zero.0)))
    by_cases (inr found) =
        let place = found_place (λ (one : CatEntry). one.part.0 == part.0) entries found.0 found.1 in
        marks_here laid_area part_of (first_owners (area_count geometry)) entries place.0 found.0
        area (others_distinct (numbers_by Area entries) areas) place.1
        (ap laid_area place.2 ∙ found.2)
        (omega (arith, below, first_length (area_count geometry)))
        ∙ ap (λ (entry : CatEntry). Some entry.part) place.2
        ∙ ap Some (same_part found.0.part part (part_is entries part.0 found.0 found.1))

only_by : (geometry : Geometry) (entries : List CatEntry) (part : PartNo) (area : ℕ)
    → AreToldApart Part entries → 0 < area_count geometry
    → get_or (owners_by geometry entries) area None ≡ Some part
    → area_in entries part.0 ≡ Some area
only_by geometry entries part area parts some is =
    elim (marks_whose laid_area part_of (first_owners (area_count geometry)) entries area part is) [
      | inl before ↦
          let was = first_whose (area_count geometry) area part some before in
          subst (λ (who : PartNo). area_in entries who.0 ≡ Some area) was.1
          (ap Some (sym was.0))
      | inr mark ↦
          let d = element entries mark.0 mark.1 in
          let laid = mark.2 d in
          subst (λ (who : PartNo). area_in entries who.0 ≡ Some area) laid.1
          (area_of_entry entries mark.0 d area parts mark.1 laid.0)
    ]

-- ---- of each part one area

-- who owns an area that is tested for a part
owner_tested : (part : PartNo) (owner : Option PartNo) → is_owner part owner ≡ true
    → owner ≡ Some part
owner_tested part None is = absurd cc
owner_tested part (Some owner) is =
    ap Some (same_part owner part ((Decides-eqb owner.0 part.0).0 is))

tested_owner : (part : PartNo) (owner : Option PartNo) → owner ≡ Some part
    → is_owner part owner ≡ true
tested_owner part None is = absurd cc
tested_owner part (Some owner) is =
    let same : owner ≡ part = cc in
    (Decides-eqb owner.0 part.0).1 (ap (λ (one : PartNo). one.0) same)

-- a part that owns this area alone owns one
pub owns_one : (part : PartNo) (owners : List (Option PartNo)) (area : ℕ)
    → get_or owners area None ≡ Some part
    → ((other : ℕ) → get_or owners other None ≡ Some part → other ≡ area)
    → owned_count part owners ≡ 1
owns_one part owners area here only = one_passes (is_owner part) owners area None
    (elim (cases_lt area (length owners)) [
      | inl within ↦ within
      | inr past ↦
          let none : get_or owners area None ≡ None = get_or_past owners area None past in absurd cc
    ])
    (tested_owner part (get_or owners area None) here)
    (λ other within passes.
    only other (owner_tested part (get_or owners other None) passes))

-- the owners of the areas are the parts that are laid in them
pub owners_made : (geometry : Geometry) (entries : List CatEntry) (owners : List (Option PartNo))
    → AreToldApart Part entries → AreApart (shape_in geometry entries) → AreOn geometry entries
    → owners ≡ fold (marked laid_area part_of)
    (set (all_free (area_count geometry)) 0 (Some catalog_part)) entries
    → AreFirstOwners geometry entries owners
unfolding first_owners
owners_made geometry entries owners parts apart on are =
    let some = some_area geometry entries on in
    let areas = apart_told geometry entries parts apart in
    let whose : (part : PartNo) (area : ℕ) → get_or owners area None ≡ Some part
    → area_in entries part.0 ≡ Some area = λ part area is.
    only_by geometry entries part area parts some
    (ap (λ (os : List (Option PartNo)). get_or os area None) (sym are) ∙ is) in
    let mine : (part : PartNo) (area : ℕ) → IsLaidIn geometry entries part.0 area
    → get_or owners area None ≡ Some part = λ part area laid.
    let is = in_laid geometry entries part.0 area laid in
    ap (λ (os : List (Option PartNo)). get_or os area None) are
    ∙ owned_by geometry entries part area areas some
    (areas_below (area_count geometry) entries part.0 area some
    (areas_by_on geometry entries parts on) is) is in
    record {
      count = ap (λ (os : List (Option PartNo)). length os) are
          ∙ marks_length laid_area part_of (first_owners (area_count geometry)) entries
          ∙ first_length (area_count geometry);
      owned = mine;
      only = λ part area is.
          laid_in geometry entries part.0 area (whose part area is);
      alone = λ part area laid.
          let is = in_laid geometry entries part.0 area laid in
          owns_one part owners area (mine part area laid)
          (λ other here. some_is other area (sym (whose part other here) ∙ is));
    }
