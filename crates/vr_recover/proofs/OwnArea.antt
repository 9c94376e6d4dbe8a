-- Who owns the areas of a volume of which one area alone is known.
use Rattle.std.proofs.Common.{◌≡◌, ◌≢◌, ◌∙◌, ⊎_elim, inr, ℕ, ◌<◌, List, Option, Some, None, ap}
use Rattle.std.proofs.Common.{arith, get_or, sym, subst}
use Rattle.std.specs.Prelude.{Contains, set, take}
use Rattle.std.proofs.lemmas.Bool.{cases_lt}
use Rattle.std.proofs.lemmas.Bool.Decides.{eqb_tells}
use Rattle.std.proofs.lemmas.List.{get_or-replicate, get_or-set_other, get_or-set_same, get_or_past}
use Rattle.std.proofs.lemmas.List.{length-replicate}
use Rattle.vr_types.specs.Geometry.{area_count}
use Rattle.vr_types.specs.Image.{Image}
use Rattle.vr_types.specs.Space.{all_free}
use Rattle.vr_types.specs.declared.fault.DeviceFault.TheVariants as faults
use Rattle.vr_types.specs.declared.geometry.Geometry.{Geometry}
use Rattle.vr_types.specs.declared.unit.PartNo.{PartNo}
use Rattle.vr_catalog.specs.Definition.{catalog_definition}
use Rattle.vr_attach.specs.Laid.{keyed_part}
use Rattle.vr_attach.specs.Linked.{IsLinkedShown}
use Rattle.vr_attach.specs.Marked.{IsTakenIn}
use Rattle.vr_attach.specs.declared.part_no.PartNo2.{PartNo2}
use Rattle.vr_attach.specs.declared.part_no.PartNo2.TheVariants.{Damaged, Fault, Memory}
use Rattle.vr_keyed.specs.Attached.{IsDamageIn}
use Rattle.vr_mount.proofs.Owning.{owns_one}
use Rattle.vr_space.specs.Areas.{KeyedChain, areas_in}
use Rattle.vr_space.specs.Part.{owned_count}
use Rattle.vr_recover.specs.Found.{ShowsOnly}
use Rattle.vr_recover.specs.OpenNo.{part_answer}
use Rattle.vr_recover.specs.Opening.{IsCatalogPartShown}
use Rattle.vr_recover.proofs.Linked.{begins-areas, linked-to}

some-none : {X : Type 0} {x : X} → None ≡ Some x → ⊥
some-none same = cc

-- an area of none is free
free-at : (n area : ℕ) → get_or (all_free n) area None ≡ None
free-at n area = ⊎_elim
    (λ below. get_or-replicate n area None None below)
    (λ past. get_or_past (all_free n) area None
    (omega (arith, past, length-replicate {A = Option PartNo} n None)))
    (cases_lt area n)

-- The first area alone is a part's.
module _ (part : PartNo) (n : ℕ) (owners : List (Option PartNo)) (some : 0 < n)
    (is : owners ≡ set (all_free n) 0 (Some part)) where
  own-at : get_or owners 0 None ≡ Some part
  own-at = ap (λ (o : List (Option PartNo)). get_or o 0 None) is
      ∙ get_or-set_same (all_free n) 0 (Some part) None
      (omega (arith, some, length-replicate {A = Option PartNo} n None))

  own-others : (area : ℕ) → area ≢ 0 → get_or owners area None ≡ None
  own-others area other = ap (λ (o : List (Option PartNo)). get_or o area None) is
      ∙ get_or-set_other (all_free n) 0 area (Some part) None other ∙ free-at n area

  pub own-alone : owned_count part owners ≡ 1
  own-alone = owns_one part owners 0 own-at (λ area owned. ⊎_elim (λ same. same.1)
      (λ differ. absurd (some-none (sym (own-others area differ.1) ∙ owned))) (eqb_tells area 0))

-- What is shown of the catalog's own part by them is shown of it whichever areas other parts have:
-- the area that is taken begins its chain.
module _ (geometry : Geometry) (image : Image) (owners : List (Option PartNo))
    (some : 0 < area_count geometry)
    (others : (area : ℕ) → area ≢ 0 → get_or owners area None ≡ None) where
  abbrev own : KeyedChain
  own = keyed_part geometry 0 0 catalog_definition

  begins : (area : ℕ) → IsTakenIn owners area → Contains (take 1 (areas_in own image)) area
  begins area taken = ⊎_elim
      (λ same. subst (Contains (take 1 (areas_in own image))) (sym same.1)
      (begins-areas own image (area_count geometry) some))
      (λ differ. absurd (taken (others area differ.1))) (eqb_tells area 0)

  pub own-answer : (layout : KeyedChain) → layout ≡ own → (why : PartNo2)
      → IsDamageIn layout (IsTakenIn owners) image why
      → ShowsOnly (IsCatalogPartShown geometry image) (part_answer why)
  own-answer layout is (Damaged block rule) shown =
      linked-to own image (IsTakenIn owners) (λ area. ⊥) (λ area taken. inr (begins area taken))
      (λ area none. absurd none) block rule
      (subst (λ (part : KeyedChain). IsLinkedShown part (IsTakenIn owners) image block rule) is
      shown)
  own-answer layout is (Fault faults.Read) shown = tt
  own-answer layout is (Fault faults.Write) shown = tt
  own-answer layout is Memory shown = tt
