-- What is shown of a part that stands for a content in blocks of its own: nothing. An area that is
-- another part's is none of its own.
use Rattle.std.proofs.Common.{◌≡◌, ◌∙◌, ◌<◌, ℕ, List, Some, sym, ap, subst, arith}
use Rattle.vr_types.specs.Geometry.{area_count, head_block}
use Rattle.vr_types.specs.Image.{Image}
use Rattle.vr_types.specs.declared.geometry.Geometry.{Geometry}
use Rattle.vr_catalog.specs.declared.entry.CatEntry.{CatEntry}
use Rattle.vr_attach.specs.Laid.{IsReachedElsewhere, shape_in}
use Rattle.vr_attach.proofs.CallerLemmas.{damaged-alone, laid-as, stays-owned, stays-reached}
use Rattle.vr_attach.specs.Linked.{StandsAlone}
use Rattle.vr_mount.specs.Areas.{BeginsWith, IsLaidIn}
use Rattle.vr_part.specs.Attached.{IsAnyShown}
use Rattle.vr_chained.proofs.CallerLemmas.{damaged-nowhere}
use Rattle.vr_space.specs.Areas.{KeyedChain}
use Rattle.vr_space.specs.Owners.{Owners}
use Rattle.vr_space.specs.Part.{InFirstArea, KeyedShape, NumberedShape, Shape, Stands, StaysIn}
use Rattle.vr_space.specs.Part.{part_no}
use Rattle.vr_space.specs.Rosters.{IsOwnArea, Numbered}
use Rattle.vr_recover.specs.Opening.{AsFirst, AsReached, IsTaken}

some-number : (x y : ℕ) → Some x ≡ Some y → x ≡ y
some-number x y same = cc

-- ---- whose an area is

head-inside : (geometry : Geometry) (area : ℕ) (shape : Shape)
    → BeginsWith (head_block geometry area) shape → InFirstArea shape (head_block geometry area)
head-inside geometry area (KeyedShape part) begins =
    (omega (arith, begins), omega (arith, begins))
head-inside geometry area (NumberedShape part) begins = record {
  from = omega (arith, begins);
  to = omega (arith, begins);
}

module _ (geometry : Geometry) (entries : List CatEntry) (owners : Owners) (image : Image)
    (some : 0 < area_count geometry)
    (within : (part : ℕ) (shape : Shape) → shape_in geometry entries part ≡ Some shape
    → StaysIn shape owners image) where
  number-of : (part : ℕ) (shape : Shape) → shape_in geometry entries part ≡ Some shape
      → (part_no shape).0 ≡ part
  number-of part shape laid = (laid-as geometry entries part shape laid).number

  first-owner : (part area : ℕ) (laid : IsLaidIn geometry entries part area)
      → owners (head_block geometry area) ≡ Some part
  first-owner part area laid =
      stays-owned geometry laid.shape owners image some
      (laid-as geometry entries part laid.shape laid.laid).areas
      (within part laid.shape laid.laid)
      (head_block geometry area) (head-inside geometry area laid.shape laid.begins)
      ∙ ap Some (number-of part laid.shape laid.laid)

  reached-owner : (part area : ℕ)
      (there : IsReachedElsewhere geometry (shape_in geometry entries) image part area)
      → owners (head_block geometry area) ≡ Some there.other
  reached-owner part area there =
      stays-reached geometry entries there.other there.shape owners image area there.laid
      (within there.other there.shape there.laid) there.reaches (head_block geometry area)
      (omega arith) (omega arith)
      ∙ ap Some (number-of there.other there.shape there.laid)

  -- an area that is taken begins with another part's block
  taken-owner : (part area : ℕ) → IsTaken geometry entries image part area
      → owners (head_block geometry area) ≡ Some part → ⊥
  taken-owner part area (AsFirst other differs laid) mine =
      differs (some-number other part (sym (first-owner other area laid) ∙ mine))
  taken-owner part area (AsReached there less) mine =
      there.differs (some-number there.other part (sym (reached-owner part area there) ∙ mine))

  own-owner : (part : ℕ) (numbered : Numbered) → shape_in geometry entries part
      ≡ Some (NumberedShape numbered) → (area : ℕ) → IsOwnArea numbered owners area
      → owners (head_block geometry area) ≡ Some part
  own-owner part numbered laid area own =
      let mine = laid-as geometry entries part (NumberedShape numbered) laid in
      subst (λ (g : Geometry). owners (head_block g area) ≡ Some part) mine.areas
      (own.owned (head_block numbered.geometry area)
      (record { from = omega arith; to = omega arith }) ∙ ap Some mine.number)

  -- no area that a keyed part reaches is taken
  stands-alone : (part : ℕ) (keyed : KeyedChain) → shape_in geometry entries part
      ≡ Some (KeyedShape keyed) → Stands (KeyedShape keyed) image
      → StandsAlone keyed (IsTaken geometry entries image part) image
  stands-alone part keyed laid stands = record {
    content = stands;
    alone = λ area reached other taken. taken-owner part area taken
        (stays-reached geometry entries part (KeyedShape keyed) owners image area laid
        (within part (KeyedShape keyed) laid) reached (head_block geometry area) (omega arith)
        (omega arith)
        ∙ ap Some (number-of part (KeyedShape keyed) laid));
  }

  -- nothing is shown of a part that stands in blocks of its own
  pub any-none : (part : ℕ) (shape : Shape) → shape_in geometry entries part ≡ Some shape
      → Stands shape image → (block rule : ℕ)
      → IsAnyShown shape (IsTaken geometry entries image part) image block rule → ⊥
  any-none part (KeyedShape keyed) laid stands block rule shown =
      damaged-alone keyed image (IsTaken geometry entries image part) block shown.rule
      shown.damaged (stands-alone part keyed laid stands)
  any-none part (NumberedShape numbered) laid stands block rule shown =
      damaged-nowhere numbered (IsTaken geometry entries image part) image owners block
      shown.rule shown.damaged (within part (NumberedShape numbered) laid)
      (λ area taken own. taken-owner part area taken
      (own-owner part numbered laid area own))
