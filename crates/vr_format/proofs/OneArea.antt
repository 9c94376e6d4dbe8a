-- Keyed parts of one area: their blocks stand for a content where those of the area do, and what is
-- true of the area is true of each.
use Rattle.std.proofs.Common.{◌≡◌, ℕ, zero, suc, ◌<◌, Option, None, IfSome}
use Rattle.std.proofs.Common.{[], ◌++◌, ◌∙◌, arith, sym, ap, subst, ⊎_elim}
use Rattle.std.specs.Prelude.{Contains}
use Rattle.std.proofs.lemmas.List.{append-nil}
use Rattle.vr_types.specs.Content.{Content}
use Rattle.vr_types.specs.Geometry.{area_count}
use Rattle.vr_types.specs.Image.{Block, Image}
use Rattle.vr_types.specs.declared.geometry.Geometry.{Geometry}
use Rattle.vr_seqset.specs.Reading.{record_in}
use Rattle.vr_space.specs.Areas.{EachAfter, EachArea, IsFollowed, IsKeyedChain, KeyedChain, LinksIn}
use Rattle.vr_space.specs.Areas.{areas_after, content_after, content_in, head_in}
use Rattle.vr_space.specs.Part.{KeyedShape}
use Rattle.vr_space.specs.Rosters.{IsOf, after_next}
use Rattle.vr_space.proofs.CallerLemmas.{contains-cases}
use Rattle.vr_attach.specs.Laid.{ReachesArea}
use Rattle.vr_mount.proofs.CallerLemmas.{IsAreaSame, keyed-same}
use Rattle.vr_format.specs.Planned.{StandsAlone, StandsInFirst, first_area}

module _ (part : KeyedChain) (image : Image) where
  abbrev top : Block
  top = head_in part image part.first

  -- ---- the area stands for the content of the part

  one-links : (content : Content) → StandsAlone (first_area part) image content
      → part.first < area_count part.geometry → (k : ℕ) → 0 < k
      → LinksIn part image k part.first None
  one-links content alone there zero some = absurd (omega (arith, some))
  one-links content alone there (suc k) some = record {
    there = there;
    head = alone.stands.head;
    intervals = alone.stands.intervals;
    begins = alone.only.begins;
    next = subst (IsFollowed part (LinksIn part image k) top) (sym alone.only.next)
        alone.only.ends;
  }

  one-content : (record_in top).next ≡ None → (k : ℕ) → 0 < k
      → content_after part image k part.first ≡ content_in part image part.first
  one-content none zero some = absurd (omega (arith, some))
  one-content none (suc k) some =
      ap (λ (next : Option ℕ). content_in part image part.first
      ++ after_next [] (content_after part image k) next) none
      ∙ append-nil (content_in part image part.first)

  -- An area that stands for a content, under the head of a part of one area, is such a part that
  -- stands for it.
  pub alone-stands : (content : Content) → IsKeyedChain part
      → StandsAlone (first_area part) image content → StandsInFirst part image content
  alone-stands content is alone =
      let some : 0 < area_count part.geometry = omega (arith, is.first) in
      record {
        stands = record {
          part_is = is;
          chain = one-links content alone is.first (area_count part.geometry) some;
          records = alone.stands.records
              ∙ sym (one-content alone.only.next (area_count part.geometry) some);
        };
        last = alone.only.next;
      }

  -- ---- what is true of the area

  each-of : (P : ℕ → Type 0) → (record_in top).next ≡ None → P part.first → (k : ℕ)
      → EachAfter part P (IsOf image) k part.first
  each-of P none here zero = tt
  each-of P none here (suc k) = (
    here,
    λ block is. subst (λ (next : Option ℕ). IfSome next (EachAfter part P (IsOf image) k))
        (sym (ap (λ (one : Block). (record_in one).next) is ∙ none)) tt,
  )

  -- What is true of the first area of such a part is true of each,
  pub alone-each : (P : ℕ → Type 0) → (record_in top).next ≡ None → P part.first
      → EachArea part P (IsOf image)
  alone-each P none here = each-of P none here (area_count part.geometry)

  reaches-first : (record_in top).next ≡ None → (k area : ℕ)
      → Contains (areas_after part image k part.first) area → area ≡ part.first
  reaches-first none zero area among = absurd (omega (arith, among.1))
  reaches-first none (suc k) area among =
      ⊎_elim (λ same. sym same)
      (λ later. let nowhere : Contains [] area =
      subst (λ (next : Option ℕ). Contains (after_next [] (areas_after part image k) next) area)
      none later in absurd (omega (arith, nowhere.1)))
      (contains-cases part.first area
      (after_next [] (areas_after part image k) (record_in top).next) among)

  -- and it reaches that area alone.
  pub alone-reaches : (record_in top).next ≡ None → (geometry : Geometry) (area : ℕ)
      → ReachesArea geometry (KeyedShape part) image area → area ≡ part.first
  alone-reaches none geometry area reaches =
      reaches-first none (area_count part.geometry) area reaches

-- So it stays where the blocks of that area do.
pub alone-stays : (part : KeyedChain) (old new : Image) (content : Content)
    → IsAreaSame part old new part.first → StandsInFirst part old content
    → StandsInFirst part new content
alone-stays part old new content same alone = record {
  stands = keyed-same part old new
      (alone-each part old (IsAreaSame part old new) alone.last same) content alone.stands;
  last = ap (λ (top : Block). (record_in top).next)
      (same (first_area part).head (omega arith, omega arith))
      ∙ alone.last;
}
