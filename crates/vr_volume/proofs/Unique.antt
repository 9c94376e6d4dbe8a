-- A volume recovers to one list of contents at most.
use Rattle.std.proofs.Common.{◌≡◌, ◌≤◌, ℕ, Option, Some, None, refl, sym, ap, subst, ◌∙◌, length}
use Rattle.vr_types.specs.Content.{Content}
use Rattle.vr_types.specs.Image.{Image, block_at}
use Rattle.vr_types.specs.declared.geometry.Geometry.{Geometry}
use Rattle.vr_space.specs.Part.{Shape}
use Rattle.vr_space.proofs.CallerLemmas.{one_content}
use Rattle.vr_log.specs.Content.{Content as LogContent}
use Rattle.vr_log.proofs.Unique.{one_log}
use Rattle.vr_volume.specs.Laid.{shape_by, catalog_shape}
use Rattle.vr_volume.specs.PutBack.{images_of, put_back, standing}
use Rattle.vr_volume.specs.Volume.{Recovers, VolumeStandsFor, shapes_by}

module _ (geometry : Geometry) (number : ℕ) (image : Image) (log : LogContent)
    (one other : ℕ → Content) (first : VolumeStandsFor geometry number image log one)
    (second : VolumeStandsFor geometry number image log other) where
  catalogs : one 0 ≡ other 0
  catalogs = one_content (catalog_shape geometry) image (one 0) (other 0)
      (first.laid 0 (catalog_shape geometry) refl) (second.laid 0 (catalog_shape geometry) refl)

  shapes : (part : ℕ) → shapes_by geometry log one part ≡ shapes_by geometry log other part
  shapes part =
      ap (λ (c : Content). shape_by geometry (put_back 0 (images_of log.records) (standing c)) part)
      catalogs

  part-by : (part : ℕ) (shape : Option Shape) → shapes_by geometry log one part ≡ shape
      → one part ≡ other part
  part-by part None is = first.others part is ∙ sym (second.others part (sym (shapes part) ∙ is))
  part-by part (Some shape) is = one_content shape image (one part) (other part)
      (first.laid part shape is) (second.laid part shape (sym (shapes part) ∙ is))

  pub one_volume : (part : ℕ) → one part ≡ other part
  one_volume part = part-by part (shapes_by geometry log one part) refl

-- the blocks stand for one log and one list of contents at most
pub one_stand : (geometry : Geometry) (number : ℕ) (image : Image) (log least : LogContent)
    (one other : ℕ → Content) → 8 ≤ length (block_at image 1)
    → VolumeStandsFor geometry number image log one
    → VolumeStandsFor geometry number image least other
    → (log ≡ least) × ((part : ℕ) → one part ≡ other part)
one_stand geometry number image log least one other long first second =
    let logs : log ≡ least =
    one_log geometry image log least long first.log_is second.log_is in (
      logs,
      one_volume geometry number image log one other first
          (subst (λ (l : LogContent). VolumeStandsFor geometry number image l other) (sym logs)
          second),
    )

-- and recover to one
pub one_recovery : (geometry : Geometry) (number : ℕ) (image : Image) (one other : ℕ → Content)
    → 8 ≤ length (block_at image 1) → Recovers geometry number image one
    → Recovers geometry number image other → (part : ℕ) → one part ≡ other part
one_recovery geometry number image one other long first second part =
    let same = one_stand geometry number image first.log second.log first.contents second.contents
    long first.stands second.stands in
    first.back part
    ∙ ap (λ (l : LogContent). put_back part (images_of l.records)
    (standing (first.contents part))) same.0
    ∙ ap (λ (c : Content). put_back part (images_of second.log.records) (standing c)) (same.1 part)
    ∙ sym (second.back part)
