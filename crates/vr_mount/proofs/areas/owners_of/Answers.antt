use Rattle.std.proofs.Common.{◌∙◌, ℕ, List, Option, Some, ap, arith, subst, sym}
use Rattle.std.specs.Prelude.{All, set}
use Rattle.std.specs.List.{fold}
use Rattle.vr_types.specs.Geometry.{area_count}
use Rattle.vr_types.specs.Space.{all_free}
use Rattle.vr_types.specs.declared.unit.PartNo.{PartNo}
use Rattle.vr_catalog.specs.declared.entry.CatEntry.{CatEntry}
use Rattle.vr_mount.specs.Areas.{IsBelow, catalog_part, part_of}
use Rattle.vr_mount.specs.Marks.{marked}
use Rattle.vr_mount.specs.Numbers.{laid_area}
use Rattle.vr_mount.proofs.Laying.{areas_by_on, some_area}
use Rattle.vr_mount.proofs.Owning.{free_length, owners_made}
use Rattle.vr_mount.proofs.Parts.{parts_told}
use Rattle.vr_mount.proofs.areas.owners_of.Goals as goal

pub mark_parts-requires-clause-some : goal.mark_parts-requires-clause-some
mark_parts-requires-clause-some c =
    omega (
      arith,
      free_length (area_count c.args.geometry.now) c.areas.result c.in_ok-owners.owners
          c.in_ok-owners.ensures c.areas.ensures,
      some_area c.args.geometry.now c.args.catalog.now c.requires.on,
    )

pub mark_parts-requires-clause-below : goal.mark_parts-requires-clause-below
mark_parts-requires-clause-below c =
    let geometry = c.args.geometry.now in
    let entries = c.args.catalog.now in
    subst (λ (n : ℕ). All (IsBelow n) c.as_slice.result.now)
    (sym (free_length (area_count geometry) c.areas.result c.in_ok-owners.owners
    c.in_ok-owners.ensures c.areas.ensures))
    (subst (λ (es : List CatEntry). All (IsBelow (area_count geometry)) es)
    (sym c.as_slice.ensures)
    (areas_by_on geometry entries (parts_told entries c.requires.parts) c.requires.on))

pub returns : goal.returns
returns c =
    let geometry = c.args.geometry.now in
    let entries = c.args.catalog.now in
    owners_made geometry entries c.mark_parts.new.owners (parts_told entries c.requires.parts)
    c.requires.apart c.requires.on
    (c.mark_parts.ensures
    ∙ ap (λ (owners : List (Option PartNo)).
    fold (marked laid_area part_of) (set owners 0 (Some catalog_part)) c.as_slice.result.now)
    (c.in_ok-owners.ensures ∙ ap (λ (n : ℕ). all_free n) c.areas.ensures)
    ∙ ap (λ (es : List CatEntry). fold (marked laid_area part_of)
    (set (all_free (area_count geometry)) 0 (Some catalog_part)) es) c.as_slice.ensures)
