use Rattle.std.proofs.Common.{◌≡◌, ◌<◌, ◌≤◌, ℕ, List, true, arith, subst, sym}
use Rattle.std.specs.Prelude.{All, nat_lt}
use Rattle.vr_types.specs.Geometry.{area_count}
use Rattle.vr_catalog.specs.declared.entry.CatEntry.{CatEntry}
use Rattle.vr_mount.specs.Areas.{IsBelow}
use Rattle.vr_mount.proofs.Laying.{areas_by_on, on_by_areas, some_area}
use Rattle.vr_mount.proofs.Parts.{parts_told}
use Rattle.vr_mount.proofs.areas.are_on.Goals as goal

pub returns-then-areas-gt0 : goal.returns-then-areas-gt0
returns-then-areas-gt0 c =
    let geometry = c.args.geometry.now in
    let entries = c.args.catalog.now in (
      λ yes. on_by_areas geometry entries
          (subst (λ (n : ℕ). 0 < n) c.areas-areas.ensures c.if-areas-gt0.true)
          (subst (λ (es : List CatEntry). All (IsBelow (area_count geometry)) es) c.as_slice.ensures
          (subst (λ (n : ℕ). All (IsBelow n) c.as_slice.result.now) c.areas-areas.ensures
          (c.are_below.ensures.0 yes))),
      λ on. c.are_below.ensures.1
          (subst (λ (n : ℕ). All (IsBelow n) c.as_slice.result.now) (sym c.areas-areas.ensures)
          (subst (λ (es : List CatEntry). All (IsBelow (area_count geometry)) es)
          (sym c.as_slice.ensures)
          (areas_by_on geometry entries (parts_told entries c.requires) on))),
    )

pub returns-else-areas-gt0 : goal.returns-else-areas-gt0
returns-else-areas-gt0 c =
    let geometry = c.args.geometry.now in
    let none : c.areas-areas.result ≤ 0 = c.if-areas-gt0.false in
    let zero : c.areas-areas.result ≡ 0 = omega (arith, none) in (
      λ yes.
          let below : nat_lt 0 0 ≡ true = subst (λ (n : ℕ). nat_lt 0 n ≡ true) zero yes in
          absurd cc,
      λ on. absurd (omega (
        arith,
        zero,
        c.areas-areas.ensures,
        some_area geometry c.args.catalog.now on,
      )),
    )
