-- The areas that an opened volume owns are its own, each of one part.
use Rattle.std.proofs.Common.{◌≡◌, ℕ, ◌+◌, ◌<◌, false, List, [], ◌∷◌, Option, Some, None, length}
use Rattle.std.proofs.Common.{map, subst, arith, ne_eqb}
use Rattle.std.specs.Prelude.{nat_eq}
use Rattle.std.specs.List.{AllByRecursion, IsDistinct}
use Rattle.std.proofs.lemmas.List.Elements.{All-from_recursion}
use Rattle.vr_types.specs.Geometry.{area_count}
use Rattle.vr_types.specs.declared.geometry.Geometry.{Geometry}
use Rattle.vr_types.specs.declared.unit.PartNo.{PartNo}
use Rattle.vr_history.specs.Addresses.{AreOwned}
use Rattle.vr_history.specs.State.{Owned}
use Rattle.vr_event.specs.Opening.{owned_from, owned_in}

-- they are among as many as are listed
later : (from : ℕ) (first : Option PartNo) (owners : List (Option PartNo))
    → AllByRecursion (λ (this : Owned). this.area < from + 1 + length owners)
    (owned_from (from + 1) owners)
    → AllByRecursion (λ (this : Owned). this.area < from + length (first ∷ owners))
    (owned_from (from + 1) owners)
later from first owners all =
    let same : from + 1 + length owners ≡ from + length (first ∷ owners) = omega arith in
    subst (λ (n : ℕ). AllByRecursion (λ (this : Owned). this.area < n)
    (owned_from (from + 1) owners)) same all

below : (from : ℕ) (owners : List (Option PartNo))
    → AllByRecursion (λ (this : Owned). this.area < from + length owners) (owned_from from owners)
below from [] = tt
below from (None ∷ owners) = later from None owners (below (from + 1) owners)
below from (Some part ∷ owners) =
    (omega arith, later from (Some part) owners (below (from + 1) owners))

-- and none before the first of these is among them
apart : (area from : ℕ) (owners : List (Option PartNo)) → area < from
    → AllByRecursion (λ (other : ℕ). nat_eq area other ≡ false)
    (map (λ (this : Owned). this.area) (owned_from from owners))
apart area from [] less = tt
apart area from (None ∷ owners) less = apart area (from + 1) owners (omega (arith, less))
apart area from (Some part ∷ owners) less = (
  ne_eqb area from (λ same. omega (arith, same, less)),
  apart area (from + 1) owners (omega (arith, less)),
)

distinct : (from : ℕ) (owners : List (Option PartNo))
    → IsDistinct nat_eq (map (λ (this : Owned). this.area) (owned_from from owners))
unfolding IsDistinct
distinct from [] = tt
distinct from (None ∷ owners) = distinct (from + 1) owners
distinct from (Some part ∷ owners) =
    (apart from (from + 1) owners (omega arith), distinct (from + 1) owners)

-- Those of the areas of a volume are owned so.
pub opened-owned : (geometry : Geometry) (owners : List (Option PartNo))
    → length owners ≡ area_count geometry → AreOwned geometry (owned_in owners)
opened-owned geometry owners count =
    let all : 0 + length owners ≡ area_count geometry = omega (arith, count) in
    record {
      within = All-from_recursion (λ (this : Owned). this.area < area_count geometry)
          (owned_in owners)
          (subst (λ (n : ℕ). AllByRecursion (λ (this : Owned). this.area < n) (owned_in owners)) all
          (below 0 owners));
      once = distinct 0 owners;
    }
