-- What the crates above cite: the areas of a volume, the parts of a catalog and who owns their
-- blocks, and calls of which only the blocks are said.
pub use Rattle.vr_mount.proofs.Blocks.{area-before, area-on, two-areas}
pub use Rattle.vr_mount.proofs.PartContents.{AreSame, IsAreaSame, keyed-same, keyed-there}
pub use Rattle.vr_mount.proofs.PartContents.{none-ascend, part-fits, rooms-same, stands-same}
pub use Rattle.vr_mount.proofs.PartContents.{stays-same}
pub use Rattle.vr_mount.proofs.Touched.{image-same, touches-none}
use Rattle.std.proofs.Common.{◌≡◌, ◌∙◌, ℕ, ◌+◌, ◌<◌, ◌≤◌, List, Option, Some, ap, arith, subst}
use Rattle.std.proofs.Common.{sym}
use Rattle.vr_types.specs.Geometry.{IsAllowed, area_count, head_block}
use Rattle.vr_types.specs.Image.{Image}
use Rattle.vr_types.specs.Seen.{Seen}
use Rattle.vr_types.specs.declared.geometry.Geometry.{Geometry}
use Rattle.vr_types.specs.declared.unit.PartNo.{PartNo}
use Rattle.vr_catalog.specs.declared.entry.CatEntry.{CatEntry}
use Rattle.vr_log.specs.LogNow.{IsOf}
use Rattle.vr_space.specs.Owners.{Owners}
use Rattle.vr_space.specs.Part.{InFirstArea, IsOn, KeyedShape, NumberedShape, Shape, Stands}
use Rattle.vr_space.specs.Part.{StaysIn, part_no}
use Rattle.vr_attach.specs.Laid.{IsInside, shape_in}
use Rattle.vr_attach.specs.Owning.{IsPastLog, owner_of}
use Rattle.vr_attach.proofs.CallerLemmas.{IsLaidAs, inside-on, laid-as, owner-past-log}
use Rattle.vr_attach.proofs.CallerLemmas.{reached-stays}
use Rattle.vr_mount.specs.Areas.{AreOn, AreOwners, EndsBefore}
use Rattle.vr_mount.proofs.Blocks.{area_there}
use Rattle.vr_mount.proofs.Laying.{IsAt, inside-first, shape_at}

-- What the definition of a part says of its records, beside where it is laid: each has room in an
-- interval, and those of an entry-sequenced or relative part aren't empty.
abbrev pub IsFit : Geometry → Shape → Type 0
IsFit geometry (KeyedShape part) = part.most + 7 ≤ geometry.size
IsFit geometry (NumberedShape part) = (0 < part.most) × (part.most + 7 ≤ geometry.size)

first-there : (geometry own : Geometry) (first : ℕ) → own ≡ geometry
    → head_block own first + own.area < geometry.blocks → first < area_count own
first-there geometry own first is ends =
    subst (λ (g : Geometry). first < area_count g) (sym is)
    (area_there geometry.blocks geometry.log geometry.area first
    (subst (λ (g : Geometry). head_block g first + g.area < geometry.blocks) is ends))

at_inside : (geometry : Geometry) (area : ℕ) (shape : Shape) → IsAllowed geometry
    → IsAt geometry area shape → EndsBefore geometry.blocks shape → IsFit geometry shape
    → IsInside geometry shape
at_inside geometry area (KeyedShape part) allowed at ends fit = (
  record {
    allowed = subst IsAllowed (sym at.2) allowed;
    first = first-there geometry part.geometry part.first at.2 ends;
    fits = subst (λ (g : Geometry). part.most + 7 ≤ g.size) (sym at.2) fit;
  },
  at.2,
)
at_inside geometry area (NumberedShape part) allowed at ends fit = (
  record {
    allowed = subst IsAllowed (sym at.2) allowed;
    first = first-there geometry part.geometry part.first at.2 ends;
    some = fit.0;
    fits = subst (λ (g : Geometry). part.most + 7 ≤ g.size) (sym at.2) fit.1;
  },
  at.2,
)

-- A part that is laid is on blocks that the volume has, where its first area is on some.
pub laid-inside : (geometry : Geometry) (entries : List CatEntry) → IsAllowed geometry
    → AreOn geometry entries → (part : ℕ) (shape : Shape)
    → shape_in geometry entries part ≡ Some shape → IsFit geometry shape
    → IsInside geometry shape
laid-inside geometry entries allowed on part shape laid fit =
    let at = shape_at geometry entries part shape laid in
    at_inside geometry at.0 shape allowed at.2 (on part shape laid) fit

-- so it is on the blocks that there are
pub on_blocks : (geometry : Geometry) (entries : List CatEntry) (now : Seen) → IsOf geometry now
    → IsAllowed geometry → AreOn geometry entries → (part : ℕ) (shape : Shape)
    → shape_in geometry entries part ≡ Some shape → IsFit geometry shape → IsOn shape now
on_blocks geometry entries now of allowed on part shape laid fit =
    inside-on geometry shape now of.count of.size
    (laid-inside geometry entries allowed on part shape laid fit)

-- the first area of a part is the area
pub first_at : (geometry : Geometry) (a n : ℕ) (shape : Shape) → IsAt geometry a shape
    → InFirstArea shape n
    → (head_block geometry a ≤ n) × (n ≤ head_block geometry a + geometry.area)
first_at geometry a n shape at inside =
    let here = inside-first shape n inside in
    (omega (arith, at.0, here.0), omega (arith, at.0, at.1, here.1))

-- each part that is laid stays in the blocks that the owners of the areas give it
pub owners_stay : (geometry : Geometry) (entries : List CatEntry)
    (areas : List (Option PartNo)) (image : Image) → AreOwners geometry entries image areas
    → (part : ℕ) (shape : Shape) → shape_in geometry entries part ≡ Some shape
    → Stands shape image → StaysIn shape (owner_of geometry areas) image
owners_stay geometry entries areas image own part shape laid stands =
    let mine : IsLaidAs geometry part shape = laid-as geometry entries part shape laid in
    reached-stays geometry entries part shape areas image laid stands (λ area reaches.
    own.owned (part_no shape) area (record {
      shape = shape;
      laid = ap (shape_in geometry entries) mine.number ∙ laid;
      reaches = reaches;
    }))

-- Owners who give each part that the entries lay the blocks that it leads to in the image, past the
-- log.
pub record OwnParts (geometry : Geometry) (entries : List CatEntry) (owners : Owners)
    (image : Image) : Type 0 where
  pub past : IsPastLog geometry owners
  pub within : (part : ℕ) (shape : Shape) → shape_in geometry entries part ≡ Some shape
      → StaysIn shape owners image

-- those of the areas, where each part stands for a content
pub areas-own : (geometry : Geometry) (entries : List CatEntry)
    (areas : List (Option PartNo)) (image : Image) → AreOwners geometry entries image areas
    → ((part : ℕ) (shape : Shape) → shape_in geometry entries part ≡ Some shape
    → Stands shape image) → OwnParts geometry entries (owner_of geometry areas) image
areas-own geometry entries areas image own stand = record {
  past = owner-past-log geometry areas;
  within = λ part shape laid.
      owners_stay geometry entries areas image own part shape laid (stand part shape laid);
}
