use Rattle.std.proofs.Common.{◌≡◌, ℕ, IsTrue, Some, map, take}
use Rattle.std.specs.Prelude.{All}
use Rattle.vr_types.specs.Content.{Content}
use Rattle.vr_types.specs.Moments.{Guards}
use Rattle.vr_types.specs.declared.geometry.Geometry.{Geometry}
use Rattle.vr_part.specs.Any.{known_any, shape_any}
use Rattle.vr_space.specs.Owners.{Owners}
use Rattle.vr_space.specs.Part.{Shape, part_no}
use Rattle.vr_log.specs.LogNow.{IsForced}
use Rattle.vr_log.specs.Standing.{LogStands}
use Rattle.vr_volume.specs.Laid.{shape_by}
use Rattle.vr_volume.specs.PutBack.{images_of}
use Rattle.vr_volume.specs.Safe.{IsSafe, IsSafeImage}
use Rattle.vr_recover.specs.Found.{areas_kept}
use Rattle.vr_recover.specs.Opening.{HasNoSplit}
use Rattle.vr_recover.specs.Undone.{AreOpened, AreSettled, HasPart, IsReady, IsSettledPart}
use Rattle.vr_recover.specs.Undone.{ReadsContent, alike}
use Rattle.vr_recover.proofs.undone_parts.put_parts.Given as goal

abbrev pub invariant-loop-part : goal.invariant-loop-part
invariant-loop-part g l = record {
  shapes : map shape_any l.parts ≡ map shape_any l.fn.parts;
  split : All HasNoSplit l.parts;
  areas : areas_kept l.parts ≡ areas_kept l.fn.parts;
  count : (g.B.Blocks.seen l.blocks).count ≡ (g.B.Blocks.seen l.fn.blocks).count;
  size : (g.B.Blocks.seen l.blocks).size ≡ (g.B.Blocks.seen l.fn.blocks).size;
  faults : g.B.Blocks.faults l.blocks ≡ g.B.Blocks.faults l.fn.blocks;
  ready : IsTrue g.B.Blocks.tells → (owners : Owners)
      → All (λ part. IsReady (shape_any part) owners (known_any part)
      (g.K.Kept.kept l.kept (part_no (shape_any part))) (g.B.Blocks.seen l.fn.blocks))
      l.fn.parts
      → All (λ part. IsReady (shape_any part) owners (known_any part)
      (g.K.Kept.kept l.kept (part_no (shape_any part))) (g.B.Blocks.seen l.blocks)) l.parts;
  safe : IsTrue g.B.Blocks.tells → (geometry : Geometry) (member : ℕ)
      (owners : Owners) (contents : ℕ → Content)
      → IsSafe geometry member owners l.log (alike contents)
      (g.B.Blocks.seen l.fn.blocks)
      → AreOpened geometry l.log contents (map shape_any l.fn.parts)
      → Guards (g.B.Blocks.seen l.fn.blocks) (g.B.Blocks.seen l.blocks)
      (IsSafeImage geometry member owners l.log (alike contents))
      × IsSafe geometry member owners l.log (alike contents)
      (g.B.Blocks.seen l.blocks);
  stands : IsTrue g.B.Blocks.tells → IsForced l.log
      → LogStands l.log (g.B.Blocks.seen l.fn.blocks)
      → LogStands l.log (g.B.Blocks.seen l.blocks);
  reads : IsTrue g.B.Blocks.tells → (geometry : Geometry) (owners : Owners)
      (contents : ℕ → Content) → AreOpened geometry l.log contents (map shape_any l.fn.parts)
      → AreSettled geometry owners (images_of l.log.records) contents
      (g.B.Blocks.seen l.fn.blocks)
      → All (λ (shape : Shape). ReadsContent shape (contents (part_no shape).0)
      (g.B.Blocks.seen l.blocks).cur) (take l.part-index (map shape_any l.fn.parts))
      × ((part : ℕ) (shape : Shape) → shape_by geometry (contents 0) part ≡ Some shape
      → (HasPart (take l.part-index (map shape_any l.fn.parts)) part → ⊥)
      → IsSettledPart shape owners part (images_of l.log.records) (contents part)
      (g.B.Blocks.seen l.blocks));
}
