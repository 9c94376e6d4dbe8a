use Rattle.std.proofs.Common.{◌≡◌, ℕ, List, IsTrue, take}
use Rattle.std.specs.Prelude.{All}
use Rattle.std.specs.List.{filter_map}
use Rattle.vr_types.specs.Content.{Content}
use Rattle.vr_types.specs.Moments.{Guards}
use Rattle.vr_types.specs.Regions.{Touches}
use Rattle.vr_types.specs.declared.geometry.Geometry.{Geometry}
use Rattle.vr_space.specs.Owners.{Owners}
use Rattle.vr_space.specs.Part.{InPart}
use Rattle.vr_log.specs.Live.{live_in}
use Rattle.vr_log.specs.declared.record.LogRecord.{LogRecord}
use Rattle.vr_volume.specs.Laying.{IsLaidSo}
use Rattle.vr_volume.specs.PutBack.{image_in, images_of}
use Rattle.vr_volume.specs.Safe.{IsSafe, IsSafeImage}
use Rattle.vr_mount.specs.Touched.{Anything}
use Rattle.vr_recover.specs.Undone.{ArePutBack, HasAllRecords, IsLeftIn, IsReady}
use Rattle.vr_recover.proofs.undone.put_back.Given as goal

abbrev pub invariant-loop-rec : goal.invariant-loop-rec
invariant-loop-rec g l = record {
  shape : g.P.Part.shape l.part ≡ g.P.Part.shape l.fn.part;
  split : (g.P.Part.known l.part).split ≡ (g.P.Part.known l.fn.part).split;
  moves : (g.P.Part.known l.part).move ≡ (g.P.Part.known l.fn.part).move;
  areas : (g.P.Part.known l.part).areas ≡ (g.P.Part.known l.fn.part).areas;
  count : (g.B.Blocks.seen l.blocks).count ≡ (g.B.Blocks.seen l.fn.blocks).count;
  size : (g.B.Blocks.seen l.blocks).size ≡ (g.B.Blocks.seen l.fn.blocks).size;
  faults : g.B.Blocks.faults l.blocks ≡ g.B.Blocks.faults l.fn.blocks;
  ready : IsTrue g.B.Blocks.tells → (owners : Owners)
      → IsReady (g.P.Part.shape l.fn.part) owners (g.P.Part.known l.fn.part)
      (g.K.Kept.kept l.kept l.number) (g.B.Blocks.seen l.fn.blocks)
      → IsReady (g.P.Part.shape l.fn.part) owners (g.P.Part.known l.part)
      (g.K.Kept.kept l.kept l.number) (g.B.Blocks.seen l.blocks);
  touches : IsTrue g.B.Blocks.tells → (owners : Owners)
      → IsReady (g.P.Part.shape l.fn.part) owners (g.P.Part.known l.fn.part)
      (g.K.Kept.kept l.kept l.number) (g.B.Blocks.seen l.fn.blocks)
      → Touches (InPart (g.P.Part.shape l.fn.part) owners) Anything
      (g.B.Blocks.seen l.fn.blocks) (g.B.Blocks.seen l.blocks);
  safe : IsTrue g.B.Blocks.tells → (geometry : Geometry) (member : ℕ) (owners : Owners)
      (committed : List LogRecord → ℕ → Content)
      → IsSafe geometry member owners l.log committed (g.B.Blocks.seen l.fn.blocks)
      → IsLaidSo geometry l.log committed l.number.0 (g.P.Part.shape l.fn.part)
      (g.K.Kept.kept l.kept l.number) → HasAllRecords l.log
      → Guards (g.B.Blocks.seen l.fn.blocks) (g.B.Blocks.seen l.blocks)
      (IsSafeImage geometry member owners l.log committed)
      × IsSafe geometry member owners l.log committed (g.B.Blocks.seen l.blocks);
  back : IsTrue g.B.Blocks.tells → (content : Content)
      → All (IsLeftIn (g.P.Part.shape l.fn.part) content (g.B.Blocks.seen l.fn.blocks).cur)
      (images_of l.log.records)
      → ArePutBack (g.P.Part.shape l.fn.part) content
      (filter_map (image_in (live_in l.log.records)) (take l.rec-index l.records))
      (g.B.Blocks.seen l.fn.blocks) (g.B.Blocks.seen l.blocks);
}
