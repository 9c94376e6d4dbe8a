use Rattle.std.proofs.Common.{◌≡◌, ℕ, IsTrue, List, Option, take}
use Rattle.std.specs.Prelude.{All}
use Rattle.vr_types.specs.Content.{Content, Item}
use Rattle.vr_types.specs.Moments.{Guards}
use Rattle.vr_types.specs.Regions.{Touches}
use Rattle.vr_types.specs.declared.geometry.Geometry.{Geometry}
use Rattle.vr_space.specs.Known.{HasMet, KeepsMet}
use Rattle.vr_space.specs.Owners.{Owners}
use Rattle.vr_space.specs.Part.{HasKeptRoom, InPart, IsAtRest, IsFirm, Knows, MayHold, SameStages}
use Rattle.vr_space.specs.Part.{part_no}
use Rattle.vr_log.specs.LogNow.{LogNow}
use Rattle.vr_log.specs.declared.record.LogRecord.{LogRecord}
use Rattle.vr_volume.specs.EntryChanges.{AreSet, MissAll}
use Rattle.vr_volume.specs.Laying.{IsFreeIn, IsLaidSo}
use Rattle.vr_volume.specs.Safe.{IsSafe, IsSafeImage}
use Rattle.vr_volume.specs.declared.setting.EntryChange.{EntryChange}
use Rattle.vr_volume.proofs.Calls.{Anything}
use Rattle.vr_volume.proofs.setting.set_all.Given as goal

abbrev pub invariant-loop-change : goal.invariant-loop-change
invariant-loop-change g l = record {
  shape : g.P.Part.shape l.part ≡ g.P.Part.shape l.fn.part;
  count : (g.B.Blocks.seen l.blocks).count ≡ (g.B.Blocks.seen l.fn.blocks).count;
  size : (g.B.Blocks.seen l.blocks).size ≡ (g.B.Blocks.seen l.fn.blocks).size;
  faults : g.B.Blocks.faults l.blocks ≡ g.B.Blocks.faults l.fn.blocks;
  split : (g.P.Part.known l.part).split ≡ (g.P.Part.known l.fn.part).split;
  moves : (g.P.Part.known l.part).move ≡ (g.P.Part.known l.fn.part).move;
  areas : (g.P.Part.known l.part).areas ≡ (g.P.Part.known l.fn.part).areas;
  used : (g.P.Part.known l.part).used ≡ (g.P.Part.known l.fn.part).used;
  start : l.change-index ≡ 0 → (g.P.Part.known l.part ≡ g.P.Part.known l.fn.part)
      × ((g.B.Blocks.seen l.blocks).cur ≡ (g.B.Blocks.seen l.fn.blocks).cur);
  rests : IsTrue g.B.Blocks.tells → (owners : Owners)
      → IsAtRest (g.P.Part.shape l.fn.part) owners (g.B.Blocks.seen l.fn.blocks)
      → IsAtRest (g.P.Part.shape l.fn.part) owners (g.B.Blocks.seen l.blocks);
  room : IsTrue g.B.Blocks.tells → HasKeptRoom (g.P.Part.shape l.fn.part)
      (g.K.Kept.kept l.kept (part_no (g.P.Part.shape l.fn.part))) (g.B.Blocks.seen l.blocks);
  knows : IsTrue g.B.Blocks.tells → Knows (g.P.Part.shape l.fn.part) (g.P.Part.known l.part)
      (g.B.Blocks.seen l.blocks);
  stages : IsTrue g.B.Blocks.tells → SameStages (g.P.Part.shape l.fn.part)
      (g.P.Part.known l.fn.part) (g.P.Part.known l.part) (g.B.Blocks.seen l.fn.blocks).cur
      (g.B.Blocks.seen l.blocks).cur;
  safe : IsTrue g.B.Blocks.tells → (geometry : Geometry) (number : ℕ) (owners : Owners)
      (log : LogNow) (committed : List LogRecord → ℕ → Content)
      → IsSafe geometry number owners log committed (g.B.Blocks.seen l.fn.blocks)
      → IsLaidSo geometry log committed (part_no (g.P.Part.shape l.fn.part)).0
      (g.P.Part.shape l.fn.part)
      (g.K.Kept.kept l.kept (part_no (g.P.Part.shape l.fn.part)))
      → All (λ (change : EntryChange).
      IsFreeIn log (part_no (g.P.Part.shape l.fn.part)).0 change.place) l.changes
      → Guards (g.B.Blocks.seen l.fn.blocks) (g.B.Blocks.seen l.blocks)
      (IsSafeImage geometry number owners log committed)
      × IsSafe geometry number owners log committed (g.B.Blocks.seen l.blocks);
  set : IsTrue g.B.Blocks.tells → AreSet (g.P.Part.shape l.fn.part)
      (take l.change-index l.changes) (g.B.Blocks.seen l.fn.blocks).cur
      (g.B.Blocks.seen l.blocks).cur;
  elsewhere : IsTrue g.B.Blocks.tells → (place : List ℕ) (found : Option Item)
      → MissAll place (take l.change-index l.changes)
      → MayHold (g.P.Part.shape l.fn.part) (g.B.Blocks.seen l.blocks).may place found
      → MayHold (g.P.Part.shape l.fn.part) (g.B.Blocks.seen l.fn.blocks).may place found;
  firm : IsTrue g.B.Blocks.tells
      → All (λ (change : EntryChange).
      IsFirm (g.P.Part.shape l.fn.part) (g.B.Blocks.seen l.fn.blocks) change.place) l.changes
      → All (λ (change : EntryChange).
      IsFirm (g.P.Part.shape l.fn.part) (g.B.Blocks.seen l.blocks) change.place)
      (take l.change-index l.changes);
  touches : IsTrue g.B.Blocks.tells → (owners : Owners)
      → IsAtRest (g.P.Part.shape l.fn.part) owners (g.B.Blocks.seen l.fn.blocks)
      → Touches (InPart (g.P.Part.shape l.fn.part) owners) Anything
      (g.B.Blocks.seen l.fn.blocks) (g.B.Blocks.seen l.blocks);
  met : All (λ (change : EntryChange). HasMet (g.P.Part.known l.fn.part) change.place) l.changes
      → KeepsMet (g.P.Part.known l.fn.part) (g.P.Part.known l.part);
}
