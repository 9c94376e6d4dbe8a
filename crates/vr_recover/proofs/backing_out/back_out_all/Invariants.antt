use Rattle.std.proofs.Common.{◌≡◌, ℕ, List, true, false, IsTrue, take}
use Rattle.std.specs.Prelude.{All}
use Rattle.vr_types.specs.Content.{Content}
use Rattle.vr_types.specs.Moments.{Guards}
use Rattle.vr_types.specs.Regions.{Touches}
use Rattle.vr_types.specs.declared.unit.Unit.{Unit as UnitOfRecovery}
use Rattle.vr_space.specs.Owners.{Owners}
use Rattle.vr_log.specs.Live.{is_in, live_in}
use Rattle.vr_log.specs.LogNow.{IsOf}
use Rattle.vr_log.specs.Standing.{InLog, LogStands}
use Rattle.vr_history.specs.State.{BeforeImage}
use Rattle.vr_recover.specs.Recovered.{KeepsAll}
use Rattle.vr_mount.specs.Touched.{Anything}
use Rattle.vr_recover.specs.Undone.{HasFewer, IsUndone}
use Rattle.vr_recover.proofs.BackingOut.{AreOut}
use Rattle.vr_recover.proofs.backing_out.back_out_all.Given as goal

abbrev pub invariant-loop-rec : goal.invariant-loop-rec
invariant-loop-rec g l = record {
  geometry : l.log.geometry ≡ l.fn.log.geometry;
  generation : l.log.generation ≡ l.fn.log.generation;
  sound : l.log.broken ≡ false;
  shape : IsOf l.log.geometry (g.B.Blocks.seen l.blocks);
  stands : IsTrue g.B.Blocks.tells → LogStands l.log (g.B.Blocks.seen l.blocks);
  faults : g.B.Blocks.faults l.blocks ≡ g.B.Blocks.faults l.fn.blocks;
  touches : IsTrue g.B.Blocks.tells → Touches (InLog l.fn.log.geometry) Anything
      (g.B.Blocks.seen l.fn.blocks) (g.B.Blocks.seen l.blocks);
  any_moment : IsTrue g.B.Blocks.tells → (number : ℕ) (owners : Owners)
      (images : List BeforeImage) (contents : ℕ → Content)
      → IsUndone number owners l.fn.log contents (g.B.Blocks.seen l.fn.blocks)
      → HasFewer images l.fn.log
      → Guards (g.B.Blocks.seen l.fn.blocks) (g.B.Blocks.seen l.blocks)
      (KeepsAll l.fn.log.geometry number images contents);
  before : IsTrue g.B.Blocks.tells → (images : List BeforeImage) → HasFewer images l.fn.log
      → HasFewer images l.log;
  undone : IsTrue g.B.Blocks.tells → (number : ℕ) (owners : Owners)
      (contents : ℕ → Content)
      → IsUndone number owners l.fn.log contents (g.B.Blocks.seen l.fn.blocks)
      → IsUndone number owners l.log contents (g.B.Blocks.seen l.blocks);
  fewer : (unit : UnitOfRecovery) → is_in unit (live_in l.log.records) ≡ true
      → is_in unit (live_in l.fn.log.records) ≡ true;
  out : All (AreOut (live_in l.log.records)) (take l.rec-index l.records);
}
