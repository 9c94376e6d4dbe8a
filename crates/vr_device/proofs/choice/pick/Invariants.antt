use Rattle.std.proofs.Common.{◌≡◌, ◌<◌, ℕ, length, slice_get, slice_index, Some}
use Rattle.vr_types.specs.Image.{block_at}
use Rattle.vr_device.specs.Past.{contents_from}
use Rattle.vr_device.specs.PastEvent.{blocks_of, events_of}
use Rattle.vr_device.proofs.choice.pick.Given as goal

abbrev pub invariant-loop-n : goal.invariant-loop-n
invariant-loop-n l = record {
  long : length l.blocks.items ≡ l.n;
  each : (m : ℕ) → m < l.n → slice_get (contents_from (blocks_of l.stable) (events_of l.since) m)
      (slice_index l.choice m) ≡ Some (block_at (blocks_of l.blocks.items) m);
}
