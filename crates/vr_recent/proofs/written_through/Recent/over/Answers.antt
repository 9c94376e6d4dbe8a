use Rattle.vr_recent.proofs.Buffers.{of_empty}
use Rattle.vr_recent.proofs.written_through.Recent.over.Goals as goal

pub invariant_of-result : goal.invariant_of-result
invariant_of-result g c = record {
  sixteen = c.requires.count;
  of = of_empty g.D.BlockDevice.tells (g.D.BlockDevice.seen c.args.device) c.args.buffers.items
      c.requires.empty;
}
