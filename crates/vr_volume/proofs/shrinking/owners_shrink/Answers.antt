use Rattle.vr_volume.proofs.OwnersLeft.{part-left, volume-left}
use Rattle.vr_volume.proofs.shrinking.owners_shrink.Goals as goal

pub returns : goal.returns
returns g c =
    let now = g.B.Blocks.seen c.args.blocks.now in
    record {
      rests = λ geometry number owners shrunk log images state part rest none taken.
          volume-left geometry number owners shrunk log images state now part rest none taken;
      parts = λ geometry owners shrunk images state shape known part rest apart taken.
          part-left geometry owners shrunk images state shape known now part rest apart taken;
    }
