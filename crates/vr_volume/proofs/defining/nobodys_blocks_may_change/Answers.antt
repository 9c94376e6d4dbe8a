use Rattle.vr_volume.proofs.Nobodys.{beside-due, beside-part, beside-recovers, beside-rests}
use Rattle.vr_volume.proofs.defining.nobodys_blocks_may_change.Goals as goal

pub returns : goal.returns
returns g c =
    let B = g.B.Blocks in
    record {
      moments = λ geometry number owners log images state part a b rest none call.
          beside-recovers geometry number owners log images state part (B.seen a) (B.seen b) rest
          none call;
      rests = λ geometry number owners log images state part a b rest none call.
          beside-rests geometry number owners log images state part (B.seen a) (B.seen b) rest
          none call;
      parts = λ geometry owners images state shape known part a b told rest apart call.
          beside-part geometry owners images state shape known part (B.seen a) (B.seen b)
          (g.met.B.Blocks.cur_may a told) rest apart call;
      due = λ geometry owners images state shape known part a b told rest apart call.
          beside-due geometry owners images state shape known part (B.seen a) (B.seen b)
          (g.met.B.Blocks.cur_may a told) rest apart call;
    }
