use Rattle.vr_volume.proofs.Crashing.{backed-out-recovers, before-recovers, commit-recovers}
use Rattle.vr_volume.proofs.Crashing.{rest-recovers}
use Rattle.vr_volume.proofs.laws.crash_recovers.Goals as goal

pub returns : goal.returns
returns g c =
    let now = g.B.Blocks.seen c.args.blocks.now in
    record {
      rest = λ geometry number owners log images state is.
          rest-recovers geometry number owners log images state now is;
      before = λ geometry number owners log images state is.
          before-recovers geometry number owners log images state now is;
      backed_out = λ geometry number owners log images state is.
          backed-out-recovers geometry number owners log images state now is;
      commit = λ geometry number owners log images state is.
          commit-recovers geometry number owners log images state now is;
    }
