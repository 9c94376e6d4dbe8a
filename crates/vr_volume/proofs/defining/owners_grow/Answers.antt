use Rattle.vr_volume.proofs.Nobodys.{given-part, given-volume}
use Rattle.vr_volume.proofs.defining.owners_grow.Goals as goal

pub returns : goal.returns
returns g c =
    let now = g.B.Blocks.seen c.args.blocks.now in
    record {
      rests = λ geometry number owners grown log images state part rest given past.
          given-volume geometry number owners grown log images state now part rest given past;
      parts = λ geometry owners grown images state shape known part rest given.
          given-part geometry owners grown images state shape known now part rest given;
    }
