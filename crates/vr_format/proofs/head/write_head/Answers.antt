use Rattle.std.proofs.Common.{◌≡◌, length, arith}
use Rattle.vr_format.proofs.Tops.{one_top}
use Rattle.vr_format.proofs.head.write_head.Goals as goal

pub returns : goal.returns
returns c =
    let size : length c.write_record.new.out ≡ c.args.layout.now.size =
    omega (arith, c.requires.size) in
    let top = one_top c.args.layout.now c.write_record.new.out c.requires.part size
    c.write_record.ensures in
    record { head = top.0; only = top.1; entries = top.2 }
