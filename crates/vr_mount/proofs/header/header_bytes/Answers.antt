use Rattle.vr_mount.proofs.Headers.{header_cells}
use Rattle.vr_mount.proofs.header.header_bytes.Goals as goal

pub returns : goal.returns
returns c =
    header_cells c.args.geometry.now c.args.number c.digit-tens.result c.digit-ones.result
    c.to_be_bytes-s.result c.to_be_bytes-b.result c.to_be_bytes-l.result c.to_be_bytes-a.result
    c.to_be_bytes-s.ensures c.to_be_bytes-b.ensures c.to_be_bytes-l.ensures
    c.to_be_bytes-a.ensures c.digit-tens.ensures c.digit-ones.ensures
