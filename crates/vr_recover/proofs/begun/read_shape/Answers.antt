use Rattle.vr_recover.proofs.Opening.{other-version}
use Rattle.vr_recover.proofs.begun.read_shape.Goals as goal

pub returns-in-Err-Version-clause-refused : goal.returns-in-Err-Version-clause-refused
returns-in-Err-Version-clause-refused g c told =
    let stated = rw c.in-Err-Version.field-0-is at c.in-Err-Version.ensures.refused told in
    other-version c.args.number (g.B.Blocks.seen c.args.blocks.now) c.in-Err-Version.found
    stated.0 stated.1
