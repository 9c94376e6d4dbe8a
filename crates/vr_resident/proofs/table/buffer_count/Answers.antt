use Rattle.std.proofs.Common.{◌≤◌, length, arith}
use Rattle.vr_resident.specs.Places.{buffers_of}
use Rattle.vr_resident.proofs.Returning.{buffers_few}
use Rattle.vr_resident.proofs.table.buffer_count.Goals as goal

pub returns : goal.returns
returns c =
    let few : length (buffers_of c.args.table.now.entries) ≤ length c.args.table.now.entries =
    buffers_few c.args.table.now.entries in
    omega (arith, few, c.len.ensures.valid.1, c.requires, c.count_buffers.ensures)
