use Rattle.std.proofs.Common.{true}
use Rattle.std.proofs.lemmas.List.Edits.{map_over_more}
use Rattle.vr_browse.specs.Positions.{dropped_by}
use Rattle.vr_browse.proofs.positions.drop_each.Goals as goal

pub loop-file-preserved : goal.loop-file-preserved
loop-file-preserved c =
    let more = map_over_more
    (dropped_by true) c.args.files.now c.loop-file.files c.loop-file.file-index
    c.file-item.result c.loop-file-test.true c.loop-file.invariant c.file-item.is in
    cc
