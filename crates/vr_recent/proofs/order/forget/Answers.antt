use Rattle.std.proofs.Common.{◌<◌, arith, get_or, length}
use Rattle.std.proofs.lemmas.List.{get_or_default}
use Rattle.std.proofs.lemmas.List.Edits.{map_over_more}
use Rattle.vr_recent.specs.Buffers.{forgot}
use Rattle.vr_recent.proofs.order.forget.Goals as goal

pub loop-buffer-preserved : goal.loop-buffer-preserved
loop-buffer-preserved c =
    let l = c.loop-buffer in
    let below : l.buffer-index < length l.buffers = omega arith in
    let b = get_or l.buffers l.buffer-index c.buffer-item.result in
    let same = get_or_default l.buffers l.buffer-index c.buffer-item.result b below in
    let more = map_over_more (forgot c.args.n) c.args.buffers.now l.buffers l.buffer-index b
    c.loop-buffer-test.true l.invariant same in
    rw c.forget.ensures more
