use Rattle.std.proofs.Common.{refl, arith}
use Rattle.vr_split.proofs.Segments.{has-range, order, within-items}
use Rattle.vr_split.proofs.halves.write_range.Goals as goal

pub returns : goal.returns
returns c = λ range holds above.
    let part = c.args.layout.now in
    let block = c.args.block.now in
    let first = c.count_before-from.ensures range holds in
    let last = c.count_up_to-to.ensures range holds in
    has-range part block _ c.args.high.now c.count_before-from.result c.count_up_to-to.result first
    last above range c.write_records.new.out holds (omega arith)
    (c.write_records.ensures _ holds.spelled refl
    (order part block _ c.args.high.now c.count_before-from.result c.count_up_to-to.result first
    last above)
    (within-items part block _ c.args.high.now c.count_before-from.result c.count_up_to-to.result
    first last above)).1
