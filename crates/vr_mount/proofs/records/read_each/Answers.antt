use Rattle.std.proofs.Common.{◌∙◌}
use Rattle.vr_mount.proofs.Spelling.{spelled_added}
use Rattle.vr_mount.proofs.records.read_each.Goals as goal

pub loop-bytes-preserved : goal.loop-bytes-preserved
loop-bytes-preserved c =
    spelled_added c.args.records.now c.loop-bytes.catalog c.add_entry.new.catalog
    c.loop-bytes.bytes-index c.bytes-item.result c.as_slice.result.now
    c.in_ok-add_entry.field-0 c.loop-bytes-test.true (c.as_slice.ensures ∙ c.bytes-item.is)
    c.loop-bytes.invariant c.in_ok-add_entry.ensures c.if-not-branch.false
