use Rattle.vr_ci.specs.Interval as ci
use Rattle.vr_space.specs.Keyed.{IsKept}
use Rattle.vr_attach.proofs.Passing.{still-passes}
use Rattle.vr_attach.proofs.interval.are_kept.Goals as goal

pub loop-bytes-preserved : goal.loop-bytes-preserved
loop-bytes-preserved c =
    let item : ci.Item = record { bytes = c.in-Some.bytes.now; live = c.in-Some.live } in
    let is = c.is_kept.ensures.0 c.if-not-is_kept.false in
    still-passes (IsKept c.args.layout.now) c.args.view.now.items c.loop-bytes.bytes-iterator
    c.next.new.self item c.in-Some.ensures.steps c.loop-bytes.invariant
    (record { live = is.0; valid = is.1 })
