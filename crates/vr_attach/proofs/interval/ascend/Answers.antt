use Rattle.std.proofs.Common.{true≢false, sym}
use Rattle.vr_ci.specs.Interval as ci
use Rattle.vr_space.specs.Keyed.{IsKept}
use Rattle.vr_attach.proofs.Passing.{still-passes, still-first, rising-passes, rising-fails}
use Rattle.vr_attach.proofs.Passing.{rising-ends, untrue}
use Rattle.vr_attach.proofs.interval.ascend.Goals as goal

pub returns-then-not-is_above : goal.returns-then-not-is_above
returns-then-not-is_above c =
    let item : ci.Item = record { bytes = c.in-Some.bytes.now; live = c.in-Some.field-0-1 } in (
      λ is. absurd (true≢false (sym is)),
      λ sorted. absurd (rising-fails c.args.layout.now c.args.view.now.items
          c.loop-bytes.bytes-iterator c.next.new.self item c.in-Some.ensures.steps
          c.key_of-key.result c.key_of-key.ensures c.loop-bytes.last
          (untrue c.is_above.result c.is_above.ensures c.if-not-is_above.true)
          c.loop-bytes.invariant.rising sorted),
    )

pub loop-bytes-preserved : goal.loop-bytes-preserved
loop-bytes-preserved c =
    let part = c.args.layout.now in
    let item : ci.Item = record { bytes = c.in-Some.bytes.now; live = c.in-Some.field-0-1 } in
    record {
      kept = still-passes (IsKept part) c.args.view.now.items c.loop-bytes.bytes-iterator
          c.next.new.self item c.in-Some.ensures.steps c.loop-bytes.invariant.kept
          (still-first (IsKept part) c.args.view.now.items c.loop-bytes.bytes-iterator
          c.next.new.self item c.in-Some.ensures.steps c.loop-bytes.invariant.kept c.requires);
      rising = rising-passes part c.args.view.now.items c.loop-bytes.bytes-iterator
          c.next.new.self item c.in-Some.ensures.steps c.key_of-key.result c.key_of-key.ensures
          c.loop-bytes.last (c.is_above.ensures.0 c.if-not-is_above.false)
          c.loop-bytes.invariant.rising;
    }

pub returns : goal.returns
returns c = (
  λ is. rising-ends c.args.layout.now c.args.view.now.items c.loop-bytes.bytes-iterator
      c.loop-bytes.last c.in-None.ensures.steps.0 c.loop-bytes.invariant.rising,
  λ sorted. Rattle.std.proofs.Common.refl,
)
