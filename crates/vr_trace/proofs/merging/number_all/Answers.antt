use Rattle.std.proofs.Common.{◌++◌, ◌∙◌, map, take, ap, append_assoc}
use Rattle.vr_history.specs.Merged.{numbered_from}
use Rattle.vr_trace.specs.Numbering.{numbered_of, with_volume}
use Rattle.vr_trace.specs.Volumes.{entries_of}
use Rattle.vr_trace.proofs.Numbers.{numbered_from-take}
use Rattle.vr_trace.proofs.merging.number_all.Goals as goal

pub loop-volume-preserved : goal.loop-volume-preserved
loop-volume-preserved c =
    let before = map numbered_of c.args.entries.now.items in
    let done = numbered_from 0 (entries_of (take c.loop-volume.volume c.args.histories.now)) in
    let one = map (with_volume c.loop-volume.volume) c.index-histories-volume.result.entries in
    c.in_ok-number_one.ensures
    ∙ ap (λ l. map numbered_of c.loop-volume.entries.items ++ map (with_volume c.loop-volume.volume)
    l) c.entries.ensures.value
    ∙ ap (λ l. l ++ one) c.loop-volume.invariant
    ∙ append_assoc before done one
    ∙ ap (λ l. before ++ l) (numbered_from-take c.args.histories.now c.loop-volume.volume
    c.index-histories-volume.result c.loop-volume-test.true c.index-histories-volume.is)
