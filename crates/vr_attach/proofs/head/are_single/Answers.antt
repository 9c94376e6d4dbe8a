use Rattle.std.proofs.Common.{◌≡◌, length, sym, ◌∙◌}
use Rattle.vr_seqset.specs.Entry.{Entry}
use Rattle.vr_attach.proofs.Passing.{still-passes}
use Rattle.vr_attach.proofs.head.are_single.Goals as goal

pub loop-entry-preserved : goal.loop-entry-preserved
loop-entry-preserved c =
    still-passes (λ (entry : Entry). length entry.intervals ≡ 1) c.args.entries
    c.loop-entry.entry-iterator c.next.new.self c.in-Some.entry c.in-Some.ensures.steps
    c.loop-entry.invariant (sym c.intervals.ensures ∙ c.if-intervals-ne1.false)
