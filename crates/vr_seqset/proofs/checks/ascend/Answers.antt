use Rattle.vr_seqset.proofs.PlaceLemmas.{next_still, not_above, none_left}
use Rattle.std.proofs.Common.{refl}
use Rattle.vr_seqset.proofs.checks.ascend.Goals as goal

pub returns-then-not-is_above : goal.returns-then-not-is_above
returns-then-not-is_above c = (
  λ h. absurd cc,
  λ s. absurd (not_above _ c.loop-entry.entry-iterator c.next.new.self c.in-Some.entry
      c.loop-entry.below c.high-high.result c.in-Some.ensures.steps c.high-high.ensures
      (λ above. absurd (cc (c.if-not-is_above.ensures.1 above))) c.loop-entry.invariant s),
)

pub loop-entry-preserved : goal.loop-entry-preserved
loop-entry-preserved c =
    next_still _ c.loop-entry.entry-iterator c.next.new.self c.in-Some.entry c.loop-entry.below
    c.high-high.result c.in-Some.ensures.steps c.high-high.ensures
    (c.if-not-is_above.ensures.0 refl) c.loop-entry.invariant

pub returns : goal.returns
returns c = (
  λ h. none_left _ c.loop-entry.below c.loop-entry.entry-iterator c.in-None.ensures.steps.0
      c.loop-entry.invariant,
  λ s. refl,
)
