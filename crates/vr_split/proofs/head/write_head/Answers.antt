use Rattle.std.proofs.Common.{◌≡◌, ℕ, length, sym, subst, ◌∙◌, true≢false}
use Rattle.vr_seqset.specs.SequenceSet.{KeepsRules}
use Rattle.vr_seqset.specs.Reading.{record_in}
use Rattle.vr_seqset.proofs.CallerLemmas.{record_is}
use Rattle.vr_split.specs.Halves.{CanHalve, halved_record}
use Rattle.vr_split.proofs.HalvedRules.{halved-rules}
use Rattle.vr_split.proofs.head.write_head.Goals as goal

pub write_halved-requires-clause-rules : goal.write_halved-requires-clause-rules
write_halved-requires-clause-rules c =
    let a = c.args in
    subst (λ (size : ℕ). KeepsRules a.cis size (halved_record a.old a.into a.cut.now c.in-Ok.view))
    (sym c.requires)
    (halved-rules a.cis (length a.top.now) a.old a.into a.cut.now c.in-Ok.view
    c.in-Ok.ensures.found.rules (c.can_halve.ensures.0 c.if-can_halve.true))

pub returns-else-can_halve : goal.returns-else-can_halve
returns-else-can_halve c = λ spelled can.
    let a = c.args in
    let same : record_in a.top.now ≡ c.in-Ok.view =
    record_is a.cis a.top.now c.in-Ok.view c.in-Ok.ensures.found in
    absurd (true≢false (sym (c.can_halve.ensures.1
    (subst (CanHalve a.cis (length a.top.now) a.old a.into a.cut.now) same can))
    ∙ c.if-can_halve.false))
