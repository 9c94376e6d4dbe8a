use Rattle.std.proofs.Common.{refl, arith}
use Rattle.vr_seqset.specs.declared.fault.SeqFault.TheVariants as faults
use Rattle.vr_seqset.proofs.RecordLemmas.{record_is}
use Rattle.vr_seqset.proofs.FaultLemmas.{keeps, is_record, used_to, used_from, ascends_to}
use Rattle.vr_seqset.proofs.FaultLemmas.{ascends_from}
use Rattle.vr_seqset.proofs.view.SeqView.read.Goals as goal

pub returns-then-not-begins_with-clause-only : goal.returns-then-not-begins_with-clause-only
returns-then-not-begins_with-clause-only c =
    λ s is. absurd (cc (c.if-not-begins_with.ensures.1
    (keeps c.args.cis c.args.bytes.now s is faults.Kind)))

pub returns-in_default-clause-only : goal.returns-in_default-clause-only
returns-in_default-clause-only c = λ s is. c.in_default.ensures.none
    (keeps c.args.cis c.args.bytes.now s is faults.Lengths)

pub returns-then-not-are_used_once-clause-only : goal.returns-then-not-are_used_once-clause-only
returns-then-not-are_used_once-clause-only c = λ s is.
    absurd (cc (c.if-not-are_used_once.ensures.1
    (used_from c.args.cis c.args.bytes.now c.interval_limit-limit.result c.low.result.now
    c.entries.result c.low.ensures c.interval_limit-limit.ensures c.entries.ensures
    (keeps c.args.cis c.args.bytes.now s is faults.Intervals))))

pub returns-then-not-ascend-clause-only : goal.returns-then-not-ascend-clause-only
returns-then-not-ascend-clause-only c = λ s is.
    absurd (cc (c.if-not-ascend.ensures.1 (ascends_from c.args.bytes.now c.first.result
    c.low-2.result.now c.entries-2.result c.first.ensures c.low-2.ensures c.entries-2.ensures
    (keeps c.args.cis c.args.bytes.now s is faults.Places))))

pub returns-then-not-has_zeros-clause-only : goal.returns-then-not-has_zeros-clause-only
returns-then-not-has_zeros-clause-only c =
    λ s is. absurd (cc (c.if-not-has_zeros.ensures.1
    (keeps c.args.cis c.args.bytes.now s is faults.Zeros)))

pub returns-clause-found : goal.returns-clause-found
returns-clause-found c =
    is_record c.args.cis c.args.bytes.now (λ i. omega (arith, c.type_inv.bytes i))
    (c.if-not-begins_with.ensures.0 refl) c.in-Some.ensures.cut
    (used_to c.args.cis c.args.bytes.now c.interval_limit-limit.result c.low.result.now
    c.entries.result c.low.ensures c.interval_limit-limit.ensures c.entries.ensures
    (c.if-not-are_used_once.ensures.0 refl))
    (ascends_to c.args.bytes.now c.first.result c.low-2.result.now c.entries-2.result
    c.first.ensures c.low-2.ensures c.entries-2.ensures (c.if-not-ascend.ensures.0 refl))
    (c.if-not-has_zeros.ensures.0 refl)

pub returns-clause-only : goal.returns-clause-only
returns-clause-only c = λ s is. record_is c.args.cis c.args.bytes.now s is
