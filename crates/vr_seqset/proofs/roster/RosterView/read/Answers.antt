use Rattle.std.proofs.Common.{refl, arith}
use Rattle.vr_seqset.specs.declared.fault.SeqFault.TheVariants as faults
use Rattle.vr_seqset.proofs.RosterLemmas.{keeps_roster, is_roster, roster_is}
use Rattle.vr_seqset.proofs.roster.RosterView.read.Goals as goal

pub returns-then-not-begins_with-clause-only : goal.returns-then-not-begins_with-clause-only
returns-then-not-begins_with-clause-only c =
    λ r is. absurd (cc (c.if-not-begins_with.ensures.1
    (keeps_roster c.args.cis c.args.bytes.now r is faults.Kind)))

pub returns-then-not-fits-clause-only : goal.returns-then-not-fits-clause-only
returns-then-not-fits-clause-only c = λ r is. absurd
    (cc (c.if-not-fits.ensures.1 (keeps_roster c.args.cis c.args.bytes.now r is faults.Lengths)))

pub returns-then-not-has_zeros-clause-only : goal.returns-then-not-has_zeros-clause-only
returns-then-not-has_zeros-clause-only c =
    λ r is. absurd (cc (c.if-not-has_zeros.ensures.1
    (keeps_roster c.args.cis c.args.bytes.now r is faults.Zeros)))

pub returns-clause-found : goal.returns-clause-found
returns-clause-found c =
    is_roster c.args.cis c.args.bytes.now (λ i. omega (arith, c.type_inv.bytes i))
    (c.if-not-begins_with.ensures.0 refl) (c.if-not-fits.ensures.0 refl)
    (c.if-not-has_zeros.ensures.0 refl)

pub returns-clause-only : goal.returns-clause-only
returns-clause-only c = λ r is. roster_is c.args.cis c.args.bytes.now r is
