use Rattle.std.proofs.Common.{arith, refl}
use Rattle.vr_ci_match.proofs.TallyLemmas.{tally_more}
use Rattle.vr_ci_match.proofs.tally.Tally.with.Goals as goal

pub returns-clause-tally : goal.returns-clause-tally
returns-clause-tally c = λ rdfs s t.
    tally_more c.args.form c.args.bytes.now c.args.at rdfs c.args.rdf c.args.self _
    (omega (arith, c.requires.size)) s t refl
    (omega (arith, c.count-2.ensures.count)) (omega (arith, c.span.ensures, c.count.ensures.count))
    (c.compared_with.ensures.compared rdfs s t)
    c.passed_at.ensures.slots c.passed_at.ensures.kept c.passed_at.ensures.passes
    c.passed_at.ensures.fits
