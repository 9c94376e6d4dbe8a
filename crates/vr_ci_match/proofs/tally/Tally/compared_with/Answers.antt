use Rattle.vr_ci_match.specs.Fault.{free_end}
use Rattle.vr_ci_match.proofs.TallyLemmas.{compared_some, compared_none}
use Rattle.vr_ci_match.proofs.tally.Tally.compared_with.Goals as goal

pub returns-in-Some-clause-compared : goal.returns-in-Some-clause-compared
returns-in-Some-clause-compared c = λ rdfs s t.
    let block = c.args.bytes.now in
    compared_some c.args.form block c.args.at rdfs c.args.rdf c.data_end-limit.result
    c.in-Some.length c.args.self c.with.result s t
    (c.data_end-limit.ensures c.args.form (free_end block) c.requires.layout)
    (c.in-Some.ensures.meant (free_end block) c.requires.layout) c.with.ensures.compared

pub returns-in-None-clause-compared : goal.returns-in-None-clause-compared
returns-in-None-clause-compared c = λ rdfs s t.
    let block = c.args.bytes.now in
    compared_none c.args.form block c.args.at rdfs c.args.rdf c.args.self s t
    (c.in-None.ensures.meant (free_end block) c.requires.layout)
