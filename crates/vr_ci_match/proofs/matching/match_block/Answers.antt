use Rattle.std.proofs.Common.{◌∙◌, inl, arith, rules}
use Rattle.vr_ci_match.specs.Fault.{HasControl}
use Rattle.vr_ci_match.proofs.ChainLemmas.{shape_by_last}
use Rattle.vr_ci_match.proofs.matching.match_block.Goals as goal

pub returns-in-None-clause-found : goal.returns-in-None-clause-found
returns-in-None-clause-found c =
    let chain = c.in_ok-tally.ensures.tally in
    let rdfs = chain.0 in
    let whole = chain.1 in
    let tally = chain.2 in
    inl (record {
      rdfs = rdfs;
      whole = whole;
      right = c.in-None.ensures rdfs whole tally;
      low = omega (arith, c.of-cidf.ensures.displacement, c.of-cidf.ensures.free);
      shape = c.shape_of.ensures
          ∙ shape_by_last c.args.form rdfs whole.right.chain c.in_ok-tally.tally.last tally.last;
      busy = c.of-cidf.ensures.busy;
      count = tally.count;
    })

pub returns-in-Some-clause-fault : goal.returns-in-Some-clause-fault
returns-in-Some-clause-fault c =
    let control : HasControl c.args.bytes.now = search rules in
    let chain = c.in_ok-tally.ensures.tally in
    (control, (chain.0, chain.1, c.in-Some.ensures chain.0 chain.1 chain.2))
