use Rattle.vr_ci_match.proofs.ComparedLemmas.{data_before, data_behind}
use Rattle.vr_ci_match.proofs.compared.Compared.data_difference.Goals as goal

pub returns-in-Some-clause-data_wrong : goal.returns-in-Some-clause-data_wrong
returns-in-Some-clause-data_wrong c =
    λ rdfs k. data_before c.args.bytes.now c.args.limit c.in-Some.at rdfs c.args.self c.requires k
    c.in-Some.is

pub returns-clause-data_wrong : goal.returns-clause-data_wrong
returns-clause-data_wrong c = λ rdfs k.
    data_behind c.args.bytes.now c.args.limit c.min.result rdfs c.args.self c.first_nonzero.result
    c.requires k c.in_default.is c.min.ensures c.first_nonzero.ensures
