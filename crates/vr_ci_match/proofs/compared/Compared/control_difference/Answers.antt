use Rattle.std.proofs.Common.{Some, None}
use Rattle.vr_ci_match.proofs.ComparedLemmas.{control_all}
use Rattle.vr_ci_match.proofs.compared.Compared.control_difference.Goals as goal

pub returns-in-Some : goal.returns-in-Some
returns-in-Some c = λ rdfs k place.
    control_all c.args.bytes.now c.args.limit c.args.limit c.args.empty c.args.slot_length rdfs
    c.args.self (Some c.in-Some.at) c.requires.size k place c.in-Some.ensures

pub returns : goal.returns
returns c = λ rdfs k place.
    control_all c.args.bytes.now c.args.limit c.args.limit c.args.empty c.args.slot_length rdfs
    c.args.self None c.requires.size k place c.in_default.ensures
