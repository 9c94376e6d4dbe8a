use Rattle.std.proofs.Common.{inr, refl}
use Rattle.vr_ci_match.proofs.EndLemmas.{all_zeros}
use Rattle.vr_ci_match.proofs.matching.end_of_file.Goals as goal

pub returns-in-None-clause-found : goal.returns-in-None-clause-found
returns-in-None-clause-found c =
    inr (record {
      zeros = all_zeros c.args.bytes.now c.requires.least c.requires.zero c.in-None.ensures;
      is = refl;
    })
