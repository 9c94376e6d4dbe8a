use Rattle.std.proofs.Common.{refl}
use Rattle.vr_ci_match.proofs.TallyLemmas.{tally_none}
use Rattle.vr_ci_match.proofs.tally.Tally.new.Goals as goal

pub returns-clause-tally : goal.returns-clause-tally
returns-clause-tally c = λ form block size. tally_none form block _ refl refl refl refl
    (λ limit. c.new.ensures.compared block limit size)
