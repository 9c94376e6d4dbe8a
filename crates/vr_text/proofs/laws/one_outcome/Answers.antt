use Rattle.vr_text.proofs.CallerLemmas.{literal_has_no_cause, one_cause}
use Rattle.vr_text.proofs.laws.one_outcome.Goals as goal

pub returns-clause-literal : goal.returns-clause-literal
returns-clause-literal c = literal_has_no_cause

pub returns-clause-cause : goal.returns-clause-cause
returns-clause-cause c = one_cause
