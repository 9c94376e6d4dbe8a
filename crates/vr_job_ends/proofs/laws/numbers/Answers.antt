use Rattle.vr_job_ends.proofs.CallerLemmas.{small_numbers}
use Rattle.vr_job_ends.proofs.laws.numbers.Goals as goal

pub returns : goal.returns
returns c = λ words dir count size blocks log area h.
    small_numbers h.numbers size blocks log area h.numbers_are
