use Rattle.vr_job.proofs.Moved.{entry_apart, entry_end, stand_through}
use Rattle.vr_job.proofs.laws.no_request_moves_another_file.Goals as goal

pub returns-clause-others : goal.returns-clause-others
returns-clause-others c geometry state entry deck slot other going =
    entry_apart geometry state entry deck slot other going

pub returns-clause-ends : goal.returns-clause-ends
returns-clause-ends c geometry state entry deck slot ends =
    entry_end geometry state entry deck slot ends

pub returns-clause-through : goal.returns-clause-through
returns-clause-through c geometry state entries deck slot elsewhere =
    stand_through geometry state entries deck slot elsewhere
