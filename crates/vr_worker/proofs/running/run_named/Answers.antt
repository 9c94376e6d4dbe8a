use Rattle.vr_worker.proofs.Told.{none-ran}
use Rattle.vr_worker.proofs.running.run_named.Goals as goal

pub returns-in-Err-clause-ran : goal.returns-in-Err-clause-ran
returns-in-Err-clause-ran g c = none-ran c.args.seats.now c.requires.unrun
