use Rattle.vr_worker_cases.proofs.Beginning.{are-new}
use Rattle.vr_worker_cases.proofs.steps.run_three.Goals as goal

pub run_decks-requires-clause-decks : goal.run_decks-requires-clause-decks
run_decks-requires-clause-decks g c κs within =
    are-new c.in_ok-decks.decks.items c.in_ok-volumes.volumes.items c.in_ok-decks.ensures
    c.in_ok-volumes.ensures
