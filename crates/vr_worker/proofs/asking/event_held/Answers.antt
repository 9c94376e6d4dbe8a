use Rattle.vr_worker.proofs.Takings.{taken-none}
use Rattle.vr_worker.proofs.asking.event_held.Goals as goal

pub returns-then-number-volume : goal.returns-then-number-volume
returns-then-number-volume g c = taken-none c.args.volume c.args.line c.args.request.now
    c.args.last.now c.args.turn.now c.requires.may_ask
