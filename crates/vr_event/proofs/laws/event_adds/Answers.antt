use Rattle.vr_event.proofs.Acted.{acted_made}
use Rattle.vr_event.proofs.laws.event_adds.Goals as goal

pub returns : goal.returns
returns c = acted_made
