use Rattle.vr_altkey.proofs.Led.{led_on}
use Rattle.vr_altkey.proofs.laws.changes_lead_on.Goals as goal

pub returns : goal.returns
returns c = led_on
