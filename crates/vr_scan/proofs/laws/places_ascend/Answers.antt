use Rattle.vr_scan.proofs.Ascending.{places_ascend}
use Rattle.vr_scan.proofs.laws.places_ascend.Goals as goal

pub returns : goal.returns
returns c = places_ascend
