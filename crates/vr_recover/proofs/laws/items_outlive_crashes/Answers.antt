use Rattle.vr_recover.proofs.Outliving.{outlives-crash, outlives-opening}
use Rattle.vr_recover.proofs.laws.items_outlive_crashes.Goals as goal

pub returns-clause-crash : goal.returns-clause-crash
returns-clause-crash g c geometry number state counted contents blocks is has part place settled =
    outlives-crash geometry number contents (g.B.Blocks.seen blocks) has state counted is part place
    settled

pub returns-clause-opening : goal.returns-clause-opening
returns-clause-opening g c geometry number images contents later blocks is has part place kept =
    outlives-opening geometry number later (g.B.Blocks.seen blocks) has images contents is part place
    kept
