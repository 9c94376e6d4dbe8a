use Rattle.std.proofs.Common.{map}
use Rattle.vr_ams_list.proofs.Placing.{going-if, there-if}
use Rattle.vr_ams_list.proofs.all.entries_to_list.Goals as goal

pub returns-clause-there : goal.returns-clause-there
returns-clause-there g c =
    there-if c.listed_copies.result (λ it. it.items)
    (map g.V.ShownVolume.shown c.args.volumes.now) c.args.names.now c.listed_copies.ensures

pub returns-clause-going : goal.returns-clause-going
returns-clause-going g c none =
    going-if c.listed_copies.result (λ it. it.items)
    (map g.V.ShownVolume.shown c.args.volumes.now) c.args.names.now none c.listed_copies.ensures
