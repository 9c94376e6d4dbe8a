use Rattle.std.specs.Option.{option_copied}
use Rattle.vr_undo.proofs.FirstPlace.{other-found}
use Rattle.vr_undo.proofs.others.other_in.Goals as goal

pub returns : goal.returns
returns c =
    other-found c.args.from c.args.part.0 c.args.unit c.args.records.now
    (option_copied c.first_place.result) c.first_place.ensures
