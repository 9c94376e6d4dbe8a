use Rattle.std.proofs.Common.{◌∙◌}
use Rattle.vr_undo.specs.Records.{images_in}
use Rattle.vr_undo.proofs.Recording.{logged-at}
use Rattle.vr_undo.proofs.undo.Undo.is_logged.Goals as goal

pub returns : goal.returns
returns c =
    c.has.ensures
    ∙ logged-at c.args.unit c.args.part.0 c.args.place.now (images_in c.args.self.now)
