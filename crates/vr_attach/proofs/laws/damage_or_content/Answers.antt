use Rattle.vr_attach.proofs.LinkWalk.{alone-or-damaged}
use Rattle.vr_attach.proofs.laws.damage_or_content.Goals as goal

pub returns : goal.returns
returns c part taken image part_is not none = alone-or-damaged part taken image part_is not none
