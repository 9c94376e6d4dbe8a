use Rattle.vr_log.proofs.Damages.{damaged_none}
use Rattle.vr_log.proofs.laws.damaged_blocks_spell_no_log.Goals as goal

pub returns : goal.returns
returns c geometry image content n long spells damaged =
    damaged_none geometry image content n long spells damaged
