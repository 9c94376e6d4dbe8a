use Rattle.vr_log.proofs.Total.{spelled_or_damaged}
use Rattle.vr_log.proofs.laws.blocks_spell_a_log_or_are_damaged.Goals as goal

pub returns : goal.returns
returns c geometry image some each = spelled_or_damaged geometry image some each
