use Rattle.std.proofs.Common.{rules}
use Rattle.vr_text.proofs.Names.{name_there, name_absent}
use Rattle.vr_text.proofs.words.plain_name.Goals as goal

pub returns-in-Ok : goal.returns-in-Ok
returns-in-Ok c =
    name_there _ _ c.requires c.in-Ok.ensures.name.0 c.in-Ok.ensures.name.1

pub returns-in-Err-Empty : goal.returns-in-Err-Empty
returns-in-Err-Empty c = name_absent _ _ c.in-Err-Empty.ensures.fault (search rules)

pub returns-in-Err-TooLong : goal.returns-in-Err-TooLong
returns-in-Err-TooLong c = name_absent _ _ c.in-Err-TooLong.ensures.fault (search rules)

pub returns-in-Err-Qualifier : goal.returns-in-Err-Qualifier
returns-in-Err-Qualifier c = name_absent _ _ c.in-Err-Qualifier.ensures.fault (search rules)
