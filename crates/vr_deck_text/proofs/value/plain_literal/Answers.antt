use Rattle.std.proofs.Common.{rules}
use Rattle.vr_deck_text.proofs.Literals.{literal_there, literal_absent}
use Rattle.vr_deck_text.proofs.value.plain_literal.Goals as goal

pub returns-in-Ok : goal.returns-in-Ok
returns-in-Ok c = literal_there _ _ c.requires c.in-Ok.ensures.bytes

pub returns-in-Err-Unclosed : goal.returns-in-Err-Unclosed
returns-in-Err-Unclosed c =
    literal_absent _ _ c.requires c.in-Err-Unclosed.ensures.fault (search rules)

pub returns-in-Err-Digit : goal.returns-in-Err-Digit
returns-in-Err-Digit c =
    literal_absent _ _ c.requires c.in-Err-Digit.ensures.fault (search rules)
