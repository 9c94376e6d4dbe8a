use Rattle.vr_ams_print.proofs.EachByte.{each_byte_in}
use Rattle.vr_ams_print.proofs.laws.each_byte_is_shown_once.Goals as goal

pub returns : goal.returns
returns c form bytes = each_byte_in form bytes
