-- The numbers of refusals.
use Rattle.std.specs.Prelude.{ℕ}
use Rattle.vr_types.specs.declared.reply.Refusal.{Refusal}
use Rattle.vr_types.specs.declared.reply.Refusal.TheVariants.{EndOfData, Duplicate, NotFound}
use Rattle.vr_types.specs.declared.reply.Refusal.TheVariants.{NoAddress, NoSpace, NoPosition, NoGet}
use Rattle.vr_types.specs.declared.reply.Refusal.TheVariants.{KeyChanged, LengthChanged, BadLength}
use Rattle.vr_types.specs.declared.reply.Refusal.TheVariants.{BadSlot, Held, LogFull, Stopped}
use Rattle.vr_types.specs.declared.reply.Refusal.TheVariants.{ReadFault, WriteFault, Memory}
use Rattle.vr_types.specs.declared.reply.Refusal.TheVariants.{NotAllowed, NoFile}

-- The feedback number of each refusal. Those up to 192 are the codes that Using Data Sets gives for
-- these causes; those from 901 on are this project's own.
abbrev pub feedback_code : Refusal → ℕ
feedback_code EndOfData = 4
feedback_code (Duplicate part) = 8
feedback_code NotFound = 16
feedback_code NoAddress = 32
feedback_code (NoSpace need free) = 28
feedback_code NoPosition = 88
feedback_code NoGet = 92
feedback_code KeyChanged = 96
feedback_code LengthChanged = 100
feedback_code (BadLength length) = 108
feedback_code BadSlot = 192
feedback_code (Held holder name mode) = 901
feedback_code (LogFull used need size) = 902
feedback_code (Stopped stamp) = 903
feedback_code ReadFault = 904
feedback_code WriteFault = 905
feedback_code Memory = 906
feedback_code NotAllowed = 907
feedback_code NoFile = 908
