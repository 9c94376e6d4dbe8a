-- A refusal that is that of a fault of a write.
use Rattle.std.proofs.Common.{◌≡◌, true, refl}
use Rattle.vr_types.specs.declared.reply.Refusal.{Refusal}
use Rattle.vr_types.specs.declared.reply.Refusal.TheVariants.{EndOfData, Duplicate, NotFound}
use Rattle.vr_types.specs.declared.reply.Refusal.TheVariants.{NoAddress, NoSpace, NoPosition, NoGet}
use Rattle.vr_types.specs.declared.reply.Refusal.TheVariants.{KeyChanged, LengthChanged, BadLength}
use Rattle.vr_types.specs.declared.reply.Refusal.TheVariants.{BadSlot, Held, LogFull, Stopped}
use Rattle.vr_types.specs.declared.reply.Refusal.TheVariants.{ReadFault, WriteFault, Memory}
use Rattle.vr_types.specs.declared.reply.Refusal.TheVariants.{NotAllowed, NoFile}
use Rattle.vr_types.specs.declared.reply.Reply.TheVariants.{Refused}
use Rattle.vr_history.specs.Legal.{is_write_fault}

pub write-is : (refusal : Refusal) → is_write_fault (Refused refusal) ≡ true
    → refusal ≡ WriteFault
write-is WriteFault is = refl
write-is EndOfData is = absurd cc
write-is (Duplicate part) is = absurd cc
write-is NotFound is = absurd cc
write-is NoAddress is = absurd cc
write-is (NoSpace need free) is = absurd cc
write-is NoPosition is = absurd cc
write-is NoGet is = absurd cc
write-is KeyChanged is = absurd cc
write-is LengthChanged is = absurd cc
write-is (BadLength length) is = absurd cc
write-is BadSlot is = absurd cc
write-is (Held holder name mode) is = absurd cc
write-is (LogFull used need size) is = absurd cc
write-is (Stopped stamp) is = absurd cc
write-is ReadFault is = absurd cc
write-is Memory is = absurd cc
write-is NotAllowed is = absurd cc
write-is NoFile is = absurd cc
