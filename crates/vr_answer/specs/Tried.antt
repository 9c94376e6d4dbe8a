-- The refusals in their order, in the three parts in which they are tried: by what is in memory, by
-- the record that is read, and by the log.
use Rattle.std.specs.Prelude.{◌≡◌, List, [], ◌∷◌, ◌++◌, Option, Some}
use Rattle.vr_types.specs.declared.reply.Refusal.{Refusal}
use Rattle.vr_types.specs.declared.reply.Refusal.TheVariants.{ReadFault, WriteFault}
use Rattle.vr_history.specs.Case.{Case}
use Rattle.vr_history.specs.RefusedFile.{bad_length, bad_slot, not_allowed}
use Rattle.vr_history.specs.RefusedRecord.{absent, duplicate, duplicate_key, gone, held}
use Rattle.vr_history.specs.RefusedRecord.{key_changed, length_changed, no_get, no_position}
use Rattle.vr_history.specs.RefusedRoom.{no_space}
use Rattle.vr_history.specs.Replies.{before_all}

-- by the file, what the request names, and what the file holds,
abbrev pub file_refusals : Case → List (Option Refusal)
file_refusals case = before_all case
    ++ not_allowed case ∷ bad_slot case ∷ bad_length case ∷ no_position case ∷ no_get case ∷ []

-- by the record at the place, and by the locks.
abbrev pub record_refusals : Case → List (Option Refusal)
record_refusals case =
    gone case ∷ key_changed case ∷ length_changed case ∷ held case ∷ absent case
    ∷ duplicate case ∷ duplicate_key case ∷ no_space case ∷ []

-- a refusal, if there is one, that is no fault of the device
pub record IsCalm (refusal : Option Refusal) : Type 0 where
  pub read : refusal ≡ Some ReadFault → ⊥
  pub write : refusal ≡ Some WriteFault → ⊥
