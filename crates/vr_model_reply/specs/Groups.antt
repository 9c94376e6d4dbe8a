-- The refusals in groups, in the order of the definition.
use Rattle.std.specs.Prelude.{List, [], ◌∷◌, Option}
use Rattle.vr_types.specs.declared.reply.Refusal.{Refusal}
use Rattle.vr_history.specs.Case.{Case}
use Rattle.vr_history.specs.RefusedFile.{bad_length, bad_slot, not_allowed}
use Rattle.vr_history.specs.RefusedRecord.{absent, duplicate, duplicate_key, gone, held}
use Rattle.vr_history.specs.RefusedRecord.{key_changed, length_changed, no_get, no_position}

-- by the request, and by what its file holds
abbrev pub by_request : Case → List (Option Refusal)
by_request case =
    not_allowed case ∷ bad_slot case ∷ bad_length case ∷ no_position case ∷ no_get case
    ∷ gone case ∷ []

-- by keys and lengths, by locks and by records
abbrev pub by_record : Case → List (Option Refusal)
by_record case =
    key_changed case ∷ length_changed case ∷ held case ∷ absent case ∷ duplicate case
    ∷ duplicate_key case ∷ []
