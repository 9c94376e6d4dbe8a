-- What LISTCAT leaves.
use Rattle.std.specs.Prelude.{ℕ, List}
use Rattle.vr_ams_list.specs.Faults.{failure_of}
use Rattle.vr_ams_list.specs.Listing.{detail_lines}
use Rattle.vr_trace.specs.Commands.{outcome_by}
use Rattle.vr_trace.specs.Shown.{Shown}
use Rattle.vr_trace.specs.declared.command.Outcome.{Outcome}

-- LISTCAT with NAME
abbrev pub listed : List Shown → List (List ℕ) → Outcome
listed volumes names = outcome_by (failure_of volumes names) (detail_lines volumes names)
