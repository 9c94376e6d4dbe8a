-- How far a REPRO has come: what became of the records so far, and whether a COMMIT is due. Which
-- refusals end it, and when it commits, is this project's own.
use Rattle.std.specs.Prelude.{ℕ, ◌+◌, ◌-◌, ◌^◌, ◌==◌, ◌&&◌, Bool, true, false, if◌then◌else◌}
use Rattle.std.specs.Prelude.{min, nat_le, Option, Some, None}
use Rattle.std.specs.Option.{option_or}
use Rattle.vr_types.specs.Refusal.{feedback_code}
use Rattle.vr_types.specs.declared.reply.Refusal.{Refusal}
use Rattle.vr_types.specs.declared.reply.Reply.{Reply}
use Rattle.vr_types.specs.declared.reply.Reply.TheVariants.{Done, Refused}
use Rattle.vr_ams_define.specs.Failures.{fault_failure}
use Rattle.vr_ams_repro.specs.declared.progress.FirstRefused.{FirstRefused}
use Rattle.vr_ams_repro.specs.declared.progress.Progress.{Progress}
use Rattle.vr_ams_repro.specs.declared.progress.Tally.{Tally}
use Rattle.vr_ams_repro.specs.declared.tried.Tried.{Tried}
use Rattle.vr_ams_repro.specs.declared.tried.Tried.TheVariants.{Replied, Unread}
use Rattle.vr_ams_repro.specs.declared.tried.Way.{Way}
use Rattle.vr_ams_repro.specs.declared.tried.Way.TheVariants.{Add, Replace}

-- a count stands still at the greatest number of 64 bits
abbrev pub one_more : ℕ → ℕ
one_more count = min (count + 1) (2 ^ 64 - 1)

-- before the first record
abbrev pub begun : Progress
begun = record {
  tally = record { read = 0; added = 0; replaced = 0; refused = 0; first = None };
  taken = 0;
  asked = false;
  fault = None;
}

-- one more record is read
abbrev pub with_read : Progress → Progress
with_read progress =
    record progress { tally = record progress.tally { read = one_more progress.tally.read } }

-- something is entered that a COMMIT has to follow
abbrev pub with_asked : Progress → Progress
with_asked progress = record progress { asked = true }

-- the command ends with this fault, if it hasn't with another one
abbrev pub ended_with : ℕ → Progress → Progress
ended_with fault progress =
    record progress { fault = option_or progress.fault (Some fault) }

-- a record is added, or replaces the one that was there
abbrev pub counted_by : Way → Tally → Tally
counted_by Add tally = record tally { added = one_more tally.added }
counted_by Replace tally = record tally { replaced = one_more tally.replaced }

abbrev pub with_taken : Way → Progress → Progress
with_taken way progress = record progress {
  tally = counted_by way progress.tally;
  taken = one_more progress.taken;
}

-- 902, 903, 904 and 905 end the command
abbrev pub is_ending : Refusal → Bool
is_ending refusal = nat_le 902 (feedback_code refusal) && nat_le (feedback_code refusal) 905

-- A record is refused; of the first one the number and the feedback code are kept.
abbrev pub with_refused : ℕ → Progress → Progress
with_refused feedback progress = record progress {
  tally = record progress.tally {
    refused = one_more progress.tally.refused;
    first = option_or progress.tally.first
        (Some (record { number = progress.tally.read; feedback = feedback }));
  };
}

abbrev pub after_refusal : Refusal → Progress → Progress
after_refusal refusal progress =
    if is_ending refusal then ended_with (feedback_code refusal) progress
    else with_refused (feedback_code refusal) progress

abbrev pub after_reply : Way → Reply → Progress → Progress
after_reply way (Done feedback place bytes) progress = with_taken way progress
after_reply way (Refused refusal) progress = after_refusal refusal progress

-- after a record was tried
abbrev pub after_tried : Tried → Progress → Progress
after_tried (Replied way reply) progress = after_reply way reply (with_asked progress)
after_tried (Unread fault) progress = ended_with (fault_failure fault).fault progress

-- after a COMMIT: one that is refused ends the command
abbrev pub after_commit : Reply → Progress → Progress
after_commit (Done feedback place bytes) progress =
    record progress { taken = 0; asked = false }
after_commit (Refused refusal) progress =
    ended_with (feedback_code refusal) (record progress { asked = false })

-- a COMMIT comes after 16 records that were added or replaced
abbrev pub is_due : Progress → Bool
is_due progress = nat_le 16 progress.taken

-- 902: the log was full
abbrev pub is_log_full : Reply → Bool
is_log_full (Done feedback place bytes) = false
is_log_full (Refused refusal) = feedback_code refusal == 902

abbrev pub is_full : Tried → Bool
is_full (Replied way reply) = is_log_full reply
is_full (Unread fault) = false
