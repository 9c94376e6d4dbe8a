-- The lines of the merged history. They are this project's own.
use Rattle.std.specs.Prelude.{ℕ, List, [], ◌∷◌, ◌++◌, codes}
use Rattle.std.specs.List.{flat_map}
use Rattle.vr_types.specs.declared.reply.Reply.{Reply}
use Rattle.vr_types.specs.declared.request.Request.{Request}
use Rattle.vr_history.specs.declared.entry.Entry.{Entry}
use Rattle.vr_history.specs.declared.entry.What.{What}
use Rattle.vr_history.specs.declared.entry.What.TheVariants.{Asked, Undone, Claimed, Split, Faulted}
use Rattle.vr_history.specs.Merged.{Numbered, merged}
use Rattle.vr_trace.specs.Lines.{field, unit_text, verb_of, result_of}

abbrev pub asked_text : Request → Reply → List ℕ
asked_text request reply = verb_of request ++ result_of reply

-- what an entry reports
abbrev pub what_text : What → List ℕ
what_text (Asked request reply) = asked_text request reply
what_text (Undone part place) = codes "UNDONE"
what_text (Claimed part area) = field (codes "CLAIMED ") area.0
what_text (Split part) = codes "SPLIT"
what_text (Faulted fault) = codes "FAULTED"

-- the stamp of an entry, its volume, its unit and its line
abbrev pub origin_text : Numbered → List ℕ
origin_text this =
    field (codes "STAMP ") this.entry.stamp ++ field (codes " VOL ") this.volume ++ codes " UNIT "
    ++ unit_text this.entry.unit ++ field (codes " LINE ") this.entry.line ++ codes " "

abbrev pub trace_line : Numbered → List ℕ
trace_line this = origin_text this ++ what_text this.entry.what ++ 10 ∷ []

-- a line for each entry of the merged history
abbrev pub trace_of : List (List Entry) → List ℕ
trace_of histories = flat_map trace_line (merged histories)
