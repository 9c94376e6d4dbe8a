-- The histories of several volumes by their entries.
use Rattle.std.specs.Prelude.{List, map}
use Rattle.vr_history.specs.declared.entry.Entry.{Entry}
use Rattle.vr_history.specs.Kept.{Kept}

abbrev pub entries_of : List Kept → List (List Entry)
entries_of histories = map (λ (kept : Kept). kept.entries) histories
