-- How entries are held that stay in their catalogs.
use Rattle.std.specs.Prelude.{List, map}
use Rattle.vr_ams_list.specs.Listing.{Listed}
use Rattle.vr_ams_list.specs.declared.listed.Held.{Held}

abbrev pub held_one : Held → Listed
held_one held = record { volume = held.volume; entry = held.entry.now }

abbrev pub held_entries : List Held → List Listed
held_entries entries = map held_one entries
