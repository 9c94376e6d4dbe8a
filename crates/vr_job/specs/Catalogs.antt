-- The catalog of a volume as its history makes it: the utilities, which are deck 0, add records to it,
-- replace and erase them (DEFINE, ALTER and DELETE of Access Method Services Commands), and nobody else
-- changes it. The rules are this project's own.
use Rattle.std.specs.Prelude.{◌==◌, if◌then◌else◌, ℕ, List, [], ◌∷◌, Option, Some, None}
use Rattle.vr_types.specs.declared.reply.Reply.TheVariants.{Done, Refused}
use Rattle.vr_types.specs.declared.request.Request.{Request}
use Rattle.vr_types.specs.declared.request.Request.TheVariants.{Get, Point, Add, Update, Erase}
use Rattle.vr_types.specs.declared.request.Request.TheVariants.{EndReq, Commit, Backout}
use Rattle.vr_catalog.specs.Catalog.{entry_named}
use Rattle.vr_catalog.specs.Record.{entry_of, text_at}
use Rattle.vr_catalog.specs.declared.entry.CatEntry.{CatEntry}
use Rattle.vr_history.specs.declared.entry.Entry.{Entry}
use Rattle.vr_history.specs.declared.entry.What.{What}
use Rattle.vr_history.specs.declared.entry.What.TheVariants.{Asked, Undone, Claimed, Split, Faulted}
use Rattle.vr_edits.specs.Edits.{with_altered, with_entry, without_entry}

-- with the entry that a record spells, if it spells one
abbrev pub with_spelled : Option CatEntry → List CatEntry → List CatEntry
with_spelled None catalog = catalog
with_spelled (Some entry) catalog = with_entry entry catalog

-- with the FREESPACE and the SHAREOPTIONS of the entry that a record spells, if it spells one
abbrev pub altered_to : Option CatEntry → List CatEntry → List CatEntry
altered_to None catalog = catalog
altered_to (Some entry) catalog = with_altered entry catalog

-- without the entry of the name that a place spells
abbrev pub without_found : Option CatEntry → List CatEntry → List CatEntry
without_found None catalog = catalog
without_found (Some entry) catalog = without_entry entry catalog

abbrev pub without_placed : Option (List ℕ) → List CatEntry → List CatEntry
without_placed None catalog = catalog
without_placed (Some place) catalog = without_found (entry_named catalog (text_at 0 44 place)) catalog

-- once a request was done, at this place
abbrev pub catalog_done : Request → Option (List ℕ) → List CatEntry → List CatEntry
catalog_done (Add file named bytes) place catalog = with_spelled (entry_of bytes) catalog
catalog_done (Get file find update integrity) place catalog = catalog
catalog_done (Point file find) place catalog = catalog
catalog_done (Update file bytes) place catalog = altered_to (entry_of bytes) catalog
catalog_done (Erase file) place catalog = without_placed place catalog
catalog_done (EndReq file) place catalog = catalog
catalog_done Commit place catalog = catalog
catalog_done Backout place catalog = catalog

abbrev pub catalog_told : What → List CatEntry → List CatEntry
catalog_told (Asked request (Done feedback place bytes)) catalog =
    catalog_done request place catalog
catalog_told (Asked request (Refused refusal)) catalog = catalog
catalog_told (Undone part place) catalog = catalog
catalog_told (Claimed part area) catalog = catalog
catalog_told (Split part) catalog = catalog
catalog_told (Faulted fault) catalog = catalog

-- after an entry: those of the utilities alone change it
abbrev pub catalog_after : Entry → List CatEntry → List CatEntry
catalog_after entry catalog =
    if entry.unit.deck == 0 then catalog_told entry.what catalog else catalog

-- and after entries, first to last
abbrev pub catalog_by : List CatEntry → List Entry → List CatEntry
catalog_by catalog [] = catalog
catalog_by catalog (entry ∷ entries) = catalog_by (catalog_after entry catalog) entries
