-- The requests that a deck stands for, in order, each with its volume and its line. An order on a
-- file is one request on the volume of the file. COMMIT and BACKOUT end the unit of recovery of the
-- deck on each volume that its FILE lines name, wherever these stand, and a COMMIT is added at the
-- deck's end, with line 0 (the requests are those of DFSMS Using Data Sets and the DFSMStvs Planning
-- and Operating Guide; that a deck may have files on several volumes is this project's own rule).
use Rattle.std.specs.Prelude.{ℕ, suc, Bool, ◌==◌, List, [], ◌∷◌, ◌++◌, length, map, filter, flat_map}
use Rattle.std.specs.Prelude.{Option, Some, None}
use Rattle.std.specs.List.{list_any, range_with_len}
use Rattle.std.specs.Option.{option_map_or}
use Rattle.vr_types.specs.declared.bound.Bound.{Bound}
use Rattle.vr_types.specs.declared.request.FileRef.{FileRef}
use Rattle.vr_types.specs.declared.request.Request.{Request}
use Rattle.vr_types.specs.declared.request.Request.TheVariants as requests
use Rattle.vr_catalog.specs.declared.entry.CatEntry.{CatEntry}
use Rattle.vr_deck_text.specs.declared.text.Ask.{Ask}
use Rattle.vr_deck_text.specs.declared.text.Ask.TheVariants as asks
use Rattle.vr_deck_text.specs.declared.text.DeckText.{DeckText}
use Rattle.vr_deck_text.specs.declared.text.Order.{Order}
use Rattle.vr_bind.specs.Named.{files_of, file_at}
use Rattle.vr_bind.specs.Places.{find_in, slot_in}

-- a file is on this volume
abbrev pub is_named : List FileRef → ℕ → Bool
is_named files volume = list_any (λ file. file.volume == volume) files

-- the volumes that the files of a deck are on, each once, ascending. Volume 0 is that of names that
-- no catalog has, and may be named where there is no catalog.
abbrev pub volumes_of : ℕ → List FileRef → List ℕ
volumes_of count files = filter (is_named files) (range_with_len 0 (suc count))

-- the number of the file that an order is on
abbrev pub file_asked : Ask → Option ℕ
file_asked (asks.Get file seek update integrity) = Some file
file_asked (asks.Point file seek) = Some file
file_asked (asks.Add file at bytes) = Some file
file_asked (asks.Update file bytes) = Some file
file_asked (asks.Erase file) = Some file
file_asked (asks.EndReq file) = Some file
file_asked asks.Commit = None
file_asked asks.Backout = None

-- the volumes that an order goes to
abbrev pub volumes_asked : List FileRef → List ℕ → Ask → List ℕ
volumes_asked files volumes ask =
    option_map_or (λ slot. (file_at files slot).volume ∷ []) (file_asked ask) volumes

-- what it requests there
abbrev pub request_of : List FileRef → Ask → Request
request_of files (asks.Get file seek update integrity) =
    requests.Get (file_at files file) (find_in (file_at files file) seek) update integrity
request_of files (asks.Point file seek) =
    requests.Point (file_at files file) (find_in (file_at files file) seek)
request_of files (asks.Add file at bytes) =
    requests.Add (file_at files file) (slot_in (file_at files file) at) bytes
request_of files (asks.Update file bytes) = requests.Update (file_at files file) bytes
request_of files (asks.Erase file) = requests.Erase (file_at files file)
request_of files (asks.EndReq file) = requests.EndReq (file_at files file)
request_of files asks.Commit = requests.Commit
request_of files asks.Backout = requests.Backout

-- a request on each of some volumes
abbrev pub on_each : List ℕ → ℕ → Request → List Bound
on_each volumes line request =
    map (λ volume. record { volume = volume; line = line; request = request }) volumes

abbrev pub bound_order : List FileRef → List ℕ → Order → List Bound
bound_order files volumes order =
    on_each (volumes_asked files volumes order.ask) order.line (request_of files order.ask)

-- the requests of some orders, and the COMMIT that ends a deck
abbrev pub bound_by : List FileRef → List ℕ → List Order → List Bound
bound_by files volumes orders =
    flat_map (bound_order files volumes) orders ++ on_each volumes 0 requests.Commit

abbrev pub bound_on : List FileRef → ℕ → List Order → List Bound
bound_on files count orders = bound_by files (volumes_of count files) orders

-- all requests of a deck
abbrev pub bound_requests : DeckText → List (List CatEntry) → List Bound
bound_requests deck catalogs =
    bound_on (files_of catalogs deck.files) (length catalogs) deck.orders
