-- Which event a request is. The names are this project's own.
use Rattle.std.specs.Prelude.{◌≡◌}
use Rattle.vr_types.specs.declared.request.FileRef.{FileRef}
use Rattle.vr_types.specs.declared.request.Request.{Request}
use Rattle.vr_types.specs.declared.request.Request.TheVariants as requests
use Rattle.vr_event.specs.Getting.{IsRead}
use Rattle.vr_event.specs.Putting.{IsChange}
use Rattle.vr_event.specs.declared.acting.Event.{Event}
use Rattle.vr_event.specs.declared.acting.Event.TheVariants.{BackOut, Change, Commit, EndRequest}
use Rattle.vr_event.specs.declared.acting.Event.TheVariants.{Read}

abbrev pub IsEventOf : Event → Request → Type 0
IsEventOf Read request = IsRead request
IsEventOf Change request = IsChange request
IsEventOf EndRequest request = (on : FileRef) × (request ≡ requests.EndReq on)
IsEventOf Commit request = request ≡ requests.Commit
IsEventOf BackOut request = request ≡ requests.Backout
