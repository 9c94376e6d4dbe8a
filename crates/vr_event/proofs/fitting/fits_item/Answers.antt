use Rattle.std.proofs.Common.{Bor, List, Option, ℕ, ap}
use Rattle.std.specs.Option.{option_copied}
use Rattle.vr_event.proofs.RecordShapes.{item_fits}
use Rattle.vr_event.proofs.fitting.fits_item.Goals as goal

pub returns-in-Some-record_length : goal.returns-in-Some-record_length
returns-in-Some-record_length c = λ yes geometry parts laid.
    let found = c.in-Some-record_length in
    item_fits c.args.catalog.now c.args.part.0 c.args.place.now geometry c.in-Some.bytes.now found.n
    (option_copied c.args.item) (ap (λ (o : Option (Bor (List ℕ))). option_copied o) c.in-Some.is)
    found.ensures.length found.ensures.short found.ensures.record parts laid
