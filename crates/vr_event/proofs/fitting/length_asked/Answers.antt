use Rattle.std.proofs.Common.{Bor, List, Option, ℕ, ap}
use Rattle.std.specs.Option.{option_copied}
use Rattle.vr_event.proofs.RecordShapes.{items_fit, sizes_fit}
use Rattle.vr_event.proofs.fitting.length_asked.Goals as goal

pub returns-in-Some-clause-size : goal.returns-in-Some-clause-size
returns-in-Some-clause-size c =
    sizes_fit c.args.catalog.now c.args.part.0 c.args.place.now c.in-Some.bytes.now
    c.record_length.result c.record_length.ensures.length c.record_length.ensures.record

pub returns-in-Some-old-clause-size : goal.returns-in-Some-old-clause-size
returns-in-Some-old-clause-size c =
    sizes_fit c.args.catalog.now c.args.part.0 c.args.place.now c.in-Some-old.bytes.now
    c.record_length-in-Some-old.result c.record_length-in-Some-old.ensures.length
    c.record_length-in-Some-old.ensures.record

pub returns-in-Some-clause-new_fits : goal.returns-in-Some-clause-new_fits
returns-in-Some-clause-new_fits c =
    items_fit c.args.catalog.now c.args.part.0 c.args.place.now c.in-Some.bytes.now
    (option_copied c.args.new) c.record_length.result
    (ap (λ (o : Option (Bor (List ℕ))). option_copied o) c.in-Some.is)
    c.record_length.ensures.length c.record_length.ensures.short c.record_length.ensures.record
