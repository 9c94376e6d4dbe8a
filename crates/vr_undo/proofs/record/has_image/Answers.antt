use Rattle.std.proofs.Common.{◌∙◌}
use Rattle.vr_undo.proofs.Finding.{has-image, or-first, or-second}
use Rattle.vr_undo.proofs.record.has_image.Goals as goal

pub returns-then-of_free : goal.returns-then-of_free
returns-then-of_free c =
    or-first c.any_at-of_free.result c.any_at-of_stood.result c.if-of_free.true
    ∙ has-image c.args.unit c.args.part.0 c.args.place.now c.args.which c.args.records.now
    c.args.order.now c.at_place-free.result.now c.at_place-stood.result.now
    c.any_at-of_free.result c.any_at-of_stood.result c.requires.alike c.requires.order
    c.at_place-free.ensures.numbers c.at_place-stood.ensures.numbers c.at_place-free.ensures.all
    c.at_place-stood.ensures.all c.any_at-of_free.ensures c.any_at-of_stood.ensures

pub returns-else-of_free : goal.returns-else-of_free
returns-else-of_free c =
    or-second c.any_at-of_free.result c.any_at-of_stood.result c.if-of_free.false
    ∙ has-image c.args.unit c.args.part.0 c.args.place.now c.args.which c.args.records.now
    c.args.order.now c.at_place-free.result.now c.at_place-stood.result.now
    c.any_at-of_free.result c.any_at-of_stood.result c.requires.alike c.requires.order
    c.at_place-free.ensures.numbers c.at_place-stood.ensures.numbers c.at_place-free.ensures.all
    c.at_place-stood.ensures.all c.any_at-of_free.ensures c.any_at-of_stood.ensures
