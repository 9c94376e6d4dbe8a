use Rattle.std.proofs.Common.{◌≡◌, sym, ap, subst, ◌∙◌}
use Rattle.std.proofs.lemmas.Bool.{false≢true}
use Rattle.vr_types.specs.declared.unit.PartNo.{PartNo}
use Rattle.vr_space.specs.AreaCalls.{area_part}
use Rattle.vr_space.specs.Room.{Lengths, lengths_in, with_lengths}
use Rattle.vr_space.specs.Keyed.{lengths_of, items_of}
use Rattle.vr_space.proofs.CallerLemmas.{items-read}
use Rattle.vr_space.specs.Lent.{range_lent}
use Rattle.vr_keyed.specs.Lent.{lengths_among, ArePlaces}
use Rattle.vr_keyed.proofs.Gathering.{items-ready, match-same, room-cleared, room-kept}
use Rattle.vr_keyed.proofs.gather.gather_kept.Goals as goal

pub returns-in_default-clause-gathered : goal.returns-in_default-clause-gathered
returns-in_default-clause-gathered g c holds places has =
    absurd (c.in_default.ensures.only _ holds.spelled)

pub returns-then-not-add_records-clause-gathered
    : goal.returns-then-not-add_records-clause-gathered
returns-then-not-add_records-clause-gathered g c holds places has =
    let part = c.args.layout.now in
    let ready = items-ready part (range_lent c.args.range.now) c.args.block.now c.in-Ok.view holds
    c.in-Ok.ensures.ok in
    absurd (false≢true (sym c.if-not-add_records.true
    ∙ (c.add_records.ensures.added ready.kept ready.sorted ready.fits
    (room-cleared part c.args.weights.now c.clear.new.self has c.clear.ensures)).0))

pub returns-clause-gathered : goal.returns-clause-gathered
returns-clause-gathered g c holds places has =
    let part = c.args.layout.now in
    let range = range_lent c.args.range.now in
    let cleared = room-cleared part c.args.weights.now c.clear.new.self has c.clear.ensures in
    let ready = items-ready part range c.args.block.now c.in-Ok.view holds c.in-Ok.ensures.ok in
    let all : PartNo → Lengths = g.K.Kept.kept c.args.kept.now in
    let same : c.add_records.new.weights.lengths
    ≡ lengths_among part range (items_of c.args.block.now) =
    (c.add_records.ensures.added ready.kept ready.sorted ready.fits cleared).1
    ∙ ap (lengths_among part range)
    (items-read part range c.args.block.now c.in-Ok.view holds c.in-Ok.ensures.ok) in
    match-same part c.add_kept.result c.add_kept.new.weights.lengths
    (with_lengths c.add_records.new.weights.lengths (lengths_in range (all c.part_of.result)))
    (lengths_of part (all (area_part part)) range c.args.block.now)
    (ap (λ (p : PartNo). with_lengths c.add_records.new.weights.lengths
    (lengths_in range (all p))) c.part_of.ensures
    ∙ ap (λ (l : Lengths). with_lengths l (lengths_in range (all (area_part part))))
    same)
    (c.add_kept.ensures.added part
    (subst (λ (p : PartNo). ArePlaces part.key (all p)) (sym c.part_of.ensures) places)
    (room-kept part c.clear.new.self c.add_records.new.weights cleared
    c.add_records.ensures.count c.add_records.ensures.bytes))
