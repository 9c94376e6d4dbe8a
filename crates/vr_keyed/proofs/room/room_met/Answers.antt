use Rattle.std.proofs.Common.{◌≡◌, ℕ, List, true, false, Some, None, sym, subst, ◌∙◌}
use Rattle.std.proofs.lemmas.Result.{IfOk-weaker}
use Rattle.vr_types.proofs.CallerLemmas.{keeps-none}
use Rattle.vr_types.specs.Content.{item_at}
use Rattle.vr_types.specs.Content.Item.{Standing}
use Rattle.vr_types.specs.Image.{Block}
use Rattle.vr_space.specs.AreaCalls.{area_part}
use Rattle.vr_space.specs.Keyed.{HoldsRange, records_of}
use Rattle.vr_keyed.specs.Slots.{met_in}
use Rattle.vr_space.specs.Lent.{range_lent}
use Rattle.vr_keyed.proofs.MetRoom.{met-holds, answer-met, fits-met, met-fits}
use Rattle.vr_keyed.proofs.room.room_met.Goals as goal

pub returns-in-Some-clause-keeps : goal.returns-in-Some-clause-keeps
returns-in-Some-clause-keeps g c =
    keeps-none g.B.Blocks.tells (g.B.Blocks.seen c.args.blocks.now)
    (λ told image now. g.met.B.Blocks.images_may c.args.blocks.now image told now)

pub returns-then-fits-clause-keeps : goal.returns-then-fits-clause-keeps
returns-then-fits-clause-keeps g c =
    keeps-none g.B.Blocks.tells (g.B.Blocks.seen c.args.blocks.now)
    (λ told image now. g.met.B.Blocks.images_may c.args.blocks.now image told now)

pub returns-then-stands_as_long-clause-keeps : goal.returns-then-stands_as_long-clause-keeps
returns-then-stands_as_long-clause-keeps g c =
    keeps-none g.B.Blocks.tells (g.B.Blocks.seen c.args.blocks.now)
    (λ told image now. g.met.B.Blocks.images_may c.args.blocks.now image told now)

pub returns-then-stands_as_long-clause-answer : goal.returns-then-stands_as_long-clause-answer
returns-then-stands_as_long-clause-answer g c told now split =
    let part = c.args.layout.now in
    let met = met_in c.args.slot.now in
    let image = (g.B.Blocks.seen c.args.blocks.now).cur in
    let kept = g.K.Kept.kept c.args.kept.now (area_part part) in
    let is = c.requires.met told in
    let place = c.args.place.now in
    let holds : HoldsRange part met.range met.block =
    met-holds part image met is (c.requires.stands told) in
    let there = c.stands_as_long.ensures.stands met.range
    (subst (HoldsRange part met.range) (sym c.as_slice-block.ensures.value) holds)
    c.if-stands_as_long.true in
    let stands : item_at (records_of part met.block) place ≡ Some (Standing there.0) =
    subst (λ (block : Block). item_at (records_of part block) place ≡ Some (Standing there.0))
    c.as_slice-block.ensures.value
    (subst (λ (p : List ℕ). item_at (records_of part c.as_slice-block.result.now) p
    ≡ Some (Standing there.0)) c.as_slice.ensures there.1) in
    sym (answer-met part image met is now c.args.under_way c.args.free kept
    c.args.longest place None true
    c.requires.slot (c.in_default.ensures now is.entry split is.number)
    (met-fits part image kept met is place c.requires.slot holds (c.requires.fits told) there.0
    c.args.longest stands there.2))

pub returns-then-fits-clause-answer : goal.returns-then-fits-clause-answer
returns-then-fits-clause-answer g c told now split =
    let part = c.args.layout.now in
    let met = met_in c.args.slot.now in
    let image = (g.B.Blocks.seen c.args.blocks.now).cur in
    let kept = g.K.Kept.kept c.args.kept.now (area_part part) in
    let is = c.requires.met told in
    sym (answer-met part image met is now c.args.under_way c.args.free kept
    c.args.longest c.args.place.now None true
    c.requires.slot (c.in_default.ensures now is.entry split is.number)
    (fits-met part kept met c.args.longest c.args.weights.now
    (range_lent c.range_of-range.result) c.as_slice-block.result.now c.args.place.now true
    c.if-fits.ensures.fits c.range_of-range.ensures c.as_slice-block.ensures.value
    (met-holds part image met is (c.requires.stands told)) (c.requires.kept told)
    c.requires.place c.requires.room))

pub returns-clause-answer : goal.returns-clause-answer
returns-clause-answer g c told =
    let part = c.args.layout.now in
    let met = met_in c.args.slot.now in
    let image = (g.B.Blocks.seen c.args.blocks.now).cur in
    let kept = g.K.Kept.kept c.args.kept.now (area_part part) in
    let is = c.requires.met told in
    IfOk-weaker c.room_beyond.result _ _ (λ room answered now split. answered
    ∙ sym (answer-met part image met is now c.args.under_way c.args.free kept
    c.args.longest c.args.place.now None false
    c.requires.slot (c.in_default.ensures now is.entry split is.number)
    (fits-met part kept met c.args.longest c.args.weights.now
    (range_lent c.range_of-range.result) c.as_slice-block.result.now c.args.place.now false
    c.if-fits.ensures.fits c.range_of-range.ensures c.as_slice-block.ensures.value
    (met-holds part image met is (c.requires.stands told)) (c.requires.kept told)
    c.requires.place c.requires.room))) (c.room_beyond.ensures.answer told)
