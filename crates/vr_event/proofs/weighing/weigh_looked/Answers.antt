use Rattle.std.proofs.Common.{subst}
use Rattle.std.proofs.lemmas.Option.{IfSome_then}
use Rattle.vr_types.proofs.CallerLemmas.{keeps-none}
use Rattle.vr_answer.specs.InHand.{whole}
use Rattle.vr_event.specs.Putting.{FitsItem}
use Rattle.vr_event.proofs.Weighs.{refuse-memory}
use Rattle.vr_event.proofs.weighing.weigh_looked.Goals as goal

pub returns-then-not-fits_item-clause-may : goal.returns-then-not-fits_item-clause-may
returns-then-not-fits_item-clause-may g c told volume state is at stored space asked =
    refuse-memory (whole c.args.case.now state) c.requires.change

pub returns-then-not-fits_item-clause-keeps : goal.returns-then-not-fits_item-clause-keeps
returns-then-not-fits_item-clause-keeps g c =
    keeps-none g.B.Blocks.tells (g.B.Blocks.seen c.args.blocks.now)
    (λ told image is. g.met.B.Blocks.images_may c.args.blocks.now image told is)

pub weigh_record-requires-clause-size : goal.weigh_record-requires-clause-size
weigh_record-requires-clause-size g c =
    IfSome_then c.length_asked-length.result c.length_asked-length.ensures.size
    (λ n fits. fits c.args.case.now.geometry c.args.store.now.parts c.requires.laid)

pub weigh_record-requires-clause-new_fits : goal.weigh_record-requires-clause-new_fits
weigh_record-requires-clause-new_fits g c =
    IfSome_then c.length_asked-length.result c.length_asked-length.ensures.new_fits
    (λ n fits. subst (FitsItem c.args.store.now.parts c.args.part.0 c.args.place)
    c.new_record-new.ensures
    (fits c.args.case.now.geometry c.args.store.now.parts c.requires.laid))

pub weigh_record-requires-clause-old_fits : goal.weigh_record-requires-clause-old_fits
weigh_record-requires-clause-old_fits g c =
    subst (FitsItem c.args.store.now.parts c.args.part.0 c.args.place) c.slice_of.ensures
    (c.fits_item.ensures c.if-not-fits_item.false
    c.args.case.now.geometry c.args.store.now.parts c.requires.laid)
