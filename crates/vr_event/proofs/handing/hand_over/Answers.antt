use Rattle.std.proofs.Common.{ℕ, List, Option, sym, ap}
use Rattle.vr_types.proofs.CallerLemmas.{keeps-none}
use Rattle.vr_store.specs.Visiting.{after_found}
use Rattle.vr_event.proofs.UnfitPlaces.{unfit-none}
use Rattle.vr_event.proofs.handing.hand_over.Goals as goal

pub returns-else-fits-clause-found : goal.returns-else-fits-clause-found
returns-else-fits-clause-found g c told volume state stored =
    let now = g.B.Blocks.seen c.args.blocks.now in
    let visitor = c.args.visitor.now in
    ap (λ (o : Option (List ℕ)).
    after_found g.R.RecordVisitor.after c.args.place.now o visitor)
    (sym (unfit-none c.args.file.now.geometry c.args.file.now.catalog c.args.store.now now
    c.requires.set (g.met.B.Blocks.cur_may c.args.blocks.now told) c.requires.laid volume state
    stored c.args.part.0 c.args.place.now cc))

pub returns-else-fits-clause-keeps : goal.returns-else-fits-clause-keeps
returns-else-fits-clause-keeps g c =
    keeps-none g.B.Blocks.tells (g.B.Blocks.seen c.args.blocks.now)
    (λ told image is. g.met.B.Blocks.images_may c.args.blocks.now image told is)
