use Rattle.std.proofs.Common.{List, All, get_or, subst}
use Rattle.vr_worker.proofs.Asks.{none-asked}
use Rattle.vr_worker.proofs.Laters.{none-later}
use Rattle.vr_worker.proofs.Gapless.{none-next}
use Rattle.vr_worker.proofs.Volumes.{since-themselves}
use Rattle.vr_worker.specs.Decks.{numbers_of}
use Rattle.vr_trace.specs.Growing.{AreUpTo, greatest_last}
use Rattle.vr_worker.proofs.decks.run_decks.Goals as goal

pub returns-in-Err-clause-since : goal.returns-in-Err-clause-since
returns-in-Err-clause-since g c =
    let V = g.V.Served in
    since-themselves V.number V.entries V.follows V.stays (numbers_of c.args.decks.items)
    c.args.volumes.items c.requires.placed

pub returns-in-Err-clause-later : goal.returns-in-Err-clause-later
returns-in-Err-clause-later g c =
    let entries = g.V.Served.entries in
    none-later entries c.args.volumes.items (subst (λ (them : List g.row.V.Denot).
    All (λ (volume : g.row.V.Denot). AreUpTo (greatest_last entries them) (entries volume)) them)
    c.as_slice.ensures.value c.make_ready.ensures.had)

pub returns-in-Err-clause-next : goal.returns-in-Err-clause-next
returns-in-Err-clause-next g c = none-next g.V.Served.entries c.args.volumes.items

pub returns-in-Err-clause-asked : goal.returns-in-Err-clause-asked
returns-in-Err-clause-asked g c = λ k deck near. none-asked g.V.Served.entries
    c.args.volumes.items (get_or c.args.decks.items k deck) (c.requires.decks.fresh k deck near)
