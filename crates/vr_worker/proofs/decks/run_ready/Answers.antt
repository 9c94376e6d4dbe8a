use Rattle.std.proofs.Common.{refl}
use Rattle.vr_worker.proofs.Asks.{all-asked, all-ready, all-told, come-next, gain-above}
use Rattle.vr_worker.proofs.Volumes.{first-later, first-latched, since-all}
use Rattle.vr_worker.specs.Decks.{numbers_of}
use Rattle.vr_trace.specs.Growing.{greatest_last}
use Rattle.vr_worker.specs.Ready.{decks_of}
use Rattle.vr_worker.proofs.decks.run_ready.Goals as goal

pub run_named-volumes-requires-clause-latched : goal.run_named-volumes-requires-clause-latched
run_named-volumes-requires-clause-latched g c κs within =
    let V = g.V.Served in
    first-latched V.number V.entries V.follows V.stays (numbers_of (decks_of c.args.seats.now))
    c.args.volumes.items c.requires.placed c.args.ledgers.items c.requires.histories

pub run_named-volumes-requires-clause-first : goal.run_named-volumes-requires-clause-first
run_named-volumes-requires-clause-first g c κs within =
    let V = g.V.Served in
    first-later V.number V.entries V.follows V.stays (numbers_of (decks_of c.args.seats.now))
    c.args.volumes.items c.requires.placed

pub run_named-volumes-requires-clause-ready : goal.run_named-volumes-requires-clause-ready
run_named-volumes-requires-clause-ready g c κs within = all-ready g.V.Served.entries
    c.args.volumes.items c.args.ledgers.items c.requires.histories
    (greatest_last g.V.Served.entries c.args.volumes.items) c.args.seats.now c.requires.begun
    c.requires.decks

pub run_named-volumes-requires-clause-told : goal.run_named-volumes-requires-clause-told
run_named-volumes-requires-clause-told g c κs within = all-told g.V.Served.entries
    c.args.volumes.items c.args.ledgers.items c.requires.histories
    (greatest_last g.V.Served.entries c.args.volumes.items) c.args.seats.now c.requires.begun
    c.requires.decks

pub returns-clause-since : goal.returns-clause-since
returns-clause-since g c =
    let V = g.V.Served in
    since-all V.number V.entries V.follows V.stays (numbers_of (decks_of c.args.seats.now))
    c.args.volumes.items c.requires.placed c.run_named-volumes.result.items
    c.run_named-volumes.ensures.count c.run_named-volumes.ensures.later

pub returns-clause-later : goal.returns-clause-later
returns-clause-later g c =
    let V = g.V.Served in
    record {
      had = c.requires.had;
      gains = gain-above V.entries c.args.volumes.items c.args.ledgers.items
          c.requires.histories (greatest_last V.entries c.args.volumes.items) c.args.seats.now
          c.requires.begun c.requires.decks V.follows c.run_named-volumes.new.seats
          c.run_named-volumes.result.items c.run_named-volumes.ensures.ran
          (since-all V.number V.entries V.follows V.stays
          (numbers_of (decks_of c.args.seats.now)) c.args.volumes.items c.requires.placed
          c.run_named-volumes.result.items c.run_named-volumes.ensures.count
          c.run_named-volumes.ensures.later) c.run_named-volumes.ensures.told;
    }

pub returns-clause-next : goal.returns-clause-next
returns-clause-next g c =
    let V = g.V.Served in
    come-next V.entries c.args.volumes.items c.args.ledgers.items
    c.requires.histories (greatest_last V.entries c.args.volumes.items) c.args.seats.now
    c.requires.begun c.requires.decks V.follows c.run_named-volumes.new.seats
    c.run_named-volumes.result.items c.run_named-volumes.ensures.ran
    (since-all V.number V.entries V.follows V.stays
    (numbers_of (decks_of c.args.seats.now)) c.args.volumes.items c.requires.placed
    c.run_named-volumes.result.items c.run_named-volumes.ensures.count
    c.run_named-volumes.ensures.later) c.run_named-volumes.ensures.told refl

pub returns-clause-asked : goal.returns-clause-asked
returns-clause-asked g c = all-asked g.V.Served.entries c.args.volumes.items
    c.args.ledgers.items c.requires.histories
    (greatest_last g.V.Served.entries c.args.volumes.items) c.args.seats.now c.requires.begun
    c.requires.decks c.run_named-volumes.new.seats c.run_named-volumes.result.items c.shown-result.result
    c.end_of.result c.run_named-volumes.ensures.ran c.run_named-volumes.ensures.count
    c.run_named-volumes.ensures.told c.shown-result.ensures.done c.end_of.ensures
