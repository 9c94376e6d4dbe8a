use Rattle.std.proofs.Common.{◌∙◌, List, arith, ap, length, subst, sym}
use Rattle.std.proofs.lemmas.List.{length-map}
use Rattle.vr_event.specs.Volume.{VolumeNow}
use Rattle.vr_history.specs.Kept.{Kept}
use Rattle.vr_trace.specs.Volumes.{entries_of}
use Rattle.vr_job.specs.Shelf.{AreBeingClosed}
use Rattle.vr_job.proofs.Shelves.{closing-all, closing-count, closing-next, none-left}
use Rattle.vr_job.proofs.shelf_run.close_all.Goals as goal

pub loop-serving-preserved : goal.loop-serving-preserved
loop-serving-preserved g c =
    let D = g.D.BlockDevice in
    let now = c.loop-serving in
    let next = c.close_next in
    record {
      closing = closing-next D.tells D.seen D.faults c.args.volumes.items
          c.next.new.self.rest.items c.in-Some.serving now.shelf.items next.new.shelf.items
          (entries_of now.histories.items) (entries_of next.new.histories.items) now.unsynced
          next.result
          (subst (λ (them : List (VolumeNow g.row.D.Denot)). AreBeingClosed D.tells D.seen D.faults
          c.args.volumes.items them now.shelf.items (entries_of now.histories.items) now.unsynced)
          c.in-Some.ensures.steps.0 now.invariant.closing)
          next.ensures.next c.or_failed-unsynced.result c.or_failed-unsynced.ensures;
      room = next.ensures.room ∙ now.invariant.room;
      histories_room = next.ensures.histories_room ∙ now.invariant.histories_room;
    }

pub close_next-requires-clause-histories_room : goal.close_next-requires-clause-histories_room
close_next-requires-clause-histories_room g c =
    let D = g.D.BlockDevice in
    let now = c.loop-serving in
    let counts = closing-count D.tells D.seen D.faults c.args.volumes.items
    now.serving-iterator.rest.items now.shelf.items (entries_of now.histories.items) now.unsynced
    now.invariant.closing in
    omega (
      arith,
      counts.0,
      counts.1,
      length-map now.histories.items (λ (kept : Kept). kept.entries),
      ap (λ (them : List (VolumeNow g.row.D.Denot)). length them) c.in-Some.ensures.steps.0,
      now.invariant.histories_room,
      c.requires.histories_room,
    )

pub returns-clause-closed : goal.returns-clause-closed
returns-clause-closed g c =
    let D = g.D.BlockDevice in
    let now = c.loop-serving in
    closing-all D.tells D.seen D.faults c.args.volumes.items now.shelf.items
    (entries_of now.histories.items) now.unsynced
    (subst (λ (them : List (VolumeNow g.row.D.Denot)). AreBeingClosed D.tells D.seen D.faults
    c.args.volumes.items them now.shelf.items (entries_of now.histories.items) now.unsynced)
    (none-left now.serving-iterator.rest.items
    (sym now.serving-iterator.rest.ok.0 ∙ c.in-None.ensures.steps.0)) now.invariant.closing)
