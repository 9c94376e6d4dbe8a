use Rattle.std.proofs.Common.{◌∙◌, ◌++◌, Bool, List, [], arith, map, subst, sym}
use Rattle.std.proofs.lemmas.List.{length-map}
use Rattle.vr_history.specs.Kept.{Kept}
use Rattle.vr_history.specs.declared.entry.Entry.{Entry}
use Rattle.vr_job_ends.specs.declared.job_end.End.{End}
use Rattle.vr_trace.specs.Volumes.{entries_of}
use Rattle.vr_job.specs.Shelf.{HaveRunWhere}
use Rattle.vr_job.specs.ShelfRun.{IsShelfRun}
use Rattle.vr_job.proofs.ShelfRuns.{shelf-run}
use Rattle.vr_job.proofs.Shelves.{closed-count, opened-begins, opened-placed, ran-count}
use Rattle.vr_job.proofs.shelf_run.run_in.Goals as goal

pub ask_all-asked-requires-clause-placed : goal.ask_all-asked-requires-clause-placed
ask_all-asked-requires-clause-placed g c κs within =
    let D = g.D.BlockDevice in
    opened-placed D.tells D.seen D.faults c.args.devices.items c.open_all-opened.new.volumes.items
    c.open_all-opened.new.unopened.items c.open_all-opened.result
    c.open_all-opened.ensures.opened

pub ask_all-asked-requires-clause-begins : goal.ask_all-asked-requires-clause-begins
ask_all-asked-requires-clause-begins g c κs within =
    let D = g.D.BlockDevice in
    opened-begins D.tells D.seen D.faults c.args.devices.items c.open_all-opened.new.volumes.items
    c.open_all-opened.new.unopened.items c.open_all-opened.result
    c.open_all-opened.ensures.opened

pub close_all-unsynced-requires-clause-few : goal.close_all-unsynced-requires-clause-few
close_all-unsynced-requires-clause-few g c =
    let D = g.D.BlockDevice in
    omega (
      arith,
      ran-count D.tells D.seen D.faults c.args.steps.now c.ask_all-asked.result
          c.ask_all-asked.new.reports
          c.open_all-opened.new.volumes.items c.ask_all-asked.new.volumes.items c.is_ok.result
          c.ask_all-asked.ensures,
      c.open_all-opened.ensures.count,
      c.requires.few,
    )

pub close_all-unsynced-requires-clause-room : goal.close_all-unsynced-requires-clause-room
close_all-unsynced-requires-clause-room g c =
    let D = g.D.BlockDevice in
    omega (
      arith,
      ran-count D.tells D.seen D.faults c.args.steps.now c.ask_all-asked.result
          c.ask_all-asked.new.reports
          c.open_all-opened.new.volumes.items c.ask_all-asked.new.volumes.items c.is_ok.result
          c.ask_all-asked.ensures,
      c.open_all-opened.ensures.count,
      c.requires.shelf.1,
    )

pub close_all-unsynced-requires-clause-histories_room :
    goal.close_all-unsynced-requires-clause-histories_room
close_all-unsynced-requires-clause-histories_room g c =
    let D = g.D.BlockDevice in
    omega (
      arith,
      ran-count D.tells D.seen D.faults c.args.steps.now c.ask_all-asked.result
          c.ask_all-asked.new.reports
          c.open_all-opened.new.volumes.items c.ask_all-asked.new.volumes.items c.is_ok.result
          c.ask_all-asked.ensures,
      c.open_all-opened.ensures.count,
      c.requires.histories.1,
    )

pub give_back-requires-clause-room : goal.give_back-requires-clause-room
give_back-requires-clause-room g c =
    let D = g.D.BlockDevice in
    let closed = c.close_all-unsynced in
    omega (
      arith,
      (closed-count D.tells D.seen D.faults c.ask_all-asked.new.volumes.items
          closed.new.shelf.items (entries_of closed.new.histories.items) closed.result
          closed.ensures.closed).0,
      ran-count D.tells D.seen D.faults c.args.steps.now c.ask_all-asked.result
          c.ask_all-asked.new.reports
          c.open_all-opened.new.volumes.items c.ask_all-asked.new.volumes.items c.is_ok.result
          c.ask_all-asked.ensures,
      c.open_all-opened.ensures.count,
      closed.ensures.room,
      c.requires.shelf.1,
    )

pub give_back-requires-clause-histories_room : goal.give_back-requires-clause-histories_room
give_back-requires-clause-histories_room g c =
    let D = g.D.BlockDevice in
    let closed = c.close_all-unsynced in
    omega (
      arith,
      (closed-count D.tells D.seen D.faults c.ask_all-asked.new.volumes.items
          closed.new.shelf.items (entries_of closed.new.histories.items) closed.result
          closed.ensures.closed).1,
      length-map closed.new.histories.items (λ (kept : Kept). kept.entries),
      ran-count D.tells D.seen D.faults c.args.steps.now c.ask_all-asked.result
          c.ask_all-asked.new.reports
          c.open_all-opened.new.volumes.items c.ask_all-asked.new.volumes.items c.is_ok.result
          c.ask_all-asked.ensures,
      c.open_all-opened.ensures.count,
      closed.ensures.histories_room,
      c.requires.histories.1,
    )

pub returns : goal.returns
returns g c =
    let D = g.D.BlockDevice in
    let closed = c.close_all-unsynced in
    let steps = c.args.steps.now in
    let devices = c.args.devices.items in
    let unopened = c.open_all-opened.new.unopened.items in
    let kept = entries_of closed.new.histories.items in
    let run = shelf-run D.tells D.seen D.faults steps devices unopened closed.new.shelf.items
    c.open_all-opened.new.volumes.items c.ask_all-asked.new.volumes.items kept
    c.ask_all-asked.new.reports c.ask_all-asked.result closed.result closed.ensures.closed c.open_all-opened.result
    c.open_all-opened.ensures.opened
    (subst (λ (b : Bool). HaveRunWhere b D.tells D.seen D.faults steps c.ask_all-asked.result
    c.ask_all-asked.new.reports
    c.open_all-opened.new.volumes.items c.ask_all-asked.new.volumes.items) c.is_ok.ensures.value
    c.ask_all-asked.ensures) in
    subst (λ (histories : List (List Entry)). IsShelfRun D.tells D.seen D.faults steps
    c.end_of.result c.ask_all-asked.new.reports histories devices c.give_back.new.shelf.items)
    (sym (c.from_vec.ensures ∙ c.give_back.ensures.histories))
    (subst (λ (shelf : List g.row.D.Denot). IsShelfRun D.tells D.seen D.faults steps
    c.end_of.result c.ask_all-asked.new.reports (kept ++ map (λ _. []) unopened) devices shelf)
    (sym c.give_back.ensures.shelf)
    (subst (λ (end : End). IsShelfRun D.tells D.seen D.faults steps end
    c.ask_all-asked.new.reports (kept ++ map (λ _. []) unopened) devices (closed.new.shelf.items ++ unopened))
    (sym c.end_of.ensures) run))
