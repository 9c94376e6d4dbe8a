use Rattle.std.proofs.Common.{IsTrue}
use Rattle.vr_history.specs.State.{State}
use Rattle.vr_event.specs.Defining.{utility_unit}
use Rattle.vr_event.specs.EditSteps.{HasEditCome, HasEditComeHeld}
use Rattle.vr_event.specs.Volume.{IsHeld}
use Rattle.vr_job.proofs.EditGoing.{edited-entered, edited-serving, edited-went}
use Rattle.vr_job.proofs.editing.edit_event.Goals as goal

pub returns : goal.returns
returns g c =
    let B = g.B.Blocks in
    let old = c.args.volume.now in
    let new = c.edit_catalog.new.self in
    record {
      serving = edited-serving B.seen B.faults c.args.after c.args.line c.args.edit.now
          c.edit_catalog.result old new c.requires.may come B.tells held c.requires.serving;
      went = edited-went B.seen B.faults c.args.after c.args.line c.args.edit.now
          c.edit_catalog.result old new c.requires.may come c.edit_catalog.ensures.cause B.tells held
          (g.met.B.Blocks.cur_may old.blocks)
          (λ told n block. g.met.B.Blocks.sized new.blocks n block told)
          (g.met.B.Blocks.cur_may new.blocks) c.edit_catalog.ensures.splits;
      come = come;
      no_room = c.edit_catalog.ensures.no_room;
      nearer = c.edit_catalog.ensures.nearer;
      cause = c.edit_catalog.ensures.cause;
      entered_on = edited-entered B.seen B.faults c.args.after c.args.line c.args.edit.now
          c.edit_catalog.result old new c.requires.may come;
    }
  where
    come : HasEditCome g.B.Blocks.seen c.args.after (utility_unit c.args.volume.now.file)
        c.args.line c.args.edit.now c.edit_catalog.result c.args.volume.now c.edit_catalog.new.self
    come = record {
      whole = c.edit_catalog.ensures.whole;
      entered = c.edit_catalog.ensures.entered;
      live = c.edit_catalog.ensures.idle;
      kept_out = c.edit_catalog.ensures.kept_out;
      full = c.edit_catalog.ensures.full;
      number = c.edit_catalog.ensures.number;
      generation = c.edit_catalog.ensures.generation;
    }

    held : IsTrue g.B.Blocks.tells → (opening : State)
        → IsHeld g.B.Blocks.seen opening c.args.volume.now
        → HasEditComeHeld g.B.Blocks.seen opening c.args.after
        (utility_unit c.args.volume.now.file) c.args.line c.args.edit.now
        c.args.volume.now c.edit_catalog.new.self
    held told opening was = record {
      held = c.edit_catalog.ensures.held told opening was;
      moments = c.edit_catalog.ensures.moments told opening was;
    }
