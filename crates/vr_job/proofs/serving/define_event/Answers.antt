use Rattle.std.proofs.Common.{IsTrue}
use Rattle.vr_history.specs.State.{State}
use Rattle.vr_event.specs.DefineSteps.{HasCome, HasComeHeld}
use Rattle.vr_event.specs.Defining.{IsNewCluster, utility_unit}
use Rattle.vr_event.specs.Volume.{IsHeld}
use Rattle.vr_job.proofs.DefineShown.{new-cluster}
use Rattle.vr_job.proofs.Defining.{defined-entered, defined-serving, defined-went}
use Rattle.vr_job.proofs.serving.define_event.Goals as goal

pub define-requires-clause-entry : goal.define-requires-clause-entry
define-requires-clause-entry g c = new-cluster c.args.volume.now.file.geometry
    c.args.volume.now.file.catalog c.args.entry.now c.requires.entry

pub returns : goal.returns
returns g c =
    let B = g.B.Blocks in
    let old = c.args.volume.now in
    let new = c.define.new.self in
    record {
      serving = defined-serving B.seen B.faults c.args.after c.args.line c.args.entry.now
          c.define.result old new cluster c.requires.may come B.tells held c.requires.serving;
      went = defined-went B.seen B.faults c.args.after c.args.line c.args.entry.now
          c.define.result old new cluster c.requires.may come c.define.ensures.cause B.tells held
          (g.met.B.Blocks.cur_may old.blocks)
          (λ told n block. g.met.B.Blocks.sized new.blocks n block told)
          (g.met.B.Blocks.cur_may new.blocks) c.define.ensures.splits;
      come = come;
      no_room = c.define.ensures.no_room;
      nearer = c.define.ensures.nearer;
      cause = c.define.ensures.cause;
      entered = defined-entered B.seen B.faults c.args.after c.args.line c.args.entry.now
          c.define.result old new cluster c.requires.may come;
    }
  where
    cluster : IsNewCluster c.args.volume.now.file.geometry c.args.volume.now.file.catalog
        c.args.entry.now
    cluster = new-cluster c.args.volume.now.file.geometry c.args.volume.now.file.catalog
        c.args.entry.now c.requires.entry

    come : HasCome g.B.Blocks.seen c.args.after (utility_unit c.args.volume.now.file) c.args.line
        c.args.entry.now c.define.result c.args.volume.now c.define.new.self
    come = record {
      whole = c.define.ensures.whole;
      entered = c.define.ensures.entered;
      parts = c.define.ensures.parts;
      within = c.define.ensures.within;
      no_area = c.define.ensures.no_area;
      kept_out = c.define.ensures.kept_out;
      full = c.define.ensures.full;
      number = c.define.ensures.number;
      generation = c.define.ensures.generation;
    }

    held : IsTrue g.B.Blocks.tells → (opening : State)
        → IsHeld g.B.Blocks.seen opening c.args.volume.now
        → HasComeHeld g.B.Blocks.seen opening c.args.after (utility_unit c.args.volume.now.file)
        c.args.line c.args.entry.now c.args.volume.now c.define.new.self
    held told opening was = record {
      held = c.define.ensures.held told opening was;
      moments = c.define.ensures.moments told opening was;
    }
