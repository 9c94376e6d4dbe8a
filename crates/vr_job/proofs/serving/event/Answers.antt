use Rattle.std.proofs.Common.{Bool, subst, sym}
use Rattle.vr_history.specs.State.{State}
use Rattle.vr_event.specs.Acting.{MayAct}
use Rattle.vr_event.specs.Volume.{IsHeld}
use Rattle.vr_worker.specs.Asked.{HasEntered}
use Rattle.vr_job.proofs.Entering.{event-entered}
use Rattle.vr_job.proofs.GoingOn.{event-nearer, event-on, event-run, made-in}
use Rattle.vr_job.proofs.Undoing.{event-shows, may-act}
use Rattle.vr_job.proofs.serving.event.Goals as goal

pub returns-clause-serving : goal.returns-clause-serving
returns-clause-serving g c =
    let B = g.B.Blocks in
    let old = c.args.volume.now in
    let new = c.act-act.new.self in
    record {
      whole = c.act-act.ensures.whole;
      holds = λ told.
          let was = c.requires.serving.holds told in
          record {
            opening = was.opening;
            held = c.act-act.ensures.held told was.opening was.held
                (may-act B.seen was.opening old c.args.unit c.args.request c.requires.current
                c.requires.own c.requires.serving.shows c.requires.may_ask was.held);
          };
      shows = event-shows c.act-act.result c.args.after c.args.unit c.args.line c.args.request
          old.file new.file
          (made-in B.seen B.faults old new c.act-act.result c.args.after c.args.unit c.args.line
          c.args.request c.act-act.ensures.acted)
          c.requires.current c.requires.serving.shows;
    }

pub returns-clause-went : goal.returns-clause-went
returns-clause-went g c =
    let B = g.B.Blocks in
    let old = c.args.volume.now in
    let new = c.act-act.new.self in
    record {
      on = event-on B.seen B.faults old new c.act-act.result c.args.after c.args.unit c.args.line
          c.args.request c.act-act.ensures.acted c.act-act.ensures.whole c.act-act.ensures.number
          c.requires.own c.act-act.ensures.stopped;
      held = λ told opening held. c.act-act.ensures.held told opening held (may opening held);
      run = λ told opening first run.
          event-run B.seen B.faults old new c.act-act.result c.args.after c.args.unit c.args.line
          c.args.request c.act-act.ensures.acted opening first run c.act-act.ensures.number
          c.requires.own c.requires.serving.whole
          (λ going. c.act-act.ensures.moments told opening run.held (may opening run.held) going)
          c.act-act.ensures.stopped (λ n block. g.met.B.Blocks.sized new.blocks n block told)
          (g.met.B.Blocks.cur_may new.blocks told)
          (c.act-act.ensures.lacks told opening run.held (may opening run.held))
          (c.act-act.ensures.splits told) c.act-act.ensures.whole
          (c.act-act.ensures.held told opening run.held (may opening run.held));
    }
  where
    may : (opening : State) → IsHeld g.B.Blocks.seen opening c.args.volume.now
        → MayAct opening c.args.volume.now.file c.args.unit c.args.request
    may opening held = may-act g.B.Blocks.seen opening c.args.volume.now c.args.unit
        c.args.request c.requires.current c.requires.own c.requires.serving.shows
        c.requires.may_ask held

pub returns-clause-entered : goal.returns-clause-entered
returns-clause-entered g c =
    let B = g.B.Blocks in
    let old = c.args.volume.now in
    let new = c.act-act.new.self in
    subst (λ (done : Bool). HasEntered old.number c.args.unit.deck c.args.line c.args.request
    c.args.after done old.file.entries new.file.entries) (sym c.is_done.ensures)
    (event-entered c.act-act.result old.number c.args.after c.args.unit c.args.line c.args.request
    old.file new.file
    (made-in B.seen B.faults old new c.act-act.result c.args.after c.args.unit c.args.line
    c.args.request c.act-act.ensures.acted)
    c.requires.may_ask)

pub returns-clause-nearer : goal.returns-clause-nearer
returns-clause-nearer g c =
    event-nearer g.B.Blocks.tells c.args.volume.now c.act-act.new.self c.act-act.result c.args.unit
    c.requires.current c.act-act.ensures.nearer c.is_done.result c.is_done.ensures
