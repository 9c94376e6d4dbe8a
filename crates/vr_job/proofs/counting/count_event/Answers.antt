use Rattle.vr_job.proofs.CountEvents.{count-entered, count-serving, count-went, found-in}
use Rattle.vr_job.proofs.counting.count_event.Goals as goal

pub returns : goal.returns
returns g c =
    let B = g.B.Blocks in
    let old = c.args.volume.now in
    let new = c.count.new.self in
    record {
      serving = count-serving B.seen B.faults c.args.after c.args.line c.count.result old new
          c.count.ensures.entered B.tells c.count.ensures.whole c.count.ensures.held
          c.requires.serving;
      went = count-went B.seen B.faults c.args.after c.args.line c.count.result old new
          c.count.ensures.entered c.count.ensures.cause c.requires.going
          c.requires.serving.whole c.count.ensures.whole c.count.ensures.number B.tells
          c.count.ensures.held c.count.ensures.moments (λ told. c.count.ensures.splits)
          (λ told n block. g.met.B.Blocks.sized new.blocks n block told)
          (g.met.B.Blocks.cur_may new.blocks);
      entered = c.count.ensures.entered;
      found = λ told. found-in B.seen c.args.entry.now old c.count.result
          (c.count.ensures.counted told);
      cause = c.count.ensures.cause;
      entered_on = count-entered B.seen B.faults c.args.after c.args.line c.count.result old new
          c.count.ensures.entered;
    }
