use Rattle.std.specs.Option.{option_copied}
use Rattle.vr_job.proofs.ReadEvents.{read-entered, read-from, read-serving, read-went}
use Rattle.vr_job.proofs.reading.read_event.Goals as goal

pub returns : goal.returns
returns g c =
    let B = g.B.Blocks in
    let old = c.args.volume.now in
    let new = c.read_through.new.self in
    record {
      serving = read-serving B.seen B.faults c.args.after c.args.line c.read_through.result old new
          c.read_through.ensures.entered B.tells c.read_through.ensures.whole c.read_through.ensures.held
          c.requires.serving;
      went = read-went B.seen B.faults c.args.after c.args.line c.read_through.result old new
          c.read_through.ensures.entered c.read_through.ensures.cause c.requires.going
          c.requires.serving.whole c.read_through.ensures.whole c.read_through.ensures.number B.tells
          c.read_through.ensures.held c.read_through.ensures.moments (λ told. c.read_through.ensures.splits)
          (λ told n block. g.met.B.Blocks.sized new.blocks n block told)
          (g.met.B.Blocks.cur_may new.blocks);
      entered = c.read_through.ensures.entered;
      read = read-from g.R.RecordVisitor.after g.R.RecordVisitor.done B.seen
          (option_copied c.args.from) c.args.entry.now.part.0 old c.args.visitor.now
          c.read_through.new.visitor B.tells c.read_through.result c.requires.serving.whole
          c.requires.going c.requires.serving.holds c.read_through.ensures.read
          c.read_through.ensures.visited;
      cause = c.read_through.ensures.cause;
      entered_on = read-entered B.seen B.faults c.args.after c.args.line c.read_through.result old new
          c.read_through.ensures.entered;
    }
