use Rattle.vr_event.proofs.Recovers.{recovers-alone}
use Rattle.vr_record_file.specs.Now.{state_now}
use Rattle.vr_event.proofs.volume.Volume.back_out.Goals as goal

pub returns-else-keeps-clause-moments : goal.returns-else-keeps-clause-moments
returns-else-keeps-clause-moments g c told opening held ending =
    let seen = g.B.Blocks.seen in
    let old = c.args.self.now in
    recovers-alone old.number old.store (state_now opening old.file) (seen old.blocks)
    (seen c.end_step.new.self.blocks) (held.stored c.requires.going) c.args.after c.args.unit
    c.args.line c.args.request old.file c.end_step.new.self.file c.requires.request (c.end_step.ensures.moments told opening held)
