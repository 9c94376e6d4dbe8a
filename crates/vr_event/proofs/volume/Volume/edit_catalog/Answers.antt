use Rattle.vr_event.specs.Defining.{utility_unit}
use Rattle.vr_event.proofs.EditCome.{parts-gone, quiet-edited}
use Rattle.vr_event.proofs.volume.Volume.edit_catalog.Goals as goal

pub returns-clause-parts : goal.returns-clause-parts
returns-clause-parts g c = parts-gone g.B.Blocks.seen c.args.after
    (utility_unit c.args.self.now.file) c.args.line c.args.edit.now c.edit_unless_live.result
    c.args.self.now c.edit_unless_live.new.self c.requires.going c.requires.edit
    c.edit_unless_live.ensures.come

pub returns-clause-quiet : goal.returns-clause-quiet
returns-clause-quiet g c = quiet-edited c.args.self.now.number c.args.after
    (utility_unit c.args.self.now.file) c.args.line c.args.edit.now
    c.args.self.now.file c.edit_unless_live.new.self.file
    (g.B.Blocks.faults c.args.self.now.blocks)
    (g.B.Blocks.faults c.edit_unless_live.new.self.blocks) c.requires.going
    c.edit_unless_live.result c.edit_unless_live.ensures.come.entered
    c.edit_unless_live.ensures.cause

pub returns-clause-splits : goal.returns-clause-splits
returns-clause-splits g c told =
    let less = c.edit_unless_live.ensures.less told in
    less.splits
