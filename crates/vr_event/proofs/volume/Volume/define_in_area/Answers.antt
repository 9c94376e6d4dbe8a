use Rattle.std.proofs.Common.{refl}
use Rattle.vr_types.proofs.CallerLemmas.{keeps-none}
use Rattle.vr_event.specs.Defining.{utility_unit}
use Rattle.vr_event.proofs.AskedClusters.{still-held}
use Rattle.vr_event.proofs.UtilitySteps.{err-apart, less-still, no-area-define, same-ok}
use Rattle.vr_event.proofs.volume.Volume.define_in_area.Goals as goal

pub returns-in-None-clause-held : goal.returns-in-None-clause-held
returns-in-None-clause-held g c told opening held = still-held g.B.Blocks.seen opening c.args.after
    (utility_unit c.args.self.now.file) c.args.line c.args.entry.now c.args.self.now
    g.B.Blocks.tells told (keeps-none g.B.Blocks.tells (g.B.Blocks.seen c.args.self.now.blocks)
    (λ told image is. g.met.B.Blocks.images_may c.args.self.now.blocks image told is))
    c.requires.may.going held

pub returns-in_err-new-in-Some-clause-held : goal.returns-in_err-new-in-Some-clause-held
returns-in_err-new-in-Some-clause-held g c told opening held = still-held g.B.Blocks.seen opening
    c.args.after (utility_unit c.args.self.now.file) c.args.line c.args.entry.now c.args.self.now
    g.B.Blocks.tells told (keeps-none g.B.Blocks.tells (g.B.Blocks.seen c.args.self.now.blocks)
    (λ told image is. g.met.B.Blocks.images_may c.args.self.now.blocks image told is))
    c.requires.may.going held

pub returns-in-None-clause-less : goal.returns-in-None-clause-less
returns-in-None-clause-less g c told = less-still _ c.args.self.now c.args.self.now
    (λ is. no-area-define (same-ok refl is)) refl refl

pub returns-in_err-new-in-Some-clause-less : goal.returns-in_err-new-in-Some-clause-less
returns-in_err-new-in-Some-clause-less g c told = less-still _ c.args.self.now c.args.self.now
    (err-apart c.from_residual.result _ c.from_residual.ensures.1) refl refl
