use Rattle.std.proofs.Common.{◌≡◌, ◌∙◌, subst, sym}
use Rattle.vr_event.specs.CatalogEdit.{EditFaultsBy, EnteredEdit}
use Rattle.vr_event.specs.declared.define.Define.TheVariants as defines
use Rattle.vr_event.specs.declared.edit.Edit.{Edit}
use Rattle.vr_event.proofs.EditStage.{stage-entered, stage-faults}
use Rattle.vr_event.proofs.UtilitySteps.{again-edit, less-as}
use Rattle.vr_event.proofs.volume.Volume.stage_edit.Goals as goal

pub returns-clause-entered : goal.returns-clause-entered
returns-clause-entered g c entry edit =
    let old = c.args.self.now in
    let new = c.stage_entry-staged.new.self in
    subst (λ (answer : Edit). EnteredEdit answer old.number c.args.after c.args.unit
    c.args.line edit old.file new.file) (sym c.as_edit.ensures.value)
    (stage-entered old.number c.args.after c.args.unit c.args.line entry edit old.file new.file
    c.stage_entry-staged.result c.stage_entry-staged.ensures.is
    (c.stage_entry-staged.ensures.entered entry) c.stage_entry-staged.ensures.stops)

pub returns-clause-cause : goal.returns-clause-cause
returns-clause-cause g c =
    let before = g.B.Blocks.faults c.args.self.now.blocks in
    let now = g.B.Blocks.faults c.stage_entry-staged.new.self.blocks in
    subst (λ (answer : Edit). EditFaultsBy answer before now)
    (sym c.as_edit.ensures.value)
    (stage-faults c.stage_entry-staged.result before now c.stage_entry-staged.ensures.is
    c.stage_entry-staged.ensures.cause)

pub returns-clause-less : goal.returns-clause-less
returns-clause-less g c told =
    let staged = c.stage_entry-staged.result in
    less-as (staged ≡ defines.Again) _ c.args.self.now c.stage_entry-staged.new.self
    (λ is. again-edit staged (sym c.as_edit.ensures.value ∙ is))
    (c.stage_entry-staged.ensures.less told)
