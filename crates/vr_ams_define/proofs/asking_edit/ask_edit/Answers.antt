use Rattle.std.proofs.Common.{refl, subst, sym, ◌∙◌}
use Rattle.vr_types.specs.declared.geometry.Geometry.{Geometry}
use Rattle.vr_edits.specs.Edits.{MayEdit}
use Rattle.vr_ams_define.specs.declared.answer.Changed.{Changed}
use Rattle.vr_ams_define.specs.Answers.Exchange.{Editing}
use Rattle.vr_ams_define.specs.Answers.HasStaged.{Staged, Unstaged}
use Rattle.vr_ams_define.specs.Edited.{IsShownEdited}
use Rattle.vr_trace.specs.Shown.{Shown}
use Rattle.vr_ams_define.proofs.Later.{later-nothing, later-then}
use Rattle.vr_ams_define.proofs.asking_edit.ask_edit.Goals as goal

pub loop-turn-init : goal.loop-turn-init
loop-turn-init g c = record {
  staged = Unstaged;
  shown = refl;
  later = later-nothing g.V.OwnedVolume.history g.V.OwnedVolume.goes c.args.line c.args.after
      c.args.volume.now (g.V.OwnedVolume.goes_nowhere c.args.volume.now);
  geometry = refl;
}

pub edit-requires-clause-edit : goal.edit-requires-clause-edit
edit-requires-clause-edit g c = subst
    (λ (one : Shown). MayEdit (g.V.OwnedVolume.geometry c.loop-turn.volume) one.catalog
    c.args.edit.now)
    (sym c.loop-turn.invariant.shown) (subst
    (λ (shape : Geometry). MayEdit shape (g.V.ShownVolume.shown c.args.volume.now).catalog
    c.args.edit.now)
    (sym c.loop-turn.invariant.geometry) c.requires.edit)

pub loop-turn-preserved : goal.loop-turn-preserved
loop-turn-preserved g c =
    let before = c.loop-turn.volume in
    let after = c.edit.new.self in
    let line = c.args.line in
    let edit = c.args.edit.now in
    let shown = g.V.ShownVolume.shown in record {
      staged = Staged before after c.loop-turn.invariant.staged
          (subst (λ (answer : Changed). g.V.OwnedVolume.answers before line (Editing edit answer)
          after) c.in-Again.is c.in_ok-answer.ensures.changed);
      shown = subst (λ (answer : Changed).
          IsShownEdited answer edit (shown before) (shown after))
          c.in-Again.is c.in_ok-answer.ensures.shown ∙ c.loop-turn.invariant.shown;
      later = later-then g.V.OwnedVolume.history g.V.OwnedVolume.goes g.V.OwnedVolume.goes_further
          line c.args.after c.args.volume.now before after c.loop-turn.invariant.later
          (record { is_later = c.edit.ensures.goes; entered = c.edit.ensures.entered });
      geometry = c.edit.ensures.geometry ∙ c.loop-turn.invariant.geometry;
    }

pub returns-in_err-answer-clause-later : goal.returns-in_err-answer-clause-later
returns-in_err-answer-clause-later g c = later-then g.V.OwnedVolume.history g.V.OwnedVolume.goes
    g.V.OwnedVolume.goes_further c.args.line c.args.after c.args.volume.now c.loop-turn.volume
    c.edit.new.self c.loop-turn.invariant.later
    (record { is_later = c.edit.ensures.goes; entered = c.edit.ensures.entered })

pub returns-in_default-clause-later : goal.returns-in_default-clause-later
returns-in_default-clause-later g c = later-then g.V.OwnedVolume.history g.V.OwnedVolume.goes
    g.V.OwnedVolume.goes_further c.args.line c.args.after c.args.volume.now c.loop-turn.volume
    c.edit.new.self c.loop-turn.invariant.later
    (record { is_later = c.edit.ensures.goes; entered = c.edit.ensures.entered })
