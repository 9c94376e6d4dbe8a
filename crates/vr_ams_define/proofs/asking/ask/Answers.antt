use Rattle.std.proofs.Common.{refl, subst, ◌∙◌}
use Rattle.vr_ams_define.specs.declared.answer.Defined.{Defined}
use Rattle.vr_ams_define.specs.Answers.{IsShownAfter}
use Rattle.vr_ams_define.specs.Answers.Exchange.{Defining}
use Rattle.vr_ams_define.specs.Answers.HasStaged.{Staged, Unstaged}
use Rattle.vr_ams_define.proofs.Later.{later-nothing, later-then}
use Rattle.vr_ams_define.proofs.asking.ask.Goals as goal

pub loop-turn-init : goal.loop-turn-init
loop-turn-init g c = record {
  staged = Unstaged;
  shown = refl;
  later = later-nothing g.V.OwnedVolume.history g.V.OwnedVolume.goes c.args.line c.args.after
      c.args.volume.now (g.V.OwnedVolume.goes_nowhere c.args.volume.now);
  geometry = refl;
}

pub loop-turn-preserved : goal.loop-turn-preserved
loop-turn-preserved g c =
    let before = c.loop-turn.volume in
    let after = c.define.new.self in
    let line = c.args.line in
    let entry = c.args.entry.now in
    let shown = g.V.ShownVolume.shown in record {
      staged = Staged before after c.loop-turn.invariant.staged
          (subst (λ (answer : Defined). g.V.OwnedVolume.answers before line
          (Defining entry answer) after)
          c.in-Again.is c.in_ok-answer.ensures.answered);
      shown = subst (λ (answer : Defined). IsShownAfter answer entry (shown before) (shown after))
          c.in-Again.is c.in_ok-answer.ensures.shown ∙ c.loop-turn.invariant.shown;
      later = later-then g.V.OwnedVolume.history g.V.OwnedVolume.goes g.V.OwnedVolume.goes_further
          line c.args.after c.args.volume.now before after c.loop-turn.invariant.later
          (record { is_later = c.define.ensures.goes; entered = c.define.ensures.entered });
      geometry = c.define.ensures.geometry ∙ c.loop-turn.invariant.geometry;
    }

pub returns-in_err-answer-clause-later : goal.returns-in_err-answer-clause-later
returns-in_err-answer-clause-later g c = later-then g.V.OwnedVolume.history g.V.OwnedVolume.goes
    g.V.OwnedVolume.goes_further c.args.line c.args.after c.args.volume.now c.loop-turn.volume
    c.define.new.self c.loop-turn.invariant.later
    (record { is_later = c.define.ensures.goes; entered = c.define.ensures.entered })

pub returns-in_default-clause-later : goal.returns-in_default-clause-later
returns-in_default-clause-later g c = later-then g.V.OwnedVolume.history g.V.OwnedVolume.goes
    g.V.OwnedVolume.goes_further c.args.line c.args.after c.args.volume.now c.loop-turn.volume
    c.define.new.self c.loop-turn.invariant.later
    (record { is_later = c.define.ensures.goes; entered = c.define.ensures.entered })
