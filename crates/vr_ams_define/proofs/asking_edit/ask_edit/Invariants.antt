use Rattle.std.proofs.Common.{◌≡◌}
use Rattle.vr_ams_define.specs.Answers.{HasStaged}
use Rattle.vr_ams_define.specs.Answers.Exchange.{Editing}
use Rattle.vr_ams_define.specs.declared.answer.Changed.TheVariants.{Again}
use Rattle.vr_ams_define.specs.Steps.{IsLater}
use Rattle.vr_ams_define.proofs.asking_edit.ask_edit.Given as goal

-- the volume did stages, and shows what it showed
abbrev pub invariant-loop-turn : goal.invariant-loop-turn
invariant-loop-turn g l = record {
  staged : HasStaged g.V.OwnedVolume.answers l.line (Editing l.edit Again) l.fn.volume l.volume;
  shown : g.V.ShownVolume.shown l.volume ≡ g.V.ShownVolume.shown l.fn.volume;
  later : IsLater g.V.OwnedVolume.history g.V.OwnedVolume.goes l.line l.after l.fn.volume
      l.volume;
  geometry : g.V.OwnedVolume.geometry l.volume ≡ g.V.OwnedVolume.geometry l.fn.volume;
}
