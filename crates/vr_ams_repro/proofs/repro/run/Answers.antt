use Rattle.std.proofs.Common.{◌∙◌, ◌<◌, [], ◌∷◌, ℕ, subst, sym}
use Rattle.vr_ams_define.proofs.GrownLemmas.{run-again}
use Rattle.vr_ams_print.proofs.Sources.{within}
use Rattle.vr_ams_repro.proofs.repro.run.Goals as goal

pub end-requires : goal.end-requires
end-requires g c = record {
  within = subst (λ (count : ℕ). c.args.load.now.target.place < count)
      (sym c.fill.ensures.ran.count)
      (within g.V.ShownVolume.shown c.args.volumes.now c.args.load.now.target c.requires.target);
}

pub returns-in_err-last-clause-ran : goal.returns-in_err-last-clause-ran
returns-in_err-last-clause-ran g c = run-again g.V.OwnedVolume.history g.V.OwnedVolume.goes
    g.V.OwnedVolume.goes_further (c.args.load.now.line ∷ []) c.args.volumes.now
    c.fill.new.volumes c.end.new.volumes c.fill.ensures.ran c.end.ensures.ran

pub returns-in_err-outcome_of-clause-ran : goal.returns-in_err-outcome_of-clause-ran
returns-in_err-outcome_of-clause-ran g c = run-again g.V.OwnedVolume.history
    g.V.OwnedVolume.goes g.V.OwnedVolume.goes_further (c.args.load.now.line ∷ [])
    c.args.volumes.now c.fill.new.volumes c.end.new.volumes c.fill.ensures.ran
    c.end.ensures.ran

pub returns-clause-ran : goal.returns-clause-ran
returns-clause-ran g c = run-again g.V.OwnedVolume.history g.V.OwnedVolume.goes
    g.V.OwnedVolume.goes_further (c.args.load.now.line ∷ []) c.args.volumes.now
    c.fill.new.volumes c.end.new.volumes c.fill.ensures.ran c.end.ensures.ran

pub returns-clause-run : goal.returns-clause-run
returns-clause-run g c = record {
  progress = c.fill.new.progress;
  between = c.fill.new.volumes;
  filled = c.in_ok-fill.ensures.filled;
  last = c.in_ok-last.last;
  ended = c.in_ok-last.ensures.ended;
  outcome_is = c.in_ok-outcome_of.ensures;
}
