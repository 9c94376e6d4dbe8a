use Rattle.std.proofs.Common.{Option, false, subst}
use Rattle.vr_types.specs.declared.unit.Kind.{Kind}
use Rattle.vr_ams_print.proofs.Sources.{there-of}
use Rattle.vr_ams_repro.specs.Outcomes.{IsRunWith}
use Rattle.vr_ams_repro.proofs.Found.{if-ok, source-there}
use Rattle.vr_ams_repro.proofs.repro.run_between.Goals as goal

pub run-requires-clause-target : goal.run-requires-clause-target
run-requires-clause-target g c = there-of false _ c.args.command.now.target
    c.args.ends.target c.requires.ends.are.target

pub run-requires-clause-source : goal.run-requires-clause-source
run-requires-clause-source g c = source-there _ _ c.args.command.now.source
    c.args.ends.source c.requires.ends.are.source

pub returns-clause-run : goal.returns-clause-run
returns-clause-run g c = if-ok c.run.result (λ outcome run. record {
  ends = c.args.ends;
  ends_are = c.requires.ends.are;
  apart = c.requires.ends.apart;
  run = subst (λ (kind : Option Kind). IsRunWith g.V.ShownVolume.shown g.V.OwnedVolume.answers
      g.V.FilledVolume.replies (record {
        line = c.args.line;
        source = kind;
        target = c.args.ends.target;
        replace = c.args.command.now.replace;
      }) c.args.ends.source c.args.command.now c.args.cards.now c.args.volumes.now
      c.run.new.volumes outcome) c.kind_of.ensures run;
}) c.run.ensures.run
