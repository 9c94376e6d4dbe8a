use Rattle.std.proofs.Common.{IfOk, List, subst}
use Rattle.vr_ams_define.specs.Grown.{AreRunOn}
use Rattle.vr_ams_run.specs.Running.{IsReport, lines_of}
use Rattle.vr_amsparse.specs.declared.command.Node.{Node}
use Rattle.vr_worker.proofs.UtilityRuns.{ran-as, still-placed, utilities-left}
use Rattle.vr_worker.proofs.utilities.run_utilities.Given.{Over}
use Rattle.vr_worker.proofs.utilities.run_utilities.Goals as goal

grew : (g : Over) (c : goal.After-shown g)
    → AreRunOn g.V.OwnedVolume.history g.V.OwnedVolume.goes
    (lines_of c.args.step.now.commands) c.args.volumes.now c.run_commands-end.new.volumes
grew g c = subst (λ (commands : List Node). AreRunOn g.V.OwnedVolume.history
    g.V.OwnedVolume.goes (lines_of commands) c.args.volumes.now c.run_commands-end.new.volumes)
    c.as_slice.ensures c.run_commands-end.ensures.grew

pub returns-clause-placed : goal.returns-clause-placed
returns-clause-placed g c =
    let V = g.V.Served in
    let own = g.V.OwnedVolume in
    let laws = g.met.V.Cataloged in
    still-placed V.number g.V.ShownVolume.shown V.entries own.history V.follows own.goes
    laws.same_history laws.goes_follows laws.goes_number c.args.step.now c.args.volumes.now
    c.run_commands-end.new.volumes (grew g c) c.requires.placed

pub returns-clause-left : goal.returns-clause-left
returns-clause-left g c =
    let V = g.V.Served in
    let own = g.V.OwnedVolume in
    let laws = g.met.V.Cataloged in
    utilities-left V.number g.V.ShownVolume.shown V.entries own.history V.follows own.goes
    laws.same_history laws.goes_follows laws.goes_number c.args.step.now c.args.volumes.now
    c.run_commands-end.new.volumes (grew g c) c.greatest_of-stamp.ensures.stamped

pub returns-clause-ran : goal.returns-clause-ran
returns-clause-ran g c =
    let shown = g.V.ShownVolume.shown in
    let own = g.V.OwnedVolume in
    let old = c.args.volumes.now in
    let new = c.run_commands-end.new.volumes in
    ran-as (IsReport shown own.geometry own.answers c.args.step.now.commands old new)
    c.run_commands-end.result c.shown.result c.shown.ensures.done
    (subst (λ (commands : List Node). IfOk c.run_commands-end.result
    (IsReport shown own.geometry own.answers commands old new)) c.as_slice.ensures
    c.run_commands-end.ensures.ran)
