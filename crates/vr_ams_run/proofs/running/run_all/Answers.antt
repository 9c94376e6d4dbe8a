use Rattle.vr_ams_run.proofs.Runs.{come-all, come-failed, come-none, come-one, grew-all}
use Rattle.vr_ams_run.proofs.running.run_all.Goals as goal

pub loop-node-init : goal.loop-node-init
loop-node-init g c =
    let V = g.V.OwnedVolume in
    come-none g.V.ShownVolume.shown V.geometry V.answers V.history V.goes V.goes_nowhere
    V.goes_further c.args.commands.now
    (record { volumes = c.args.volumes.now; going = c.args.going.now })

pub loop-node-preserved : goal.loop-node-preserved
loop-node-preserved g c =
    let V = g.V.OwnedVolume in
    come-one g.V.ShownVolume.shown V.geometry V.answers V.history V.goes V.goes_nowhere
    V.goes_further c.args.commands.now
    (record { volumes = c.args.volumes.now; going = c.args.going.now })
    c.loop-node.node-index
    (record { volumes = c.loop-node.volumes; going = c.loop-node.going }) c.node-item.result
    (record { volumes = c.run_node.new.volumes; going = c.run_node.new.going })
    c.loop-node.invariant c.loop-node-test.true c.node-item.is c.in_ok-run_node.ensures.ran
    c.run_node.ensures.grew

pub returns-in_err-run_node-clause-grew : goal.returns-in_err-run_node-clause-grew
returns-in_err-run_node-clause-grew g c =
    let V = g.V.OwnedVolume in
    come-failed g.V.ShownVolume.shown V.geometry V.answers V.history V.goes V.goes_nowhere
    V.goes_further c.args.commands.now
    (record { volumes = c.args.volumes.now; going = c.args.going.now })
    c.loop-node.node-index
    (record { volumes = c.loop-node.volumes; going = c.loop-node.going }) c.node-item.result
    c.run_node.new.volumes c.loop-node.invariant c.loop-node-test.true c.node-item.is
    c.run_node.ensures.grew

pub returns-clause-ran : goal.returns-clause-ran
returns-clause-ran g c =
    let V = g.V.OwnedVolume in
    come-all g.V.ShownVolume.shown V.geometry V.answers V.history V.goes V.goes_nowhere
    V.goes_further c.args.commands.now
    (record { volumes = c.args.volumes.now; going = c.args.going.now })
    c.loop-node.node-index
    (record { volumes = c.loop-node.volumes; going = c.loop-node.going }) c.loop-node.invariant
    c.loop-node-test.false

pub returns-clause-grew : goal.returns-clause-grew
returns-clause-grew g c =
    let V = g.V.OwnedVolume in
    grew-all g.V.ShownVolume.shown V.geometry V.answers V.history V.goes V.goes_nowhere
    V.goes_further c.args.commands.now
    (record { volumes = c.args.volumes.now; going = c.args.going.now })
    c.loop-node.node-index
    (record { volumes = c.loop-node.volumes; going = c.loop-node.going }) c.loop-node.invariant
