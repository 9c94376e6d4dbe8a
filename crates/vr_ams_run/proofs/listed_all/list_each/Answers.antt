use Rattle.std.proofs.Common.{Option, subst}
use Rattle.vr_types.specs.declared.fault.DeviceFault.{DeviceFault}
use Rattle.vr_ams_run.specs.Counting.{IsListedOne}
use Rattle.vr_ams_run.proofs.Listings.{come-failed, come-none, come-one, going-now, grew-now}
use Rattle.vr_ams_run.proofs.Listings.{there-now}
use Rattle.vr_ams_run.proofs.listed_all.list_each.Goals as goal

pub loop-listed-init : goal.loop-listed-init
loop-listed-init g c =
    let V = g.V.OwnedVolume in
    come-none g.V.ShownVolume.shown V.geometry V.answers V.history V.goes V.goes_nowhere
    V.goes_further c.args.line c.args.entries.now c.args.volumes.now c.args.out.now

pub list_one-requires-clause-there : goal.list_one-requires-clause-there
list_one-requires-clause-there g c =
    let V = g.V.OwnedVolume in
    there-now g.V.ShownVolume.shown V.geometry V.answers V.history V.goes V.goes_nowhere
    V.goes_further c.args.line c.args.entries.now c.args.volumes.now c.args.out.now
    c.loop-listed.listed-index c.loop-listed.volumes c.loop-listed.out c.listed-item.result
    c.loop-listed.invariant c.loop-listed-test.true c.listed-item.is c.requires.there

pub list_one-requires-clause-going : goal.list_one-requires-clause-going
list_one-requires-clause-going g c =
    let V = g.V.OwnedVolume in
    going-now g.V.ShownVolume.shown V.geometry V.answers V.history V.goes V.goes_nowhere
    V.goes_further c.args.line c.args.entries.now c.args.volumes.now c.args.out.now
    c.loop-listed.listed-index c.loop-listed.volumes c.loop-listed.out c.listed-item.result
    c.loop-listed.invariant c.loop-listed-test.true c.listed-item.is c.requires.going

pub returns-in_err-fault-clause-grew : goal.returns-in_err-fault-clause-grew
returns-in_err-fault-clause-grew g c =
    let V = g.V.OwnedVolume in
    grew-now g.V.ShownVolume.shown V.geometry V.answers V.history V.goes V.goes_nowhere
    V.goes_further c.args.line c.args.entries.now c.args.volumes.now c.args.out.now
    c.loop-listed.listed-index c.loop-listed.volumes c.loop-listed.out c.listed-item.result
    c.loop-listed.invariant c.loop-listed-test.true c.listed-item.is c.list_one.new.volumes
    c.list_one.ensures.grew

pub returns-in-Some-clause-grew : goal.returns-in-Some-clause-grew
returns-in-Some-clause-grew g c =
    let V = g.V.OwnedVolume in
    grew-now g.V.ShownVolume.shown V.geometry V.answers V.history V.goes V.goes_nowhere
    V.goes_further c.args.line c.args.entries.now c.args.volumes.now c.args.out.now
    c.loop-listed.listed-index c.loop-listed.volumes c.loop-listed.out c.listed-item.result
    c.loop-listed.invariant c.loop-listed-test.true c.listed-item.is c.list_one.new.volumes
    c.list_one.ensures.grew

pub returns-in-Some-clause-listed : goal.returns-in-Some-clause-listed
returns-in-Some-clause-listed g c =
    let V = g.V.OwnedVolume in
    come-failed g.V.ShownVolume.shown V.geometry V.answers V.history V.goes V.goes_nowhere
    V.goes_further c.args.line c.args.entries.now c.args.volumes.now c.args.out.now
    c.loop-listed.listed-index c.loop-listed.volumes c.loop-listed.out c.listed-item.result
    c.loop-listed.invariant c.loop-listed-test.true c.listed-item.is c.list_one.new.volumes
    c.in-Some.fault
    (subst (λ (came : Option DeviceFault). IsListedOne g.V.ShownVolume.shown V.answers c.args.line
    c.listed-item.result c.loop-listed.volumes c.list_one.new.volumes c.loop-listed.out
    c.list_one.new.out came) c.in-Some.is c.in_ok-fault.ensures.listed)

pub loop-listed-preserved : goal.loop-listed-preserved
loop-listed-preserved g c =
    let V = g.V.OwnedVolume in
    come-one g.V.ShownVolume.shown V.geometry V.answers V.history V.goes V.goes_nowhere
    V.goes_further c.args.line c.args.entries.now c.args.volumes.now c.args.out.now
    c.loop-listed.listed-index c.loop-listed.volumes c.loop-listed.out c.listed-item.result
    c.loop-listed.invariant c.loop-listed-test.true c.listed-item.is c.list_one.new.volumes
    c.list_one.new.out
    (subst (λ (came : Option DeviceFault). IsListedOne g.V.ShownVolume.shown V.answers c.args.line
    c.listed-item.result c.loop-listed.volumes c.list_one.new.volumes c.loop-listed.out
    c.list_one.new.out came) c.in_default.is c.in_ok-fault.ensures.listed)
    c.list_one.ensures.grew c.list_one.ensures.geometry
