use Rattle.std.proofs.Common.{refl, true}
use Rattle.vr_ams_define.proofs.Deletions.{all-deleted, grew-now, left-next, left-now}
use Rattle.vr_ams_define.proofs.Deletions.{none-deleted, one-deleted}
use Rattle.vr_ams_define.proofs.deleting.delete_each.Goals as goal

pub loop-name-init : goal.loop-name-init
loop-name-init g c =
    let V = g.V.OwnedVolume in
    none-deleted g.V.ShownVolume.shown V.geometry V.answers V.history V.goes V.goes_nowhere
    V.goes_further c.args.line c.args.kind c.args.names.now c.args.volumes.now c.new.result
    c.new-2.result.items c.new.ensures c.new-2.ensures.items

pub returns-in_err-end-clause-left : goal.returns-in_err-end-clause-left
returns-in_err-end-clause-left g c none =
    let V = g.V.OwnedVolume in
    left-now g.V.ShownVolume.shown V.geometry V.answers V.history V.goes V.goes_nowhere
    V.goes_further c.args.line c.args.kind c.args.names.now c.args.volumes.now
    c.loop-name.name-index c.loop-name.volumes c.loop-name.deletions.lines
    c.loop-name.deletions.failures.items c.name-item.result c.loop-name.invariant
    c.loop-name-test.true c.name-item.is c.delete_one.new.volumes
    (c.in_err-end.ensures.unchanged
    (refl {a = true}))

pub returns-in_err-end-clause-ran : goal.returns-in_err-end-clause-ran
returns-in_err-end-clause-ran g c =
    let V = g.V.OwnedVolume in
    grew-now g.V.ShownVolume.shown V.geometry V.answers V.history V.goes V.goes_nowhere
    V.goes_further c.args.line c.args.kind c.args.names.now c.args.volumes.now
    c.loop-name.name-index c.loop-name.volumes c.loop-name.deletions.lines
    c.loop-name.deletions.failures.items c.name-item.result c.loop-name.invariant
    c.loop-name-test.true c.name-item.is c.delete_one.new.volumes c.delete_one.ensures.ran

pub returns-in_err-add-clause-left : goal.returns-in_err-add-clause-left
returns-in_err-add-clause-left g c none =
    let V = g.V.OwnedVolume in
    left-next g.V.ShownVolume.shown V.geometry V.answers V.history V.goes V.goes_nowhere
    V.goes_further c.args.line c.args.kind c.args.names.now c.args.volumes.now
    c.loop-name.name-index c.loop-name.volumes c.loop-name.deletions.lines
    c.loop-name.deletions.failures.items c.name-item.result c.loop-name.invariant
    c.loop-name-test.true c.name-item.is c.delete_one.new.volumes c.in_ok-end.end.why
    c.in_ok-end.end.lines c.in_ok-end.ensures.deleted

pub returns-in_err-add-clause-ran : goal.returns-in_err-add-clause-ran
returns-in_err-add-clause-ran g c =
    let V = g.V.OwnedVolume in
    grew-now g.V.ShownVolume.shown V.geometry V.answers V.history V.goes V.goes_nowhere
    V.goes_further c.args.line c.args.kind c.args.names.now c.args.volumes.now
    c.loop-name.name-index c.loop-name.volumes c.loop-name.deletions.lines
    c.loop-name.deletions.failures.items c.name-item.result c.loop-name.invariant
    c.loop-name-test.true c.name-item.is c.delete_one.new.volumes c.delete_one.ensures.ran

pub loop-name-preserved : goal.loop-name-preserved
loop-name-preserved g c =
    let V = g.V.OwnedVolume in
    one-deleted g.V.ShownVolume.shown V.geometry V.answers V.history V.goes V.goes_nowhere
    V.goes_further c.args.line c.args.kind c.args.names.now c.args.volumes.now
    c.loop-name.name-index c.loop-name.volumes c.loop-name.deletions.lines
    c.loop-name.deletions.failures.items c.name-item.result c.loop-name.invariant
    c.loop-name-test.true c.name-item.is c.delete_one.new.volumes c.in_ok-end.end.why
    c.in_ok-end.end.lines c.in_ok-end.ensures.deleted c.add.new.self.lines c.add.new.self.failures.items
    c.in_ok-add.ensures.lines c.in_ok-add.ensures.failures c.delete_one.ensures.ran
    c.delete_one.ensures.geometry

pub returns-clause-deleted : goal.returns-clause-deleted
returns-clause-deleted g c =
    let V = g.V.OwnedVolume in
    all-deleted g.V.ShownVolume.shown V.geometry V.answers V.history V.goes V.goes_nowhere
    V.goes_further c.args.line c.args.kind c.args.names.now c.args.volumes.now
    c.loop-name.name-index c.loop-name.volumes c.loop-name.deletions.lines
    c.loop-name.deletions.failures.items c.loop-name.invariant c.loop-name-test.false
