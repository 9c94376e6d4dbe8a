use Rattle.std.proofs.Common.{subst}
use Rattle.vr_types.specs.Regions.{Touches}
use Rattle.vr_types.proofs.CallerLemmas.{touches-then, touches-weaken}
use Rattle.vr_types.specs.declared.geometry.Geometry.{Geometry}
use Rattle.vr_log.specs.LogNow.{HasLog, with_record}
use Rattle.vr_log.specs.Standing.{InLog}
use Rattle.vr_log.specs.declared.record.LogRecord.TheVariants.{End}
use Rattle.vr_volume.proofs.EndCalls.{end-forced}
use Rattle.vr_volume.proofs.LogCalls.{has-less, is-logged}
use Rattle.vr_volume.proofs.unit_end.log_end.Goals as goal

pub returns-in_err-force-clause-touches : goal.returns-in_err-force-clause-touches
returns-in_err-force-clause-touches g c told =
    let B = g.B.Blocks in
    let log = c.args.log.now in
    let rec = End c.args.unit c.args.kind in
    let mid = c.end_record.new.self in
    let a = B.seen c.args.blocks.now in
    let b = B.seen c.end_record.new.blocks in
    let d = B.seen c.force.new.blocks in
    let appended = c.in_ok-end_record.ensures.log in
    let forces = subst (λ (shape : Geometry). Touches (InLog shape) (HasLog mid) b d)
    appended.geometry (c.force.ensures.moments told) in
    touches-then (InLog log.geometry) (HasLog (with_record log rec)) a b d
    (c.end_record.ensures.moments told)
    (touches-weaken (InLog log.geometry) (HasLog mid) (HasLog (with_record log rec)) b d forces
    (has-less log rec mid appended))

pub returns-clause-touches : goal.returns-clause-touches
returns-clause-touches g c told =
    let B = g.B.Blocks in
    let log = c.args.log.now in
    let rec = End c.args.unit c.args.kind in
    let mid = c.end_record.new.self in
    let a = B.seen c.args.blocks.now in
    let b = B.seen c.end_record.new.blocks in
    let d = B.seen c.force.new.blocks in
    let appended = c.in_ok-end_record.ensures.log in
    let forces = subst (λ (shape : Geometry). Touches (InLog shape) (HasLog mid) b d)
    appended.geometry (c.force.ensures.moments told) in
    touches-then (InLog log.geometry) (HasLog (with_record log rec)) a b d
    (c.end_record.ensures.moments told)
    (touches-weaken (InLog log.geometry) (HasLog mid) (HasLog (with_record log rec)) b d forces
    (has-less log rec mid appended))

pub returns-clause-logged : goal.returns-clause-logged
returns-clause-logged g c told =
    is-logged c.args.log.now (End c.args.unit c.args.kind) c.end_record.new.self c.force.new.self
    (c.requires.stands told).forced c.in_ok-end_record.ensures.log c.in_ok-force.ensures.forced
    (c.in_ok-end_record.ensures.stands told).behind (c.in_ok-end_record.ensures.stands told).forced

pub returns-clause-log : goal.returns-clause-log
returns-clause-log g c = end-forced c.args.log.now c.end_record.new.self c.force.new.self c.args.unit
    c.args.kind c.in_ok-end_record.ensures.log c.in_ok-force.ensures.forced
