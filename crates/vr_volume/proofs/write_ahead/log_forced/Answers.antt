use Rattle.std.proofs.Common.{subst}
use Rattle.vr_types.specs.Regions.{Touches}
use Rattle.vr_types.proofs.CallerLemmas.{touches-then, touches-weaken}
use Rattle.vr_types.specs.declared.geometry.Geometry.{Geometry}
use Rattle.vr_log.specs.LogNow.{HasLog, with_record}
use Rattle.vr_log.specs.Standing.{InLog}
use Rattle.vr_volume.proofs.LogCalls.{has-less, is-logged}
use Rattle.vr_volume.proofs.write_ahead.log_forced.Goals as goal

pub returns-in_err-force-clause-touches : goal.returns-in_err-force-clause-touches
returns-in_err-force-clause-touches g c told =
    let B = g.B.Blocks in
    let log = c.args.log.now in
    let rec = c.args.rec.now in
    let mid = c.append.new.self in
    let a = B.seen c.args.blocks.now in
    let b = B.seen c.append.new.blocks in
    let d = B.seen c.force.new.blocks in
    let appended = c.in_ok-append.ensures.log in
    let forces = subst (λ (shape : Geometry). Touches (InLog shape) (HasLog mid) b d)
    appended.geometry (c.force.ensures.moments told) in
    touches-then (InLog log.geometry) (HasLog (with_record log rec)) a b d
    (c.append.ensures.moments told)
    (touches-weaken (InLog log.geometry) (HasLog mid) (HasLog (with_record log rec)) b d forces
    (has-less log rec mid appended))

pub returns-clause-touches : goal.returns-clause-touches
returns-clause-touches g c told =
    let B = g.B.Blocks in
    let log = c.args.log.now in
    let rec = c.args.rec.now in
    let mid = c.append.new.self in
    let a = B.seen c.args.blocks.now in
    let b = B.seen c.append.new.blocks in
    let d = B.seen c.force.new.blocks in
    let appended = c.in_ok-append.ensures.log in
    let forces = subst (λ (shape : Geometry). Touches (InLog shape) (HasLog mid) b d)
    appended.geometry (c.force.ensures.moments told) in
    touches-then (InLog log.geometry) (HasLog (with_record log rec)) a b d
    (c.append.ensures.moments told)
    (touches-weaken (InLog log.geometry) (HasLog mid) (HasLog (with_record log rec)) b d forces
    (has-less log rec mid appended))

pub returns-clause-logged : goal.returns-clause-logged
returns-clause-logged g c told =
    is-logged c.args.log.now c.args.rec.now c.append.new.self c.force.new.self
    (c.requires.stands told).forced c.in_ok-append.ensures.log c.in_ok-force.ensures.forced
    (c.in_ok-append.ensures.stands told).behind (c.in_ok-append.ensures.stands told).forced
