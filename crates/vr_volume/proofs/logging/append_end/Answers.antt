use Rattle.vr_log.specs.LogNow.{with_record}
use Rattle.vr_log.specs.declared.record.LogRecord.TheVariants.{End}
use Rattle.vr_volume.proofs.Endings.{safe-ended}
use Rattle.vr_volume.proofs.LogCalls.{appended-less, log-after, log-guards, safe-fewer}
use Rattle.vr_volume.proofs.logging.append_end.Goals as goal

pub returns-clause-safe : goal.returns-clause-safe
returns-clause-safe g c told number owners committed safe end =
    let B = g.B.Blocks in
    let log = c.args.log.now in
    let rec = End c.args.unit c.args.kind in
    let a = B.seen c.args.blocks.now in
    log-guards log.geometry number owners committed (with_record log rec) a
    (B.seen c.end_record.new.blocks)
    (safe-ended log.geometry number owners log committed a c.args.unit c.args.kind safe end)
    (c.end_record.ensures.moments told)

pub returns-in_err-end_record-clause-safe : goal.returns-in_err-end_record-clause-safe
returns-in_err-end_record-clause-safe g c told number owners committed safe end =
    let B = g.B.Blocks in
    let log = c.args.log.now in
    let rec = End c.args.unit c.args.kind in
    let a = B.seen c.args.blocks.now in
    log-guards log.geometry number owners committed (with_record log rec) a
    (B.seen c.end_record.new.blocks)
    (safe-ended log.geometry number owners log committed a c.args.unit c.args.kind safe end)
    (c.end_record.ensures.moments told)

pub returns-clause-ended : goal.returns-clause-ended
returns-clause-ended g c told number owners committed safe end =
    let B = g.B.Blocks in
    let log = c.args.log.now in
    let rec = End c.args.unit c.args.kind in
    let a = B.seen c.args.blocks.now in
    let b = B.seen c.end_record.new.blocks in
    let new = c.end_record.new.self in
    let appended = c.in_ok-end_record.ensures.log in
    safe-fewer log.geometry number owners committed (with_record log rec) new b
    (log-after log.geometry number owners committed (with_record log rec) a b
    (safe-ended log.geometry number owners log committed a c.args.unit c.args.kind safe end)
    (c.end_record.ensures.moments told))
    appended.geometry (appended-less log rec new appended) (c.in_ok-end_record.ensures.stands told)
