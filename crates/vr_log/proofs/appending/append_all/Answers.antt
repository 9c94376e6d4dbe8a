use Rattle.std.proofs.Common.{arith}
use Rattle.vr_types.proofs.CallerLemmas.{keeps-none, keeps-touches}
use Rattle.vr_log.specs.LogNow.{HasLog, with_records}
use Rattle.vr_log.specs.Standing.{InLog}
use Rattle.vr_log.proofs.AllAppended.{has-first}
use Rattle.vr_log.proofs.Growing.{stands_has}
use Rattle.vr_log.proofs.appending.append_all.Goals as goal

pub returns-then-used-need-clause-moments : goal.returns-then-used-need-clause-moments
returns-then-used-need-clause-moments g c told =
    let B = g.B.Blocks in
    let log = c.args.log.now in
    let records = c.args.records.now in
    let a = B.seen c.args.blocks.now in
    keeps-touches B.tells (InLog log.geometry) (HasLog (with_records log records)) a a told
    (keeps-none B.tells a
    (λ told image left. g.met.B.Blocks.images_may c.args.blocks.now image told left))
    (λ image on. has-first log records image
    (stands_has log a image c.used-used.ensures.allowed
    (omega (arith, c.used-used.ensures.value, c.used-used.ensures.most))
    (c.requires.stands told) on))
