use Rattle.std.proofs.Common.{◌≢◌, ◌++◌, ◌∷◌, [], List, None, subst, sym, ap, ◌∙◌}
use Rattle.vr_log.specs.LogNow.{with_record}
use Rattle.vr_log.specs.declared.record.LogRecord.{LogRecord}
use Rattle.vr_volume.specs.PutBack.{images_of, oldest}
use Rattle.vr_volume.specs.Safe.{IsSafe}
use Rattle.vr_volume.proofs.Befores.{safe-more}
use Rattle.vr_volume.proofs.LogCalls.{appended-less, first-there, log-after, log-guards, safe-fewer}
use Rattle.vr_volume.proofs.logging.append_before.Goals as goal

pub returns-in_err-place-clause-safe : goal.returns-in_err-place-clause-safe
returns-in_err-place-clause-safe g c told number owners committed unit part place old is safe next =
    let B = g.B.Blocks in
    let log = c.args.log.now in
    let a = B.seen c.args.blocks.now in
    let more = subst
    (λ (r : LogRecord). IsSafe log.geometry number owners (with_record log r) committed a) (sym is)
    (safe-more log.geometry number owners log committed a unit part place old safe
    (g.met.B.Blocks.cur_may c.args.blocks.now told) next) in
    log-guards log.geometry number owners committed (with_record log c.args.rec.now) a
    (B.seen c.append.new.blocks) more (c.append.ensures.moments told)

pub returns-clause-safe : goal.returns-clause-safe
returns-clause-safe g c told number owners committed unit part place old is safe next =
    let B = g.B.Blocks in
    let log = c.args.log.now in
    let a = B.seen c.args.blocks.now in
    let more = subst
    (λ (r : LogRecord). IsSafe log.geometry number owners (with_record log r) committed a) (sym is)
    (safe-more log.geometry number owners log committed a unit part place old safe
    (g.met.B.Blocks.cur_may c.args.blocks.now told) next) in
    log-guards log.geometry number owners committed (with_record log c.args.rec.now) a
    (B.seen c.append.new.blocks) more (c.append.ensures.moments told)

pub returns-clause-appended : goal.returns-clause-appended
returns-clause-appended g c told number owners committed unit part place old is safe next =
    let B = g.B.Blocks in
    let log = c.args.log.now in
    let a = B.seen c.args.blocks.now in
    let b = B.seen c.append.new.blocks in
    let new = c.append.new.self in
    let appended = c.in_ok-place.ensures.log in
    let more = subst
    (λ (r : LogRecord). IsSafe log.geometry number owners (with_record log r) committed a) (sym is)
    (safe-more log.geometry number owners log committed a unit part place old safe
    (g.met.B.Blocks.cur_may c.args.blocks.now told) next) in (
      safe-fewer log.geometry number owners committed (with_record log c.args.rec.now) new b
          (log-after log.geometry number owners committed (with_record log c.args.rec.now) a b more
          (c.append.ensures.moments told))
          appended.geometry (appended-less log c.args.rec.now new appended)
          (c.in_ok-place.ensures.stands told),
      subst (λ (records : List LogRecord). oldest (images_of records) part.0 place ≢ None)
          (ap (λ (r : LogRecord). log.records ++ r ∷ []) (sym is) ∙ sym appended.records)
          (first-there log.geometry log committed unit part place old next),
    )
