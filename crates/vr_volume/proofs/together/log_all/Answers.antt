use Rattle.std.proofs.Common.{◌∙◌, List, ap, subst, sym}
use Rattle.vr_types.specs.Regions.{Touches}
use Rattle.vr_types.specs.declared.geometry.Geometry.{Geometry}
use Rattle.vr_types.proofs.CallerLemmas.{touches-then, touches-weaken}
use Rattle.vr_log.specs.LogNow.{HasLog, LogNow, with_records}
use Rattle.vr_log.specs.Standing.{InLog}
use Rattle.vr_log.specs.declared.record.LogRecord.{LogRecord}
use Rattle.vr_volume.specs.Laying.{IsFreeIn}
use Rattle.vr_volume.specs.PutBack.{images_of, oldest}
use Rattle.vr_volume.proofs.LogCalls.{forced-free, forced-generation, forced-geometry}
use Rattle.vr_volume.proofs.LogCalls.{forced-records, forced-sound, log-after, log-guards}
use Rattle.vr_volume.proofs.LogCalls.{safe-fewer}
use Rattle.vr_volume.proofs.LoggedTogether.{are-logged, has-all, safe-all}
use Rattle.vr_volume.specs.Committed.{committed_by}
use Rattle.vr_volume.specs.Logged.{AreFirstBefores}
use Rattle.vr_volume.proofs.RestTogether.{firsts-may, part-kept, volume-kept}
use Rattle.vr_volume.proofs.together.log_all.Goals as goal

-- ---- nothing is touched but the log

pub returns-in_err-force-clause-touches : goal.returns-in_err-force-clause-touches
returns-in_err-force-clause-touches g c told =
    let B = g.B.Blocks in
    let log = c.args.log.now in
    let records = c.args.records.now in
    let mid = c.append_all.new.log in
    let a = B.seen c.args.blocks.now in
    let b = B.seen c.append_all.new.blocks in
    let d = B.seen c.force.new.blocks in
    let appended = c.in_ok-append_all.ensures.log in
    touches-then (InLog log.geometry) (HasLog (with_records log records)) a b d
    (c.append_all.ensures.moments told)
    (touches-weaken (InLog log.geometry) (HasLog mid) (HasLog (with_records log records)) b d
    (subst (λ (shape : Geometry). Touches (InLog shape) (HasLog mid) b d) appended.geometry
    (c.force.ensures.moments told)) (has-all log records mid appended))

pub returns-clause-touches : goal.returns-clause-touches
returns-clause-touches g c told =
    let B = g.B.Blocks in
    let log = c.args.log.now in
    let records = c.args.records.now in
    let mid = c.append_all.new.log in
    let a = B.seen c.args.blocks.now in
    let b = B.seen c.append_all.new.blocks in
    let d = B.seen c.force.new.blocks in
    let appended = c.in_ok-append_all.ensures.log in
    touches-then (InLog log.geometry) (HasLog (with_records log records)) a b d
    (c.append_all.ensures.moments told)
    (touches-weaken (InLog log.geometry) (HasLog mid) (HasLog (with_records log records)) b d
    (subst (λ (shape : Geometry). Touches (InLog shape) (HasLog mid) b d) appended.geometry
    (c.force.ensures.moments told)) (has-all log records mid appended))

pub returns-clause-logged : goal.returns-clause-logged
returns-clause-logged g c told =
    are-logged c.args.log.now c.args.records.now c.append_all.new.log c.force.new.self
    c.in_ok-append_all.ensures.log c.in_ok-force.ensures.forced
    (c.in_ok-append_all.ensures.stands told).behind (c.in_ok-append_all.ensures.stands told).forced

-- ---- each image is safe

pub returns-in_err-append_all-clause-any_moment : goal.returns-in_err-append_all-clause-any_moment
returns-in_err-append_all-clause-any_moment g c told number owners committed safe firsts =
    let B = g.B.Blocks in
    let log = c.args.log.now in
    let records = c.args.records.now in
    let a = B.seen c.args.blocks.now in
    log-guards log.geometry number owners committed (with_records log records) a
    (B.seen c.append_all.new.blocks)
    (safe-all log.geometry number owners committed a (g.met.B.Blocks.cur_may c.args.blocks.now told)
    log records safe firsts) (c.append_all.ensures.moments told)

pub returns-in_err-force-clause-any_moment : goal.returns-in_err-force-clause-any_moment
returns-in_err-force-clause-any_moment g c told number owners committed safe firsts =
    let B = g.B.Blocks in
    let log = c.args.log.now in
    let records = c.args.records.now in
    let a = B.seen c.args.blocks.now in
    log-guards log.geometry number owners committed (with_records log records) a
    (B.seen c.force.new.blocks)
    (safe-all log.geometry number owners committed a (g.met.B.Blocks.cur_may c.args.blocks.now told)
    log records safe firsts) (returns-in_err-force-clause-touches g c told)

pub returns-clause-any_moment : goal.returns-clause-any_moment
returns-clause-any_moment g c told number owners committed safe firsts =
    let B = g.B.Blocks in
    let log = c.args.log.now in
    let records = c.args.records.now in
    let a = B.seen c.args.blocks.now in
    log-guards log.geometry number owners committed (with_records log records) a
    (B.seen c.force.new.blocks)
    (safe-all log.geometry number owners committed a (g.met.B.Blocks.cur_may c.args.blocks.now told)
    log records safe firsts) (returns-clause-touches g c told)

pub returns-clause-after : goal.returns-clause-after
returns-clause-after g c told number owners committed safe firsts =
    let B = g.B.Blocks in
    let log = c.args.log.now in
    let records = c.args.records.now in
    let a = B.seen c.args.blocks.now in
    let d = B.seen c.force.new.blocks in
    let logged = returns-clause-logged g c told in
    safe-fewer log.geometry number owners committed (with_records log records) c.force.new.self d
    (log-after log.geometry number owners committed (with_records log records) a d
    (safe-all log.geometry number owners committed a (g.met.B.Blocks.cur_may c.args.blocks.now told)
    log records safe firsts) (returns-clause-touches g c told))
    logged.geometry logged.less (c.in_ok-force.ensures.stands told)

pub returns-clause-free : goal.returns-clause-free
returns-clause-free g c told part place has =
    let mid = c.append_all.new.log in
    let stands = c.in_ok-append_all.ensures.stands told in
    let is = c.in_ok-force.ensures.forced in
    subst (λ (l : LogNow). IsFreeIn l part place) (sym is)
    (forced-free mid stands.forced stands.behind part place
    (λ none. has (ap (λ (records : List LogRecord). oldest (images_of records) part place)
    (ap (λ (l : LogNow). l.records) is ∙ forced-records mid) ∙ none)))

-- ---- the log then

pub returns-clause-records : goal.returns-clause-records
returns-clause-records g c =
    ap (λ (l : LogNow). l.records) c.in_ok-force.ensures.forced
    ∙ forced-records c.append_all.new.log ∙ c.in_ok-append_all.ensures.log.all

pub returns-clause-geometry : goal.returns-clause-geometry
returns-clause-geometry g c =
    ap (λ (l : LogNow). l.geometry) c.in_ok-force.ensures.forced
    ∙ forced-geometry c.append_all.new.log ∙ c.in_ok-append_all.ensures.log.geometry

pub returns-clause-generation : goal.returns-clause-generation
returns-clause-generation g c =
    ap (λ (l : LogNow). l.generation) c.in_ok-force.ensures.forced
    ∙ forced-generation c.append_all.new.log ∙ c.in_ok-append_all.ensures.log.generation

pub returns-clause-sound : goal.returns-clause-sound
returns-clause-sound g c =
    ap (λ (l : LogNow). l.broken) c.in_ok-force.ensures.forced
    ∙ forced-sound c.append_all.new.log ∙ c.in_ok-append_all.ensures.log.sound

-- ---- at rest

pub returns-clause-at_rest : goal.returns-clause-at_rest
returns-clause-at_rest g c told number owners old new changes images rest may some are kept =
    let B = g.B.Blocks in
    let log = c.args.log.now in
    volume-kept rest may kept some are (returns-clause-logged g c told)
    ((returns-clause-after g c told) number owners (committed_by old) rest.safe
    (subst (AreFirstBefores log.geometry log (committed_by old)) (sym are) (firsts-may rest may)))
    (c.in_ok-force.ensures.stands told)

pub returns-clause-parts : goal.returns-clause-parts
returns-clause-parts g c told number owners old new changes images shape known rest may some are kept
    part =
    let B = g.B.Blocks in
    let log = c.args.log.now in
    part-kept rest may kept some are (returns-clause-logged g c told)
    ((returns-clause-after g c told) number owners (committed_by old) rest.safe
    (subst (AreFirstBefores log.geometry log (committed_by old)) (sym are) (firsts-may rest may)))
    (c.in_ok-force.ensures.stands told) shape known
    (HasLog (with_records log c.args.records.now)) (g.met.B.Blocks.cur_may c.args.blocks.now told)
    (returns-clause-touches g c told) part
