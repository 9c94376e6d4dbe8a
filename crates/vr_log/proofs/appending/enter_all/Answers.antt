use Rattle.std.proofs.Common.{◌≡◌, ◌∷◌, ◌++◌, ◌+◌, ◌≤◌, [], List, refl, sym, ap, subst, ◌∙◌, take}
use Rattle.std.proofs.Common.{arith, inl}
use Rattle.std.proofs.lemmas.List.{take_all, take_more}
use Rattle.std.proofs.lemmas.List.Elements.{All-get_or}
use Rattle.vr_types.specs.Regions.{Touches}
use Rattle.vr_types.specs.declared.geometry.Geometry.{Geometry}
use Rattle.vr_types.specs.LogSpace.{log_size}
use Rattle.vr_types.proofs.CallerLemmas.{keeps-none, keeps-touches, touches-then, touches-weaken}
use Rattle.vr_log.specs.Live.{IsBeforeOf, live_in, need_of, need_of_all, used_by}
use Rattle.vr_log.specs.LogNow.{AreAppended, HasLog, with_record, with_records}
use Rattle.vr_log.specs.Standing.{InLog}
use Rattle.vr_log.specs.declared.record.LogRecord.{LogRecord}
use Rattle.vr_log.proofs.AllAppended.{appended-more, has-first, moments-more, none-appended}
use Rattle.vr_log.proofs.AllNeeds.{next-room, next-used}
use Rattle.vr_log.proofs.Growing.{stands_has}
use Rattle.vr_log.proofs.appending.enter_all.Goals as goal

pub loop-rec-init : goal.loop-rec-init
loop-rec-init g c = record {
  log = none-appended c.args.log.now c.requires.sound;
  shape = c.requires.shape;
  stands = c.requires.stands;
  faults = refl;
  used = omega arith;
  moments = λ told.
      let B = g.B.Blocks in
      let log = c.args.log.now in
      let records = c.args.records.now in
      let a = B.seen c.args.blocks.now in
      let stands = c.requires.stands told in
      keeps-touches B.tells (InLog log.geometry) (HasLog (with_records log records)) a a told
      (keeps-none B.tells a
      (λ told image left. g.met.B.Blocks.images_may c.args.blocks.now image told left))
      (λ image on. has-first log records image
      (stands_has log a image stands.allowed stands.fits stands on));
}

pub enter-requires-clause-room : goal.enter-requires-clause-room
enter-requires-clause-room g c fits =
    let records = c.args.records.now in
    let i = c.loop-rec.rec-index in
    let rec = c.rec-item.result in
    let live = live_in c.loop-rec.log.records in
    subst (λ (shape : Geometry).
    used_by c.loop-rec.log.records + need_of live rec ≤ log_size shape)
    (sym c.loop-rec.invariant.log.geometry)
    (next-room c.args.log.now.records c.loop-rec.log.records records i rec
    (log_size c.args.log.now.geometry) c.requires.room c.loop-rec.invariant.log.all
    c.loop-rec.invariant.used
    (take_more records i rec c.loop-rec-test.true
    ∙ ap (λ (r : LogRecord). take i records ++ r ∷ []) (sym c.rec-item.is))
    c.args.unit
    (subst (IsBeforeOf c.args.unit) (sym c.rec-item.is)
    (All-get_or (IsBeforeOf c.args.unit) records i rec c.loop-rec-test.true c.requires.unit)))

pub returns-in_err-enter-clause-moments : goal.returns-in_err-enter-clause-moments
returns-in_err-enter-clause-moments g c told =
    let records = c.args.records.now in
    let i = c.loop-rec.rec-index in
    let rec = c.rec-item.result in
    moments-more c.args.log.now records i rec c.loop-rec.log (g.B.Blocks.seen c.args.blocks.now)
    (g.B.Blocks.seen c.loop-rec.blocks) (g.B.Blocks.seen c.enter.new.blocks)
    c.loop-rec.invariant.log
    (take_more records i rec c.loop-rec-test.true
    ∙ ap (λ (r : LogRecord). take i records ++ r ∷ []) (sym c.rec-item.is))
    (c.loop-rec.invariant.moments told) (c.enter.ensures.moments told)

pub loop-rec-preserved : goal.loop-rec-preserved
loop-rec-preserved g c =
    let log = c.args.log.now in
    let records = c.args.records.now in
    let mid = c.loop-rec.log in
    let rec = c.rec-item.result in
    let appended = c.in_ok-enter.ensures.log in
    let more : take (c.loop-rec.rec-index + 1) records
    ≡ take c.loop-rec.rec-index records ++ rec ∷ [] =
    take_more records c.loop-rec.rec-index rec c.loop-rec-test.true
    ∙ ap (λ (r : LogRecord). take c.loop-rec.rec-index records ++ r ∷ []) (sym c.rec-item.is) in
    let mine : IsBeforeOf c.args.unit rec =
    subst (IsBeforeOf c.args.unit) (sym c.rec-item.is)
    (All-get_or (IsBeforeOf c.args.unit) records c.loop-rec.rec-index rec
    c.loop-rec-test.true c.requires.unit) in
    record {
      log = appended-more log records c.loop-rec.rec-index rec mid c.enter.new.self
          c.loop-rec.invariant.log appended more;
      shape = c.in_ok-enter.ensures.shape;
      stands = c.in_ok-enter.ensures.stands;
      faults = c.in_ok-enter.ensures.cause.cause.ok ∙ c.loop-rec.invariant.faults;
      used = subst (λ (rs : List LogRecord). used_by rs
          ≤ used_by log.records + need_of_all
          (live_in log.records)
          (take (c.loop-rec.rec-index + 1) records)) (sym appended.records)
          (next-used log.records mid.records records c.loop-rec.rec-index rec
          (log_size log.geometry) c.requires.room c.loop-rec.invariant.log.all
          c.loop-rec.invariant.used more c.args.unit mine);
      moments = λ told. moments-more log records c.loop-rec.rec-index rec mid
          (g.B.Blocks.seen c.args.blocks.now) (g.B.Blocks.seen c.loop-rec.blocks)
          (g.B.Blocks.seen c.enter.new.blocks) c.loop-rec.invariant.log more
          (c.loop-rec.invariant.moments told) (c.enter.ensures.moments told);
    }
