use Rattle.std.proofs.Common.{◌≡◌, ℕ, ◌+◌, ◌-◌, ◌*◌, ◌≤◌, List, [], ◌∷◌, ◌++◌, length, take}
use Rattle.std.proofs.Common.{vec_len, sym, ap, subst, ◌∙◌, arith}
use Rattle.std.proofs.lemmas.List.{take_more, length-append}
use Rattle.vr_types.specs.LogSpace.{log_size}
use Rattle.vr_types.specs.declared.unit.Unit.{Unit as UnitOfRecovery}
use Rattle.vr_log.specs.declared.record.LogRecord.{LogRecord}
use Rattle.vr_log.specs.Live.{live_in, live_after}
use Rattle.vr_log.specs.LogBlock.{room_of}
use Rattle.vr_log.specs.Memory.{IsTail}
use Rattle.vr_log.specs.Records.{record_bytes, bytes_of}
use Rattle.vr_log.proofs.Entering.{bytes-push, bytes-take}
use Rattle.vr_log.proofs.Growing.{live-bytes, live_grown}
use Rattle.vr_log.proofs.making.pass_records.Goals as goal

pub pass_record-requires-clause-room : goal.pass_record-requires-clause-room
pass_record-requires-clause-room c =
    let records = c.args.records.now in
    let i = c.loop-rec.rec-index in
    let rec = c.rec-item.result in
    let tail = c.loop-rec.tail in
    let t = c.loop-rec.invariant.last in
    let more : take (i + 1) records ≡ take i records ++ rec ∷ [] =
    take_more records i rec c.loop-rec-test.true
    ∙ ap (λ (r : LogRecord). take i records ++ r ∷ []) (sym c.rec-item.is) in
    let at : tail.index * (vec_len tail.block - 16) ≡ tail.index * room_of c.args.geometry =
    ap (λ (n : ℕ). tail.index * (n - 16)) t.size in
    let whole : tail.blocks * (vec_len tail.block - 16) ≡ log_size c.args.geometry =
    ap (λ (n : ℕ). n * (vec_len tail.block - 16)) t.blocks
    ∙ ap (λ (n : ℕ). c.args.geometry.log * (n - 16)) t.size in
    let long : length (bytes_of (take i records)) + length (record_bytes rec) ≤ length
    (bytes_of records) =
    omega (
      arith,
      bytes-take (i + 1) records,
      ap (λ (rs : List LogRecord). length (bytes_of rs))
          more,
      ap length (bytes-push (take i records) rec),
      length-append (bytes_of (take i records))
          (record_bytes rec),
    ) in
    omega (arith, at, whole, t.used, long, c.requires.fits)

pub note_unit-requires : goal.note_unit-requires
note_unit-requires c =
    let before = take c.loop-rec.rec-index c.args.records.now in
    omega (
      arith,
      ap length c.loop-rec.invariant.units,
      live-bytes [] before,
      bytes-take
          c.loop-rec.rec-index c.args.records.now,
      c.requires.fits,
      c.requires.room,
      c.loop-rec.invariant.room,
    )

pub loop-rec-preserved : goal.loop-rec-preserved
loop-rec-preserved c =
    let records = c.args.records.now in
    let i = c.loop-rec.rec-index in
    let rec = c.rec-item.result in
    let old = c.loop-rec.invariant in
    let same = c.pass_record.ensures.same in
    let more : take (i + 1) records ≡ take i records ++ rec ∷ [] =
    take_more records i rec c.loop-rec-test.true
    ∙ ap (λ (r : LogRecord). take i records ++ r ∷ []) (sym c.rec-item.is) in
    record {
      sound = c.pass_record.ensures.sound;
      ready = c.pass_record.ensures.ready;
      last = subst (λ (x : List ℕ). IsTail c.args.geometry x c.pass_record.new.tail)
          (sym (ap bytes_of more
          ∙ bytes-push (take i records) rec))
          (c.pass_record.ensures.passed c.args.geometry (bytes_of (take i records)) old.last);
      same = (same.0 ∙ old.same.0, same.1 ∙ old.same.1, same.2 ∙ old.same.2, same.3 ∙ old.same.3);
      units = c.note_unit.ensures.units
          ∙ ap (λ (us : List UnitOfRecovery). live_after us rec) old.units
          ∙ live_grown (take i records) rec ∙ ap live_in (sym more);
      room = c.note_unit.ensures.room ∙ old.room;
    }
