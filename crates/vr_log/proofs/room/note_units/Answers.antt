use Rattle.std.proofs.Common.{◌≡◌, ◌+◌, List, [], ◌∷◌, ◌++◌, length, take, sym, ap, ◌∙◌, arith}
use Rattle.std.proofs.lemmas.List.{take_more}
use Rattle.vr_types.specs.declared.unit.Unit.{Unit as UnitOfRecovery}
use Rattle.vr_log.specs.declared.record.LogRecord.{LogRecord}
use Rattle.vr_log.specs.Live.{live_in, live_after}
use Rattle.vr_log.proofs.Entering.{bytes-take}
use Rattle.vr_log.proofs.Growing.{live-bytes, live_grown}
use Rattle.vr_log.proofs.room.note_units.Goals as goal

pub note_unit-requires : goal.note_unit-requires
note_unit-requires c =
    let before = take c.loop-rec.rec-index c.args.records.now in
    omega (
      arith,
      ap length c.loop-rec.invariant.units,
      live-bytes [] before,
      bytes-take c.loop-rec.rec-index c.args.records.now,
      c.requires.room,
      c.loop-rec.invariant.room,
    )

pub loop-rec-preserved : goal.loop-rec-preserved
loop-rec-preserved c =
    let records = c.args.records.now in
    let i = c.loop-rec.rec-index in
    let rec = c.rec-item.result in
    let old = c.loop-rec.invariant in
    let more : take (i + 1) records ≡ take i records ++ rec ∷ [] =
    take_more records i rec c.loop-rec-test.true
    ∙ ap (λ (r : LogRecord). take i records ++ r ∷ []) (sym c.rec-item.is) in
    record {
      units = c.note_unit.ensures.units
          ∙ ap (λ (us : List UnitOfRecovery). live_after us rec) old.units
          ∙ live_grown (take i records) rec ∙ ap live_in (sym more);
      room = c.note_unit.ensures.room ∙ old.room;
    }

pub returns-clause-few : goal.returns-clause-few
returns-clause-few c =
    let records = c.args.records.now in
    let i = c.loop-rec.rec-index in
    omega (
      arith,
      ap length c.loop-rec.invariant.units,
      live-bytes [] (take i records),
      bytes-take i records,
    )
