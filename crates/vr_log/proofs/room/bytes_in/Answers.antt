use Rattle.std.proofs.Common.{◌≡◌, ℕ, ◌+◌, List, [], ◌∷◌, ◌++◌, length, take, sym, ap}
use Rattle.std.proofs.Common.{◌∙◌, arith}
use Rattle.std.proofs.lemmas.List.{take_more, length-append}
use Rattle.vr_log.specs.declared.record.LogRecord.{LogRecord}
use Rattle.vr_log.specs.Records.{record_bytes, bytes_of}
use Rattle.vr_log.proofs.Entering.{bytes-push, bytes-take}
use Rattle.vr_log.proofs.room.bytes_in.Goals as goal

-- the bytes of one record more
one-more : (records : List LogRecord) (i : ℕ) (rec : LogRecord)
    → take (i + 1) records ≡ take i records ++ rec ∷ []
    → length (bytes_of (take (i + 1) records))
    ≡ length (bytes_of (take i records)) + length (record_bytes rec)
one-more records i rec more =
    omega (
      arith,
      ap (λ (rs : List LogRecord). length (bytes_of rs)) more,
      ap length (bytes-push (take i records) rec),
      length-append (bytes_of (take i records)) (record_bytes rec),
    )

pub overflow_add-bytes : goal.overflow_add-bytes
overflow_add-bytes c =
    let records = c.args.records.now in
    let i = c.loop-rec.rec-index in
    let rec = c.rec-item.result in
    let more : take (i + 1) records ≡ take i records ++ rec ∷ [] =
    take_more records i rec c.loop-rec-test.true
    ∙ ap (λ (r : LogRecord). take i records ++ r ∷ []) (sym c.rec-item.is) in
    omega (
      arith,
      c.loop-rec.invariant,
      c.record_length-bytes.ensures.value,
      one-more records i rec more,
      bytes-take (i + 1) records,
      c.requires.small,
    )

pub loop-rec-preserved : goal.loop-rec-preserved
loop-rec-preserved c =
    let records = c.args.records.now in
    let i = c.loop-rec.rec-index in
    let rec = c.rec-item.result in
    let more : take (i + 1) records ≡ take i records ++ rec ∷ [] =
    take_more records i rec c.loop-rec-test.true
    ∙ ap (λ (r : LogRecord). take i records ++ r ∷ []) (sym c.rec-item.is) in
    omega (
      arith,
      c.loop-rec.invariant,
      c.record_length-bytes.ensures.value,
      one-more records i rec more,
    )
