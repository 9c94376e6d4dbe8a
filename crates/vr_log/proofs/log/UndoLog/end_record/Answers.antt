use Rattle.std.proofs.Common.{arith, refl}
use Rattle.vr_log.specs.declared.record.LogRecord.TheVariants.{End}
use Rattle.vr_log.specs.Live.{live_in}
use Rattle.vr_log.proofs.Growing.{need_end}
use Rattle.vr_log.proofs.log.UndoLog.end_record.Goals as goal

pub enter-requires-clause-room : goal.enter-requires-clause-room
enter-requires-clause-room g c =
    λ fits. omega (
      arith,
      fits,
      need_end (live_in c.args.self.now.records) (End c.args.unit c.args.kind)
          c.args.unit c.args.kind refl,
    )
