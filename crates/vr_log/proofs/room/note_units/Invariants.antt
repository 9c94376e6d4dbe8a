use Rattle.std.proofs.Common.{◌≡◌, take}
use Rattle.vr_log.specs.Live.{live_in}
use Rattle.vr_log.proofs.room.note_units.Given as goal

abbrev pub invariant-loop-rec : goal.invariant-loop-rec
invariant-loop-rec l = record {
  units : l.live.units ≡ live_in (take l.rec-index l.records);
  room : l.live.room ≡ l.fn.live.room;
}
