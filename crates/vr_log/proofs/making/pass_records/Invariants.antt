use Rattle.std.proofs.Common.{◌≡◌, take}
use Rattle.vr_log.specs.Live.{live_in}
use Rattle.vr_log.specs.Memory.{IsTail}
use Rattle.vr_log.specs.Records.{bytes_of}
use Rattle.vr_log.specs.Writing.{IsSound, IsReady, IsPassedBy}
use Rattle.vr_log.proofs.making.pass_records.Given as goal

abbrev pub invariant-loop-rec : goal.invariant-loop-rec
invariant-loop-rec l = record {
  sound : IsSound l.tail;
  ready : IsReady l.tail;
  last : IsTail l.fn.geometry (bytes_of (take l.rec-index l.records)) l.tail;
  same : IsPassedBy l.fn.tail l.tail;
  units : l.live.units ≡ live_in (take l.rec-index l.records);
  room : l.live.room ≡ l.fn.live.room;
}
