use Rattle.std.proofs.Common.{◌≡◌, ◌≤◌, ◌*◌, take}
use Rattle.vr_log.specs.Live.{is_in, live_from, live_in, need_of_all}
use Rattle.vr_log.proofs.appending.need_all.Given as goal

abbrev pub invariant-loop-rec : goal.invariant-loop-rec
invariant-loop-rec l = record {
  need : l.need ≡ need_of_all (live_in l.log.records) (take l.rec-index l.records);
  there : l.there ≡ is_in l.fn.unit (live_from (live_in l.log.records) (take l.rec-index l.records));
  most : l.need ≤ l.rec-index * 4295032861;
}
