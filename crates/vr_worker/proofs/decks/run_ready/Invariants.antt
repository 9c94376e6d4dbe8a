use Rattle.std.proofs.Common.{length}
use Rattle.vr_worker.specs.Decks.{numbers_of}
use Rattle.vr_worker.specs.Ready.{decks_of, table_at, volume_at}
use Rattle.vr_worker.proofs.decks.run_ready.Given as goal

abbrev pub ghosts-run_named : goal.ghosts-run_named
ghosts-run_named g a = record {
  count = length a.volumes.items;
  start = volume_at a.volumes.items;
  ledgers = table_at a.ledgers.items;
  decks = numbers_of (decks_of a.seats.now);
}
