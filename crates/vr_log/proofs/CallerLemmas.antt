-- What the crates above cite of a log.

-- blocks spell one log at most
pub use Rattle.vr_log.proofs.Unique.{one_log}
-- the same blocks spell the same log
pub use Rattle.vr_log.proofs.Settled.{spells-same}
-- damaged blocks spell no log, and one block at most is the first that is misspelled
pub use Rattle.vr_log.proofs.Damages.{damaged_none, damaged_one}
-- each image of a log that stands has a log of it: by all blocks, and by those of the log alone
pub use Rattle.vr_log.proofs.Ahead.{left_has}
pub use Rattle.vr_log.proofs.Growing.{stands_has}
-- an image has the record once the log with it was forced
pub use Rattle.vr_log.proofs.Ahead.{has_record}
-- a log that is made of what its blocks spell stands on them, one without records on zeros
pub use Rattle.vr_log.proofs.Settled.{made_stands, fresh_stands}
-- a log stands after a restart, and while a block outside it is put
pub use Rattle.vr_log.proofs.Restarting.{restarted_stands, stands_elsewhere}
-- a block past the last one may become zeros, and one that has a later generation
pub use Rattle.vr_log.proofs.Zeroing.{cleared, stale_cleared}
