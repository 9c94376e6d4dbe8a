-- For those who keep a ledger and turns.
-- A deck's entries in a history that grows.
pub use Rattle.vr_ledger.proofs.OwnEntries.{entries_of-append, entries_of-none, entries_of-other}
pub use Rattle.vr_ledger.proofs.OwnEntries.{entries_of-all, entries_of-kept, entries_of-more}
-- Which turns are out.
pub use Rattle.vr_ledger.proofs.Counts.{times-cons, times-without_same, times-without_other}
pub use Rattle.vr_ledger.proofs.Counts.{one_if, one_if-same, one_if-other}
-- A ledger, a turn and a history may be sent to another thread.
pub use Rattle.vr_ledger.proofs.Sending.{ledger_send, turn_send, history_send}
