-- What the crates above cite: how long items are, and what begins where the last one ends.
pub use Rattle.vr_entries.proofs.Passing.{entries-items}
pub use Rattle.vr_entries.proofs.Setting.{same-room}
pub use Rattle.vr_entries.proofs.Walking.{entry-end, entry-length, room-taken}
