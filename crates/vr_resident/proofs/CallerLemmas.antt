-- For those who send a cache to another thread: what it has beside its device may be sent. So
-- `search (sendable, crosses, frames_send) depth 30` shows it of a cache over a device that may be.
pub use Rattle.vr_resident.proofs.Sending.{frames_send}
