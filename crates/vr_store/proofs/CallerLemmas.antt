-- What the crates above cite: what a call leaves of a store that puts nothing or works on one part,
-- the record at a place of a part, the part and the before-images of a change, what is left at its
-- place, an idle volume, the areas after a stage, and the stages and intervals of the parts.
pub use Rattle.vr_store.proofs.Among.{among-all}
pub use Rattle.vr_store.proofs.Claims.{HasClaimed, has-claimed, owners-after}
pub use Rattle.vr_store.proofs.EntryParts.{among-left}
pub use Rattle.vr_store.proofs.Idle.{idle-guards, stored-left}
pub use Rattle.vr_store.proofs.Kept.{on-err, stored-changed}
pub use Rattle.vr_store.proofs.LastImages.{last-has, last-kept-in, last-state}
pub use Rattle.vr_store.proofs.PlacedParts.{shapes-same, split-met}
pub use Rattle.vr_store.proofs.PutNothing.{moments-keeps, set-keeps, stands-kept, stored-keeps}
pub use Rattle.vr_store.proofs.ReadyParts.{left-item, numbered, rested, undo-images}
pub use Rattle.vr_store.proofs.Recorded.{none-read, number-at, record-read, rested-at}
pub use Rattle.vr_store.proofs.StagesLeft.{left-fewer, left-met, used-met, used-more, waits-met}
