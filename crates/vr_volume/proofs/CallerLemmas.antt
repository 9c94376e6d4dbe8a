-- What the crates above cite.

-- to what the images recover that a crash leaves while an event goes on
pub use Rattle.vr_volume.proofs.Crashing.{rest-recovers, before-recovers, backed-out-recovers}
pub use Rattle.vr_volume.proofs.Crashing.{commit-recovers, safe-recovers}
-- the records of a catalog lay the parts as it does, and keep its rules, as committed ones do
pub use Rattle.vr_volume.proofs.RecordsLaid.{catalog-stands, catalog-whole, shape-stands}
pub use Rattle.vr_volume.proofs.Committing.{shape-same}
-- what is there once before-images were put back into a content, and what stands once they were put
-- back into its records; the records are the same
pub use Rattle.vr_volume.proofs.PuttingBack.{back-item, back-record, records-ascend}
pub use Rattle.vr_volume.proofs.Histories.{record-back}
-- a safe image recovers to the records of what is committed by its log, and has the items of that
-- where nothing is put back; and one recovers to contents that are the same
pub use Rattle.vr_volume.proofs.Recovering.{image_recovers, recovers-same}
-- the record that a call leaves at a place is the one that it gives
pub use Rattle.vr_volume.proofs.PuttingBack.{left-stands}
-- each length that is kept of fewer before-images is one that was kept
pub use Rattle.vr_volume.proofs.Among.{AreSome, keep-less, kept-among, some-skip}
-- a record may go back where one of its length is kept
pub use Rattle.vr_volume.proofs.Befores.{goes-back}
-- a volume at rest stays so as blocks that are nobody's are given to a part, and as those of a part
-- that isn't laid change
pub use Rattle.vr_volume.proofs.Calls.{Anything}
pub use Rattle.vr_volume.proofs.Nobodys.{OwnedBy, beside-due, beside-part}
pub use Rattle.vr_volume.proofs.Nobodys.{beside-recovers, beside-rests, given-part, given-volume}
-- and so it does as blocks of a part that isn't laid are nobody's any more
pub use Rattle.vr_volume.proofs.OwnersLeft.{part-left, volume-left}
-- what the blocks of an entry-sequenced part stand for is in the order of addresses
pub use Rattle.vr_volume.proofs.Addressed.{stands-addressed}
