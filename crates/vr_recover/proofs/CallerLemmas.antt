-- What the crates above cite.

-- which shapes a catalog lays, and the number of each
pub use Rattle.vr_recover.proofs.Shapes.{laid-cases, shape-number}
-- entries in the order of their part numbers are told apart as they are in any
pub use Rattle.vr_recover.proofs.NumberOrder.{ordered-distinct}
-- the order of addresses in what an image is recovered to
pub use Rattle.vr_recover.proofs.Addressed.{entry-addressed, recovered-addressed}
-- what is served is refused for nothing that its blocks have
pub use Rattle.vr_recover.proofs.Opens.{may-open}
-- what is settled as a crash comes is an item of what is opened; and what a volume is opened with is
-- one where a crash comes while it is opened
pub use Rattle.vr_recover.proofs.Outliving.{outlives-crash, outlives-opening}
