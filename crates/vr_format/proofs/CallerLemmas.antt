-- What the crates above cite: what was formatted recovers to its contents, of which the catalog has
-- clusters alone, whose longest records have room in an interval.
pub use Rattle.vr_format.proofs.Safety.{formatted-recovers}
pub use Rattle.vr_format.proofs.PlainCatalogs.{first-plain, taken-plain}
